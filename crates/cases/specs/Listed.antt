-- A sheet of eight blocks, its bytes, and the text that is printed of it. The lister is run on these bytes (crates/lister/stdin) and has to print this
-- text (crates/lister/stdout): tools/lister_files holds the two files to this one. Assumes nothing.
use Rattle.std.specs.Prelude.{List, [], ◌∷◌, ◌++◌, ℕ, ◌+◌, ◌-◌, length, replicate}
use Rattle.octets.specs.Ascii.{ascii}
use Rattle.stated.specs.Items.{Item}
use Rattle.cases.specs.Sheets.{preset, preset_bool, measure, preset_measure, header_len, packet_len, slot_holds, slot_holds_times, condition, ◌to◌}

unfoldable pub eight_blocks : List Item
eight_blocks =
    preset "ver" 4 4
    ∷ preset_measure "hl" 4 1
    ∷ measure "size" 12
    ∷ preset_bool "flag" 1 1
    ∷ preset "rest" 3 5
    ∷ slot_holds_times header_len "hl" 4
    ∷ slot_holds packet_len "size"
    ∷ condition "ver" (4 to 4 ∷ [])
    ∷ []

-- bytes at an offset
pub data Stretch : Type 0 where
  at : (offset : ℕ) → List ℕ → Stretch

-- stretches one after the other, from an offset on, with zeros between them
abbrev pub stretched : ℕ → List Stretch → List ℕ
stretched here [] = []
stretched here (at there l ∷ rest) = replicate (there - here) 0 ++ (l ++ stretched (there + length l) rest)

-- the bytes of the sheet that are no zeros, a block in each line
unfoldable pub eight_blocks_input : List Stretch
eight_blocks_input =
    at 0x000 (0x46 ∷ 0x03 ∷ ascii "ver") ∷ at 0x045 (0x04 ∷ []) ∷ at 0x049 (0x01 ∷ []) ∷ at 0x053 (0x04 ∷ []) ∷ at 0x1fe (0xd1 ∷ 0x8d ∷ [])
    ∷ at 0x200 (0x46 ∷ 0x02 ∷ ascii "hl") ∷ at 0x245 (0x04 ∷ []) ∷ at 0x248 (0x01 ∷ 0x01 ∷ []) ∷ at 0x253 (0x01 ∷ []) ∷ at 0x3fe (0x50 ∷ 0x8b ∷ [])
    ∷ at 0x400 (0x46 ∷ 0x04 ∷ ascii "size") ∷ at 0x445 (0x0c ∷ []) ∷ at 0x448 (0x01 ∷ []) ∷ at 0x5fe (0xcb ∷ 0x20 ∷ [])
    ∷ at 0x600 (0x46 ∷ 0x04 ∷ ascii "flag") ∷ at 0x645 (0x01 ∷ []) ∷ at 0x647 (0x06 ∷ []) ∷ at 0x649 (0x01 ∷ []) ∷ at 0x653 (0x01 ∷ []) ∷ at 0x7fe (0xf2 ∷ 0x1e ∷ [])
    ∷ at 0x800 (0x46 ∷ 0x04 ∷ ascii "rest") ∷ at 0x845 (0x03 ∷ []) ∷ at 0x849 (0x01 ∷ []) ∷ at 0x853 (0x05 ∷ []) ∷ at 0x9fe (0xd4 ∷ 0x18 ∷ [])
    ∷ at 0xa00 (0x4c ∷ 0x02 ∷ ascii "hl") ∷ at 0xa43 (0x03 ∷ []) ∷ at 0xa4b (0x04 ∷ []) ∷ at 0xbfe (0x4b ∷ 0x8a ∷ [])
    ∷ at 0xc00 (0x4c ∷ 0x04 ∷ ascii "size") ∷ at 0xc42 (0x02 ∷ 0x01 ∷ []) ∷ at 0xdfe (0xc4 ∷ 0x2b ∷ [])
    ∷ at 0xe00 (0x43 ∷ 0x03 ∷ ascii "ver") ∷ at 0xe42 (0x01 ∷ []) ∷ at 0xe44 (0x01 ∷ 0x01 ∷ []) ∷ at 0xe4d (0x04 ∷ []) ∷ at 0xe55 (0x04 ∷ []) ∷ at 0xffe (0xd2 ∷ 0x8d ∷ [])
    ∷ []

unfoldable pub eight_blocks_text : List ℕ
eight_blocks_text =
    ascii "header 3\n"
    ++ (ascii "field 0 0 0 4 u8 1 ver\n"
    ++ (ascii "field 1 0 4 4 u8 1 hl\n"
    ++ (ascii "field 2 1 0 12 u16 1 size\n"
    ++ (ascii "field 3 2 4 1 u8 1 flag\n"
    ++ (ascii "field 4 2 5 3 u8 1 rest\n"
    ++ (ascii "template 41000d\n"
    ++ (ascii "length header_len hl 60\n"
    ++ (ascii "length packet_len size 4095\n"
    ++ ascii "cond ver 4 4\n"))))))))
