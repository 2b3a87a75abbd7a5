-- Blocks, computed: what stands from byte 66 on. Assumes nothing.
use Rattle.std.specs.Prelude.{◌≡◌, refl, false, true, [], ◌∷◌, take}
use Rattle.std.proofs.Math.Seq.{slice}
use Rattle.octets.specs.Ascii.{ascii}
use Rattle.blocks.specs.declared.nodes.Node.{Node}
use Rattle.expr.specs.declared.UsableAlgExpr.{UsableAlgExpr}
use Rattle.std.specs.declared.ops.Bound.{Bound}
use Rattle.stated.specs.Items.{a_number, some_bytes, a_default, as_form, as_tree, Item, field_item, length_item, cond_item}
use Rattle.stated.specs.Parts.{number_bytes, rows}
use Rattle.stated.specs.Stated.{stated}

-- F ver, 4 bits, default 4
ver : Item
ver = field_item (record { name = ascii "ver"; bits = 4; repr = 0; arg = 0; gen = 0; default = a_default (a_number 4) false })

ver-begins : take 8 (stated ver) ≡ 70 ∷ 3 ∷ 118 ∷ 101 ∷ 114 ∷ 0 ∷ 0 ∷ 0 ∷ []
unfolding ver stated number_bytes
ver-begins = refl

ver-goes-on : slice 66 87 (stated ver) ≡ 0 ∷ 0 ∷ 0 ∷ 4 ∷ 0 ∷ 0 ∷ 0 ∷ 1 ∷ 0 ∷ 0 ∷ 0 ∷ 0 ∷ 0 ∷ 0 ∷ 0 ∷ 0 ∷ 0 ∷ 4 ∷ 0 ∷ 0 ∷ 0 ∷ []
unfolding ver stated number_bytes
ver-goes-on = refl

-- F mac, 16 bits, a byte slice, gen true, default the bytes de ad, fixed
mac : Item
mac = field_item (record { name = ascii "mac"; bits = 16; repr = 5; arg = 5; gen = 2; default = a_default (some_bytes (0xde ∷ 0xad ∷ [])) true })

mac-goes-on : slice 66 89 (stated mac) ≡ 0 ∷ 0 ∷ 0 ∷ 16 ∷ 5 ∷ 5 ∷ 2 ∷ 2 ∷ 1 ∷ 0 ∷ 0 ∷ 0 ∷ 0 ∷ 0 ∷ 0 ∷ 0 ∷ 0 ∷ 0 ∷ 0 ∷ 2 ∷ 0xde ∷ 0xad ∷ 0 ∷ []
unfolding mac stated number_bytes
mac-goes-on = refl

-- L slot 0, hl * 4
hl-times : slice 66 77 (stated (length_item 0 (as_form (ascii "hl") (UsableAlgExpr.SimpleMult 4)))) ≡ 0 ∷ 3 ∷ 0 ∷ 0 ∷ 0 ∷ 0 ∷ 0 ∷ 0 ∷ 0 ∷ 4 ∷ 0 ∷ []
unfolding stated number_bytes
hl-times = refl

-- L slot 2, the tree of size + 258: from the count of nodes on
size-tree : Item
size-tree = length_item 2 (as_tree (ascii "size") (Node.Ident ∷ Node.Num 258 ∷ Node.Add 0 1 ∷ []))

size-tree-goes-on : slice 84 124 (stated size-tree) ≡ 3 ∷ 0 ∷ 0 ∷ 0
    ∷ 1 ∷ 0 ∷ 0 ∷ 0 ∷ 0 ∷ 0 ∷ 0 ∷ 0 ∷ 0 ∷ 0 ∷ 0 ∷ 0
    ∷ 0 ∷ 0 ∷ 0 ∷ 0 ∷ 0 ∷ 0 ∷ 0 ∷ 0 ∷ 0 ∷ 0 ∷ 1 ∷ 2
    ∷ 2 ∷ 0 ∷ 1 ∷ 0 ∷ 0 ∷ 0 ∷ 0 ∷ 0 ∷ 0 ∷ 0 ∷ 0 ∷ 0 ∷ []
unfolding size-tree stated number_bytes rows
size-tree-goes-on = refl

-- C ver, 4 to below 7
ver-4-to-below-7 : slice 66 87 (stated (cond_item (ascii "ver") (record { start = Bound.Included 4; end = Bound.Excluded 7 } ∷ [])))
    ≡ 1 ∷ 0 ∷ 1 ∷ 2 ∷ 0 ∷ 0 ∷ 0 ∷ 0 ∷ 0 ∷ 0 ∷ 0 ∷ 4 ∷ 0 ∷ 0 ∷ 0 ∷ 0 ∷ 0 ∷ 0 ∷ 0 ∷ 7 ∷ 0 ∷ []
unfolding stated number_bytes rows
ver-4-to-below-7 = refl
