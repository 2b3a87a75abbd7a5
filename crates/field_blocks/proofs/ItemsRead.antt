-- What step 2 reads of a block that states a field are the field's items: `items-read`. The layout reads their codes and numbers back (`read_back`); what each
-- code is read as is computed. Assumes nothing.
use mathlib.Core.Path.{◌≡◌, refl, ◌∙◌}
use mathlib.Core.Bool.{not}
use mathlib.Core.List.{List}
use Rattle.std.specs.Prelude.{None}
use Prim.Native.Nat.{ℕ, ◌<◌}
use native.Mathlib.Omega.{arith}
use lib.Dec.{eqb}
use lib.ListN.{length, take}
use borrow.Author.Tests.{eqb-true}
use Rattle.answer.specs.Walk.{first_where}
use Rattle.answer.proofs.Tests.{not_is}
use Rattle.answer.proofs.Walk.{where-nowhere}
use Rattle.octets.specs.Octets.{AreBytes}
use Rattle.blocks.specs.Layout.{block_size, check_at, stated_repr, stated_arg, stated_gen, stated_default_kind, stated_fixed, stated_number, stated_count}
use Rattle.stated.specs.Items.{a_number, some_bytes, a_bool, DefaultItem, no_default, a_default, FieldItem, field_item, WellFormedField}
use Rattle.stated.specs.Stated.{kind_of_default, fixed_of_default, number_of_default, bytes_of_default, stated}
use Rattle.stated.proofs.F.{flag-back}
use Rattle.stated.proofs.Laws.{read_back}
use Rattle.types.specs.Types.{type_of_code}
use Rattle.field_blocks.specs.OnBlock.{repr_of_code, repr_in, arg_of_code, arg_in, gen_of_code, gen_in, default_in}
use Rattle.field_blocks.specs.ItemsRead.{defined_repr_code, defined_arg_code, defined_gen_code, defined_default, ItemsRead}

-- ---- codes: what leaves each code below n as it is

same_code : (f : ℕ → ℕ) (n : ℕ) → first_where (λ c. not (eqb (f c) c)) n ≡ None → (c : ℕ) → c < n → f c ≡ c
same_code f n h c l = eqb-true (f c) c ((not_is (eqb (f c) c)).0 (where-nowhere (λ c. not (eqb (f c) c)) n h c l))

module _ (b : List ℕ) where
  repr-code : stated_repr b < 7 → defined_repr_code (repr_in b) ≡ stated_repr b
  unfolding first_where type_of_code
  repr-code = same_code (λ c. defined_repr_code (repr_of_code c)) 7 refl (stated_repr b)

  arg-code : stated_arg b < 8 → defined_arg_code (arg_in b) ≡ stated_arg b
  unfolding first_where type_of_code
  arg-code = same_code (λ c. defined_arg_code (arg_of_code c)) 8 refl (stated_arg b)

  gen-code : stated_gen b < 3 → defined_gen_code (gen_in b) ≡ stated_gen b
  unfolding first_where
  gen-code = same_code (λ c. defined_gen_code (gen_of_code c)) 3 refl (stated_gen b)

  -- ---- the default

  default-read : (d : DefaultItem) → stated_default_kind b ≡ kind_of_default d → stated_fixed b ≡ fixed_of_default d
      → stated_number b ≡ number_of_default d → stated_count b ≡ length (bytes_of_default d) → default_in b ≡ defined_default d
  default-read no_default kind fixed number count = rw kind
  default-read (a_default (a_number n) t) kind fixed number count = rw (kind, fixed, flag-back t, number)
  default-read (a_default (some_bytes l) t) kind fixed number count = rw (kind, fixed, flag-back t, count)
  default-read (a_default (a_bool u) t) kind fixed number count = rw (kind, fixed, flag-back t, number, flag-back u)

-- ---- all of it

pub items-read : (b : List ℕ) → AreBytes b → length b ≡ block_size → (f : FieldItem) → WellFormedField f → take check_at b ≡ stated (field_item f) → ItemsRead b f
items-read b bytes long f good says =
    let r = read_back b bytes long (field_item f) good says in
    record {
      bits = r.bits;
      repr = repr-code b (omega (arith, good.repr, r.repr)) ∙ r.repr;
      arg = arg-code b (omega (arith, good.arg, r.arg)) ∙ r.arg;
      gen = gen-code b (omega (arith, good.gen, r.gen)) ∙ r.gen;
      default = default-read b f.default r.default-kind r.fixed r.number r.count;
    }
