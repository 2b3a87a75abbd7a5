-- Bytes are accepted as a sheet exactly where each step's record holds of them: `accepted-is`. Each step has its own law; here they stand together. Assumes
-- nothing.
use mathlib.Core.List.{List}
use mathlib.Core.Logic.{◌↔◌}
use Prim.Native.Nat.{ℕ}
use Rattle.answer.proofs.Chains.{both_is}
use Rattle.octets.specs.Octets.{AreBytes}
use Rattle.sheet.proofs.SheetIs.{sheet-is}
use Rattle.field_blocks.proofs.FieldsAre.{fields-are}
use Rattle.header.specs.Step.{header_bytes}
use Rattle.header.proofs.HeaderIs.{header_is}
use Rattle.length.proofs.LengthsAre.{lengths-are}
use Rattle.cond.proofs.ConditionsAre.{conditions-are}
use Rattle.definition.specs.Definition.{definition_check, Accepted}
use Rattle.definition.specs.AcceptedIs.{AcceptedIs}
use Rattle.definition.proofs.Steps.{five-steps}

module _ (s : List ℕ) (bytes : AreBytes s) where
  as-stated : Accepted s → AcceptedIs s
  as-stated ok =
      let steps = five-steps s ok in
      record {
        sheet = (sheet-is s bytes).0 steps.sheet;
        fields = (fields-are s steps.sheet).0 steps.fields;
        header = (header_is s).0 steps.header;
        lengths = (lengths-are s (header_bytes s)).0 steps.length;
        conditions = (conditions-are s).0 steps.conds;
      }

  all-passed : AcceptedIs s → Accepted s
  unfolding definition_check
  all-passed a =
      let sheet = (sheet-is s bytes).1 a.sheet in
      simp both_is (sheet, ((fields-are s sheet).1 a.fields, ((header_is s).1 a.header, ((lengths-are s (header_bytes s)).1 a.lengths, (conditions-are s).1 a.conditions))))

  pub accepted-is : Accepted s ↔ AcceptedIs s
  accepted-is = (as-stated, all-passed)
