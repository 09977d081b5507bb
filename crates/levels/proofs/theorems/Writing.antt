-- Demand 2, writing: the terms of the theorems.
use Prim.Native.Nat.{ℕ}
use mathlib.Core.List.{List}
use mathlib.Core.Path.{sym, ap, ◌∙◌}
use Rattle.lattice.specs.Class.{layout_of}
use Rattle.lattice.specs.Digits.{digits_of}
use Rattle.lattice.proofs.theory.Answers.{beside_zero}
use Rattle.codec.specs.Field.{field_of}
use Rattle.codec.proofs.theory.Accepted.{plan_digits_lem}
use Rattle.levels.specs.Payload.{held_digits}
use Rattle.levels.specs.Encode.{encode_levels_number, encode_levels_leaves}
use Rattle.levels.specs.theorems.Writing.{EncodeLevelsMeaning, EncodeLevelsDone}
use Rattle.levels.proofs.theory.EncodedCells.{encoded_only}
use Rattle.levels.proofs.theory.LevelNumbers.{encode_number_lem, encode_taken}
use Rattle.levels.proofs.theory.WrittenLevels.{digits_all, written, written_long, written_lawful, written_carries}
use Rattle.levels.proofs.theory.WrittenLevels.{written_held}

-- Theorem. The field written is the one lawful field with the payload's digits.
pub encode_levels_meaning : EncodeLevelsMeaning
encode_levels_meaning =
    record {
      long = written_long;
      lawful = written_lawful;
      carries = λ s p h. written_carries s p;
      only = λ s p h f lawful carries i l. encoded_only (layout_of s) p f lawful carries i l ∙ written s p i l;
      digits = λ s a. digits_all s a ∙ sym (plan_digits_lem s a);
      different = λ s p q h k e.
          sym (written_held s p h)
          ∙ ap (λ (l : List ℕ). held_digits (layout_of s) (digits_of s) (field_of l)) e
          ∙ written_held s q k;
    }

-- Theorem. Writing succeeds exactly where the payload can be written and the field has the plan's cells, and leaves the field
-- written.
pub encode_levels_done : EncodeLevelsDone
unfolding encode_levels_leaves
encode_levels_done =
    record {
      done = λ s p field e.
          let t = encode_taken s p field e in (t.0, t.1, beside_zero (encode_levels_number s p field) _ field e);
      written = λ s p field w long. encode_number_lem s w.accepted p field w long;
    }
