-- Demand 2, reading: the terms of the theorems.
use Prim.Native.Nat.{ℕ}
use mathlib.Core.List.{List}
use mathlib.Core.Logic.{◌↔◌}
use mathlib.Core.Path.{◌≡◌, refl, sym, ap, ◌∙◌}
use lib.ListN.{length, get_or}
use Rattle.lattice.specs.Shape.{cells_of}
use Rattle.lattice.specs.Class.{layout_of}
use Rattle.lattice.specs.Counting.{count}
use Rattle.lattice.specs.Digits.{digits_of}
use Rattle.codec.specs.Field.{Field, field_of}
use Rattle.codec.specs.Plan.{plan_digits}
use Rattle.codec.proofs.theory.Accepted.{plan_digits_lem}
use Rattle.codec.proofs.theory.Differences.{differences_same}
use Rattle.codec.proofs.theory.FieldLists.{length_list_of, get_d_list_of}
use Rattle.levels.specs.Level.{Levels}
use Rattle.levels.specs.Payload.{holds_digit, digit_rank}
use Rattle.levels.specs.Decode.{restored_field, levels_number, decode_levels_number, decode_levels_leaves}
use Rattle.levels.specs.Correct.{correct_levels_number}
use Rattle.levels.specs.Reach.{FromLawful}
use Rattle.levels.specs.theorems.Reading.{OneLawful, DecodeLevelsMeaning, CorrectLevelsMeaning}
use Rattle.levels.proofs.theory.HeldDigits.{held_length, held_level, held_carries, words_same}
use Rattle.levels.proofs.theory.LevelNumbers.{decode_number_lem, correct_number_lem, number_success, number_none}
use Rattle.levels.proofs.theory.WordReach.{from_corrected}
use Rattle.levels.proofs.theory.WrittenLevels.{digits_all, decode_leaves_lem, decode_count_lem, correct_leaves_lem}
use Rattle.levels.proofs.theory.WrittenLevels.{correct_count_lem}

-- Theorem. A field comes from at most one lawful field.
pub one_lawful : OneLawful
one_lawful s f g h p q i l = sym (from_corrected (layout_of s) f g p i l) ∙ from_corrected (layout_of s) f h q i l

-- an equation of numbers carries what the one means to the other
carry : {P : Type 0} (a b k : ℕ) → a ≡ b → (b ≡ k) ↔ P → (a ≡ k) ↔ P
carry a b k e iff = (λ h. iff.0 (sym e ∙ h), λ p. e ∙ iff.1 p)

-- Theorem. Decoding gives 0 exactly when a field comes from a lawful field, then its digits and the number of word cells that
-- differ, and 6 exactly when some word comes from no lawful one.
pub decode_levels_meaning : DecodeLevelsMeaning
decode_levels_meaning s payload field readable fits =
    record {
      success =
          carry (decode_levels_number s payload field) (levels_number s (field_of field)) 0 same
          (number_success s field readable);
      none = carry (decode_levels_number s payload field) (levels_number s (field_of field)) 6 same
          (number_none s field readable);
      long = λ e.
          ap length (decode_leaves_lem s field payload e)
          ∙ held_length (layout_of s) (digits_of s) all (restored_field s (field_of field))
          ∙ sym (plan_digits_lem s readable.accepted);
      digits = λ e k l. digit ((number_success s field readable).0 (sym same ∙ e)) e k l;
      gives = λ g h i l e.
          sym (from_corrected (layout_of s) (field_of field) g h i l)
          ∙ held_carries (layout_of s) (digits_of s) all (restored_field s (field_of field)) i l e
          ∙ ap (λ (p : List ℕ). get_or p (digit_rank (layout_of s) i) 0) (sym (decode_leaves_lem s field payload (done g h)));
      count = λ g h.
          decode_count_lem s field payload (done g h)
          ∙ words_same (layout_of s) _ _ _ g (λ i l. refl) (from_corrected (layout_of s) (field_of field) g h);
    }
  where
    all : count (holds_digit (layout_of s)) (cells_of s) ≡ digits_of s
    all = digits_all s readable.accepted

    same : decode_levels_number s payload field ≡ levels_number s (field_of field)
    same = decode_number_lem s readable.accepted payload field fits readable.long

    done : (g : Field) → FromLawful s (field_of field) g → decode_levels_number s payload field ≡ 0
    done g h = same ∙ (number_success s field readable).1 (g, h)

    -- each digit is the level of a cell of the lawful field
    digit : (g : Field) × FromLawful s (field_of field) g → decode_levels_number s payload field ≡ 0
        → Levels (field_of (decode_levels_leaves s payload field)) (plan_digits s)
    digit found e k l =
        rw (decode_leaves_lem s field payload e)
        (held_level (layout_of s) (digits_of s) all (restored_field s (field_of field))
        (λ i b. rw (from_corrected (layout_of s) (field_of field) found.0 found.1 i b) (found.1.lawful.levels i b))
        k (rw (← plan_digits_lem s readable.accepted) l))

-- Theorem. Correcting does likewise, leaving that field, with the number of all cells that differ.
pub correct_levels_meaning : CorrectLevelsMeaning
correct_levels_meaning s field readable =
    record {
      success = carry (correct_levels_number s field) (levels_number s (field_of field)) 0 same (number_success s field readable);
      none = carry (correct_levels_number s field) (levels_number s (field_of field)) 6 same (number_none s field readable);
      long = λ e. ap length (correct_leaves_lem s field e) ∙ length_list_of (restored_field s (field_of field)) (cells_of s);
      leaves = λ g h i l.
          ap (λ (k : List ℕ). field_of k i) (correct_leaves_lem s field (done g h))
          ∙ get_d_list_of (restored_field s (field_of field)) (cells_of s) i l
          ∙ from_corrected (layout_of s) (field_of field) g h i l;
      count = λ g h.
          correct_count_lem s field (done g h)
          ∙ differences_same _ _ _ g (cells_of s) (λ i l. refl) (from_corrected (layout_of s) (field_of field) g h);
    }
  where
    same : correct_levels_number s field ≡ levels_number s (field_of field)
    same = correct_number_lem s readable.accepted field readable.long

    done : (g : Field) → FromLawful s (field_of field) g → correct_levels_number s field ≡ 0
    done g h = same ∙ (number_success s field readable).1 (g, h)
