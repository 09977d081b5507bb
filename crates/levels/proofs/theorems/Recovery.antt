-- Demand 3 for fields of levels: the terms of the theorems.
use Prim.Native.Nat.{ℕ}
use mathlib.Core.List.{List}
use mathlib.Core.Path.{◌≡◌, sym, ◌∙◌}
use lib.ListN.{length}
use Rattle.lattice.specs.declared.shape.Shape.{Shape}
use Rattle.lattice.specs.Shape.{cells_of}
use Rattle.lattice.specs.Cell.{Cell}
use Rattle.lattice.specs.Class.{layout_of}
use Rattle.lattice.specs.Digits.{digits_of}
use Rattle.lattice.specs.Window.{InWindow}
use Rattle.codec.specs.Field.{Field, field_of}
use Rattle.codec.specs.Plan.{plan_digits}
use Rattle.codec.proofs.theory.ClusterCells.{one_of_cluster, one_of_window, one_of_patch}
use Rattle.codec.proofs.theory.Differences.{differences_comm}
use Rattle.codec.proofs.theory.FieldLists.{list_of_same}
use Rattle.levels.specs.Payload.{encoded_levels}
use Rattle.levels.specs.Encode.{Writable, encoded_levels_field}
use Rattle.levels.specs.Decode.{restored_field, decode_levels_number, decode_levels_leaves}
use Rattle.levels.specs.Correct.{correct_levels_number, correct_levels_leaves}
use Rattle.levels.specs.Reach.{ReadableLevels, FromLawful}
use Rattle.levels.specs.Damage.{ChangedIn, OneOfEachClass, LevelsRecovered}
use Rattle.levels.specs.theorems.Recovery.{LevelsRecoveryByClass, LevelsRecovery, LevelsWindowRecovery, LevelsPatchRecovery}
use Rattle.levels.proofs.theory.HeldDigits.{held_same, words_comm}
use Rattle.levels.proofs.theory.WordCells.{of_in, of_word, word_class}
use Rattle.levels.proofs.theory.WordReach.{from_corrected}
use Rattle.levels.proofs.theory.WrittenLevels.{digits_all, written, written_lawful, written_held, decode_leaves_lem}
use Rattle.levels.proofs.theory.WrittenLevels.{correct_leaves_lem}
use Rattle.levels.proofs.theorems.Reading.{decode_levels_meaning, correct_levels_meaning}

module _ (s : Shape) (p : List ℕ) (h : Writable s p) (S : Cell → Type 0) (one : OneOfEachClass s S)
    (G : List ℕ) (changed : ChangedIn s S (encoded_levels_field s p) G)
    (buffer : List ℕ) (fits : length buffer ≡ plan_digits s) where
  F : Field
  F = field_of (encoded_levels_field s p)

  readable : ReadableLevels s G
  readable = record { accepted = h.accepted; long = changed.long; levels = changed.levels }

  -- each word of G comes from that of F, as the cells of a word are of one class
  from : FromLawful s (field_of G) F
  unfolding F
  from =
      record {
        lawful = written_lawful s p h;
        comes = λ w. record {
          one = λ i j l m u v d e.
              one i j l m (changed.inside i l d) (changed.inside j m e)
              (word_class (layout_of s) i j (of_in (layout_of s) w i u) (of_in (layout_of s) w j v)
              (of_word (layout_of s) w i u ∙ sym (of_word (layout_of s) w j v)));
          within = λ i l u. changed.within i l;
        };
      }

  read : decode_levels_number s buffer G ≡ 0
  read = (decode_levels_meaning s buffer G readable fits).success.1 (F, from)

  mend : correct_levels_number s G ≡ 0
  mend = (correct_levels_meaning s G readable).success.1 (F, from)

  payload_back : decode_levels_leaves s buffer G ≡ p
  unfolding F
  payload_back =
      decode_leaves_lem s G buffer read
      ∙ held_same (layout_of s) (digits_of s) (digits_all s h.accepted) (restored_field s (field_of G)) F
      (from_corrected (layout_of s) (field_of G) F from)
      ∙ written_held s p h

  field_back : correct_levels_leaves s G ≡ encoded_levels_field s p
  unfolding F encoded_levels_field
  field_back =
      correct_leaves_lem s G mend
      ∙ list_of_same (restored_field s (field_of G)) (encoded_levels (layout_of s) p) (cells_of s)
      (λ i l. from_corrected (layout_of s) (field_of G) F from i l ∙ sym (written s p i l))

  recovered : LevelsRecovered s p (encoded_levels_field s p) G buffer
  unfolding F
  recovered =
      record {
        decoded_number = read;
        decoded_payload = payload_back;
        decoded_count =
            (decode_levels_meaning s buffer G readable fits).count F from ∙ words_comm (layout_of s) (field_of G) F;
        corrected_number = mend;
        field_corrected = field_back;
        count_corrected = (correct_levels_meaning s G readable).count F from ∙ differences_comm (field_of G) F (cells_of s);
      }

-- Theorem. Recovery from changes in any set with at most one cell of each class: each word comes from that of the field written.
pub levels_recovery_by_class : LevelsRecoveryByClass
levels_recovery_by_class = recovered

-- Theorem (demand 3). The cells of one cluster of at most t cells lie in different classes, so what was written is recovered.
pub levels_recovery : LevelsRecovery
levels_recovery s p h S cluster small = levels_recovery_by_class s p h S (one_of_cluster s h.accepted S cluster small)

-- Theorem. So do those of one window.
pub levels_window_recovery : LevelsWindowRecovery
levels_window_recovery s p h z r c =
    levels_recovery_by_class s p h (InWindow s.window r c) (one_of_window s h.accepted z r c)

-- Theorem. And those of one patch of at most t cells, where the window is t by t.
pub levels_patch_recovery : LevelsPatchRecovery
levels_patch_recovery s p h z t square S patch small =
    levels_recovery_by_class s p h S (one_of_patch s h.accepted z t square S patch small)
