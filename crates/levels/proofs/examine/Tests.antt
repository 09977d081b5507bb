-- The tests of a field of levels cell by cell, and the number that they give.
use Prim.Native.Nat.{ℕ, ◌<◌, ◌≤◌}
use mathlib.Core.Bool.{Bool, true, false, true≢false}
use mathlib.Core.List.{List}
use mathlib.Core.Path.{◌≡◌, refl, sym, ap, ◌∙◌}
use lib.ListN.{length, get_or}
use Rattle.lattice.specs.declared.shape.Shape.{Shape}
use Rattle.lattice.specs.Shape.{cells_of}
use Rattle.lattice.specs.Class.{layout_of}
use Rattle.codec.specs.Field.{Field, field_of}
use Rattle.codec.proofs.theory.OneByOne.{PassedTo, passed_all, failed_at}
use Rattle.levels.specs.Level.{max_level, Levels, levels_ok}
use Rattle.levels.specs.Restored.{fits, levels_in_reach}
use Rattle.levels.specs.Decode.{levels_number}
use Rattle.levels.proofs.theory.LevelTests.{levels_ok_lem, ok_levels}

-- the test of the levels
module _ (bytes : List ℕ) where
  -- a test that tells whether each byte is a level
  pub levels_told : (b : Bool) → (b ≡ true → (i : ℕ) → i < length bytes → get_or bytes i 0 ≤ max_level)
      → (((i : ℕ) → i < length bytes → get_or bytes i 0 ≤ max_level) → b ≡ true)
      → b ≡ levels_ok (field_of bytes) (length bytes)
  levels_told true told all = sym (levels_ok_lem (field_of bytes) (length bytes) (told refl))
  levels_told false told all = go (levels_ok (field_of bytes) (length bytes)) refl
    where
      go : (b : Bool) → levels_ok (field_of bytes) (length bytes) ≡ b → false ≡ levels_ok (field_of bytes) (length bytes)
      go true e = absurd (true≢false (sym (all (ok_levels (field_of bytes) (length bytes) e))))
      go false e = sym e

-- the test of the changes
module _ (s : Shape) (f : Field) where
  pub reach_fails : (i : ℕ) → i < cells_of s → fits (layout_of s) f i ≡ false → false ≡ levels_in_reach (layout_of s) f
  unfolding levels_in_reach
  reach_fails i l e = failed_at (fits (layout_of s) f) i (cells_of s) l e

  pub reach_passes : (n i : ℕ) → PassedTo (fits (layout_of s) f) i → n ≡ cells_of s → i ≤ n → n ≤ i
      → true ≡ levels_in_reach (layout_of s) f
  unfolding levels_in_reach
  reach_passes n i p e l q = passed_all (fits (layout_of s) f) i (cells_of s) p (rw (← e) l) (rw (← e) q)

-- the number that the two give
module _ (s : Shape) (field : List ℕ) (long : length field ≡ cells_of s) where
  own : (b : Bool) → levels_ok (field_of field) (length field) ≡ b → levels_ok (field_of field) (cells_of s) ≡ b
  own b e = ap (levels_ok (field_of field)) (sym long) ∙ e

  pub number_above : levels_ok (field_of field) (length field) ≡ false → 12 ≡ levels_number s (field_of field)
  unfolding levels_number
  number_above e = rw (own false e)

  module _ (e : levels_ok (field_of field) (length field) ≡ true) where
    pub examined_levels : Levels (field_of field) (cells_of s)
    examined_levels = ok_levels (field_of field) (cells_of s) (own true e)

    pub number_reach : levels_in_reach (layout_of s) (field_of field) ≡ false → 6 ≡ levels_number s (field_of field)
    unfolding levels_number
    number_reach q = rw (own true e, q)

    pub number_none : levels_in_reach (layout_of s) (field_of field) ≡ true → 0 ≡ levels_number s (field_of field)
    unfolding levels_number
    number_none q = rw (own true e, q)
