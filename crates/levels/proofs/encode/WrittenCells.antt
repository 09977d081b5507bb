-- The field written from a payload of digits, cell by cell: the digit of a cell, its value, and the buffer that holds the cells.
use Prim.Native.Nat.{ℕ, ◌+◌, ◌-◌, ◌%◌, ◌<◌, ◌≤◌}
use mathlib.Core.Bool.{Bool, true, false, cond, ◌&&◌}
use mathlib.Core.List.{List, ◌++◌, append-nil}
use mathlib.Core.Path.{◌≡◌, refl, ap, ap₂, ◌∙◌}
use native.Mathlib.Nat.{le_antisymm}
use native.Mathlib.Omega.{arith}
use lib.Dec.{eqb}
use lib.ListN.{length, get_or, set, drop, drop_of_length-le}
use Rattle.lattice.specs.declared.shape.Shape.{Shape}
use Rattle.lattice.specs.Shape.{cells_of}
use Rattle.lattice.specs.Class.{layout_of}
use Rattle.codec.specs.Field.{list_of}
use Rattle.codec.proofs.theory.FilledLists.{filled_more}
use Rattle.levels.specs.declared.spot.Spot.{Spot}
use Rattle.levels.specs.Words.{slot, in_word, word, weighted}
use Rattle.levels.specs.Payload.{digit_rank, digit_field, check_for, encoded_levels}
use Rattle.levels.specs.Encode.{encoded_levels_field}
use Rattle.levels.specs.Working.{SpotOf, HoldsDigits, holds_at, encoded_at}
use Rattle.levels.proofs.theory.DigitRanks.{digit_is}

-- the check of a remainder is that of the sum
pub check_below : (x : ℕ) → x < 25 → (25 - x) % 25 ≡ check_for x
unfolding check_for
check_below x l = omega arith

check_same : (x : ℕ) → check_for (x % 25) ≡ check_for x
unfolding check_for
check_same x = omega arith

module _ (s : Shape) (p : List ℕ) (i : ℕ) (x : Spot) (spot : SpotOf s i x) where
  pub value_is : (b : Bool) (r v : ℕ) → b ≡ holds_at x → r ≡ digit_rank (layout_of s) i → v ≡ cond b (get_or p r 0) 0
      → v ≡ digit_field (layout_of s) p i
  unfolding digit_field
  value_is b r v q e w = w ∙ rw (e, digit_is s i x spot b q) refl

  pub encoded_is : (l : List ℕ) → HoldsDigits s p l → (v y : ℕ) → v ≡ digit_field (layout_of s) p i → y ≡ encoded_at l x v
      → y ≡ encoded_levels (layout_of s) p i
  unfolding encoded_at encoded_levels
  encoded_is l held v y e q =
      q
      ∙ ap₂ (λ (b : Bool) (z : ℕ). cond b (check_for (get_or l x.word 0)) z) test e
      ∙ go (in_word (layout_of s) i) (eqb (slot (layout_of s) i) 0) refl
    where
      test : (x.inside && eqb x.slot 0) ≡ (in_word (layout_of s) i && eqb (slot (layout_of s) i) 0)
      test = ap₂ (λ (b : Bool) (k : ℕ). b && eqb k 0) spot.inside spot.slot

      sum : in_word (layout_of s) i ≡ true → check_for (get_or l x.word 0)
          ≡ check_for (weighted (layout_of s) (digit_field (layout_of s) p) (word (layout_of s) i) (cells_of s))
      sum t =
          ap check_for (held.at x.word (spot.below (spot.inside ∙ t)))
          ∙ check_same _
          ∙ ap (λ (w : ℕ). check_for (weighted (layout_of s) (digit_field (layout_of s) p) w (cells_of s))) spot.word

      go : (a b : Bool) → in_word (layout_of s) i ≡ a
          → cond (a && b) (check_for (get_or l x.word 0)) (digit_field (layout_of s) p i)
          ≡ cond (a && b) (check_for (weighted (layout_of s) (digit_field (layout_of s) p) (word (layout_of s) i) (cells_of s)))
          (digit_field (layout_of s) p i)
      go true true t = sum t
      go true false t = refl
      go false b t = refl

-- the buffer that held `field` has the cells written before i, and goes on as before
pub record WrittenTo (s : Shape) (payload field buffer : List ℕ) (i : ℕ) : Type 0 where
  pub cells : buffer ≡ list_of (encoded_levels (layout_of s) payload) i ++ drop i field

pub written_none : (s : Shape) (payload field : List ℕ) → WrittenTo s payload field field 0
written_none s payload field = record { cells = refl }

module _ (s : Shape) (payload field buffer : List ℕ) (i : ℕ) (m : WrittenTo s payload field buffer i) where
  pub written_more : i < length field → (y : ℕ) → y ≡ encoded_levels (layout_of s) payload i
      → WrittenTo s payload field (set buffer i y) (i + 1)
  written_more h y e = record { cells = filled_more (encoded_levels (layout_of s) payload) field i y buffer h e m.cells }

  pub written_all : length field ≡ cells_of s → i ≤ length field → length field ≤ i → buffer ≡ encoded_levels_field s payload
  unfolding encoded_levels_field
  written_all e p q =
      m.cells
      ∙ ap₂ (λ (a b : List ℕ). a ++ b)
      (ap (list_of (encoded_levels (layout_of s) payload)) (le_antisymm p q ∙ e)) (drop_of_length-le field q)
      ∙ append-nil _
