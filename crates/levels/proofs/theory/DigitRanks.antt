-- The cells that hold digits, counted in a pass over the cells.
use Prim.Native.Nat.{ℕ, ◌+◌, ◌<◌, ◌≤◌}
use mathlib.Core.Bool.{Bool, true, false, cond, not, ◌&&◌}
use mathlib.Core.Path.{◌≡◌, refl, sym, ap₂, ◌∙◌}
use native.Mathlib.Nat.{lt_of_le_of_lt}
use native.Mathlib.Omega.{arith}
use lib.Dec.{eqb}
use mir.Val.{bool_byte}
use Rattle.lattice.specs.declared.shape.Shape.{Shape}
use Rattle.lattice.specs.Shape.{max_cells}
use Rattle.lattice.specs.Class.{layout_of}
use Rattle.lattice.specs.Position.{Layout}
use Rattle.lattice.proofs.theory.Counting.{bit, count_step, count_most}
use Rattle.levels.specs.declared.spot.Spot.{Spot}
use Rattle.levels.specs.Payload.{holds_digit, digit_rank}
use Rattle.levels.specs.Working.{SpotOf, holds_at}

module _ (L : Layout) where
  pub rank_none : 0 ≡ digit_rank L 0
  unfolding digit_rank
  rank_none = refl

  pub rank_more : (i r y : ℕ) (b : Bool) → r ≡ digit_rank L i → b ≡ holds_digit L i → y ≡ cond b 1 0 + r → y
      ≡ digit_rank L (i + 1)
  unfolding digit_rank
  rank_more i r y b p q e = e ∙ ap₂ (λ (a : Bool) (m : ℕ). bit a + m) q p ∙ sym (count_step (holds_digit L) i)

  pub rank_limit : (i r : ℕ) → i < max_cells → r ≡ digit_rank L i → r < max_cells
  unfolding digit_rank
  rank_limit i r l e = rw e (lt_of_le_of_lt (count_most (holds_digit L) i) l)

-- the cell at a spot holds a digit where the spot does
pub digit_is : (s : Shape) (i : ℕ) (x : Spot) → SpotOf s i x → (b : Bool) → b ≡ holds_at x → b ≡ holds_digit (layout_of s) i
unfolding holds_at holds_digit
digit_is s i x spot b e = e ∙ ap₂ (λ (a : Bool) (k : ℕ). a && not (eqb k 0)) spot.inside spot.slot

-- one more where the test holds
pub one_if : (b : Bool) (n r : ℕ) → r ≡ bool_byte b → n + r ≡ cond b 1 0 + n
one_if true n r e = omega (arith, e)
one_if false n r e = omega (arith, e)

pub few_if : (b : Bool) (n r : ℕ) → n < max_cells → r ≡ bool_byte b → n + r ≤ max_cells
few_if true n r l e = omega (arith, l, e)
few_if false n r l e = omega (arith, l, e)
