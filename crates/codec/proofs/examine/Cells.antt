-- The test that every byte of a buffer is a cell or an erasure, by the greatest of the bytes.
use Prim.Native.Nat.{ℕ, ◌+◌, ◌<◌, ◌≤◌, max}
use mathlib.Core.Bool.{Bool, true, false, ◌&&◌}
use mathlib.Core.Path.{◌≡◌, refl, sym, ap, ap₂, ◌∙◌}
use native.Mathlib.Decide.{ℕ_discrete, dec_le}
use native.Mathlib.Nat.{not-suc-le-zero}
use native.Mathlib.Omega.{arith}
use Rattle.codec.specs.Field.{Field, is_received, cells_ok}
use Rattle.codec.proofs.theory.AllBelow.{all_step}
use Rattle.codec.proofs.theory.CellValues.{zero_received, below_received}

-- a test that follows from another decides both
first : (a b : Bool) → (a ≡ true → b ≡ true) → a ≡ (a && b)
first true b p = sym (p refl)
first false b p = refl

second : (a b : Bool) → (b ≡ true → a ≡ true) → b ≡ (a && b)
second true b p = refl
second false true p = sym (p refl)
second false false p = refl

-- the greater of two values is received where both are
both_received : (v w : ℕ) → is_received (max v w) ≡ (is_received w && is_received v)
both_received v w = go (dec_le v w)
  where
    go : Dec (v ≤ w) → is_received (max v w) ≡ (is_received w && is_received v)
    go (yes l) = ap is_received (omega arith) ∙ first (is_received w) (is_received v) (below_received v w l)
    go (no l) = ap is_received (omega arith) ∙ second (is_received w) (is_received v) (below_received w v (omega arith))

-- m is the greatest of the cells before i, and tells whether they are received
pub record Tells (f : Field) (m i : ℕ) : Type 0 where
  pub all : is_received m ≡ cells_ok f i
  pub most : (j : ℕ) → j < i → f j ≤ m

module _ (f : Field) where
  pub tells_none : Tells f 0 0
  unfolding cells_ok
  tells_none = record { all = zero_received; most = λ j l. absurd (not-suc-le-zero l) }

  pub tells_more : (m i v x : ℕ) → Tells f m i → v ≡ f i → x ≡ max m v → Tells f x (i + 1)
  unfolding cells_ok
  tells_more m i v x t e g =
      let both : is_received x ≡ (is_received v && is_received m) = ap is_received g ∙ both_received m v in
      record {
        all = both ∙ ap₂ ◌&&◌ (ap is_received e) t.all ∙ sym (all_step (λ j. is_received (f j)) i);
        most = λ j l. greatest j l (ℕ_discrete j i);
      }
    where
      greatest : (j : ℕ) → j < i + 1 → Dec (j ≡ i) → f j ≤ x
      greatest j l (yes d) = omega (arith, ap f d, e, g)
      greatest j l (no d) = omega (arith, t.most j (omega (arith, l, d)), g)
