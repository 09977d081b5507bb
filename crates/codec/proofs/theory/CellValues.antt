-- The values of a cell, 0 and 1, and those of a cell of a field that is handed in, which may be erased.
use Prim.Native.Nat.{ℕ, zero, suc, ◌≤◌}
use mathlib.Core.Bool.{Bool, true, false, cond, ◌||◌}
use mathlib.Core.Logic.{◌≢◌, ◌⊎◌, inl, inr, ⊎_elim, ◌↔◌}
use mathlib.Core.Path.{◌≡◌, refl, sym, ◌∙◌}
use native.Mathlib.Decide.{ℕ_discrete, dec_le}
use native.Mathlib.Omega.{arith}
use native.Mathlib.Nat.{le_trans, le_of_eq}
use borrow.Author.Tests.{le-leb, lt-leb, leb-true, eq-eqb, ne_eqb, eqb-true}
use lib.Dec.{lit≤, leb, eqb}
use Rattle.lattice.proofs.theory.Bools.{or_cases, or_true_left, or_true_right}
use Rattle.codec.specs.Field.{Field, is_cell, Cells, erased, is_received, Received, having}

pub cell_most : (v : ℕ) → is_cell v ≡ true → v ≤ 1
unfolding is_cell
cell_most v p = leb-true v 1 p

pub most_cell : (v : ℕ) → v ≤ 1 → is_cell v ≡ true
unfolding is_cell
most_cell v p = le-leb v 1 p

pub zero_cell : is_cell 0 ≡ true
unfolding is_cell
zero_cell = refl

-- either of two cells is a cell
pub cond_cell : (b : Bool) (v w : ℕ) → is_cell v ≡ true → is_cell w ≡ true → is_cell (cond b v w) ≡ true
cond_cell true v w p q = p
cond_cell false v w p q = q

-- what is received is at most 2
pub received_most : (v : ℕ) → is_received v ≡ true → v ≤ erased
unfolding is_received
received_most v p =
    ⊎_elim (λ c. le_trans (cell_most v c) (lit≤ tt)) (λ e. le_of_eq (eqb-true v erased e)) (or_cases (is_cell v) (eqb v erased) p)

pub most_received : (v : ℕ) → v ≤ erased → is_received v ≡ true
unfolding is_received
most_received v l = go (ℕ_discrete v erased)
  where
    go : Dec (v ≡ erased) → (is_cell v || eqb v erased) ≡ true
    go (yes e) = or_true_right (is_cell v) (eqb v erased) (eq-eqb v erased e)
    go (no d) = or_true_left (is_cell v) (eqb v erased) (most_cell v (omega (arith, d)))

pub received_is : (v : ℕ) → leb v erased ≡ is_received v
received_is v = go (dec_le v erased)
  where
    go : Dec (v ≤ erased) → leb v erased ≡ is_received v
    go (yes l) = le-leb v erased l ∙ sym (most_received v l)
    go (no l) = go_no (is_received v) refl
      where
        go_no : (b : Bool) → is_received v ≡ b → leb v erased ≡ is_received v
        go_no true e = absurd (l (received_most v e))
        go_no false e = lt-leb v erased (omega arith) ∙ sym e

-- a cell is received, and what is received and not erased is a cell
pub cells_received : (f : Field) (n : ℕ) → Cells f n → Received f n
cells_received f n p i l = most_received (f i) (le_trans (cell_most (f i) (p i l)) (lit≤ tt))

pub read_cell : (v : ℕ) → is_received v ≡ true → v ≢ erased → is_cell v ≡ true
read_cell v p d = most_cell v (omega (arith, received_most v p, d))

-- a received cell is a decimal digit
pub received_digit : (v : ℕ) → is_received v ≡ true → v ≤ 9
received_digit v p = le_trans (received_most v p) (lit≤ tt)

-- 0 is received, and so is what is below a received value
pub zero_received : is_received 0 ≡ true
zero_received = most_received 0 (lit≤ tt)

pub below_received : (v w : ℕ) → v ≤ w → is_received w ≡ true → is_received v ≡ true
below_received v w l p = most_received v (le_trans l (received_most w p))

-- a cell of a value: 1 where the value is its own, else 0
pub having_own : (v : ℕ) (f : Field) (i : ℕ) → f i ≡ v → having v f i ≡ 1
unfolding having
having_own v f i e = rw (eq-eqb (f i) v e)

pub having_other : (v : ℕ) (f : Field) (i : ℕ) → f i ≢ v → having v f i ≡ 0
unfolding having
having_other v f i d = rw (ne_eqb (f i) v d)

-- of a received field the cells of value 1 are those that were read, with 0 in each erased cell
pub having_read : (f : Field) (i : ℕ) → is_received (f i) ≡ true → f i ≢ erased → having 1 f i ≡ f i
having_read f i p d = go (ℕ_discrete (f i) 1)
  where
    go : Dec (f i ≡ 1) → having 1 f i ≡ f i
    go (yes e) = having_own 1 f i e ∙ sym e
    go (no n) = omega (arith, having_other 1 f i n, n, cell_most _ (read_cell (f i) p d))

pub having_cells : (v : ℕ) (f : Field) (n : ℕ) → Cells (having v f) n
unfolding having
having_cells v f n i l = cond_cell (eqb (f i) v) 1 0 (most_cell 1 (lit≤ tt)) zero_cell

pub cell_values_lem : (v : ℕ) → (is_cell v ≡ true) ↔ ((v ≡ 0) ⊎ (v ≡ 1))
cell_values_lem v = (λ e. small v (cell_most v e), λ h. most_cell v (⊎_elim (λ z. omega arith) (λ o. omega arith) h))
  where
    small : (n : ℕ) → n ≤ 1 → (n ≡ 0) ⊎ (n ≡ 1)
    small zero l = inl refl
    small (suc zero) l = inr refl
    small (suc (suc n)) l = absurd (omega arith)

pub received_values : (v : ℕ) → (is_received v ≡ true) ↔ ((v ≡ 0) ⊎ (v ≡ 1) ⊎ (v ≡ 2))
received_values v = (λ e. small v (received_most v e), λ h. most_received v (most h))
  where
    small : (n : ℕ) → n ≤ 2 → (n ≡ 0) ⊎ (n ≡ 1) ⊎ (n ≡ 2)
    small zero l = inl refl
    small (suc zero) l = inr (inl refl)
    small (suc (suc zero)) l = inr (inr refl)
    small (suc (suc (suc n))) l = absurd (omega arith)

    most : (v ≡ 0) ⊎ (v ≡ 1) ⊎ (v ≡ 2) → v ≤ 2
    most (inl e) = omega arith
    most (inr (inl e)) = omega arith
    most (inr (inr e)) = omega arith
