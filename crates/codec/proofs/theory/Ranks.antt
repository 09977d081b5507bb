-- Ranks: the cells that hold no check, numbered 0, 1, .. in byte order, for any layout of cells.
use Prim.Native.Nat.{ℕ, zero, suc, ◌+◌, ◌-◌, ◌*◌, ◌<◌, ◌≤◌}
use mathlib.Core.Bool.{Bool, true, false, cond}
use mathlib.Core.Path.{◌≡◌, refl, ap, ap₂, ◌∙◌}
use native.Mathlib.Nat.{not-suc-le-zero}
use native.Mathlib.Numerals.{add-one}
use native.Mathlib.Omega.{arith}
use Rattle.lattice.specs.Position.{Layout}
use Rattle.lattice.specs.Check.{holds_data, capacity}
use Rattle.lattice.proofs.theory.Counting.{count_yes, count_no, count_most, count_more, count_reach}
use Rattle.codec.specs.Payload.{rank, payload_bytes}

-- eight bits of the capacity make a byte, and fewer than eight are left
pub bytes_most : (L : Layout) → 8 * payload_bytes L ≤ capacity L
unfolding payload_bytes
bytes_most L = omega arith

pub bytes_least : (L : Layout) → capacity L < 8 * payload_bytes L + 8
unfolding payload_bytes
bytes_least L = omega arith

module _ (L : Layout) where
  pub rank_zero : rank L 0 ≡ 0
  unfolding rank
  rank_zero = refl

  -- the rank goes up by one behind each data cell, and stays behind a check
  rank_data : (i : ℕ) → holds_data L i ≡ true → rank L (i + 1) ≡ rank L i + 1
  unfolding rank
  rank_data i e = count_yes (holds_data L) i e

  rank_check : (i : ℕ) → holds_data L i ≡ false → rank L (i + 1) ≡ rank L i
  unfolding rank
  rank_check i e = count_no (holds_data L) i e

  pub rank_data_suc : (i : ℕ) → holds_data L i ≡ true → rank L (suc i) ≡ rank L i + 1
  rank_data_suc i e = rw (← (add-one i)) (rank_data i e)

  pub rank_check_suc : (i : ℕ) → holds_data L i ≡ false → rank L (suc i) ≡ rank L i
  rank_check_suc i e = rw (← (add-one i)) (rank_check i e)

  -- a cell's rank is at most its number
  pub rank_most : (i : ℕ) → rank L i ≤ i
  unfolding rank
  rank_most i = count_most (holds_data L) i

  -- a cell's rank, from that of the cell before it
  pub rank_last : (i : ℕ) → 0 < i → (d : Bool) → holds_data L (i - 1) ≡ d → rank L i ≡ cond d 1 0 + rank L (i - 1)
  unfolding rank
  rank_last zero l d e = absurd (not-suc-le-zero l)
  rank_last (suc k) l d e =
      let before : k ≡ suc k - 1 = omega arith in
      ap₂ (λ (b : Bool) (n : ℕ). cond b 1 0 + rank L n) (ap (holds_data L) before ∙ e) before

  -- a data cell has a rank below that of every later cell
  pub rank_rises : (i j : ℕ) → i < j → holds_data L i ≡ true → rank L i < rank L j
  unfolding rank
  rank_rises i j l e = omega (arith, count_more (holds_data L) i j l e)

  -- the data cells of the field are as many as its capacity
  pub rank_all : rank L L.cells ≡ capacity L
  unfolding rank capacity
  rank_all = refl

  -- each number below the capacity is the rank of a data cell
  pub rank_some : (k : ℕ) → k < capacity L → (i : ℕ) × (i < L.cells) × (holds_data L i ≡ true) × (rank L i ≡ k)
  unfolding rank capacity
  rank_some k l = count_reach (holds_data L) L.cells k l
