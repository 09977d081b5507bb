-- 0 put in each erased cell of a buffer, cell by cell.
use Prim.Native.Nat.{ℕ, ◌+◌, ◌<◌, ◌≤◌}
use mathlib.Core.Bool.{cond}
use mathlib.Core.List.{List}
use mathlib.Core.Path.{◌≡◌, sym, ap, ◌∙◌}
use native.Mathlib.Decide.{ℕ_discrete}
use native.Mathlib.Omega.{arith}
use lib.Dec.{eqb}
use lib.ListN.{length, get_or, set}
use lib.Seq.{get_or-set_same, get_or-set_other}
use borrow.Author.Tests.{eq-eqb}
use Rattle.lattice.specs.Counting.{count}
use Rattle.lattice.proofs.theory.Counting.{count_more}
use Rattle.codec.specs.Field.{Field, field_of, Received, Same, having}
use Rattle.codec.specs.Erasure.{is_erased}
use Rattle.codec.proofs.theory.CellValues.{having_read}

-- the cells before i are cleared, and the others are as before
pub record ClearedTo (before now : List ℕ) (i : ℕ) : Type 0 where
  pub own : (j : ℕ) → j < i → get_or now j 0 ≡ having 1 (field_of before) j
  pub others : (j : ℕ) → i ≤ j → get_or now j 0 ≡ get_or before j 0

pub cleared_more : (before now : List ℕ) (i v : ℕ) → i < length now → v ≡ having 1 (field_of now) i → ClearedTo before now i
    → ClearedTo before (set now i v) (i + 1)
unfolding having
cleared_more before now i v l e p =
    record {
      own = λ j k. go j k (ℕ_discrete j i);
      others = λ j k. get_or-set_other now i j v 0 (λ (d : j ≡ i). omega arith) ∙ p.others j (omega arith);
    }
  where
    go : (j : ℕ) → j < i + 1 → Dec (j ≡ i) → get_or (set now i v) j 0 ≡ having 1 (field_of before) j
    go j k (yes d) =
        ap (λ (x : ℕ). get_or (set now i v) x 0) d
        ∙ get_or-set_same now i v 0 l
        ∙ e
        ∙ ap (λ (x : ℕ). cond (eqb x 1) 1 0) (p.others i (omega arith))
        ∙ ap (having 1 (field_of before)) (sym d)
    go j k (no d) = get_or-set_other now i j v 0 d ∙ p.own j (omega (arith, d))

-- a field with no erased cell is clear
pub none_clear : (f : Field) (n : ℕ) → Received f n → count (is_erased f) n ≡ 0 → Same f (having 1 f) n
none_clear f n p z i l =
    sym (having_read f i (p i l) (λ e. omega (arith, count_more (is_erased f) i n l (eq-eqb (f i) _ e), z)))
