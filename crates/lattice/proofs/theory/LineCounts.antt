-- A list of counts of lines by where they begin, and a list of sums over it.
use Prim.Native.Nat.{ℕ, ◌+◌, ◌*◌, ◌%◌, ◌<◌, ◌≤◌}
use mathlib.Core.List.{List}
use mathlib.Core.Path.{◌≡◌, sym, ap, ◌∙◌}
use native.Mathlib.Decide.{ℕ_discrete, dec_lt}
use native.Mathlib.Nat.{mod-add-mod}
use native.Mathlib.Omega.{arith}
use lib.Dec.{eqb}
use lib.ListN.{length, get_or, set, replicate, get_or-replicate, length-replicate, get_or-eq_default}
use lib.Seq.{get_or-set_same, get_or-set_other}
use borrow.Author.Tests.{eq-eqb, ne_eqb}
use Rattle.lattice.specs.Shape.{max_cells}
use Rattle.lattice.specs.Lines.{starts_at, Sums}
use Rattle.lattice.proofs.theory.Counting.{count_yes, count_no, count_most}

-- each entry is the number of the first n lines that begin there
abbrev pub Counted : (ℕ → ℕ) → List ℕ → ℕ → Type 0
Counted start xs n = (a : ℕ) → get_or xs a 0 ≡ starts_at start a n

pub counted_none : (start : ℕ → ℕ) (xs : List ℕ) → ((a : ℕ) → get_or xs a 0 ≡ 0) → Counted start xs 0
unfolding starts_at
counted_none start xs p a = p a

pub counted_more : (start : ℕ → ℕ) (xs : List ℕ) (n k : ℕ) → Counted start xs n → k ≡ start n → k < length xs
    → Counted start (set xs k (get_or xs k 0 + 1)) (n + 1)
unfolding starts_at
counted_more start xs n k before own h a = go (ℕ_discrete a k)
  where
    go : Dec (a ≡ k) → get_or (set xs k (get_or xs k 0 + 1)) a 0 ≡ starts_at start a (n + 1)
    go (yes e) =
        omega (
          arith,
          ap (λ (b : ℕ). get_or (set xs k (get_or xs k 0 + 1)) b 0) e,
          get_or-set_same xs k (get_or xs k 0 + 1) 0 h,
          ap (λ (b : ℕ). get_or xs b 0) e,
          before a,
          count_yes (λ l. eqb (start l) a) n (eq-eqb (start n) a (sym own ∙ sym e)),
        )
    go (no e) =
        get_or-set_other xs k a (get_or xs k 0 + 1) 0 e
        ∙ before a
        ∙ sym (count_no (λ l. eqb (start l) a) n (ne_eqb (start n) a (λ (q : start n ≡ a). e (sym (own ∙ q)))))

-- an array of zeros has 0 at every place
pub zeros_at : (n a : ℕ) → ◌≡◌ {A = ℕ} (get_or (replicate n 0) a 0) 0
zeros_at n a = go (dec_lt a n)
  where
    go : Dec (a < n) → ◌≡◌ {A = ℕ} (get_or (replicate n 0) a 0) 0
    go (yes l) = get_or-replicate n a 0 0 l
    go (no l) = get_or-eq_default (replicate n 0) 0 (rw (length-replicate {A = ℕ} n 0) (omega arith))

-- an entry is at most the number of lines
pub starts_most : (start : ℕ → ℕ) (a n : ℕ) → starts_at start a n ≤ n
unfolding starts_at
starts_most start a n = count_most (λ l. eqb (start l) a) n

-- the place after a place of a table of m
pub place_next : (a y m r : ℕ) → a ≡ y % m → r ≡ (a + 1) % m → r ≡ (y + 1) % m
place_next a y m r p q = q ∙ ap (λ (n : ℕ). (n + 1) % m) p ∙ mod-add-mod y m 1

-- sums of what stands before each place
pub sums_more : (f : ℕ → ℕ) (y : ℕ) (xs : List ℕ) (v : ℕ) → Sums f y xs → y + 1 < length xs → v ≡ get_or xs y 0 + f y
    → f y ≤ max_cells
    → Sums f (y + 1) (set xs (y + 1) v)
sums_more f y xs v s h e b =
    record {
      first = other 0 (omega arith) ∙ s.first;
      next = λ k l. next k l (ℕ_discrete k y);
      most = λ k l. most k l (ℕ_discrete k (y + 1));
    }
  where
    other : (k : ℕ) → k < y + 1 → get_or (set xs (y + 1) v) k 0 ≡ get_or xs k 0
    other k l = get_or-set_other xs (y + 1) k v 0 (λ (z : k ≡ y + 1). omega arith)

    own : get_or (set xs (y + 1) v) (y + 1) 0 ≡ v
    own = get_or-set_same xs (y + 1) v 0 h

    next : (k : ℕ) → k < y + 1 → Dec (k ≡ y) → get_or (set xs (y + 1) v) (k + 1) 0 ≡ get_or (set xs (y + 1) v) k 0 + f k
    next k l (yes q) =
        omega (
          arith,
          ap (λ (n : ℕ). get_or (set xs (y + 1) v) (n + 1) 0) q,
          own,
          other k l,
          ap (λ (n : ℕ). get_or xs n 0) q,
          ap f q,
        )
    next k l (no q) = omega (arith, other (k + 1) (omega arith), other k l, s.next k (omega arith))

    most : (k : ℕ) → k ≤ y + 1 → Dec (k ≡ y + 1) → get_or (set xs (y + 1) v) k 0 ≤ k * max_cells
    most k l (yes q) = omega (arith, ap (λ (n : ℕ). get_or (set xs (y + 1) v) n 0) q, own, s.most y (omega arith))
    most k l (no q) = omega (arith, other k (omega arith), s.most k (omega arith))
