-- The order of triples: the terms of the theorems.
use Prim.Native.Nat.{ℕ, ◌<◌, zero, suc, ◌+◌, ◌-◌, ◌*◌, ◌/◌}
use mathlib.Core.Path.{◌≡◌, sym, refl, ◌∙◌, ap, ap₂}
use mathlib.Core.List.{◌++◌}
use native.Mathlib.Decide.{dec_lt}
use native.Mathlib.Omega.{arith}
use lib.ListN.{length, get_or}
use Rattle.lattice.specs.Order.{origin, first_columns, first_planes, all_rows, order, Before}
use Rattle.lattice.specs.theorems.Order.{OrderLists, OrderLength}
use Rattle.lattice.proofs.theory.Sorted.{place, member, sorted_at}
use Rattle.lattice.proofs.theory.OrderParts.{from_order, to_order, sorted_order, not_before}
use Rattle.lattice.proofs.theory.TripleCount.{count_parts, third}

-- Theorem. For every t the order lists exactly the triples of absolute sum 1 to t − 1 whose first number that is not 0 is
-- positive, each exactly once, and rising.
pub order_lists : OrderLists
order_lists =
    record {
      listed = λ t k h. from_order t (get_or (order t) k origin) (member origin (order t) k h);
      complete = λ t x l h. place origin x (order t) (to_order t x l h);
      once = once;
      rising = rising;
    }
  where
    rising : (t j k : ℕ) → j < k → k < length (order t) → Before (get_or (order t) j origin) (get_or (order t) k origin)
    rising t j k h g = sorted_at Before origin (order t) (sorted_order t) j k h g

    once : (t j k : ℕ) → j < length (order t) → k < length (order t) → get_or (order t) j origin ≡ get_or (order t) k origin → j
        ≡ k
    once t j k hj hk e = go (dec_lt j k) (dec_lt k j)
      where
        go : Dec (j < k) → Dec (k < j) → j ≡ k
        go (yes h) d = absurd (not_before (get_or (order t) k origin) (rw e at (rising t j k h hk)))
        go (no h) (yes g) = absurd (not_before (get_or (order t) j origin) (rw (sym e) at (rising t k j g hj)))
        go (no h) (no g) = omega arith

-- Theorem. For every t the order has (t − 1)(2t² − t + 3)/3 triples.
pub order_length : OrderLength
unfolding order
order_length zero = refl
order_length (suc n) =
    third (length (order (suc n))) (n * (2 * (n * n) + 3 * n + 4))
    (ap (λ i. 3 * length (first_columns i ++ (first_planes i ++ all_rows i))) before ∙ count_parts n)
    ∙ ap₂ (λ x y. x * y / 3) (sym before) factor
  where
    before : suc n - 1 ≡ n
    before = omega arith

    factor : 2 * (n * n) + 3 * n + 4 ≡ 2 * (suc n * suc n) - suc n + 3
    factor = omega arith
