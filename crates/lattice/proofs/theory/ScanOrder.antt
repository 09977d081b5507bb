-- The scan of the order, from the scans of its three parts.
use Prim.Native.Nat.{ℕ, ◌+◌, ◌-◌}
use mathlib.Core.Bool.{true, false}
use mathlib.Core.List.{◌++◌}
use mathlib.Core.Path.{◌≡◌, sym, ◌∙◌, ap}
use native.Mathlib.Omega.{arith}
use Rattle.lattice.specs.declared.settings.Settings.{Settings}
use Rattle.lattice.specs.Order.{first_columns, first_planes, all_rows, order}
use Rattle.lattice.specs.DistanceTest.{after, scan, Scan}
use Rattle.lattice.proofs.theory.Scan.{append_found, append_past, part_found, part_past}

-- the order for strength n + 1
order_parts : (n : ℕ) → order (n + 1) ≡ first_columns n ++ (first_planes n ++ all_rows n)
unfolding order
order_parts n = ap (λ i. first_columns i ++ (first_planes i ++ all_rows i)) (let e : n + 1 - 1 ≡ n = omega arith in e)

-- the columns find a triple; or they do not, and the planes after them do; or the rows after both decide
module _ (k : Settings) (n : ℕ) (s : Scan) (hs : s ≡ scan k (first_columns n)) where
  pub order_columns : s.found ≡ true → s ≡ scan k (order (n + 1))
  order_columns f =
      hs
      ∙ sym
      (ap (scan k) (order_parts n)
      ∙ append_found k (first_columns n) (first_planes n ++ all_rows n) (sym (ap (λ (s : Scan). s.found) hs) ∙ f))

  module _ (past : s.found ≡ false) (p u : Scan) (hp : p ≡ scan k (first_planes n)) (hu : u ≡ after s.tried p) where
    past_columns : scan k (order (n + 1)) ≡ after s.tried (scan k (first_planes n ++ all_rows n))
    past_columns =
        ap (scan k) (order_parts n)
        ∙ append_past k (first_columns n) (first_planes n ++ all_rows n) (sym (ap (λ (s : Scan). s.found) hs) ∙ past)
        ∙ ap (λ i. after i (scan k (first_planes n ++ all_rows n))) (sym (ap (λ (s : Scan). s.tried) hs))

    planes_after : u ≡ after s.tried (scan k (first_planes n))
    planes_after = hu ∙ ap (after s.tried) hp

    pub order_planes : u.found ≡ true → u ≡ scan k (order (n + 1))
    order_planes f = sym (past_columns ∙ part_found k s.tried (first_planes n) (all_rows n) u planes_after f)

    pub order_rows : (r v : Scan)
        → u.found ≡ false
        → r ≡ scan k (all_rows n)
        → v ≡ after u.tried r
        → v ≡ scan k (order (n + 1))
    order_rows r v f hr hv =
        hv
        ∙ ap (after u.tried) hr
        ∙ sym (past_columns ∙ part_past k s.tried (first_planes n) (all_rows n) u planes_after f)
