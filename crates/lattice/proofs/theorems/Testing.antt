-- The distance test: the terms of the theorems.
use Prim.Native.Nat.{ℕ, ◌<◌, ◌≤◌, ◌%◌}
use mathlib.Core.Path.{sym, ◌∙◌, ◌≡◌, refl, subst}
use mathlib.Core.Bool.{Bool, true, false}
use mathlib.Core.Logic.{inl}
use native.Mathlib.Nat.{lt_of_not-le}
use native.Mathlib.Decide.{dec_le}
use borrow.Author.Tests.{not-true, not-false, eqb-true, eq-eqb}
use lib.IntN.{ℤ, pos, nat_abs, ◌-ℤ◌, ◌*ℤ◌, +ℤ_idr}
use Rattle.lattice.specs.Order.{order}
use Rattle.lattice.specs.DistanceTest.{outcome, verdict, triples_tried, test_number, BadTestSettings, fails_at}
use Rattle.lattice.specs.Settings.{settings}
use Rattle.lattice.specs.Endless.{Apart, Multiple}
use Rattle.lattice.specs.theorems.Testing.{TestAtOne, TestFinds, TestHolds, TestMeaning, FailsMeans}
use Rattle.lattice.proofs.theory.ScanMeaning.{found, missed}
use Rattle.lattice.proofs.theory.TestAnswer.{accepted_verdict, accepted_triple, accepted_tried}
use Rattle.lattice.proofs.theory.PointTriples.{apart_of_none, close_of_fails}
use Rattle.lattice.proofs.theory.Integers.{multiple_divides}
use Rattle.lattice.proofs.theorems.Order.{order_length, order_lists}
use Rattle.lattice.proofs.theorems.Refused.{test_refused}

-- Theorem. At t = 1, where there is no triple to try, accepted settings hold with the counter 0.
pub test_at_one : TestAtOne
unfolding verdict triples_tried outcome order
test_at_one m b c ok = (rw ok, rw ok)

-- Where the verdict is no, the triple given is the first of the order that fails, at the place that the counter says.
pub test_finds : TestFinds
unfolding outcome
test_finds m b c t ok no-verdict =
    let f =
    found (settings m b c) (order t)
    (not-false (outcome m b c t).found (sym (accepted_verdict m b c t ok) ∙ no-verdict)) in (
      f.at,
      f.below,
      accepted_tried m b c t ok ∙ f.tried,
      accepted_triple m b c t ok ∙ f.triple,
      f.fails,
      f.first,
    )

-- Where the verdict is yes, no triple fails, the triple given is (0, 0, 0), and the counter is the number of triples.
pub test_holds : TestHolds
unfolding outcome
test_holds m b c t ok yes-verdict =
    let f =
    missed (settings m b c) (order t)
    (not-true (outcome m b c t).found (sym (accepted_verdict m b c t ok) ∙ yes-verdict)) in
    (accepted_tried m b c t ok ∙ f.tried ∙ order_length t, accepted_triple m b c t ok ∙ f.triple, f.each)

-- accepted settings have a class
pub some_classes : (m b c t : ℕ) → test_number m b c t ≡ 0 → 0 < m
unfolding BadTestSettings
some_classes m b c t e = go (dec_le 1 m)
  where
    go : Dec (1 ≤ m) → 0 < m
    go (yes l) = l
    go (no l) = absurd (((test_refused m b c t).0.0 e).1.0 (inl (inl (lt_of_not-le l))))

-- Theorem. Where the numbers are accepted, the verdict is yes exactly when all different cells of one class in an endless stack
-- are at least t apart.
pub test_meaning : TestMeaning
test_meaning m b c t ok = (far, sound)
  where
    far : verdict m b c t ≡ true → Apart (settings m b c) t
    far v =
        apart_of_none (settings m b c) t
        (λ x lead short.
        let place = order_lists.complete t x lead short in
        rw place.2 at ((test_holds m b c t ok v).2 place.0 place.1))

    decided : (v : Bool) → verdict m b c t ≡ v → Apart (settings m b c) t → verdict m b c t ≡ true
    decided true e apart = e
    decided false e apart =
        let found = test_finds m b c t ok e in
        let listed = order_lists.listed t found.0 found.1 in
        absurd (close_of_fails (settings m b c) t (some_classes m b c t ok) _ listed.0 listed.2 found.4 apart)

    sound : Apart (settings m b c) t → verdict m b c t ≡ true
    sound apart = decided (verdict m b c t) refl apart

-- Theorem. Settings fail at a triple exactly when the point with those coordinates has class 0.
pub fails_means : FailsMeans
unfolding fails_at
fails_means k x some =
    let z : ℤ = x.column -ℤ pos k.b *ℤ x.row -ℤ pos k.c *ℤ x.plane in
    let same : z -ℤ pos 0 ≡ z = +ℤ_idr z in
    let iff = multiple_divides k.m z in (
      λ e. record { below = some; rest = subst (Multiple k.m) (sym same) (iff.1 (eqb-true (nat_abs z % k.m) 0 e)) },
      λ h. eq-eqb (nat_abs z % k.m) 0 (iff.0 (subst (Multiple k.m) same h.rest)),
    )
