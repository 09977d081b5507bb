-- The distance test's number and figures, from what the checks and the scan gave.
use Prim.Native.Nat.{ℕ, ◌+◌, ◌-◌, ◌<◌, ◌≤◌}
use mathlib.Core.Bool.{Bool, true, false, not, ◌&&◌}
use mathlib.Core.Path.{◌≡◌, sym, ◌∙◌, ap}
use native.Mathlib.Omega.{arith}
use borrow.Author.Tests.{ltb-true}
use lib.Dec.{ltb}
use Rattle.std.specs.Prelude.{Ok, Err}
use Rattle.lattice.specs.declared.refusal.Refusal.{Refusal}
use Rattle.lattice.specs.declared.distance.Trial.{Trial}
use Rattle.lattice.specs.Refusal.{refusal_number}
use Rattle.lattice.specs.Range.{in_range}
use Rattle.lattice.specs.Settings.{settings}
use Rattle.lattice.specs.Order.{order, origin}
use Rattle.lattice.specs.DistanceTest.{max_test_strength, max_test_classes, scan, outcome, test_strength_ok, test_settings_ok}
use Rattle.lattice.specs.DistanceTest.{test_number, verdict, found_triple, triples_tried, Scan}
use Rattle.lattice.specs.Scanning.{scan_of}
use Rattle.lattice.specs.Answer.{IsDistanceTest}
use Rattle.lattice.proofs.theory.Bools.{and_left, and_right, failed, passed}
use Rattle.lattice.proofs.theory.Limits.{range_low, range_high}
use Rattle.lattice.proofs.theory.Answers.{unless_zero, beside_other, refused, done}

-- a range check's flag, negated, says whether the strength is in range
pub strength_refused : (t : ℕ) (b : Bool) → b ≡ in_range 1 max_test_strength t → b ≡ false → test_strength_ok t ≡ false
unfolding test_strength_ok
strength_refused t b e h = failed b (in_range 1 max_test_strength t) h e

pub strength_accepted : (t : ℕ) (b : Bool) → b ≡ in_range 1 max_test_strength t → b ≡ true → test_strength_ok t ≡ true
unfolding test_strength_ok
strength_accepted t b e h = passed b (in_range 1 max_test_strength t) h e

-- what accepted numbers keep within
strength_bounds : (t : ℕ) → test_strength_ok t ≡ true → (1 ≤ t) × (t ≤ max_test_strength)
unfolding test_strength_ok
strength_bounds t h = (range_low 1 max_test_strength t h, range_high 1 max_test_strength t h)

settings_bounds : (m b c : ℕ) → test_settings_ok m b c ≡ true → (1 ≤ m) × (m ≤ max_test_classes) × (b < m) × (c < m)
unfolding test_settings_ok
settings_bounds m b c h =
    let both = and_left (in_range 1 max_test_classes m && ltb b m) (ltb c m) h in
    let range = and_left (in_range 1 max_test_classes m) (ltb b m) both in (
      range_low 1 max_test_classes m range,
      range_high 1 max_test_classes m range,
      ltb-true b m (and_right (in_range 1 max_test_classes m) (ltb b m) both),
      ltb-true c m (and_right (in_range 1 max_test_classes m && ltb b m) (ltb c m) h),
    )

-- the number, by the two checks
pub number_two : (m b c t : ℕ) → test_strength_ok t ≡ false → test_number m b c t ≡ 2
unfolding test_number
number_two m b c t h = rw h

pub number_nine : (m b c t : ℕ) → test_strength_ok t ≡ true → test_settings_ok m b c ≡ false → test_number m b c t ≡ 9
unfolding test_number
number_nine m b c t h g = rw (h, g)

pub number_zero : (m b c t : ℕ) → test_strength_ok t ≡ true → test_settings_ok m b c ≡ true → test_number m b c t ≡ 0
unfolding test_number
number_zero m b c t h g = rw (h, g)

-- numbers that are accepted keep within their limits
pub accepted_bounds : (m b c t : ℕ) → test_number m b c t ≡ 0
    → (1 ≤ t) × (t ≤ max_test_strength) × (1 ≤ m) × (m ≤ max_test_classes) × (b < m) × (c < m)
unfolding test_number
accepted_bounds m b c t e =
    let strong = unless_zero (test_strength_ok t) 1 _ e in
    let set = unless_zero (test_settings_ok m b c) 8 0 strong.1 in
    let s = strength_bounds t strong.0 in
    let k = settings_bounds m b c set.0 in
    (s.0, s.1, k.0, k.1, k.2, k.3)

-- the figures beside the number 0, and beside any other
module _ (m b c t : ℕ) (h : test_number m b c t ≡ 0) where
  pub accepted_verdict : verdict m b c t ≡ not (outcome m b c t).found
  unfolding verdict
  accepted_verdict = rw h

  pub accepted_triple : found_triple m b c t ≡ (outcome m b c t).triple
  unfolding found_triple
  accepted_triple = rw h

  pub accepted_tried : triples_tried m b c t ≡ (outcome m b c t).tried
  unfolding triples_tried
  accepted_tried = rw h

module _ (m b c t : ℕ) (h : test_number m b c t ≡ 0 → ⊥) where
  pub refused_verdict : verdict m b c t ≡ false
  unfolding verdict
  refused_verdict = beside_other _ _ _ h

  pub refused_triple : found_triple m b c t ≡ origin
  unfolding found_triple
  refused_triple = beside_other _ _ _ h

  pub refused_tried : triples_tried m b c t ≡ 0
  unfolding triples_tried
  refused_tried = beside_other _ _ _ h

-- what the scan of the order gives is the outcome of the test
pub outcome_is : (m b c t : ℕ) → 1 ≤ t → (s : Scan) → s ≡ scan (settings m b c) (order (t - 1 + 1)) → s ≡ outcome m b c t
unfolding outcome
outcome_is m b c t some s e = e ∙ ap (λ i. scan (settings m b c) (order i)) (omega arith)

-- the answer of a scan of the order, and that of a refusal
pub tested : (m b c t : ℕ) (x : Trial) → test_number m b c t ≡ 0 → scan_of x ≡ outcome m b c t → IsDistanceTest m b c t (Ok x)
unfolding verdict found_triple triples_tried
tested m b c t x n e =
    record {
      number = sym n;
      verdict = done _ _ _ _ n (ap (λ (s : Scan). not s.found) e);
      triple = done _ _ _ _ n (ap (λ (s : Scan). s.triple) e);
      tried = done _ _ _ _ n (ap (λ (s : Scan). s.tried) e);
    }

pub not_tested : (m b c t : ℕ) (r : Refusal) → refusal_number r ≡ test_number m b c t → IsDistanceTest m b c t (Err r)
unfolding verdict found_triple triples_tried
not_tested m b c t r e =
    record { number = e; verdict = refused r _ _ _ e; triple = refused r _ _ _ e; tried = refused r _ _ _ e }
