-- Examples that meet the hypotheses of the theorems on the distance test.
use mathlib.Core.Bool.{true, false}
use Prim.Native.Nat.{◌<◌}
use mathlib.Core.Logic.{◌≢◌, inl, inr}
use mathlib.Core.Path.{◌≡◌, refl, sym, ◌∙◌}
use native.Mathlib.Omega.{arith}
use lib.Dec.{lit<}
use lib.ListN.{length}
use lib.IntN.{pos, negsuc}
use Rattle.lattice.specs.Range.{in_range}
use Rattle.lattice.specs.Order.{order, triple, Leading, magnitude}
use Rattle.lattice.specs.DistanceTest.{fails_at, outcome, test_strength_ok, test_settings_ok, test_number, verdict, found_triple}
use Rattle.lattice.specs.DistanceTest.{triples_tried}

-- m = 7, b = 2, c = 3 hold for strength 3, after 12 triples
pub holds_accepted : test_number 7 2 3 3 ≡ 0
unfolding test_number test_strength_ok test_settings_ok in_range
holds_accepted = refl

pub holds_verdict : verdict 7 2 3 3 ≡ true
unfolding verdict test_number test_strength_ok test_settings_ok in_range outcome order fails_at
holds_verdict = refl

pub holds_tried : triples_tried 7 2 3 3 ≡ 12
unfolding triples_tried test_number test_strength_ok test_settings_ok in_range outcome order fails_at
holds_tried = refl

-- they fail for strength 4, at row 0, plane 2 and column −1, the ninth triple: −1 − 2 × 0 − 3 × 2 = −7
pub fails_accepted : test_number 7 2 3 4 ≡ 0
unfolding test_number test_strength_ok test_settings_ok in_range
fails_accepted = refl

pub fails_verdict : verdict 7 2 3 4 ≡ false
unfolding verdict test_number test_strength_ok test_settings_ok in_range outcome order fails_at
fails_verdict = refl

pub fails_triple : found_triple 7 2 3 4 ≡ triple (pos 0) (pos 2) (negsuc 0)
unfolding found_triple test_number test_strength_ok test_settings_ok in_range outcome order fails_at
fails_triple = refl

pub fails_tried : triples_tried 7 2 3 4 ≡ 9
unfolding triples_tried test_number test_strength_ok test_settings_ok in_range outcome order fails_at
fails_tried = refl

-- a b that is not below m is refused
pub refused : test_number 7 7 3 3 ≡ 9
unfolding test_number test_strength_ok test_settings_ok in_range
refused = refl

pub refused_other : test_number 7 7 3 3 ≢ 0
refused_other e = omega (arith, sym refused ∙ e)

-- at strength 1 the same settings are accepted
pub one_accepted : test_number 7 2 3 1 ≡ 0
unfolding test_number test_strength_ok test_settings_ok in_range
one_accepted = refl

-- the triple (0, 2, −1) is led by a positive number and short enough for strength 4, whose order has a ninth triple
pub ninth_leads : Leading (triple (pos 0) (pos 2) (negsuc 0))
unfolding Leading
ninth_leads = inr (inl (refl, (1, refl)))

pub ninth_short : magnitude (triple (pos 0) (pos 2) (negsuc 0)) < 4
unfolding magnitude
ninth_short = lit< tt

pub ninth : 8 < length (order 4)
unfolding order
ninth = lit< tt
