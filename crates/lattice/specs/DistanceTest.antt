-- The distance test, the papers' gauge: the first triple of the order at which settings fail, its place, and the refusals.
use Rattle.std.specs.Prelude.{ℕ, ◌+◌, ◌%◌, ◌≤◌, Bool, true, false, cond, not, ◌&&◌, List, [], ◌∷◌, ◌⊎◌, eqb, ltb, pos, nat_abs}
use Rattle.std.specs.Prelude.{◌-ℤ◌, ◌*ℤ◌}
use Rattle.lattice.specs.declared.settings.Settings.{Settings}
use Rattle.lattice.specs.declared.distance.Triple.{Triple}
use Rattle.lattice.specs.Refusal.{Listed, listed, unless, beside, figure}
use Rattle.lattice.specs.Settings.{settings}
use Rattle.lattice.specs.Range.{in_range, Outside}
use Rattle.lattice.specs.Order.{order, origin}

-- the settings fail at a triple: column − b × row − c × plane is divisible by m
unfoldable pub fails_at : Settings → Triple → Bool
fails_at k x = eqb (nat_abs (x.column -ℤ pos k.b *ℤ x.row -ℤ pos k.c *ℤ x.plane) % k.m) 0

-- what trying a list of triples finds: whether one fails, which, and how many were tried
pub record Scan : Type 0 where
  pub found : Bool
  pub triple : Triple
  pub tried : ℕ

-- no triple tried
abbrev pub nothing : Scan
nothing = record { found = false; triple = origin; tried = 0 }

-- the same with n triples tried before
abbrev pub after : ℕ → Scan → Scan
after n s = record { found = s.found; triple = s.triple; tried = s.tried + n }

-- the first triple of the list that fails, and how many were tried, it included; without one, (0, 0, 0) and all of them
abbrev pub scan : Settings → List Triple → Scan
scan k [] = nothing
scan k (x ∷ xs) = cond (fails_at k x) (record { found = true; triple = x; tried = 1 }) (after 1 (scan k xs))

-- what the test finds for settings m, b, c and strength t
unfoldable pub outcome : ℕ → ℕ → ℕ → ℕ → Scan
outcome m b c t = scan (settings m b c) (order t)

-- the limits: t of 1 to 18, m of 1 to 4,096, b and c below m
abbrev pub max_test_strength : ℕ
max_test_strength = 18

abbrev pub max_test_classes : ℕ
max_test_classes = 4096

unfoldable pub test_strength_ok : ℕ → Bool
test_strength_ok t = in_range 1 max_test_strength t

unfoldable pub test_settings_ok : ℕ → ℕ → ℕ → Bool
test_settings_ok m b c = in_range 1 max_test_classes m && ltb b m && ltb c m

-- the number: 2, then 9
unfoldable pub test_number : ℕ → ℕ → ℕ → ℕ → ℕ
test_number m b c t = unless (test_strength_ok t) 2 (unless (test_settings_ok m b c) 9 0)

-- 2: t outside 1 to 18
unfoldable pub BadTestStrength : ℕ → Type 0
BadTestStrength t = Outside 1 max_test_strength t

-- 9: m outside 1 to 4,096, or b or c not below m
unfoldable pub BadTestSettings : ℕ → ℕ → ℕ → Type 0
BadTestSettings m b c = Outside 1 max_test_classes m ⊎ ((m ≤ b) ⊎ (m ≤ c))

-- the refusals of the distance test, in the listed order
abbrev pub test_refusals : ℕ → ℕ → ℕ → ℕ → List Listed
test_refusals m b c t = listed 2 (BadTestStrength t) ∷ listed 9 (BadTestSettings m b c) ∷ []

-- the figures: the verdict is yes beside the number 0 where no triple is found; beside any other number it is no, the triple
-- (0, 0, 0) and the counter 0
unfoldable pub verdict : ℕ → ℕ → ℕ → ℕ → Bool
verdict m b c t = beside (test_number m b c t) (not (outcome m b c t).found) false

unfoldable pub found_triple : ℕ → ℕ → ℕ → ℕ → Triple
found_triple m b c t = beside (test_number m b c t) (outcome m b c t).triple origin

unfoldable pub triples_tried : ℕ → ℕ → ℕ → ℕ → ℕ
triples_tried m b c t = figure (test_number m b c t) (outcome m b c t).tried
