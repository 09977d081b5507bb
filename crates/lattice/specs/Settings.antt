-- The settings m, b and c of a field by strength: source document 002, constructions 2.1 and 3.1. m is the number of classes, b
-- goes with the row and c with the plane.
use Rattle.std.specs.Prelude.{ℕ, ◌+◌, ◌*◌, ◌/◌, ◌%◌, Bool, cond, List, [], ◌∷◌, eqb, get_or}
use Rattle.lattice.specs.declared.settings.Settings.{Settings}
use Rattle.lattice.specs.declared.shape.Shape.{Shape}

abbrev pub settings : ℕ → ℕ → ℕ → Settings
settings m b c = record { m = m; b = b; c = c }

abbrev pub is_odd : ℕ → Bool
is_odd t = eqb (t % 2) 1

-- flat, odd t: m = (t² + 1)/2, b = t
unfoldable pub odd_settings : ℕ → Settings
odd_settings t = settings ((t * t + 1) / 2) t 0

-- flat, even t: m = t²/2, b = t + 1
unfoldable pub even_settings : ℕ → Settings
even_settings t = settings (t * t / 2) (t + 1) 0

unfoldable pub flat_settings : ℕ → Settings
flat_settings t = cond (is_odd t) (odd_settings t) (even_settings t)

-- stack: a row for each t, from t = 0, which has none
unfoldable pub stack_table : List Settings
stack_table =
    settings 0 0 0
    ∷ settings 1 0 0
    ∷ settings 2 1 1
    ∷ settings 7 2 3
    ∷ settings 12 3 5
    ∷ settings 27 4 10
    ∷ settings 38 7 11
    ∷ settings 70 16 25
    ∷ settings 92 9 39
    ∷ []

unfoldable pub stack_settings : ℕ → Settings
stack_settings t = get_or stack_table t (settings 0 0 0)

-- the settings of a field of d planes and strength t
unfoldable pub settings_for : ℕ → ℕ → Settings
settings_for d t = cond (eqb d 1) (flat_settings t) (stack_settings t)

abbrev pub settings_of : Shape → Settings
settings_of s = settings_for s.planes s.strength
