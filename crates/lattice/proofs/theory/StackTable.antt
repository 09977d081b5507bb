-- The stack settings: one test of the table, and the rule that it gives for each strength.
use Prim.Native.Nat.{ℕ, zero, suc, ◌<◌, ◌≤◌}
use mathlib.Core.Bool.{Bool, true, false, not, false≢true}
use mathlib.Core.Logic.{⊎_elim}
use mathlib.Core.Path.{◌≡◌, refl, sym, subst}
use native.Mathlib.Nat.{not-suc-le-zero, le_of_suc-le-suc, eq-or-lt_of_le}
use Rattle.lattice.specs.declared.settings.Settings.{Settings}
use Rattle.lattice.specs.Refusal.{beside}
use Rattle.lattice.specs.Range.{in_range}
use Rattle.lattice.specs.Settings.{stack_settings, stack_table}
use Rattle.lattice.specs.Counting.{all_below}
use Rattle.lattice.specs.Order.{order}
use Rattle.lattice.specs.DistanceTest.{fails_at, outcome, test_number, test_strength_ok, test_settings_ok, verdict}
use Rattle.lattice.proofs.theory.Bools.{and_left, and_right}

-- the distance test holds for the settings at strength t
abbrev pub holds_for : ℕ → Settings → Bool
holds_for t k = verdict k.m k.b k.c t

-- the one test of the table
table_holds : all_below (λ i. holds_for (suc i) (stack_settings (suc i))) 8 ≡ true
unfolding verdict outcome test_number test_strength_ok test_settings_ok in_range fails_at order stack_settings stack_table
table_holds = refl

-- what passes at each number below n passes at each of them
passes : (f : ℕ → Bool) (n : ℕ) → all_below f n ≡ true → (i : ℕ) → i < n → f i ≡ true
passes f zero e i l = absurd (not-suc-le-zero l)
passes f (suc n) e i l =
    ⊎_elim (λ h. subst (λ (k : ℕ). f k ≡ true) (sym h) (and_left (f n) (all_below f n) e))
    (λ h. passes f n (and_right (f n) (all_below f n) e) i h) (eq-or-lt_of_le (le_of_suc-le-suc l))

pub row_holds : (t : ℕ) → 1 ≤ t → t ≤ 8 → holds_for t (stack_settings t) ≡ true
row_holds zero some most = absurd (not-suc-le-zero some)
row_holds (suc i) some most = passes (λ j. holds_for (suc j) (stack_settings (suc j))) 8 table_holds i most

pub row_accepted : (t : ℕ) (k : Settings) → holds_for t k ≡ true → test_number k.m k.b k.c t ≡ 0
unfolding verdict
row_accepted t k e = go (test_number k.m k.b k.c t) (not (outcome k.m k.b k.c t).found) e
  where
    go : (n : ℕ) (x : Bool) → beside n x false ≡ true → n ≡ 0
    go zero x h = refl
    go (suc n) x h = absurd (false≢true h)
