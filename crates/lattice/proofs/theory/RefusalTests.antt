-- Demand 1 for the constructor, the class of a cell and the distance test: each test decides its refusal's condition, and the
-- number is settled by the conditions in the listed order.
use Prim.Native.Nat.{ℕ, ◌*◌, ◌<◌, ◌≤◌}
use mathlib.Core.Bool.{Bool, true, false, not, ◌&&◌, false≢true}
use mathlib.Core.Logic.{◌≢◌, ◌⊎◌, inl, inr, ⊎_elim}
use mathlib.Core.Path.{◌≡◌, refl, sym, ap, ◌∙◌}
use native.Mathlib.Decide.{ℕ_discrete}
use native.Mathlib.Nat.{not-le_of_lt}
use native.Mathlib.Omega.{arith}
use borrow.Author.Tests.{leb-true, leb-false, ltb-true, ltb-false, eq-eqb, ne_eqb, eqb-true, eqb-false}
use lib.Dec.{leb, ltb, eqb}
use Rattle.lattice.specs.declared.shape.Shape.{Shape}
use Rattle.lattice.specs.declared.shape.Window.{Window}
use Rattle.lattice.specs.Shape.{max_side, max_planes, max_cells, max_window, max_strength, size_ok, strength_ok, shape_number}
use Rattle.lattice.specs.Shape.{is_none, can_rule, window_ok, BadSize, BothZero, BadStrength, CannotRule, BadWindow}
use Rattle.lattice.specs.Shape.{shape_refusals}
use Rattle.lattice.specs.Range.{in_range, Outside}
use Rattle.lattice.specs.Cell.{Cell}
use Rattle.lattice.specs.Class.{inside, class_number, OutsideShape, class_refusals}
use Rattle.lattice.specs.DistanceTest.{max_test_strength, max_test_classes, test_strength_ok, test_settings_ok, test_number}
use Rattle.lattice.specs.DistanceTest.{BadTestStrength, BadTestSettings, test_refusals}
use Rattle.lattice.proofs.theory.Limits.{strength_none, strength_some, window_alone, window_beside}
use Rattle.lattice.proofs.theory.Due.{Decides, Due, due_none, due_test, due_append}

-- two tests one after the other decide that one of the two conditions holds
both : {a b : Bool} {P Q : Type 0} → Decides a P → Decides b Q → Decides (a && b) (P ⊎ Q)
both {a = true} p q =
    record { fails = λ e. inr (q.fails e); passes = λ e. ⊎_elim (p.passes refl) (q.passes e) }
both {a = false} p q = record { fails = λ e. inl (p.fails refl); passes = λ e. λ c. false≢true e }

pub at_most : (a b : ℕ) → Decides (leb a b) (b < a)
at_most a b = record { fails = leb-false a b; passes = λ e l. not-le_of_lt l (leb-true a b e) }

less : (a b : ℕ) → Decides (ltb a b) (b ≤ a)
less a b = record { fails = ltb-false a b; passes = λ e l. not-le_of_lt (ltb-true a b e) l }

pub in_range_lem : (low high x : ℕ) → Decides (in_range low high x) (Outside low high x)
unfolding in_range
in_range_lem low high x = both (at_most low x) (at_most x high)

-- a disjunction may be bracketed to the right
assoc : {a : Bool} {P Q R : Type 0} → Decides a ((P ⊎ Q) ⊎ R) → Decides a (P ⊎ (Q ⊎ R))
assoc d =
    record {
      fails = λ e. ⊎_elim (λ pq. ⊎_elim inl (λ q. inr (inl q)) pq) (λ r. inr (inr r)) (d.fails e);
      passes = λ e c. d.passes e (⊎_elim (λ p. inl (inl p)) (λ qr. ⊎_elim (λ q. inl (inr q)) inr qr) c);
    }

size_decides : (w h d : ℕ) → Decides (size_ok w h d) (BadSize w h d)
unfolding size_ok BadSize
size_decides w h d =
    assoc (assoc (both (both (both (in_range_lem 1 max_side w) (in_range_lem 1 max_side h)) (in_range_lem 1 max_planes d))
    (at_most (w * h * d) max_cells)))

-- a test of two sides that fails where both are 0
is_zero : (a : ℕ) → Decides (not (eqb a 0)) (a ≡ 0)
is_zero a = go (ℕ_discrete a 0)
  where
    go : Dec (a ≡ 0) → Decides (not (eqb a 0)) (a ≡ 0)
    go (yes p) = record { fails = λ e. p; passes = λ e z. false≢true (sym (ap not (eq-eqb a 0 p)) ∙ e) }
    go (no p) = record { fails = λ e. absurd (false≢true (sym e ∙ ap not (ne_eqb a 0 p))); passes = λ e. p }

-- a window is none exactly where both sides are 0
none_decides : (w : Window) → Decides (not (is_none w)) (BothZero w)
unfolding is_none
none_decides w = either (eqb w.rows 0) (eqb w.columns 0) (is_zero w.rows) (is_zero w.columns)
  where
    either : (a b : Bool) {P Q : Type 0} → Decides (not a) P → Decides (not b) Q → Decides (not (a && b)) (P × Q)
    either true b p q =
        record { fails = λ e. (p.fails refl, q.fails e); passes = λ e n. q.passes e n.1 }
    either false b p q =
        record { fails = λ e. absurd (false≢true (sym e)); passes = λ e n. p.passes refl n.0 }

strength_decides : (d t : ℕ) (w : Window) → Decides (strength_ok d t w) (BadStrength d t w)
unfolding BadStrength
strength_decides d t w = go (ℕ_discrete t 0)
  where
    go : Dec (t ≡ 0) → Decides (strength_ok d t w) (BadStrength d t w)
    go (yes z) = rw (strength_none d t w z)
        (record {
          fails = λ e. inl (z, (none_decides w).fails e);
          passes = λ e. ⊎_elim (λ n. (none_decides w).passes e n.1) (λ l. omega arith);
        })
    go (no z) = rw (strength_some d t w z)
        (record {
          fails = λ e. inr ((at_most t (max_strength d)).fails e);
          passes = λ e. ⊎_elim (λ n. z n.0) ((at_most t (max_strength d)).passes e);
        })

-- and one of its sides is another
some_decides : (w : Window) → Decides (is_none w) ((w.rows ≢ 0) ⊎ (w.columns ≢ 0))
unfolding is_none
some_decides w = both (other w.rows) (other w.columns)
  where
    other : (a : ℕ) → Decides (eqb a 0) (a ≢ 0)
    other a = record { fails = eqb-false a 0; passes = λ e n. n (eqb-true a 0 e) }

pub window_decides : (d t : ℕ) (w : Window) → Decides (window_ok d t w) (BadWindow d t w)
unfolding BadWindow
window_decides d t w = go (ℕ_discrete t 0)
  where
    alone : Decides (can_rule d w) (CannotRule d w)
    alone =
        assoc (assoc (both (both (both (is_zero w.rows) (is_zero w.columns)) (at_most (w.rows * w.columns) max_window))
        (at_most d _)))

    go : Dec (t ≡ 0) → Decides (window_ok d t w) (BadWindow d t w)
    go (yes z) = rw (window_alone d t w z)
        (record {
          fails = λ e. inl (z, alone.fails e);
          passes = λ e. ⊎_elim (λ n. alone.passes e n.1) (λ n. n.0 z);
        })
    go (no z) = rw (window_beside d t w z)
        (record {
          fails = λ e. inr (z, (some_decides w).fails e);
          passes = λ e. ⊎_elim (λ n. z n.0) (λ n. (some_decides w).passes e n.1);
        })

inside_decides : (s : Shape) (x : Cell) → Decides (inside s x) (OutsideShape s x)
unfolding inside OutsideShape
inside_decides s x = assoc (both (both (less x.row s.rows) (less x.plane s.planes)) (less x.column s.columns))

test_settings_decide : (m b c : ℕ) → Decides (test_settings_ok m b c) (BadTestSettings m b c)
unfolding test_settings_ok BadTestSettings
test_settings_decide m b c = assoc (both (both (in_range_lem 1 max_test_classes m) (less b m)) (less c m))

test_strength_decides : (t : ℕ) → Decides (test_strength_ok t) (BadTestStrength t)
unfolding test_strength_ok BadTestStrength
test_strength_decides t = in_range_lem 1 max_test_strength t

-- the number that is due to the shape, to the class of a cell and to the distance test
pub shape_due : (s : Shape) → Due (shape_refusals s) (shape_number s)
unfolding shape_number
shape_due s =
    due_test 0 _ (size_decides s.columns s.rows s.planes)
    (λ _. due_test 1 _ (strength_decides s.planes s.strength s.window)
    (λ _. due_test 10 _ (window_decides s.planes s.strength s.window) (λ _. due_none)))

pub class_due : (s : Shape) (x : Cell) → Due (class_refusals s x) (class_number s x)
unfolding class_number
class_due s x =
    due_append (shape_refusals s) _ _ _ (shape_due s) (λ _. due_test 3 _ (inside_decides s x) (λ _. due_none))

pub test_due : (m b c t : ℕ) → Due (test_refusals m b c t) (test_number m b c t)
unfolding test_number
test_due m b c t =
    due_test 1 _ (test_strength_decides t) (λ _. due_test 8 _ (test_settings_decide m b c) (λ _. due_none))
