-- Which of a list of refusals is due: the first whose condition holds. Numbers may stand in any order, and one may stand twice.
use Prim.Native.Nat.{ℕ, suc}
use mathlib.Core.Bool.{Bool, true, false}
use mathlib.Core.List.{List, [], ◌∷◌, ◌++◌}
use mathlib.Core.Logic.{inl, inr, ◌↔◌}
use mathlib.Core.Path.{◌≡◌, refl, sym, ◌∙◌, subst}
use native.Mathlib.Omega.{arith}
use Rattle.lattice.specs.Refusal.{Listed, listed, NoneHolds, FirstIs, Settled, unless, or_else}

-- a test that passes exactly where the condition does not hold
pub record Decides (ok : Bool) (P : Type 0) : Type 0 where
  pub fails : ok ≡ false → P
  pub passes : ok ≡ true → ¬ P

-- a test that decides one condition decides each that is due with it
pub decides_same : {ok : Bool} {P Q : Type 0} → P ↔ Q → Decides ok P → Decides ok Q
decides_same e d = record { fails = λ z. e.0 (d.fails z); passes = λ z q. d.passes z (e.1 q) }

-- where the condition holds, the test fails
pub decided : {ok : Bool} {P : Type 0} → Decides ok P → P → ok ≡ false
decided {ok = true} d p = absurd (d.passes refl p)
decided {ok = false} d p = refl

-- where one of the conditions comes first, not all fail
first_holds : (k : ℕ) (rs : List Listed) → FirstIs k rs → ¬ NoneHolds rs
first_holds k [] f none = f
first_holds k (r ∷ rs) (inl h) none = none.0 h.0
first_holds k (r ∷ rs) (inr h) none = first_holds k rs h.1 none.1

-- only one number comes first
first_one : (j k : ℕ) (rs : List Listed) → FirstIs j rs → FirstIs k rs → j ≡ k
first_one j k [] f g = absurd f
first_one j k (r ∷ rs) (inl f) (inl g) = sym f.1 ∙ g.1
first_one j k (r ∷ rs) (inl f) (inr g) = absurd (g.0 f.0)
first_one j k (r ∷ rs) (inr f) (inl g) = absurd (f.0 g.0)
first_one j k (r ∷ rs) (inr f) (inr g) = first_one j k rs f.1 g.1

-- n is the number due: 0 where no condition holds, else the number of the first that holds
pub data Due (rs : List Listed) (n : ℕ) : Type 0 where
  none_due : n ≡ 0 → NoneHolds rs → Due rs n
  first_due : (k : ℕ) → n ≡ suc k → FirstIs (suc k) rs → Due rs n

pub due_none : Due [] 0
due_none = none_due refl tt

-- a condition that does not hold may be listed in front
pub due_skip : {r : Listed} {rs : List Listed} {n : ℕ} → ¬ r.condition → Due rs n → Due (r ∷ rs) n
due_skip fails (none_due e h) = none_due e (fails, h)
due_skip fails (first_due k e h) = first_due k e (inr (fails, h))

-- one test in front of others: it decides its condition, and the others are due where it passes
pub due_test : (k : ℕ) {P : Type 0} {rs : List Listed} (ok : Bool) {later : ℕ} → Decides ok P → (ok ≡ true → Due rs later)
    → Due (listed (suc k) P ∷ rs) (unless ok (suc k) later)
due_test k true d next = due_skip (d.passes refl) (next refl)
due_test k false d next = first_due k refl (inl (d.fails refl, refl))

-- lists put end to end: the number of the first or, where it is 0, that of the second
first_append : (k : ℕ) (rs qs : List Listed) → FirstIs k rs → FirstIs k (rs ++ qs)
first_append k [] qs f = absurd f
first_append k (r ∷ rs) qs (inl h) = inl h
first_append k (r ∷ rs) qs (inr h) = inr (h.0, first_append k rs qs h.1)

due_behind : (rs qs : List Listed) {n : ℕ} → NoneHolds rs → Due qs n → Due (rs ++ qs) n
due_behind [] qs none d = d
due_behind (r ∷ rs) qs none d = due_skip none.0 (due_behind rs qs none.1 d)

pub due_append : (rs qs : List Listed) (n later : ℕ) → Due rs n → (n ≡ 0 → Due qs later) → Due (rs ++ qs) (or_else n later)
due_append rs qs n later (none_due e h) next = rw e (due_behind rs qs h (next e))
due_append rs qs n later (first_due k e h) next = rw e (first_due k refl (first_append (suc k) rs qs h))

-- two lists with the same numbers, whose conditions hold together, have the same number due
abbrev pub SameConditions : List Listed → List Listed → Type 0
SameConditions [] [] = Unit {0}
SameConditions [] (q ∷ qs) = ⊥
SameConditions (r ∷ rs) [] = ⊥
SameConditions (r ∷ rs) (q ∷ qs) = (r.number ≡ q.number) × (r.condition ↔ q.condition) × SameConditions rs qs

none_same : (rs qs : List Listed) → SameConditions rs qs → NoneHolds rs → NoneHolds qs
none_same [] [] same none = tt
none_same [] (q ∷ qs) same none = absurd same
none_same (r ∷ rs) [] same none = absurd same
none_same (r ∷ rs) (q ∷ qs) same none = ((λ h. none.0 (same.1.1 h)), none_same rs qs same.2 none.1)

first_same : (k : ℕ) (rs qs : List Listed) → SameConditions rs qs → FirstIs k rs → FirstIs k qs
first_same k [] qs same f = absurd f
first_same k (r ∷ rs) [] same f = absurd same
first_same k (r ∷ rs) (q ∷ qs) same (inl h) = inl (same.1.0 h.0, sym same.0 ∙ h.1)
first_same k (r ∷ rs) (q ∷ qs) same (inr h) = inr ((λ c. h.0 (same.1.1 c)), first_same k rs qs same.2 h.1)

pub due_same : (rs qs : List Listed) {n : ℕ} → SameConditions rs qs → Due rs n → Due qs n
due_same rs qs same (none_due e h) = none_due e (none_same rs qs same h)
due_same rs qs same (first_due k e h) = first_due k e (first_same (suc k) rs qs same h)

-- the number due is settled by the conditions
pub due_settled : (rs : List Listed) (n : ℕ) → Due rs n → Settled rs n
due_settled rs n (none_due z h) = (
  ((λ e. h), λ none. z),
  λ k. ((λ e. absurd (omega arith)), λ f. absurd (first_holds (suc k) rs f h)),
)
due_settled rs n (first_due j here h) = (
  ((λ e. absurd (omega arith)), λ none. absurd (first_holds (suc j) rs h none)),
  λ k. (
    (λ e. subst (λ (i : ℕ). FirstIs i rs) (sym here ∙ e) h),
    λ f. here ∙ first_one (suc j) (suc k) rs h f,
  ),
)
