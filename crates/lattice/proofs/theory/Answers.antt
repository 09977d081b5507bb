-- The law of every answer: what stands beside a refusal's number, and beside 0; and what tests tell.
use Prim.Native.Nat.{ℕ, zero, suc}
use mathlib.Core.Bool.{Bool, true, false}
use mathlib.Core.Path.{◌≡◌, refl, sym, ap, ◌∙◌}
use Rattle.std.specs.Prelude.{Result, Ok, Err, IsErrAnd}
use native.Mathlib.Omega.{arith}
use Rattle.lattice.specs.declared.refusal.Refusal.{Refusal}
use Rattle.lattice.specs.declared.refusal.Refusal.TheVariants as why
use Rattle.lattice.specs.Refusal.{refusal_number, number_of, unless, or_else, beside}

-- no refusal has the number 0
pub some_number : (r : Refusal) → refusal_number r ≡ 0 → ⊥
some_number why.BadSize e = omega arith
some_number why.BadStrength e = omega arith
some_number why.PayloadLength e = omega arith
some_number why.FieldLength e = omega arith
some_number why.OutsideShape e = omega arith
some_number why.BadCell e = omega arith
some_number why.OutOfReach e = omega arith
some_number why.BadPadding e = omega arith
some_number why.BadForm e = omega arith
some_number why.BadSettings e = omega arith
some_number why.TooManyErasures e = omega arith
some_number why.BadWindow e = omega arith
some_number why.BadLevel e = omega arith

-- what stands beside 0, and beside another number
pub beside_zero : {A : Type 0} (n : ℕ) (x y : A) → n ≡ 0 → beside n x y ≡ x
beside_zero zero x y e = refl
beside_zero (suc k) x y e = absurd (omega arith)

pub beside_other : {A : Type 0} (n : ℕ) (x y : A) → (n ≡ 0 → ⊥) → beside n x y ≡ y
beside_other zero x y other = absurd (other refl)
beside_other (suc k) x y other = refl

-- an operation that refuses gives, and leaves, what stands beside its number; one that is done, what it made
pub refused : {A : Type 0} (r : Refusal) (n : ℕ) (x y : A) → refusal_number r ≡ n → y ≡ beside n x y
refused r n x y e = sym (beside_other n x y (λ z. some_number r (e ∙ z)))

pub done : {A : Type 0} (n : ℕ) (x y made : A) → n ≡ 0 → made ≡ x → made ≡ beside n x y
done n x y made e p = p ∙ sym (beside_zero n x y e)

-- what `?` hands on is the refusal itself
pub handed_on : {A : Type 0} {r : Result A Refusal} {q : Refusal} → IsErrAnd r (λ p. p ≡ q) → r ≡ Err q
handed_on {r = Ok x} e = absurd e
handed_on {r = Err p} e = ap Err e

-- and a reason that it is not in one answer it is not in another
pub kept_reason : {A B : Type 0} {q p : Refusal} → (◌≡◌ {A = Result A Refusal} (Err q) (Err p) → ⊥)
    → ◌≡◌ {A = Result B Refusal} (Err q) (Err p) → ⊥
kept_reason {q = q} {p = p} other e = let same : q ≡ p = cc in other (ap Err same)

-- tests whose number is not a reason's do not give that reason
pub other_reason : {A : Type 0} {t : Result A Refusal} {n : ℕ} → number_of t ≡ n → (q : Refusal) → (n ≡ refusal_number q → ⊥)
    → t ≡ Err q → ⊥
other_reason e q other p = other (sym e ∙ ap number_of p)

-- an earlier refusal stands, and where there is none the later tests give the number
earlier : (n later : ℕ) → (n ≡ 0 → ⊥) → or_else n later ≡ n
earlier zero later some = absurd (some refl)
earlier (suc k) later some = refl

pub earlier_told : (r : Refusal) (n later : ℕ) → refusal_number r ≡ n → refusal_number r ≡ or_else n later
earlier_told r n later e = e ∙ sym (earlier n later (λ z. some_number r (e ∙ z)))

pub none_earlier : (n later : ℕ) → n ≡ 0 → or_else n later ≡ later
none_earlier n later e = ap (λ (k : ℕ). or_else k later) e

-- tests that give 0 have all passed
pub unless_zero : (ok : Bool) (k later : ℕ) → unless ok (suc k) later ≡ 0 → (ok ≡ true) × (later ≡ 0)
unless_zero true k later e = (refl, e)
unless_zero false k later e = absurd (omega arith)

pub or_else_zero : (n later : ℕ) → or_else n later ≡ 0 → (n ≡ 0) × (later ≡ 0)
or_else_zero zero later e = (refl, e)
or_else_zero (suc k) later e = absurd (omega arith)
