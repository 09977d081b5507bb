-- Refusals: their numbers, the number that a list of conditions settles by the order of the list, and what comes beside a number.
use Rattle.std.specs.Prelude.{ℕ, zero, suc, Bool, true, false, List, [], ◌∷◌, ◌≢◌, ◌⊎◌, ◌↔◌, ◌≡◌, Result, Ok, Err}
use Rattle.lattice.specs.declared.refusal.Refusal.{Refusal}
use Rattle.lattice.specs.declared.refusal.Refusal.TheVariants as why

-- the papers' number of each reason; a field whose length is wrong and a cell outside the shape are both 4
abbrev pub refusal_number : Refusal → ℕ
refusal_number why.BadSize = 1
refusal_number why.BadStrength = 2
refusal_number why.PayloadLength = 3
refusal_number why.FieldLength = 4
refusal_number why.OutsideShape = 4
refusal_number why.BadCell = 5
refusal_number why.OutOfReach = 6
refusal_number why.BadPadding = 7
refusal_number why.BadForm = 8
refusal_number why.BadSettings = 9
refusal_number why.TooManyErasures = 10
refusal_number why.BadWindow = 11
refusal_number why.BadLevel = 12

-- the number of an answer, or of what tests give: 0 where there is no refusal
abbrev pub number_of : {A : Type 0} → Result A Refusal → ℕ
number_of (Ok x) = 0
number_of (Err q) = refusal_number q

-- the figure that is an answer, 0 beside a refusal
abbrev pub figure_of : Result ℕ Refusal → ℕ
figure_of (Ok n) = n
figure_of (Err q) = 0

-- of the two reasons with the number 4, a cell that lies outside the shape is never given as a length, nor a length as such a
-- cell
abbrev pub NoLength : {A : Type 0} → Result A Refusal → Type 0
NoLength r = r ≢ Err why.FieldLength

abbrev pub NoOutside : {A : Type 0} → Result A Refusal → Type 0
NoOutside r = r ≢ Err why.OutsideShape

-- a number that an operation may give, with the condition under which it is due
pub record Listed : Type 1 where
  pub number : ℕ
  pub condition : Type 0

abbrev pub listed : ℕ → Type 0 → Listed
listed k P = record { number = k; condition = P }

-- the same with a condition on what an operation is given
pub record Condition (A : Type 0) : Type 1 where
  pub number : ℕ
  pub holds : A → Type 0

abbrev pub numbered : {A : Type 0} → ℕ → (A → Type 0) → Condition A
numbered k P = record { number = k; holds = P }

-- the refusals that such conditions list, where each is asked in its own way: of x itself, for one
abbrev pub listed_by : {A : Type 0} → ((A → Type 0) → Type 0) → List (Condition A) → List Listed
listed_by ask [] = []
listed_by ask (c ∷ cs) = listed c.number (ask c.holds) ∷ listed_by ask cs

abbrev pub listed_at : {A : Type 0} → List (Condition A) → A → List Listed
listed_at cs x = listed_by (λ P. P x) cs

-- none of the conditions holds
abbrev pub NoneHolds : List Listed → Type 0
NoneHolds [] = Unit {0}
NoneHolds (r ∷ rs) = (¬ r.condition) × NoneHolds rs

-- the first of the listed conditions that holds has the number k; a number may be listed more than once
abbrev pub FirstIs : ℕ → List Listed → Type 0
FirstIs k [] = ⊥
FirstIs k (r ∷ rs) = (r.condition × (r.number ≡ k)) ⊎ ((¬ r.condition) × FirstIs k rs)

-- n is 0 exactly when none of the conditions holds, and another number exactly when the first that holds has it; so no other
-- number is given
abbrev pub Settled : List Listed → ℕ → Type 0
Settled rs n = ((n ≡ 0) ↔ NoneHolds rs) × ((k : ℕ) → (n ≡ suc k) ↔ FirstIs (suc k) rs)

-- the number k where a test fails, else what the later tests give
abbrev pub unless : Bool → ℕ → ℕ → ℕ
unless true k later = later
unless false k later = k

-- the number of earlier tests or, where it is 0, what later tests give
abbrev pub or_else : ℕ → ℕ → ℕ
or_else zero later = later
or_else (suc k) later = suc k

-- what comes with a number: x beside 0, and y beside any other
abbrev pub beside : {A : Type 0} → ℕ → A → A → A
beside zero x y = x
beside (suc k) x y = y

-- a figure that comes with a number: itself beside 0, and 0 beside any other number
abbrev pub figure : ℕ → ℕ → ℕ
figure n x = beside n x 0
