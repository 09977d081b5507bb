-- The faults of a word of six cells: source document 000, example 5. Each cell counts by its multiplier, modulo 25.
-- For example, a cell with the multiplier 21 that was written as 7 and is read as 10, changed by +3, leaves 21 × 3 = 63, which is
-- 13 modulo 25; no change of another cell by −1 to +3 leaves 13, and no other change of this one.
use Rattle.std.specs.Prelude.{ℕ, ◌+◌, ◌*◌, ◌%◌, ◌<◌, cond, List, [], ◌∷◌, ◌++◌, ◌≢◌, eqb, get_or}
use Rattle.levels.specs.declared.faults.Fault.{Fault}

-- the multipliers of the cells of a word
abbrev pub multipliers : List ℕ
multipliers = 1 ∷ 5 ∷ 6 ∷ 11 ∷ 16 ∷ 21 ∷ []

unfoldable pub multiplier : ℕ → ℕ
multiplier k = get_or multipliers k 0

-- a fault: a cell of the word, from 0, and its change with 1 added, so that read + 1 = written + up: 0 for −1, and 2, 3, 4 for
-- +1, +2, +3; 1 is no change
abbrev pub fault : ℕ → ℕ → Fault
fault k u = record { cell = k; up = u }

pub record IsFault (k u : ℕ) : Type 0 where
  pub cell : k < 6
  pub low : u < 5
  pub some : u ≢ 1

-- the remainder that the change u − 1 of cell k leaves: multiplier × change, modulo 25, with −1 as 24
unfoldable pub effect : ℕ → ℕ → ℕ
effect k u = multiplier k * (u + 24) % 25

-- the 24 faults, by cell and then by change
abbrev faults_in : ℕ → List Fault
faults_in k = fault k 0 ∷ fault k 2 ∷ fault k 3 ∷ fault k 4 ∷ []

unfoldable pub faults : List Fault
faults = faults_in 0 ++ (faults_in 1 ++ (faults_in 2 ++ (faults_in 3 ++ (faults_in 4 ++ faults_in 5))))

-- no fault: no change of the first cell
abbrev pub none : Fault
none = fault 0 1

-- the first of the listed faults that leaves r
abbrev pub first_leaving : ℕ → List Fault → Fault
first_leaving r [] = none
first_leaving r (x ∷ xs) = cond (eqb (effect x.cell x.up) r) x (first_leaving r xs)

-- the fault that leaves the remainder r
unfoldable pub fault_of : ℕ → Fault
fault_of r = first_leaving r faults

-- the change of cell k, with 1 added, in a word with the remainder r
unfoldable pub change : ℕ → ℕ → ℕ
change r k = cond (eqb (fault_of r).cell k) (fault_of r).up 1
