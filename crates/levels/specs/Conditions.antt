-- Demand 1 for fields of levels: each refusal's condition by itself, and each operation's in the listed order.
use Rattle.std.specs.Prelude.{ℕ, ◌<◌, List, [], ◌∷◌, ◌++◌, ◌≢◌, length, get_or}
use Rattle.lattice.specs.declared.shape.Shape.{Shape}
use Rattle.lattice.specs.Refusal.{Listed, listed}
use Rattle.lattice.specs.Shape.{shape_refusals}
use Rattle.codec.specs.Field.{field_of}
use Rattle.codec.specs.Plan.{plan_digits}
use Rattle.codec.specs.Conditions.{WrongFieldLength}
use Rattle.levels.specs.Level.{max_level}
use Rattle.levels.specs.Reach.{NoWordInReach}

-- 3: a payload whose length isn't the plan's
abbrev pub WrongDigits : Shape → List ℕ → Type 0
WrongDigits s payload = length payload ≢ plan_digits s

-- 12: some digit or cell is above 24
abbrev pub AboveLevel : List ℕ → Type 0
AboveLevel bytes = (i : ℕ) × (i < length bytes) × (max_level < get_or bytes i 0)

-- 6: some word comes from no lawful word of levels by a change of −1 to +3 in at most one cell
abbrev pub levels_refusals : Shape → List ℕ → List Listed
levels_refusals s field =
    listed 4 (WrongFieldLength s field)
    ∷ listed 12 (AboveLevel field)
    ∷ listed 6 (NoWordInReach s (field_of field))
    ∷ []

-- the refusals of each operation, in the listed order
abbrev pub encode_levels_refusals : Shape → List ℕ → List ℕ → List Listed
encode_levels_refusals s payload field =
    shape_refusals s
    ++ (listed 3 (WrongDigits s payload) ∷ listed 4 (WrongFieldLength s field) ∷ listed 12 (AboveLevel payload) ∷ [])

abbrev pub decode_levels_refusals : Shape → List ℕ → List ℕ → List Listed
decode_levels_refusals s payload field = shape_refusals s ++ (listed 3 (WrongDigits s payload) ∷ levels_refusals s field)

abbrev pub correct_levels_refusals : Shape → List ℕ → List Listed
correct_levels_refusals s field = shape_refusals s ++ levels_refusals s field
