-- Demand 1: each refusal's condition by itself, and each operation's in the listed order.
use Rattle.std.specs.Prelude.{ℕ, ◌<◌, ◌≤◌, false, List, [], ◌∷◌, ◌++◌, ◌≢◌, ◌≡◌, length}
use Rattle.lattice.specs.declared.shape.Shape.{Shape}
use Rattle.lattice.specs.Refusal.{Listed, listed}
use Rattle.lattice.specs.Shape.{shape_refusals, cells_of}
use Rattle.lattice.specs.Class.{layout_of}
use Rattle.codec.specs.Field.{Field, field_of, Cells, is_received}
use Rattle.codec.specs.Hamming.{Codeword}
use Rattle.codec.specs.Erasure.{erasures, Near}
use Rattle.codec.specs.Code.{tags_at}
use Rattle.codec.specs.Plan.{plan_bytes, plan_cells}
use Rattle.codec.specs.Reach.{WrongInReach}

-- 3: a payload whose length isn't the plan's
abbrev pub WrongPayloadLength : Shape → List ℕ → Type 0
WrongPayloadLength s payload = length payload ≢ plan_bytes s

-- 4: a field whose length isn't the plan's
abbrev pub WrongFieldLength : Shape → List ℕ → Type 0
WrongFieldLength s field = length field ≢ plan_cells s

-- 5: one of n bytes is no cell and no erasure: it is above 2
abbrev pub NotACell : Field → ℕ → Type 0
NotACell f n = (i : ℕ) × (i < n) × (is_received (f i) ≡ false)

-- 10: some class has three erasures or more
abbrev pub ManyErasures : Shape → Field → Type 0
ManyErasures s f = (a : ℕ) × (3 ≤ erasures (layout_of s) f a)

-- 6: some class may stand for no codeword: with no erasure in it none differs in at most one cell, else none agrees with every
-- cell that was read
abbrev pub NoneInReach : Shape → Field → Type 0
NoneInReach s f =
    (a : ℕ) × ((g : Field) → Cells g (cells_of s) → Near (layout_of s) f g a → Codeword (layout_of s) (tags_at s) g a → ⊥)

abbrev pub field_refusals : Shape → List ℕ → List Listed
field_refusals s field =
    listed 4 (WrongFieldLength s field)
    ∷ listed 5 (NotACell (field_of field) (length field))
    ∷ listed 10 (ManyErasures s (field_of field))
    ∷ listed 6 (NoneInReach s (field_of field))
    ∷ listed 7 (WrongInReach s (field_of field))
    ∷ []

-- the refusals of each operation, in the listed order
abbrev pub encode_refusals : Shape → List ℕ → List ℕ → List Listed
encode_refusals s payload field =
    shape_refusals s ++ (listed 3 (WrongPayloadLength s payload) ∷ listed 4 (WrongFieldLength s field) ∷ [])

abbrev pub decode_refusals : Shape → List ℕ → List ℕ → List Listed
decode_refusals s payload field = shape_refusals s ++ (listed 3 (WrongPayloadLength s payload) ∷ field_refusals s field)

abbrev pub correct_refusals : Shape → List ℕ → List Listed
correct_refusals s field = shape_refusals s ++ field_refusals s field
