-- Demand 1 for the constructor, the class of a cell and the distance test.
use Rattle.std.specs.Prelude.{ℕ, ◌≢◌, ◌≡◌, false}
use Rattle.lattice.specs.declared.shape.Shape.{Shape}
use Rattle.lattice.specs.Refusal.{Settled}
use Rattle.lattice.specs.Shape.{shape_number, shape_refusals}
use Rattle.lattice.specs.Cell.{Cell}
use Rattle.lattice.specs.Class.{class_number, class_given, class_refusals}
use Rattle.lattice.specs.Order.{origin}
use Rattle.lattice.specs.DistanceTest.{test_number, test_refusals, verdict, found_triple, triples_tried}

-- Theorem (demand 1). The constructor's number is settled by its refusals in the listed order, for numbers of any size.
abbrev pub ShapeRefused : Type 0
ShapeRefused = (s : Shape) → Settled (shape_refusals s) (shape_number s)

-- Theorem (demand 1). So is the number of the class of a cell.
abbrev pub ClassRefused : Type 0
ClassRefused = (s : Shape) (x : Cell) → Settled (class_refusals s x) (class_number s x)

-- Theorem (demand 1). Beside any number but 0 the class is 0.
abbrev pub ClassRefusedFigure : Type 0
ClassRefusedFigure = (s : Shape) (x : Cell) → class_number s x ≢ 0 → class_given s x ≡ 0

-- Theorem (demand 1). The distance test's number is settled by its refusals in the listed order.
abbrev pub TestRefused : Type 0
TestRefused = (m b c t : ℕ) → Settled (test_refusals m b c t) (test_number m b c t)

-- Theorem. Beside any number but 0 the verdict is no, the triple (0, 0, 0) and the counter 0.
abbrev pub TestRefusedFigures : Type 0
TestRefusedFigures =
    (m b c t : ℕ) → ¬ (test_number m b c t ≡ 0)
    → (verdict m b c t ≡ false) × (found_triple m b c t ≡ origin) × (triples_tried m b c t ≡ 0)
