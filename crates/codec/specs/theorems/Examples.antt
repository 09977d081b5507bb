-- The examples of document 01 that are marked to be proved, as one list.
use Rattle.std.specs.Prelude.{true, false, List, [], ◌∷◌, ◌≡◌, pos, negsuc}
use Rattle.lattice.specs.Shape.{no_window}
use Rattle.lattice.specs.declared.shape.Shape.{Shape}
use Rattle.lattice.specs.Settings.{flat_settings}
use Rattle.lattice.specs.Cell.{cell}
use Rattle.lattice.specs.Class.{class_with}
use Rattle.lattice.specs.Check.{checks}
use Rattle.lattice.specs.Order.{triple, origin}
use Rattle.lattice.specs.DistanceTest.{test_number, verdict, found_triple, triples_tried}
use Rattle.codec.specs.Plan.{plan_number, plan_capacity, plan_bytes}
use Rattle.codec.specs.Decode.{decode_number, decode_count, decode_leaves}

-- 5 by 5 of strength 3, and 2 by 1 of strength 1
abbrev pub five : Shape
five = record { columns = 5; rows = 5; planes = 1; strength = 3; window = no_window }

abbrev pub pair : Shape
pair = record { columns = 2; rows = 1; planes = 1; strength = 1; window = no_window }

-- all of a list of statements
abbrev pub All : List (Type 0) → Type 0
All [] = Unit {0}
All (P ∷ Ps) = P × All Ps

unfoldable pub paper_examples : List (Type 0)
paper_examples =
    -- flat t = 4: row 1, column 0 is class 3; t = 5: row 12, column 0 is class 5
    (class_with (flat_settings 4) (cell 1 0 0) ≡ 3)
    ∷ (class_with (flat_settings 5) (cell 12 0 0) ≡ 5)
    -- n = 0, 1, 2, 3, 7, 8 have 0, 1, 2, 2, 3, 4 checks
    ∷ (checks 0 ≡ 0)
    ∷ (checks 1 ≡ 1)
    ∷ (checks 2 ≡ 2)
    ∷ (checks 3 ≡ 2)
    ∷ (checks 7 ≡ 3)
    ∷ (checks 8 ≡ 4)
    -- 5 by 5, t = 3: K = 10, one byte
    ∷ (plan_number five ≡ 0)
    ∷ (plan_capacity five ≡ 10)
    ∷ (plan_bytes five ≡ 1)
    -- 2 by 1, t = 1: cells 0 1 read with count 1 and an empty payload; cells 1 1 give 6
    ∷ (decode_number pair [] (0 ∷ 1 ∷ []) ≡ 0)
    ∷ (decode_count pair [] (0 ∷ 1 ∷ []) ≡ 1)
    ∷ (decode_leaves pair [] (0 ∷ 1 ∷ []) ≡ [])
    ∷ (decode_number pair [] (1 ∷ 1 ∷ []) ≡ 6)
    -- gauge 7, 2, 3 holds at t = 3 after 12 triples; at t = 4 it stops at (0, 2, −1), the 9th
    ∷ (test_number 7 2 3 3 ≡ 0)
    ∷ (verdict 7 2 3 3 ≡ true)
    ∷ (found_triple 7 2 3 3 ≡ origin)
    ∷ (triples_tried 7 2 3 3 ≡ 12)
    ∷ (test_number 7 2 3 4 ≡ 0)
    ∷ (verdict 7 2 3 4 ≡ false)
    ∷ (found_triple 7 2 3 4 ≡ triple (pos 0) (pos 2) (negsuc 0))
    ∷ (triples_tried 7 2 3 4 ≡ 9)
    ∷ []

-- Theorem. The examples hold.
abbrev pub PaperExamples : Type 0
PaperExamples = All paper_examples
