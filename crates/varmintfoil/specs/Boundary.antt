-- The C boundary: what the struct that C is given says of each operation.
use Rattle.std.specs.Prelude.{ℕ, Bool, true, false, List, ◌≡◌}
use Rattle.lattice.specs.declared.shape.Shape.{Shape}
use Rattle.lattice.specs.Cell.{Cell}
use Rattle.lattice.specs.Class.{class_number, class_given}
use Rattle.lattice.specs.DistanceTest.{test_number, verdict, found_triple, triples_tried}
use Rattle.codec.specs.Plan.{plan_number, plan_classes, plan_capacity, plan_bytes, plan_cells, plan_used, plan_digits}
use Rattle.codec.specs.Encode.{encode_number, encode_leaves}
use Rattle.codec.specs.Decode.{decode_number, decode_count, decode_leaves}
use Rattle.codec.specs.Correct.{correct_number, correct_count, correct_leaves}
use Rattle.levels.specs.Encode.{encode_levels_number, encode_levels_leaves}
use Rattle.levels.specs.Decode.{decode_levels_number, decode_levels_count, decode_levels_leaves}
use Rattle.levels.specs.Correct.{correct_levels_number, correct_levels_count, correct_levels_leaves}
use Rattle.varmintfoil.specs.declared.PlanResult.{PlanResult}
use Rattle.varmintfoil.specs.declared.ClassResult.{ClassResult}
use Rattle.varmintfoil.specs.declared.CountResult.{CountResult}
use Rattle.varmintfoil.specs.declared.DistanceResult.{DistanceResult}

-- a verdict as a number: 1 for yes and 0 for no
abbrev pub as_number : Bool → ℕ
as_number true = 1
as_number false = 0

-- the number and the six figures of the plan
pub record IsPlanResult (s : Shape) (r : PlanResult) : Type 0 where
  pub number : r.number ≡ plan_number s
  pub classes : r.classes ≡ plan_classes s
  pub capacity : r.capacity ≡ plan_capacity s
  pub bytes : r.bytes ≡ plan_bytes s
  pub cells : r.cells ≡ plan_cells s
  pub used : r.used ≡ plan_used s
  pub digits : r.digits ≡ plan_digits s

-- the number and the class of a cell
pub record IsClassResult (s : Shape) (x : Cell) (r : ClassResult) : Type 0 where
  pub number : r.number ≡ class_number s x
  pub class : r.class_index ≡ class_given s x

-- encoding's number, and the bytes of the lent field at the end
pub record IsEncodeResult (s : Shape) (payload field last : List ℕ) (r : ℕ) : Type 0 where
  pub number : r ≡ encode_number s payload field
  pub leaves : last ≡ encode_leaves s payload field

-- decoding's number and count, and the bytes of the lent payload at the end
pub record IsDecodeResult (s : Shape) (payload field last : List ℕ) (r : CountResult) : Type 0 where
  pub number : r.number ≡ decode_number s payload field
  pub count : r.count ≡ decode_count s payload field
  pub leaves : last ≡ decode_leaves s payload field

-- correcting's number and count, and the bytes of the lent field at the end
pub record IsCorrectResult (s : Shape) (field last : List ℕ) (r : CountResult) : Type 0 where
  pub number : r.number ≡ correct_number s field
  pub count : r.count ≡ correct_count s field
  pub leaves : last ≡ correct_leaves s field

-- the same of fields of levels
pub record IsEncodeLevelResult (s : Shape) (payload field last : List ℕ) (r : ℕ) : Type 0 where
  pub number : r ≡ encode_levels_number s payload field
  pub leaves : last ≡ encode_levels_leaves s payload field

pub record IsDecodeLevelResult (s : Shape) (payload field last : List ℕ) (r : CountResult) : Type 0 where
  pub number : r.number ≡ decode_levels_number s payload field
  pub count : r.count ≡ decode_levels_count s payload field
  pub leaves : last ≡ decode_levels_leaves s payload field

pub record IsCorrectLevelResult (s : Shape) (field last : List ℕ) (r : CountResult) : Type 0 where
  pub number : r.number ≡ correct_levels_number s field
  pub count : r.count ≡ correct_levels_count s field
  pub leaves : last ≡ correct_levels_leaves s field

-- the distance test's number, its verdict, the triple found and the number of triples tried
pub record IsDistanceResult (m b c t : ℕ) (r : DistanceResult) : Type 0 where
  pub number : r.number ≡ test_number m b c t
  pub holds : r.holds ≡ as_number (verdict m b c t)
  pub row : r.row ≡ (found_triple m b c t).row
  pub plane : r.plane ≡ (found_triple m b c t).plane
  pub column : r.column ≡ (found_triple m b c t).column
  pub tried : r.tried ≡ triples_tried m b c t
