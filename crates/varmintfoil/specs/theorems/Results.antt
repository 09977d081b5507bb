-- Worked examples of what C is given, with values that tell the members of a struct apart.
use Rattle.std.specs.Prelude.{ℕ, List, [], ◌∷◌, ◌≡◌, pos, negsuc}
use Rattle.lattice.specs.Cell.{cell}
use Rattle.lattice.specs.theorems.Windows.{windowed}
use Rattle.codec.specs.theorems.Examples.{five, pair}
use Rattle.codec.specs.theorems.Worked.{strip}
use Rattle.levels.specs.theorems.Examples.{seven, five_zeros}
use Rattle.varmintfoil.specs.declared.PlanResult.{PlanResult}
use Rattle.varmintfoil.specs.declared.ClassResult.{ClassResult}
use Rattle.varmintfoil.specs.declared.CountResult.{CountResult}
use Rattle.varmintfoil.specs.declared.DistanceResult.{DistanceResult}
use Rattle.varmintfoil.specs.Boundary.{IsPlanResult, IsClassResult, IsEncodeResult, IsDecodeResult, IsCorrectResult}
use Rattle.varmintfoil.specs.Boundary.{IsEncodeLevelResult, IsDecodeLevelResult, IsCorrectLevelResult, IsDistanceResult}

-- Theorem. The examples hold of whatever meets the contracts.
pub record ResultExamples : Type 0 where
  -- 5 by 5 of strength 3 has 5 classes, all of which hold a cell, 10 cells that hold no check, so one byte, and 25 cells; each
  -- class has 5, so none has a word
  pub plan : (r : PlanResult) → IsPlanResult five r
      → (r.number ≡ 0)
      × (r.classes ≡ 5)
      × (r.capacity ≡ 10)
      × (r.bytes ≡ 1)
      × (r.cells ≡ 25)
      × (r.used ≡ 5)
      × (r.digits ≡ 0)
  -- its row 1 and column 1 have the class (1 − 3 × 1) mod 5, and a row 5 it has not
  pub class : (r : ClassResult) → IsClassResult five (cell 1 0 1) r → (r.number ≡ 0) × (r.class_index ≡ 3)
  pub no_class : (r : ClassResult) → IsClassResult five (cell 5 0 1) r → (r.number ≡ 4) × (r.class_index ≡ 0)
  -- by a window of 2 rows and 3 columns 5 by 5 has 6 classes and 9 cells that hold no check, and two of the classes have 6 cells,
  -- a word of five digits; row 3 and column 4 have the class (3 mod 2) × 3 + (4 mod 3)
  pub window_plan : (r : PlanResult) → IsPlanResult (windowed 5 5 2 3) r
      → (r.number ≡ 0)
      × (r.classes ≡ 6)
      × (r.capacity ≡ 9)
      × (r.bytes ≡ 1)
      × (r.cells ≡ 25)
      × (r.used ≡ 6)
      × (r.digits ≡ 10)
  -- by a window of 3 rows and 1 column 9 by 2 has 3 classes, of which 2 hold 9 cells each, 5 of them with no check, and one word
  pub narrow_plan : (r : PlanResult) → IsPlanResult (windowed 9 2 3 1) r
      → (r.number ≡ 0)
      × (r.classes ≡ 3)
      × (r.capacity ≡ 10)
      × (r.bytes ≡ 1)
      × (r.cells ≡ 18)
      × (r.used ≡ 2)
      × (r.digits ≡ 10)
  pub class_by_window : (r : ClassResult) → IsClassResult (windowed 5 5 2 3) (cell 3 0 4) r
      → (r.number ≡ 0) × (r.class_index ≡ 4)
  pub without_window : (r : PlanResult) → IsPlanResult (windowed 5 5 0 3) r
      → (r.number ≡ 11) × (r.classes ≡ 0) × (r.used ≡ 0) × (r.digits ≡ 0)
  -- 2 by 1 of strength 1 takes no byte; of its cells 0 1 one is mended, and 1 1 are out of reach
  pub encode : (last : List ℕ) (r : ℕ) → IsEncodeResult pair (0 ∷ []) (0 ∷ 1 ∷ []) last r
      → (r ≡ 3) × (last ≡ 0 ∷ 1 ∷ [])
  pub decode : (last : List ℕ) (r : CountResult) → IsDecodeResult pair [] (0 ∷ 1 ∷ []) last r
      → (r.number ≡ 0) × (r.count ≡ 1)
  pub no_decode : (last : List ℕ) (r : CountResult) → IsDecodeResult pair [] (1 ∷ 1 ∷ []) last r
      → (r.number ≡ 6) × (r.count ≡ 0)
  pub correct : (last : List ℕ) (r : CountResult) → IsCorrectResult pair (0 ∷ 1 ∷ []) last r
      → (r.number ≡ 0) × (r.count ≡ 1) × (last ≡ 0 ∷ 0 ∷ [])
  pub no_correct : (last : List ℕ) (r : CountResult) → IsCorrectResult pair (1 ∷ 1 ∷ []) last r
      → (r.number ≡ 6) × (r.count ≡ 0) × (last ≡ 1 ∷ 1 ∷ [])
  -- of its cells 0 2 the erased one is filled with 0; 2 2 2 of 3 by 1 are too many erasures
  pub filled : (last : List ℕ) (r : CountResult) → IsCorrectResult pair (0 ∷ 2 ∷ []) last r
      → (r.number ≡ 0) × (r.count ≡ 1) × (last ≡ 0 ∷ 0 ∷ [])
  pub many : (last : List ℕ) (r : CountResult) → IsDecodeResult (strip 3) [] (2 ∷ 2 ∷ 2 ∷ []) last r
      → (r.number ≡ 10) × (r.count ≡ 0)
  -- levels, 7 by 1 of strength 1: a word and an ignored cell, which decoding does not count and correcting does; 25 is no level
  pub encode_levels : (last : List ℕ) (r : ℕ)
      → IsEncodeLevelResult seven (24 ∷ 0 ∷ 1 ∷ 2 ∷ 3 ∷ []) (9 ∷ 9 ∷ 9 ∷ 9 ∷ 9 ∷ 9 ∷ 9 ∷ []) last r
      → (r ≡ 0) × (last ≡ 24 ∷ 24 ∷ 0 ∷ 1 ∷ 2 ∷ 3 ∷ 0 ∷ [])
  pub decode_levels : (last : List ℕ) (r : CountResult)
      → IsDecodeLevelResult seven five_zeros (0 ∷ 4 ∷ 0 ∷ 0 ∷ 0 ∷ 0 ∷ 24 ∷ []) last r
      → (r.number ≡ 0) × (r.count ≡ 1) × (last ≡ 5 ∷ 0 ∷ 0 ∷ 0 ∷ 0 ∷ [])
  pub correct_levels : (last : List ℕ) (r : CountResult)
      → IsCorrectLevelResult seven (0 ∷ 3 ∷ 0 ∷ 0 ∷ 0 ∷ 0 ∷ 9 ∷ []) last r
      → (r.number ≡ 0) × (r.count ≡ 2) × (last ≡ 0 ∷ 0 ∷ 0 ∷ 0 ∷ 0 ∷ 0 ∷ 0 ∷ [])
  pub no_levels : (last : List ℕ) (r : CountResult)
      → IsCorrectLevelResult seven (0 ∷ 3 ∷ 0 ∷ 0 ∷ 0 ∷ 0 ∷ 25 ∷ []) last r
      → (r.number ≡ 12) × (r.count ≡ 0) × (last ≡ 0 ∷ 3 ∷ 0 ∷ 0 ∷ 0 ∷ 0 ∷ 25 ∷ [])
  -- 7, 2, 3 hold at t = 3 after 12 triples; at t = 4 they fail at row 0, plane 2 and column −1, the ninth
  pub holds : (r : DistanceResult) → IsDistanceResult 7 2 3 3 r → (r.number ≡ 0) × (r.holds ≡ 1) × (r.tried ≡ 12)
  pub fails : (r : DistanceResult) → IsDistanceResult 7 2 3 4 r
      → (r.number ≡ 0)
      × (r.holds ≡ 0)
      × (r.row ≡ pos 0)
      × (r.plane ≡ pos 2)
      × (r.column ≡ negsuc 0)
      × (r.tried ≡ 9)
