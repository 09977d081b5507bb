-- The answers: what a contract says of the number of each, and of what it gives where it has no refusal.
use Rattle.std.specs.Prelude.{ℕ, Bool, false, ◌≡◌, is_none, Result, Ok, Err}
use Rattle.lattice.specs.declared.refusal.Refusal.{Refusal}
use Rattle.lattice.specs.declared.shape.Shape.{Shape}
use Rattle.lattice.specs.declared.shape.ShapeNumbers.{ShapeNumbers}
use Rattle.lattice.specs.declared.distance.Triple.{Triple}
use Rattle.lattice.specs.declared.distance.Trial.{Trial}
use Rattle.lattice.specs.Refusal.{number_of, figure_of, NoLength, beside}
use Rattle.lattice.specs.Shape.{no_window, shape_from, shape_number}
use Rattle.lattice.specs.Cell.{Cell}
use Rattle.lattice.specs.Class.{class_number, class_given}
use Rattle.lattice.specs.Order.{origin, or_origin}
use Rattle.lattice.specs.DistanceTest.{test_number, verdict, found_triple, triples_tried}

-- what stands for the shape beside a refusal: every number is 0
abbrev pub no_shape : Shape
no_shape = record { columns = 0; rows = 0; planes = 0; strength = 0; window = no_window }

-- the shape that the constructor gives
abbrev pub new_shape : Result Shape Refusal → Shape
new_shape (Ok s) = s
new_shape (Err q) = no_shape

-- the number, and the shape of the numbers given, all 0 beside a refusal
pub record IsNewShape (n : ShapeNumbers) (r : Result Shape Refusal) : Type 0 where
  pub number : number_of r ≡ shape_number (shape_from n)
  pub shape : new_shape r ≡ beside (shape_number (shape_from n)) (shape_from n) no_shape

-- the number, and the class, 0 beside a refusal; of the two reasons with the number 4 it is not a field's length
pub record IsCellClass (s : Shape) (x : Cell) (r : Result ℕ Refusal) : Type 0 where
  pub number : number_of r ≡ class_number s x
  pub class : figure_of r ≡ class_given s x
  pub reason : NoLength r

-- the verdict that the distance test gives: yes where no triple fails, and no beside a refusal
abbrev pub distance_verdict : Result Trial Refusal → Bool
distance_verdict (Ok t) = is_none t.failing
distance_verdict (Err q) = false

-- its triple, (0, 0, 0) where there is none
abbrev pub distance_triple : Result Trial Refusal → Triple
distance_triple (Ok t) = or_origin t.failing
distance_triple (Err q) = origin

-- and its counter
abbrev pub distance_tried : Result Trial Refusal → ℕ
distance_tried (Ok t) = t.tried
distance_tried (Err q) = 0

-- the number, the verdict, the triple found or (0, 0, 0), and the counter of triples tried
pub record IsDistanceTest (m b c t : ℕ) (r : Result Trial Refusal) : Type 0 where
  pub number : number_of r ≡ test_number m b c t
  pub verdict : distance_verdict r ≡ verdict m b c t
  pub triple : distance_triple r ≡ found_triple m b c t
  pub tried : distance_tried r ≡ triples_tried m b c t
