-- Examples that meet the hypotheses of the theorems on placing, each in the field of 5 columns, 5 rows and 1 plane of strength 3.
use Prim.Native.Nat.{ℕ, ◌+◌, ◌≤◌, ◌<◌}
use mathlib.Core.List.Memᴰ
use mathlib.Core.List.{[], ◌∷◌}
use mathlib.Core.Logic.{◌≢◌}
use mathlib.Core.Path.{◌≡◌, refl, sym, ap, ◌∙◌, subst⁻¹}
use native.Mathlib.Omega.{arith}
use lib.Dec.{T, ltb, lit<, lit≤}
use Rattle.lattice.specs.declared.shape.Shape.{Shape}
use Rattle.lattice.specs.Shape.{no_window, is_none, max_strength, size_ok, strength_ok, window_ok, shape_number}
use Rattle.lattice.specs.Shape.{Accepted, cells_of}
use Rattle.lattice.specs.Range.{in_range}
use Rattle.lattice.specs.Settings.{odd_settings, flat_settings, settings_for, settings_of}
use Rattle.lattice.specs.Cell.{Cell, cell, InField, cell_number, cell_at}
use Rattle.lattice.specs.Cluster.{apart, by_row, by_column, Linked, stay, Cluster, AtMost, Together}
use Rattle.lattice.specs.Labelling.{labels, Separates}
use Rattle.lattice.specs.Class.{minus_mod, class_with, classes_of, class_of, class_at, class_number, inside}
use Rattle.lattice.specs.Endless.{point_of, HasClass}
use Rattle.lattice.specs.theorems.Distance.{PairAt}
use Rattle.lattice.proofs.theory.ByteNumbers.{same_cell}
use Rattle.lattice.proofs.theory.ClassRemainder.{class_point}
use Rattle.lattice.proofs.theory.ClassBelow.{class_below}
use Rattle.lattice.proofs.theorems.Distance.{distance_attained}
use Rattle.lattice.proofs.theorems.Labels.{labels_needed}
use Rattle.lattice.proofs.examples.ThreeCells.{Among, cluster_of_three, at_most_three}

-- a field that the constructor accepts, flat, by strength, and with both sides at least its strength
abbrev pub field : Shape
field = record { columns = 5; rows = 5; planes = 1; strength = 3; window = no_window }

pub accepted : Accepted field
unfolding shape_number size_ok strength_ok window_ok is_none max_strength in_range
accepted = refl

pub flat : field.planes ≡ 1
flat = refl

pub strong : 1 ≤ field.strength
strong = lit≤ tt

pub wide : field.strength ≤ field.columns
wide = lit≤ tt

pub high : field.strength ≤ field.rows
high = lit≤ tt

-- and above it
pub wider : field.strength + 1 ≤ field.columns
wider = lit≤ tt

pub higher : field.strength + 1 ≤ field.rows
higher = lit≤ tt

-- two different cells of the field of one class
abbrev pub corner : Cell
corner = cell 0 0 0

abbrev pub mate : Cell
mate = cell 1 0 3

in_field : (r c : ℕ) → T (ltb r 5) → T (ltb c 5) → InField field (cell r 0 c)
in_field r c hr hc = record { row = lit< hr; plane = lit< tt; column = lit< hc }

pub corner_inside : InField field corner
corner_inside = in_field 0 0 tt tt

pub mate_inside : InField field mate
mate_inside = in_field 1 3 tt tt

pub mates : class_of field corner ≡ class_of field mate
unfolding class_of class_with minus_mod settings_for flat_settings odd_settings
mates = refl

pub mates_differ : corner ≢ mate
mates_differ e = let z : ◌≡◌ {A = ℕ} 0 1 = ap (λ (x : Cell). x.row) e in omega arith

-- a cluster of three cells: two of row 0 and one below the second
abbrev pub OfThree : Cell → Type 0
OfThree = Among corner (cell 0 0 1) (cell 1 0 1)

pub three_cluster : Cluster field OfThree
unfolding apart
three_cluster =
    cluster_of_three field corner (cell 0 0 1) (cell 1 0 1) (by_column refl refl refl) (by_row refl refl refl)
    corner_inside (in_field 0 1 tt tt) (in_field 1 1 tt tt)

pub three_few : AtMost 3 OfThree
three_few = at_most_three corner (cell 0 0 1) (cell 1 0 1)

-- a cell by itself is a cluster; this one is of the class of the first cell of the cluster of three
abbrev pub OfMate : Cell → Type 0
OfMate x = x ≡ mate

pub mate_cluster : Cluster field OfMate
mate_cluster =
    record {
      inside = λ x e. subst⁻¹ (InField field) e mate_inside;
      linked = λ x y p q. subst⁻¹ (λ (z : Cell). Linked OfMate x z) (q ∙ sym p) (stay p);
    }

pub mate_few : AtMost 3 OfMate
mate_few = record { cells = mate ∷ []; few = lit≤ tt; all = λ x e. Memᴰ.head e }

-- two cells of the cluster of three lie together in it
pub three_together : Together field 3 corner (cell 1 0 1)
three_together =
    record {
      set = OfThree;
      cluster = three_cluster;
      small = three_few;
      first = Memᴰ.head refl;
      second = Memᴰ.tail (Memᴰ.tail (Memᴰ.head refl));
    }

-- in any field the labelling by byte number separates the cells of every cluster
pub numbers_separate : (s : Shape) (t : ℕ) → Separates s t (cell_number s)
numbers_separate s t S cluster small x y hx hy e = same_cell s x y (cluster.inside x hx) (cluster.inside y hy) e

-- so the lower bound speaks of it: the field's 25 byte numbers are at least its m = 5
pub five : classes_of field ≡ 5
unfolding classes_of settings_for flat_settings odd_settings
five = refl

pub numbers_needed : classes_of field ≤ labels field (cell_number field)
numbers_needed = labels_needed field flat strong wide high (cell_number field) (numbers_separate field 3)

-- a byte number of the field
pub third : 3 < cells_of field
third = lit< tt

-- a cell that the field does not have is refused, with another number than 0
pub outside_refused : class_number field (cell 5 0 0) ≢ 0
unfolding class_number shape_number size_ok strength_ok window_ok is_none max_strength in_range inside
outside_refused e = omega (arith, e)

-- the two cells of one class, as points of plane 0 of the endless stack
pub corner_class : HasClass (settings_of field) (point_of corner) (class_of field corner)
corner_class = class_point field accepted strong corner

pub mate_class : HasClass (settings_of field) (point_of mate) (class_of field corner)
mate_class = rw mates (class_point field accepted strong mate)

-- every class of the field is below m
pub classes_below_lem : (i : ℕ) → i < cells_of field → class_at field i < classes_of field
classes_below_lem i h = class_below field accepted (cell_at field i)

-- the class of the first cell is given
pub corner_given : class_number field corner ≡ 0
unfolding class_number inside shape_number size_ok strength_ok window_ok is_none max_strength in_range
corner_given = refl

-- two cells of one class of the field at distance exactly 3
pub nearest : PairAt field 3
nearest = distance_attained field flat strong wider higher
