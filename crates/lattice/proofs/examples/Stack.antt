-- Examples in a stack that meet the hypotheses of the theorems on placing: 7 columns, 5 rows and 2 planes of strength 3, and a
-- hole across both planes.
use Prim.Native.Nat.{ℕ}
use mathlib.Core.Logic.{◌≢◌}
use mathlib.Core.Path.{◌≡◌, refl, ap}
use native.Mathlib.Omega.{arith}
use lib.Dec.{T, ltb, lit<}
use Rattle.lattice.specs.declared.shape.Shape.{Shape}
use Rattle.lattice.specs.Range.{in_range}
use Rattle.lattice.specs.Shape.{no_window, is_none, max_strength, size_ok, strength_ok, window_ok, shape_number, Accepted}
use Rattle.lattice.specs.Settings.{stack_table, stack_settings, settings_for}
use Rattle.lattice.specs.Cell.{Cell, cell, InField}
use Rattle.lattice.specs.Cluster.{by_plane, by_column, Cluster, AtMost, apart}
use Rattle.lattice.specs.Class.{minus_mod, class_with, class_of}
use Rattle.lattice.proofs.theorems.Clusters.{cluster_classes}
use Rattle.lattice.proofs.examples.ThreeCells.{Among, cluster_of_three, at_most_three}

abbrev pub stack : Shape
stack = record { columns = 7; rows = 5; planes = 2; strength = 3; window = no_window }

pub stack_accepted : Accepted stack
unfolding shape_number size_ok strength_ok window_ok is_none max_strength in_range
stack_accepted = refl

-- two different cells of one class, in different planes
pub stack_mates : class_of stack (cell 0 0 0) ≡ class_of stack (cell 1 1 5)
unfolding class_of class_with minus_mod settings_for stack_settings stack_table
stack_mates = refl

pub stack_mates_differ : cell 0 0 0 ≢ cell 1 1 5
stack_mates_differ e = let z : ◌≡◌ {A = ℕ} 0 1 = ap (λ (x : Cell). x.row) e in omega arith

in_stack : (r p c : ℕ) → T (ltb r 5) → T (ltb p 2) → T (ltb c 7) → InField stack (cell r p c)
in_stack r p c hr hp hc = record { row = lit< hr; plane = lit< hp; column = lit< hc }

-- a hole: row 2, column 3 in both planes, and its neighbour in the second
abbrev pub OfHole : Cell → Type 0
OfHole = Among (cell 2 0 3) (cell 2 1 3) (cell 2 1 4)

pub hole_cluster : Cluster stack OfHole
unfolding apart
hole_cluster =
    cluster_of_three stack (cell 2 0 3) (cell 2 1 3) (cell 2 1 4) (by_plane refl refl refl) (by_column refl refl refl)
    (in_stack 2 0 3 tt tt tt) (in_stack 2 1 3 tt tt tt) (in_stack 2 1 4 tt tt tt)

pub hole_few : AtMost 3 OfHole
hole_few = at_most_three (cell 2 0 3) (cell 2 1 3) (cell 2 1 4)

-- so its cells lie in different classes
pub hole_classes : (x y : Cell) → OfHole x → OfHole y → class_of stack x ≡ class_of stack y → x ≡ y
hole_classes x y mx my same = cluster_classes stack stack_accepted OfHole hole_cluster hole_few x y mx my same
