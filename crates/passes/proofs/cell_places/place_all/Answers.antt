-- `place_all` meets its contract.
use Prim.Native.Nat.{◌≤◌}
use native.Mathlib.Omega.{arith}
use Rattle.lattice.specs.Shape.{max_classes}
use Rattle.lattice.specs.Class.{layout_of}
use Rattle.passes.proofs.cell_places.Given.{cells_more}
use Rattle.lattice.proofs.theory.SizesByLines.{most}
use Rattle.passes.proofs.cell_places.place_all.Goals.{Start}
use Rattle.passes.proofs.cell_places.place_all.Goals as goal

-- the lists have a place for each class
few : (e : Start) → e.args.pass.classes ≤ max_classes
few e =
    let p = e.requires.0 in
    most p.shape p.accepted _ p.same

pub offset_bounds-positions-a : goal.offset_bounds-positions-a
offset_bounds-positions-a c = omega (arith, few (goal.at.offset_bounds-positions-a c).Start)

pub bounds-positions-a : goal.bounds-positions-a
bounds-positions-a c = omega (arith, few (goal.at.bounds-positions-a c).Start)

pub offset_bounds-cells-a : goal.offset_bounds-cells-a
offset_bounds-cells-a c = omega (arith, few (goal.at.offset_bounds-cells-a c).Start)

pub bounds-cells-a : goal.bounds-cells-a
bounds-cells-a c = omega (arith, few (goal.at.bounds-cells-a c).Start)

pub loop-a-preserved : goal.loop-a-preserved
loop-a-preserved c =
    let turn = c.loop-a in
    λ s accepted same.
    cells_more (layout_of s) turn.a c.cell_at.result c.args.positions.now turn.cells
    (omega (arith, few (goal.at.loop-a-preserved c).Start)) (turn.invariant s accepted same) (c.cell_at.ensures s accepted same)
