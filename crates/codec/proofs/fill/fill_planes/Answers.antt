-- `fill_planes` meets its contract. The loop's invariant: the field is filled with the planes before z.
use Prim.Native.Nat.{zero-le}
use native.Mathlib.Omega.{arith}
use Rattle.codec.proofs.fill.Planes.{plane_next}
use Rattle.codec.proofs.fill.Planes.{planes_none, planes_more, planes_all}
use Rattle.codec.proofs.fill.fill_planes.Goals as goal

pub loop-z-init : goal.loop-z-init
loop-z-init c = (zero-le, planes_none _ _ _ c.requires.field_len _ c.plane_cells-cells.ensures)

pub fill_plane-k-requires : goal.fill_plane-k-requires
fill_plane-k-requires c =
    let cells = c.plane_cells-cells.ensures in
    let turn = c.loop-z in
    record {
      checks_listed = c.requires.checks_listed;
      at_plane = plane_next _ _ _ c.requires.field_len _ cells _ _ _ turn.invariant.1 c.loop-z-test.true;
    }

pub loop-z-preserved : goal.loop-z-preserved
loop-z-preserved c =
    let inside = c.loop-z-test.true in (
      omega arith,
      planes_more _ _ _ c.requires.field_len _ c.plane_cells-cells.ensures _ _ _ c.loop-z.invariant.1 inside _ _
          c.fill_plane-k.ensures,
    )

pub returns : goal.returns
returns c =
    let turn = c.loop-z in
    let cells = c.plane_cells-cells.ensures in
    planes_all _ _ _ c.requires.field_len _ cells _ _ _ turn.invariant.1 turn.invariant.0 c.loop-z-test.false
