-- `fill_plane` meets its contract. The loop's invariant: the part is filled up to the run that is next.
use Prim.Native.Nat.{◌+◌, ◌≤◌}
use mathlib.Core.Path.{◌∙◌}
use native.Mathlib.Nat.{le_antisymm, le_trans}
use native.Mathlib.Omega.{arith}
use lib.ListN.{length, length-set}
use Rattle.lattice.specs.Class.{layout_of}
use Rattle.lattice.specs.Listing.{Run}
use Rattle.lattice.specs.Shape.{max_cells}
use Rattle.codec.specs.Filling.{ToFill, AtRun}
use Rattle.codec.proofs.fill.Runs.{this_run, few_before, run_check, run_last}
use Rattle.codec.proofs.fill.Plane.{plane_limit, plane_room, plane_fill, plane_filled}
use Rattle.codec.proofs.fill.fill_plane.Goals.{After-run_end-to, At-loop-to}
use Rattle.codec.proofs.fill.fill_plane.Goals as goal

-- the cells of the plane are to be filled
fill : (c : After-run_end-to)
    → let e = c.args in
    ToFill (layout_of e.shape) e.payload.now e.checks.now e.amount (e.at + c.plane_cells.result)
fill c =
    plane_fill _ _ _ _ _ _ _ _ c.requires.checks_listed c.requires.at_plane c.plane_cells.ensures

-- the run that is next
next : (c : At-loop-to)
    → let e = c.args in
    AtRun (layout_of e.shape) e.payload.now e.part.now c.loop-to.part e.at c.loop-to.k c.loop-to.from
    (e.at + c.plane_cells.result) c.loop-to.to
next c = c.loop-to.invariant.2 _ (plane_fill _ _ _ _ _ _ _ _ c.requires.checks_listed c.requires.at_plane c.plane_cells.ensures)
    c.requires.at_plane.counted

run : (c : At-loop-to)
    → Run (layout_of c.args.shape) c.loop-to.k c.loop-to.from c.loop-to.to
run c = this_run _ _ _ _ _ _ _ _ _ (next c)

few : (c : At-loop-to) → c.loop-to.k ≤ c.loop-to.from
few c = few_before _ _ _ _ _ _ _ _ _ (next c)

-- the end of the plane is the number of a cell, and lies in the part
limit : (c : At-loop-to)
    → c.args.at + c.plane_cells.result ≤ max_cells
limit c =
    plane_limit _ _ _ _ _ _ _ _ c.requires.checks_listed c.requires.at_plane c.plane_cells.ensures

room : (c : At-loop-to)
    → let e = c.args in
    e.at + c.plane_cells.result ≤ e.at + length c.loop-to.part
room c =
    rw c.loop-to.invariant.1 (plane_room _ _ _ _ _ _ _ _ c.requires.checks_listed c.requires.at_plane c.plane_cells.ensures)

pub scatter_run-requires : goal.scatter_run-requires
scatter_run-requires c = (
  few (goal.at.scatter_run-requires c).At-loop-to,
  (next (goal.at.scatter_run-requires c).At-loop-to).behind,
  (run (goal.at.scatter_run-requires c).At-loop-to).ordered,
  le_trans c.loop-to.invariant.0
      (room (goal.at.scatter_run-requires c).At-loop-to),
)

pub overflow_add-k : goal.overflow_add-k
overflow_add-k c =
    omega (
      arith,
      limit (goal.at.overflow_add-k c).At-loop-to,
      few (goal.at.overflow_add-k c).At-loop-to,
      (next (goal.at.overflow_add-k c).At-loop-to).inside,
    )

pub loop-to-preserved : goal.loop-to-preserved
loop-to-preserved c =
    let scattered = c.scatter_run in
    let inside = c.loop-to-test.true in (
      c.run_end-to-in-loop-to.ensures.0,
      simp length-set (scattered.auto.part ∙ c.loop-to.invariant.1),
      λ L f counted.
          run_check L _ _ _ _ _ _ _ _ (c.loop-to.invariant.2 L f counted) f.long _ _ inside
          scattered.ensures (omega (
            arith,
            c.scatter_run.auto.part,
            room (goal.at.loop-to-preserved c).At-loop-to,
            (next (goal.at.loop-to-preserved c).At-loop-to).behind,
            (run (goal.at.loop-to-preserved c).At-loop-to).ordered,
          ))
          (c.run_end-to-in-loop-to.ensures.1 L f.lists f.inside),
    )

pub scatter_run-requires-2 : goal.scatter_run-requires-2
scatter_run-requires-2 c = (
  few (goal.at.scatter_run-requires-2 c).At-loop-to,
  (next (goal.at.scatter_run-requires-2 c).At-loop-to).behind,
  (next (goal.at.scatter_run-requires-2 c).At-loop-to).inside,
  room (goal.at.scatter_run-requires-2 c).At-loop-to,
)

pub returns : goal.returns
returns c =
    let scattered = c.scatter_run-2 in
    plane_filled _ _ _ _ _ _ _ _ c.requires.checks_listed c.requires.at_plane c.plane_cells.ensures _ _
    (scattered.auto.part ∙ c.loop-to.invariant.1)
    (run_last _ _ _ _ _ _ _ _ _ (next (goal.at.returns c).At-loop-to) (fill (goal.at.returns c).After-run_end-to).long _
    (le_antisymm c.loop-to-test.false c.loop-to.invariant.0) scattered.ensures)
