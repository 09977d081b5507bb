-- `gather` meets its contract.
use Prim.Native.Nat.{zero-le}
use mathlib.Core.Path.{◌≡◌, sym, subst, ◌∙◌}
use native.Mathlib.Nat.{le_antisymm, le_of_eq}
use native.Mathlib.Omega.{arith}
use Rattle.lattice.specs.Class.{layout_of}
use Rattle.lattice.specs.Listing.{checks_to, ListsChecks}
use Rattle.lattice.proofs.theory.Runs.{checks_none, next_run, last_run, behind_check}
use Rattle.codec.specs.Field.{field_of, having}
use Rattle.codec.specs.Packing.{HoldsBytes}
use Rattle.codec.proofs.theory.Gathered.{gathered_none, gathered_check}
use Rattle.codec.proofs.gather.ListedChecks.{lists_cells, listed_inside, checks_before}
use Rattle.codec.proofs.gather.gather.Goals.{At-loop-k}
use Rattle.codec.proofs.gather.gather.Goals as goal

pub loop-k-init : goal.loop-k-init
loop-k-init c = (zero-le, λ L same lists. (checks_none L, gathered_none L _ _ c.requires.by_index))

-- the list of the shape's own checks
module _ (c : At-loop-k) where
  own :
      ListsChecks (layout_of c.args.shape) c.args.cells c.args.amount c.args.checks.now
  own = lists_cells _ _ _ _ c.requires.cells_value c.requires.amount_le_max_checks.1

  -- what the loop says of it
  before : checks_to (layout_of c.args.shape) c.loop-k.begin ≡ c.loop-k.k
  before = (c.loop-k.invariant.1 _ (sym c.requires.cells_value) own).0

pub gather_run-requires : goal.gather_run-requires
gather_run-requires c =
    let turn = c.loop-k in
    let inside = c.loop-k-test.true in
    let here = before (goal.at.gather_run-requires c).At-loop-k in
    let run = next_run _ _ _ _ (own (goal.at.gather_run-requires c).At-loop-k) (le_of_eq c.requires.cells_value) turn.k
    turn.begin turn.invariant.0 here
    inside in
    let stops = listed_inside _ _ _ _ c.requires.cells_value c.requires.amount_le_max_checks.1 _ inside in
    record {
      k_le_begin = (
        checks_before _ _ _ here,
        run.ordered,
        omega (
          arith,
          c.requires.cells_value,
          c.requires.field_fits.0.long,
          stops,
        ),
      );
      received = c.requires.field_fits.1;
    }

pub loop-k-preserved : goal.loop-k-preserved
loop-k-preserved c =
    let turn = c.loop-k in
    let inside = c.loop-k-test.true in
    let part = c.gather_run in (
      omega (arith, listed_inside _ _ _ _ c.requires.cells_value c.requires.amount_le_max_checks.1 _ inside),
      λ L same lists.
          let held = turn.invariant.1 L same lists in
          let run = next_run L _ _ _ lists (omega arith) turn.k turn.begin turn.invariant.0 held.0 inside in (
            (behind_check L _ _ _ lists (omega arith) _ inside).1,
            gathered_check L _ _ _ (part.ensures L run held.1) (lists.at _ inside).check,
          ),
    )

pub gather_run-requires-2 : goal.gather_run-requires-2
gather_run-requires-2 c =
    let turn = c.loop-k in
    let all : turn.k ≡ c.args.amount = le_antisymm turn.auto.k-end c.loop-k-test.false in
    record {
      k_le_begin = (
        omega (arith, checks_before _ _ _ (before (goal.at.gather_run-requires-2 c).At-loop-k)),
        turn.invariant.0,
        le_of_eq (c.requires.cells_value ∙ sym c.requires.field_fits.0.long),
      );
      received = c.requires.field_fits.1;
    }

pub returns : goal.returns
returns c =
    let turn = c.loop-k in
    let lists = own (goal.at.returns c).At-loop-k in
    let last = c.gather_run-2 in
    let all : turn.k
    ≡ c.args.amount = le_antisymm turn.auto.k-end c.loop-k-test.false in
    let held = turn.invariant.1 _ (sym c.requires.cells_value) lists in
    let run = last_run _ _ _ _ lists (le_of_eq c.requires.cells_value) turn.begin turn.invariant.0 (held.0 ∙ all) in
    subst (HoldsBytes (layout_of c.args.shape) (having 1 (field_of c.args.field.now)) last.new.payload)
    c.requires.cells_value (last.ensures _ run held.1)
