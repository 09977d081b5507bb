-- `sizes_by_slices` meets its contract. The loop's invariant: the entries before a are set, and the others are as they were.
use Prim.Native.Nat.{◌*◌, ◌/◌, ◌%◌, ◌<◌, ◌≤◌}
use mathlib.Core.Path.{◌≡◌, ap₂}
use native.Mathlib.Nat.{mod-lt}
use native.Mathlib.Omega.{arith}
use lib.ListN.{length, length-set}
use Rattle.lattice.specs.Shape.{max_cells}
use Rattle.lattice.specs.Lines.{among}
use Rattle.lattice.proofs.theory.PassRoom.{pass_narrow}
use Rattle.lattice.proofs.theory.SizesByLines.{most, period_least, lines_most_lem, slice_below, share_most, shares_right}
use Rattle.lattice.proofs.theory.Stores.{store_more, store_left}
use Rattle.lattice.proofs.by_lines.sizes_by_slices.Goals.{After-share-columns}
use Rattle.lattice.proofs.by_lines.sizes_by_slices.Goals as goal

pub nonzero_div-a : goal.nonzero_div-a
nonzero_div-a c =
    let p = c.requires.of_shape.0 in
    omega (arith, period_least p.shape p.accepted _ p.same)

pub share-lines-requires : goal.share-lines-requires
share-lines-requires c =
    let p = c.requires.of_shape.0 in (
      slice_below p.shape p.accepted _ p.same _ c.loop-a-test.true,
      lines_most_lem p.shape p.accepted _ p.same,
    )

pub nonzero_rem-a : goal.nonzero_rem-a
nonzero_rem-a c =
    let p = c.requires.of_shape.0 in
    omega (arith, period_least p.shape p.accepted _ p.same)

pub share-columns-requires : goal.share-columns-requires
share-columns-requires c =
    let p = c.requires.of_shape.0 in (
      mod-lt _ (period_least p.shape p.accepted _ p.same),
      omega (arith, pass_narrow p.shape p.accepted _ p.same),
    )

-- the product of a turn
module _ (c : After-share-columns) where
  entry :
      let pass = c.args.pass in
      let a = c.loop-a.a in
      c.share-lines.result * c.share-columns.result
      ≡ among pass.slices (a / pass.period) pass.lines * among pass.period (a % pass.period) pass.columns
  entry = ap₂ ◌*◌ c.share-lines.ensures c.share-columns.ensures

  small : c.share-lines.result * c.share-columns.result ≤ max_cells
  small =
      let p = c.requires.of_shape.0 in
      omega (
        arith,
        entry,
        share_most p.shape p.accepted _ p.same c.requires.of_shape.1 _ c.loop-a-test.true,
      )

  place : c.loop-a.a
      < length c.loop-a.sizes
  place =
      let p = c.requires.of_shape.0 in
      omega (arith, most p.shape p.accepted _ p.same)

pub overflow_mul-sizes : goal.overflow_mul-sizes
overflow_mul-sizes c = omega (arith, small c)

pub overflow_cast-sizes : goal.overflow_cast-sizes
overflow_cast-sizes c = omega (arith, small c)

pub offset_bounds-sizes-a : goal.offset_bounds-sizes-a
offset_bounds-sizes-a c = omega (arith, place c)

pub bounds-sizes-a : goal.bounds-sizes-a
bounds-sizes-a c = omega (arith, place c)

pub loop-a-preserved : goal.loop-a-preserved
loop-a-preserved c =
    let pass = c.args.pass in
    let turn = c.loop-a in (
      omega arith,
      simp length-set turn.invariant.1,
      store_more
          (λ k n. n
          ≡ among pass.slices (k / pass.period) pass.lines
          * among pass.period (k % pass.period) pass.columns)
          turn.sizes _ _ (place c) turn.invariant.2 (entry c),
      store_left c.args.sizes.now turn.sizes _ _ turn.invariant.3,
    )

pub returns : goal.returns
returns c =
    let turn = c.loop-a in
    λ s accepted same. shares_right s accepted _ same c.requires.of_shape.1 c.args.sizes.now turn.sizes c.requires.by_index
    (λ k l. turn.invariant.2 k (omega arith)) (λ k l. turn.invariant.3 k (omega arith))
