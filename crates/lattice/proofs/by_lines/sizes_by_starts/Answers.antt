-- `sizes_by_starts` meets its contract.
use Prim.Native.Nat.{ℕ, ◌≤◌}
use mathlib.Core.Path.{refl}
use native.Mathlib.Nat.{mod-lt}
use native.Mathlib.Omega.{arith}
use lib.ListN.{get_or}
use Rattle.lattice.specs.Shape.{max_cells, max_classes}
use Rattle.lattice.specs.Lines.{table_of, line_start}
use Rattle.lattice.proofs.theory.LineCounts.{starts_most, zeros_at}
use Rattle.lattice.proofs.theory.SizesByLines.{period_least, period_most, lines_most_lem, base_most, sums_less, sizes_right}
use Rattle.lattice.proofs.by_lines.sizes_by_starts.Goals.{After-count_starts}
use Rattle.lattice.proofs.by_lines.sizes_by_starts.Goals as goal

pub count_starts-requires : goal.count_starts-requires
count_starts-requires c =
    record {
      of_shape = (c.requires.of_shape.0, omega arith);
      by_index = zeros_at max_classes;
    }

-- no place has more lines than there are cells
entry : (c : After-count_starts) → (a : ℕ) → get_or c.count_starts.new.starts a 0 ≤ max_cells
entry c a =
    let p = c.requires.of_shape.0 in
    omega (
      arith,
      c.count_starts.ensures p.shape p.accepted p.same a,
      starts_most (line_start (table_of p.shape) p.shape.rows) a c.args.pass.lines,
      lines_most_lem p.shape p.accepted _ p.same,
    )

pub sum_starts-requires : goal.sum_starts-requires
sum_starts-requires c =
    let p = c.requires.of_shape.0 in
    let low = period_least p.shape p.accepted _ p.same in
    let high = period_most p.shape p.accepted _ p.same in
    record {
      m_nonzero = (low, high, omega (arith, high), omega (arith, high));
      by_index = (λ a l. entry (goal.at.sum_starts-requires c).After-count_starts a);
      heads_value = refl;
    }

pub nonzero_rem-pass : goal.nonzero_rem-pass
nonzero_rem-pass c =
    let p = c.requires.of_shape.0 in
    omega (arith, period_least p.shape p.accepted _ p.same)

pub nonzero_div-pass : goal.nonzero_div-pass
nonzero_div-pass c =
    let p = c.requires.of_shape.0 in
    omega (arith, period_least p.shape p.accepted _ p.same)

pub overflow_mul-pass : goal.overflow_mul-pass
overflow_mul-pass c =
    let p = c.requires.of_shape.0 in
    omega (arith, base_most p.shape p.accepted _ p.same)

pub overflow_cast-pass : goal.overflow_cast-pass
overflow_cast-pass c =
    let p = c.requires.of_shape.0 in
    omega (arith, base_most p.shape p.accepted _ p.same)

pub spread-requires : goal.spread-requires
spread-requires c =
    let p = c.requires.of_shape.0 in
    let sums = c.sum_starts in
    let counts = c.count_starts in
    let low = period_least p.shape p.accepted _ p.same in
    let high = period_most p.shape p.accepted _ p.same in
    record {
      gap_le_m = (
        omega (arith, mod-lt c.args.pass.columns low),
        high,
        base_most p.shape p.accepted _ p.same,
        omega (arith, high),
        omega (arith, high),
      );
      by_index = sums.ensures.most;
      by_index_2 = sums_less p.shape p.accepted _ p.same c.requires.of_shape.1 counts.new.starts sums.new.heads
          (counts.ensures p.shape p.accepted p.same) sums.ensures;
    }

pub returns : goal.returns
returns c =
    let spread = c.spread in
    let sums = c.sum_starts in
    let counts = c.count_starts in
    λ s accepted same. sizes_right s accepted _ same c.requires.of_shape.1 counts.new.starts sums.new.heads
    (counts.ensures s accepted same) sums.ensures c.args.sizes.now spread.new.sizes
    c.requires.by_index spread.ensures.by_index_3 spread.ensures.by_index_4
