-- The room that a pass over an accepted shape has, and what its lists hold when they are filled.
use Prim.Native.Nat.{ℕ, ◌+◌, ◌*◌, ◌<◌, ◌≤◌}
use mathlib.Core.Bool.{true, false, true≢false}
use mathlib.Core.List.{List}
use mathlib.Core.Path.{◌≡◌, sym, ◌∙◌}
use native.Mathlib.Nat.{mod-lt, mod-eq_of_lt, div-eq_of_lt}
use native.Mathlib.Omega.{arith}
use lib.ListN.{length}
use Rattle.lattice.specs.declared.line.Pass.{Pass}
use Rattle.lattice.specs.declared.shape.Shape.{Shape}
use Rattle.lattice.specs.Shape.{max_side, Accepted}
use Rattle.lattice.specs.Range.{in_range}
use Rattle.lattice.specs.Class.{layout_of}
use Rattle.lattice.specs.Position.{Layout}
use Rattle.lattice.specs.Lines.{remainder_table, table_of, slices_of, pass_with, pass_of, Positions, Gains, Room, AtLine, Ready}
use Rattle.lattice.proofs.theory.AtLine.{positions_still}
use Rattle.lattice.proofs.theory.Limits.{in_range_lem, legal}
use Rattle.lattice.proofs.theory.NextLine.{pass_first}
use Rattle.lattice.proofs.theory.Remainder.{minus_below}
use Rattle.lattice.proofs.theory.Placements.{period_some}
use Rattle.lattice.proofs.theory.Positions.{size_none}
use Rattle.lattice.proofs.theory.SizesByLines.{slices_are, period_is, columns_are, lines_are, period_least}
use Rattle.lattice.proofs.theory.Slices.{size_first}

-- a test that fails does not hold
pub refuted : {b : _} → b ≡ false → b ≡ true → ⊥
refuted p q = true≢false (sym q ∙ p)

module _ (s : Shape) (a : Accepted s) (pass : Pass) (same : pass ≡ pass_of s) where
  pub pass_narrow : pass.columns ≤ max_side
  pass_narrow = omega (arith, columns_are s a pass same, (legal s a).width_high)

  pub pass_row : pass.row < pass.period
  unfolding pass_with
  pass_row = rw same (mod-lt (table_of s).b (period_some s a))

  pub pass_plane : pass.plane < pass.period
  unfolding pass_with
  pass_plane = rw same (minus_below (table_of s).m (period_some s a) (table_of s).c _)

  module _ (e p q : ℕ) (room : Room pass e p q) where
    pub room_first : in_range 1 e pass.period ≡ true
    room_first = in_range_lem 1 e pass.period (period_least s a pass same) (omega (arith, room.wide))

    pub room_row : in_range pass.period 4096 p ≡ true
    room_row = in_range_lem pass.period 4096 p (omega (arith, room.row_long)) room.row_short

    pub room_plane : in_range pass.period 4096 q ≡ true
    room_plane = in_range_lem pass.period 4096 q (omega (arith, room.plane_long)) room.plane_short

  -- the lists, filled
  module _ (i j k : ℕ) (room : Room pass i j k) where
    pub filled_line : (e : List ℕ) → length e ≡ i
        → ((L : Layout) (table : ℕ → ℕ) (off : ℕ) → Positions L pass.period table 0 off 0 i e)
        → (n : ℕ) → n < pass.slices → n < pass.lines → AtLine s n (record { left = pass.last; start = 0 }) e
    filled_line e long held n slice line =
        let m = (table_of s).m in
        let low : n < slices_of s = omega (arith, slices_are s a pass same) in
        record {
          line = rw (div-eq_of_lt low) (pass_first s a pass same);
          wide = omega (arith, period_is s a pass same, columns_are s a pass same, room.wide, long);
          held =
              rw (long, mod-eq_of_lt low)
              (positions_still (layout_of s) m (remainder_table m) 0 (n * m) 0 (n * s.columns) i e
              (λ y. size_first s a n y low (omega (arith, lines_are s a pass same)) ∙ sym (size_none (layout_of s) _))
              (rw (period_is s a pass same) at (held (layout_of s) (remainder_table m) (n * m))));
        }

    pub filled_ready : (p q : List ℕ) → length p ≡ j → length q ≡ k → Gains pass.period (pass.columns + pass.row) j p
        → Gains pass.period (pass.columns + pass.plane) k q → Ready pass i p q
    filled_ready p q p-long q-long row plane =
        record {
          short = omega (arith, room.row_long, room.row_short);
          row_long = rw p-long room.row_long;
          row = rw p-long row;
          plane_long = rw q-long room.plane_long;
          plane = rw q-long plane;
        }
