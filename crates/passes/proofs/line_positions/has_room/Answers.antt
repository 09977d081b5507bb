-- `has_room` meets its contract.
use mathlib.Core.Bool.{true, false≢true}
use mathlib.Core.Path.{◌≡◌}
use native.Mathlib.Omega.{arith}
use borrow.Author.Tests.{le-leb, leb-true}
use Rattle.lattice.specs.Range.{in_range}
use Rattle.lattice.proofs.theory.Bools.{failed, passed}
use Rattle.lattice.proofs.theory.Limits.{range_low, range_high}
use Rattle.lattice.proofs.theory.PassRoom.{refuted, pass_row, pass_plane, room_first, room_row, room_plane}
use Rattle.lattice.proofs.theory.SizesByLines.{period_most}
use Rattle.passes.proofs.line_positions.has_room.Goals.{Else-not-within, Else-not-within-2, Else-not-within-3}
use Rattle.passes.proofs.line_positions.has_room.Goals as goal

first : (c : Else-not-within)
    → let a = c.args in
    in_range 1 a.e a.pass.period ≡ true
first c = passed _ _ c.if-not-within.false c.within.ensures

row : (c : Else-not-within-2)
    → let a = c.args in
    in_range a.pass.period 4096 a.p ≡ true
row c = passed _ _ c.if-not-within-2.false c.within-2.ensures

plane : (c : Else-not-within-3)
    → let a = c.args in
    in_range a.pass.period 4096 a.q ≡ true
plane c = passed _ _ c.if-not-within-3.false c.within-3.ensures

pub returns-then-not-within : goal.returns-then-not-within
returns-then-not-within c =
    record {
      small = (λ t. absurd (false≢true t));
      value = (λ s a same room.
          absurd (refuted (failed _ _ c.if-not-within.true c.within.ensures) (room_first s a _ same _ _ _ room)));
    }

pub returns-then-not-within-2 : goal.returns-then-not-within-2
returns-then-not-within-2 c =
    record {
      small = (λ t. absurd (false≢true t));
      value = (λ s a same room.
          absurd (refuted (failed _ _ c.if-not-within-2.true c.within-2.ensures) (room_row s a _ same _ _ _ room)));
    }

pub returns-then-not-within-3 : goal.returns-then-not-within-3
returns-then-not-within-3 c =
    record {
      small = (λ t. absurd (false≢true t));
      value = (λ s a same room.
          absurd (refuted (failed _ _ c.if-not-within-3.true c.within-3.ensures) (room_plane s a _ same _ _ _ room)));
    }

pub returns-then-pass-gt4096-2 : goal.returns-then-pass-gt4096-2
returns-then-pass-gt4096-2 c =
    record {
      small = (λ t. absurd (false≢true t));
      value = (λ s a same room. absurd (omega (arith, pass_row s a _ same, period_most s a _ same)));
    }

pub returns : goal.returns
returns c =
    let x = c.args in
    let f = first (goal.at.returns c).Else-not-within in
    let r = row (goal.at.returns c).Else-not-within-2 in
    let p = plane (goal.at.returns c).Else-not-within-3 in
    record {
      small = (λ t.
          let small = leb-true x.pass.plane 4096 t in
          record {
            some = range_low 1 x.e x.pass.period f;
            long = range_high 1 x.e x.pass.period f;
            short = omega arith;
            row_long = range_low x.pass.period 4096 x.p r;
            row_short = range_high x.pass.period 4096 x.p r;
            plane_long = range_low x.pass.period 4096 x.q p;
            plane_short = range_high x.pass.period 4096 x.q p;
            row = omega arith;
            plane = omega (arith, small);
          });
      value = (λ s a same room. le-leb x.pass.plane 4096 (omega (arith, pass_plane s a _ same, period_most s a _ same)));
    }
