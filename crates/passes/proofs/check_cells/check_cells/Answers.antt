-- `check_cells` meets its contract.
use mathlib.Core.Path.{◌≡◌, sym, ◌∙◌}
use native.Mathlib.Omega.{arith}
use Rattle.lattice.specs.Shape.{max_classes}
use Rattle.lattice.specs.Lines.{pass_of}
use Rattle.passes.proofs.check_cells.Lines.{listed_all}
use Rattle.lattice.proofs.theory.LineCounts.{zeros_at}
use Rattle.lattice.proofs.theory.NextLine.{pass_accepted}
use Rattle.lattice.proofs.theory.PassRoom.{pass_narrow}
use Rattle.lattice.proofs.theory.SizesByLines.{period_least, period_most}
use Rattle.passes.proofs.check_cells.check_cells.Goals.{After-pass-pass}
use Rattle.passes.proofs.check_cells.check_cells.Goals as goal

-- the pass is the shape's own
own : (c : After-pass-pass) → c.pass-pass.result ≡ pass_of c.args.shape
own c = c.pass-pass.ensures ∙ pass_accepted _ (sym c.in-Ok.ensures)

pub fill_gains-requires : goal.fill_gains-requires
fill_gains-requires c =
    let ok = sym c.in-Ok.ensures in
    let same = own (goal.at.fill_gains-requires c).After-pass-pass in
    let most = period_most _ ok _ same in (period_least _ ok _ same, most, omega (arith, most), pass_narrow _ ok _ same)

pub list_lines-requires : goal.list_lines-requires
list_lines-requires c =
    let ok = sym c.in-Ok.ensures in
    let same = own (goal.at.list_lines-requires c).After-pass-pass in
    let filled = c.fill_gains in
    record {
      of_shape = (record { shape = _; accepted = ok; same = same }, zeros_at max_classes);
      period_in_bounds = (omega (arith, period_most _ ok _ same, filled.auto.gained), filled.ensures);
    }

pub returns : goal.returns
returns c =
    let ok = sym c.in-Ok.ensures in
    let same = own (goal.at.returns c).After-pass-pass in
    let held = c.list_lines.ensures _ ok same in
    record {
      lists_checks = (λ a right. listed_all _ ok _ same _ _ _ _ _ held right);
      upper_bound = held.few;
    }
