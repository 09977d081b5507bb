-- `field_syndromes` meets its contract.
use mathlib.Core.Path.{subst}
use native.Mathlib.Omega.{arith}
use Rattle.lattice.specs.Class.{layout_of}
use Rattle.lattice.proofs.theory.SizesByLines.{cells_are, some}
use Rattle.codec.specs.Field.{field_of, having}
use Rattle.codec.specs.Working.{HoldsSyndromes}
use Rattle.codec.proofs.syndromes.LinesTaken.{pass_cells, pass_alone}
use Rattle.codec.proofs.syndromes.field_syndromes.Goals as goal

pub one_syndrome-requires : goal.one_syndrome-requires
one_syndrome-requires c =
    let p = c.requires.of_shape.0 in
    record {
      n_in_bounds = (omega (arith, c.requires.of_shape.1), pass_cells p.shape p.accepted _ p.same, omega arith);
      holds_zeros = c.requires.holds_zeros;
    }

pub line_syndromes-requires : goal.line_syndromes-requires
line_syndromes-requires c =
    let p = c.requires.of_shape.0 in
    let low = some p.shape p.accepted _ p.same in
    record {
      of_shape = (p, omega (arith, low, c.if-pass-eq1.false));
      field_len = (c.requires.of_shape.1, omega arith);
      holds_zeros = c.requires.holds_zeros;
    }

pub returns-then-pass-eq1 : goal.returns-then-pass-eq1
returns-then-pass-eq1 c =
    let one = c.one_syndrome in
    let f = having c.args.value (field_of c.args.field.now) in
    λ s ok same.
    subst (HoldsSyndromes (layout_of s) f one.new.syndromes) (cells_are s ok _ same)
    (one.ensures (layout_of s) (pass_alone s ok _ same c.if-pass-eq1.true))
