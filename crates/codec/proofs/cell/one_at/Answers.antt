-- `one_at` meets its contract.
use mathlib.Core.Path.{sym}
use Rattle.codec.specs.Field.{field_of}
use Rattle.codec.proofs.theory.CellValues.{having_own, having_other}
use Rattle.codec.proofs.cell.one_at.Goals as goal

pub returns-then-field-i-eq1 : goal.returns-then-field-i-eq1
returns-then-field-i-eq1 c = sym (having_own 1 (field_of c.args.field.now) _ c.if-field-i-eq1.true)

pub returns-else-field-i-eq1 : goal.returns-else-field-i-eq1
returns-else-field-i-eq1 c = sym (having_other 1 (field_of c.args.field.now) _ c.if-field-i-eq1.false)
