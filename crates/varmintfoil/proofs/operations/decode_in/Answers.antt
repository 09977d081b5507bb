-- `decode_in` meets its contract: the accepted shape is that of the numbers, and the constructor's refusal is the operation's.
use mathlib.Core.Path.{refl}
use Rattle.lattice.proofs.theory.Answers.{handed_on}
use Rattle.lattice.proofs.theory.NewShapes.{new_shape_lem}
use Rattle.varmintfoil.proofs.operations.Refused.{refused_decode}
use Rattle.varmintfoil.proofs.operations.decode_in.Goals as goal

pub returns-in_err-new : goal.returns-in_err-new
returns-in_err-new c =
    rw (handed_on c.from_residual.ensures.1)
    (refused_decode _ _ c.in_err-new.ensures.new_shape c.in_err-new.field-0.0 refl _ _)

pub returns : goal.returns
returns c =
    rw (new_shape_lem _ _ c.in_ok-new.ensures.new_shape _ refl) at c.decode.ensures
