-- `store_payload` meets its contract: the payload of the 1 cells, then the bits of cells flipped.
use mathlib.Core.Path.{◌∙◌}
use native.Mathlib.Omega.{arith}
use Rattle.codec.specs.Code.{tags_at}
use Rattle.codec.proofs.theory.CellValues.{having_cells}
use Rattle.codec.proofs.theory.NearestField.{corrected_cells}
use Rattle.codec.proofs.theory.FlippedBits.{bits_same, bits_all}
use Rattle.codec.proofs.theory.CorrectedField.{gathered_bits}
use Rattle.codec.proofs.decode.store_payload.Goals as goal

pub returns : goal.returns
returns c =
    let made = c.correct_payload in
    let readable = c.requires.readable in
    let long = c.gather.auto.payload ∙ c.fill.ensures.len ∙ c.requires.payload_len in
    let bits = gathered_bits _ _ _ (having_cells 1 _ _) long c.gather.ensures in
    bits_all _ _ _ (corrected_cells _ (tags_at c.args.shape) _ readable.cells)
    (made.auto.payload ∙ long) (λ j. omega (arith, c.slice_known-4-1.given j))
    (bits_same _ _ _ _ c.requires.located.corrects (made.ensures _ bits))
