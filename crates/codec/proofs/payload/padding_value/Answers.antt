-- `padding_value` meets its contract: by the padding that is named.
use mathlib.Core.Path.{ap, sym}
use Rattle.codec.specs.declared.payload.Padding.{Padding}
use Rattle.codec.specs.Payload.{padding, earlier_padding}
use Rattle.codec.specs.Working.{padding_of}
use Rattle.codec.proofs.payload.padding_value.Goals as goal

pub returns-in-Pattern : goal.returns-in-Pattern
unfolding padding
returns-in-Pattern c = sym (ap (λ (d : Padding). padding_of d c.args.j) c.in-Pattern.is)

pub returns-in-Zeros : goal.returns-in-Zeros
unfolding earlier_padding
returns-in-Zeros c = sym (ap (λ (d : Padding). padding_of d c.args.j) c.in-Zeros.is)
