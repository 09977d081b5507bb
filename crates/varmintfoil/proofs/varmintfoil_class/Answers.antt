-- `varmintfoil_class` meets its contract: its figures are those of the answer.
use mathlib.Core.Path.{◌∙◌}
use Rattle.varmintfoil.proofs.varmintfoil_class.Goals as goal

pub returns : goal.returns
returns c =
    let class_of = c.class_of-answer in
    record {
      number = c.number.ensures ∙ class_of.ensures.number;
      class = c.figure.ensures ∙ class_of.ensures.class;
    }
