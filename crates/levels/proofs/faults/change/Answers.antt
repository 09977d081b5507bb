-- `change` meets its contract.
use mathlib.Core.Path.{sym}
use Rattle.levels.proofs.theory.FaultLaws.{change_none}
use Rattle.levels.proofs.faults.Trials.{change_tried}
use Rattle.levels.proofs.faults.change.Goals as goal

pub returns-then-remainder-eq0 : goal.returns-then-remainder-eq0
returns-then-remainder-eq0 c = rw c.if-remainder-eq0.true (sym (change_none _))

pub returns : goal.returns
returns c = change_tried _ _ _ c.fault_in.ensures.value c.fault_in.ensures.value_2
