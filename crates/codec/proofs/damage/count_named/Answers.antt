-- `count_named` meets its contract.
use mathlib.Core.Bool.{not}
use mathlib.Core.Path.{◌≡◌, ◌∙◌}
use native.Mathlib.Omega.{arith}
use lib.Dec.{eqb}
use lib.ListN.{take}
use Rattle.std.proofs.Common.{rules}
use Rattle.std.specs.List.{count_by}
use Rattle.codec.proofs.theory.Counted.{counted}
use Rattle.codec.proofs.damage.count_named.Goals as goal

pub returns : goal.returns
returns c =
    let cells = c.args.cells.now in
    let many : c.count.result ≡ count_by (λ x. not (eqb x 65536)) (take c.args.m cells) = search rules in
    many ∙ counted (λ x. not (eqb x 65536)) cells c.args.m (omega arith)
