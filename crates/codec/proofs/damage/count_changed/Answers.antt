-- `count_changed` meets its contract.
use mathlib.Core.Path.{◌≡◌, ap, ◌∙◌}
use native.Mathlib.Omega.{arith}
use Rattle.lattice.specs.Class.{classes_of}
use Rattle.lattice.specs.Counting.{count}
use Rattle.lattice.proofs.theory.Placements.{classes_limit}
use Rattle.lattice.proofs.theory.Counting.{count_most}
use Rattle.codec.specs.Working.{names}
use Rattle.codec.proofs.theory.CorrectedField.{classes_given, classes_few}
use Rattle.codec.proofs.damage.count_changed.Goals.{After-count_named}
use Rattle.codec.proofs.damage.count_changed.Goals as goal

pub count_named-requires : goal.count_named-requires
count_named-requires c = classes_few _ c.requires.0 _ c.classes.ensures

-- the named cells of the shape's classes
counted : (c : After-count_named)
    → c.count_named.result ≡ count (names c.args.damaged.now) (classes_of c.args.shape)
counted c =
    c.count_named.ensures
    ∙ ap (count (names c.args.damaged.now)) (classes_given _ c.requires.0 _ c.classes.ensures)

pub overflow_add-result : goal.overflow_add-result
overflow_add-result c =
    omega (
      arith,
      counted c,
      c.requires.1,
      count_most (names c.args.damaged.now) (classes_of c.args.shape),
      classes_limit c.args.shape c.requires.0,
    )
