-- `list_lines` meets its contract. The loop's invariant: `line` is line l, the lines before it are listed, and
-- no class reaches a power of two in the lines that are said to be free.
use Prim.Native.Nat.{ℕ, ◌*◌}
use mathlib.Core.Path.{◌≡◌, subst}
use native.Mathlib.Omega.{arith}
use Rattle.lattice.specs.Class.{layout_of}
use Rattle.passes.specs.CheckList.{ListedTo}
use Rattle.passes.proofs.check_cells.Lines.{listed_none}
use Rattle.lattice.proofs.theory.NextLine.{pass_first}
use Rattle.passes.proofs.check_cells.list_lines.Goals as goal

pub loop-l-init : goal.loop-l-init
loop-l-init c = (
  (λ s ok same. pass_first s ok _ same),
  (λ s ok same. listed_none s _ c.args.counts.now _ _ c.requires.of_shape.1),
  (λ a k l p q. absurd (omega arith)),
)

pub returns : goal.returns
returns c =
    let turn = c.loop-l in
    let all : turn.l ≡ c.args.pass.lines = omega arith in
    λ s ok same.
    subst (λ (k : ℕ). ListedTo (layout_of s) (k * s.columns) turn.at.amount c.args.sizes.now turn.counts turn.cells
    turn.places) all (turn.invariant.1 s ok same)
