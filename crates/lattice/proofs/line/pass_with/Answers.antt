-- `pass_with` meets its contract.
use Prim.Native.Nat.{◌-◌, ◌*◌, ◌≤◌}
use mathlib.Core.Path.{refl, ap, ◌∙◌}
use native.Mathlib.Nat.{mul-le-mul}
use native.Mathlib.Omega.{arith}
use Rattle.lattice.specs.declared.class.Placement.{Placement}
use Rattle.lattice.specs.Shape.{max_side}
use Rattle.lattice.specs.Lines.{pass_with}
use Rattle.lattice.proofs.theory.Limits.{legal}
use Rattle.lattice.proofs.theory.NextLine.{pass_is, period_own}
use Rattle.lattice.proofs.theory.Widths.{most_16}
use Rattle.lattice.proofs.line.pass_with.Goals.{After-struct_known-7-1}
use Rattle.lattice.proofs.line.pass_with.Goals as goal

pub overflow_sub-last : goal.overflow_sub-last
overflow_sub-last c =
    (legal _ c.requires.0).height_low

pub nonzero_rem-result : goal.nonzero_rem-result
nonzero_rem-result c =
    omega (arith, period_own _ c.requires.0 _ c.requires.1)

-- b × the number of a plane's last row
product : (c : After-struct_known-7-1)
    → let a = c.args in
    a.placement.settings.b * (a.shape.rows - 1) ≤ 65535 * max_side
product c =
    let few = (legal _ c.requires.0).height_high in
    mul-le-mul {n₂ = 65535} {m₂ = max_side} (most_16 c.struct_known-7-1.given.1.0) (omega (arith, few))

pub minus_mod-requires : goal.minus_mod-requires
minus_mod-requires c = (
  period_own _ c.requires.0 _ c.requires.1,
  omega (arith, most_16 c.struct_known-7-1.given.0),
  omega (arith, most_16 c.struct_known-7-1.given.1.1.0),
  omega (arith, product c),
)

pub returns : goal.returns
returns c =
    pass_is c.args.placement c.args.shape _ _ refl c.minus_mod.ensures
    ∙ ap (λ (p : Placement). pass_with p c.args.shape) c.requires.1
