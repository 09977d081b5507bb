-- `flip_at` meets its contract.
use native.Mathlib.Omega.{arith}
use Rattle.codec.proofs.theory.FlippedBits.{bits_outside, bits_listed, bits_unlisted}
use Rattle.lattice.proofs.theory.Runs.{checks_most}
use Rattle.codec.proofs.damage.flip_at.Goals as goal

pub returns-then-cells-cell : goal.returns-then-cells-cell
returns-then-cells-cell c = λ L same lists f holds. bits_outside L f _ _ (omega arith) holds

pub returns-then-is_at : goal.returns-then-is_at
returns-then-is_at c =
    λ L same lists f holds.
    let here = c.is_at.ensures.k_lt_amount c.if-is_at.true in
    bits_listed L f _ _ _ _ lists here.0 _ here.1 holds

pub returns-then-k-cell : goal.returns-then-k-cell
returns-then-k-cell c =
    let flip_bit = c.flip_bit in
    λ L same lists f holds.
    let before = c.checks_before-k.ensures.value L lists
    (omega arith) in
    bits_unlisted L f _ _ _ _ lists _ (omega arith) before
    (c.is_at.ensures.fact
    c.if-is_at.false)
    _ flip_bit.auto.payload flip_bit.ensures holds

pub returns-else-k-cell : goal.returns-else-k-cell
returns-else-k-cell c =
    λ L same lists f holds. absurd (omega (
      arith,
      c.checks_before-k.ensures.value L lists (omega arith),
      checks_most L c.args.cell,
    ))
