-- `one_syndrome` meets its contract.
use Prim.Native.Nat.{ℕ, ◌+◌, ◌*◌, ◌<◌}
use mathlib.Core.Path.{◌≡◌, sym, ap, ◌∙◌}
use native.Mathlib.Omega.{arith}
use lib.Bits.{xor_zero_r}
use Rattle.std.proofs.lemmas.List.{get_or-take, length-take-le}
use Rattle.codec.specs.Field.{Field, field_of, having}
use Rattle.codec.specs.Hamming.{tags_of, syndrome_to}
use Rattle.codec.proofs.theory.CellValues.{cell_most, having_cells}
use Rattle.codec.proofs.syndromes.LineTaken.{product_own, product_other}
use Rattle.codec.proofs.syndromes.OneClass.{one_more, one_all}
use Rattle.codec.proofs.syndromes.one_syndrome.Goals.{then-cell-value, else-cell-value}
use Rattle.codec.proofs.syndromes.one_syndrome.Goals as goal

pub loop-i-preserved : goal.loop-i-preserved
loop-i-preserved c =
    let turn = c.loop-i in
    let field = c.args.field.now in
    let f : Field = having c.args.value (field_of field) in
    let inside : turn.i < c.args.n = omega (arith, length-take-le c.args.n field c.requires.n_in_bounds.0) in
    let own = get_or-take _ field turn.i 0 inside in
    λ L alone.
    let more = λ (v : ℕ) (p : v ≡ (turn.i + 1) * f turn.i).
    one_more L _ alone f turn.i turn.sum v inside (turn.invariant L alone) p (cell_most _ (having_cells _ _ _ _ inside)) in
    elim c.if-cell-value.branch [
      | then-cell-value w ↦
          rw w.sum-is (more _ (product_own _ (field_of field) turn.i _ (sym own ∙ w.if-cell-value.true)))
      | else-cell-value w ↦
          let other = product_other _ (field_of field) turn.i _ (λ e. w.if-cell-value.false (own ∙ e)) in
          rw w.sum-is (sym (xor_zero_r turn.sum) ∙ more 0 other)
    ]

pub returns : goal.returns
returns c =
    let turn = c.loop-i in
    let field = c.args.field.now in
    let all : turn.i ≡ c.args.n = omega (arith, length-take-le c.args.n field c.requires.n_in_bounds.0) in
    λ L alone.
    one_all L _ alone _ c.args.syndromes.now turn.sum c.requires.holds_zeros c.requires.n_in_bounds.2
    (turn.invariant L alone ∙ ap (syndrome_to L (tags_of L) (having c.args.value (field_of field)) 0) all)
