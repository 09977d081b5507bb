-- `line_syndromes` meets its contract.
use native.Mathlib.Omega.{arith}
use Rattle.codec.specs.Field.{field_of, having}
use Rattle.codec.proofs.syndromes.SlicesTaken.{slice_zeros, slices_more, slices_past, slices_all}
use Rattle.codec.proofs.syndromes.line_syndromes.Goals.{then-j-pass, else-j-pass}
use Rattle.codec.proofs.syndromes.line_syndromes.Goals as goal

pub slice_syndromes-requires-clause-by_index : goal.slice_syndromes-requires-clause-by_index
slice_syndromes-requires-clause-by_index c =
    let p = c.requires.of_shape.0 in
    let turn = c.loop-j in
    let held = turn.invariant p.shape p.accepted p.same in
    slice_zeros p.shape p.accepted _ p.same _ turn.j turn.syndromes held c.loop-j-test.true

pub loop-j-preserved : goal.loop-j-preserved
loop-j-preserved c =
    let turn = c.loop-j in
    let slice = c.loop-j-test.true in
    let f = having c.args.value (field_of c.args.field.now) in
    λ s ok same.
    let held = turn.invariant s ok same in
    elim c.if-j-pass.branch [
      | then-j-pass w ↦
          rw w.syndromes-is (slices_more s ok _ same f turn.j turn.syndromes held slice _ w.slice_syndromes.ensures)
      | else-j-pass w ↦
          rw w.syndromes-is (slices_past s ok _ same f turn.j turn.syndromes held slice w.if-j-pass.false)
    ]

pub returns : goal.returns
returns c =
    let turn = c.loop-j in
    λ s ok same. slices_all s ok _ same _ turn.j turn.syndromes (omega arith) (turn.invariant s ok same)
