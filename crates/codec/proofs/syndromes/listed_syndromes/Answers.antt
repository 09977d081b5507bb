-- `listed_syndromes` meets its contract.
use mathlib.Core.Path.{sym, ◌∙◌}
use native.Mathlib.Omega.{arith}
use Rattle.lattice.proofs.theory.SizesByLines.{period_least, period_most}
use Rattle.codec.proofs.syndromes.SlicesTaken.{slice_folded, slice_most}
use Rattle.codec.proofs.syndromes.listed_syndromes.Goals as goal

pub take_lines-requires : goal.take_lines-requires
take_lines-requires c =
    let p = c.requires.of_shape.0 in
    let room = c.requires.room in
    let first = c.first_line-first in
    let long = c.first_line-first.auto.e in
    record {
      of_shape = c.requires.of_shape;
      field_len = (c.requires.field_len.0, room.1 ∙ sym long);
      ready = rw long (first.ensures p.shape p.accepted p.same room.0).1;
      at_line = (λ s ok same. (first.ensures s ok same room.0).0 _ c.requires.of_shape.2 c.requires.of_shape.3);
      by_index = c.requires.by_index_2;
    }

pub overflow_mul-j : goal.overflow_mul-j
overflow_mul-j c =
    let p = c.requires.of_shape.0 in
    omega (arith, slice_most p.shape p.accepted _ p.same _ c.requires.of_shape.2)

pub fold-requires : goal.fold-requires
fold-requires c =
    let p = c.requires.of_shape.0 in
    let high = slice_most p.shape p.accepted _ p.same _ c.requires.of_shape.2 in
    record {
      m_nonzero = (
        period_least p.shape p.accepted _ p.same,
        period_most p.shape p.accepted _ p.same,
        omega (arith, high, c.requires.field_len.1),
      );
      by_index = c.requires.by_index;
    }

pub returns : goal.returns
returns c =
    let taken = c.take_lines in
    let fold = c.fold in
    slice_folded _ _ _ taken.new.t c.args.syndromes.now fold.new.syndromes
    taken.ensures fold.ensures.by_index_2 fold.ensures.by_index_3
