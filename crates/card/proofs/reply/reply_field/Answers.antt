-- `reply_field` meets its contract: an output that is too short is left as it was, and else the head and the rows are written,
-- one behind the other.
use Prim.Native.Nat.{◌+◌, ◌*◌}
use mathlib.Core.Path.{◌≡◌, sym}
use mathlib.Core.List.{◌++◌}
use native.Mathlib.Omega.{arith}
use lib.ListN.{length}
use Rattle.card.specs.Working.{HasRoom, head_text}
use Rattle.card.specs.Text.{classes_key, field_text}
use Rattle.card.proofs.theory.CardLimits.{limits, rows_most}
use Rattle.card.proofs.theory.FieldText.{length_field}
use Rattle.card.proofs.theory.Replies.{answered_short, room_front, head_most, length_success, rest_room, success_answered}
use Rattle.card.proofs.theory.Replies.{field_long, field_each, rows_far}
use Rattle.card.proofs.reply.reply_field.Goals.{After-head_length, Else-output-length}
use Rattle.card.proofs.reply.reply_field.Goals as goal

total : (c : After-head_length)
    → let a = c.args in
    let n = c.args.header in
    c.head_length.result + n.planes * n.rows * (n.columns + 5)
    ≡ length (head_text a.header classes_key a.classes ++ field_text a.header a.cells.now)
total c =
    length_success _ _ _ _ _ _ c.head_length.ensures
    (sym (length_field c.args.header c.args.cells.now c.requires.field_cells.long))

room : (c : Else-output-length)
    → let a = c.args in
    HasRoom a.output.now 0 (head_text a.header classes_key a.classes ++ field_text a.header a.cells.now)
room c = room_front _ _ _ (length_success _ _ _ _ _ _ c.head_length.ensures
    (sym (length_field c.args.header c.args.cells.now c.requires.field_cells.long))) c.if-output-length.false

pub overflow_mul-lines : goal.overflow_mul-lines
overflow_mul-lines c = omega (arith, rows_most _ c.requires.card_header)

pub overflow_add-length : goal.overflow_add-length
overflow_add-length c = omega (arith, (limits _ c.requires.card_header).width_high)

pub overflow_mul-length : goal.overflow_mul-length
overflow_mul-length c = omega (arith, rows_far _ c.requires.card_header)

pub overflow_add-length-2 : goal.overflow_add-length-2
overflow_add-length-2 c =
    omega (arith, rows_far _ c.requires.card_header, c.head_length.ensures, head_most c.args.header classes_key c.args.classes)

pub returns-then-output-length : goal.returns-then-output-length
returns-then-output-length c = answered_short _ _ _ (total (goal.at.returns-then-output-length c).After-head_length)
    c.if-output-length.true

pub put_rows-requires : goal.put_rows-requires
unfolding field_text
put_rows-requires c =
    let cells = c.args.cells.now in
    record {
      has_room = rest_room _ _ _ (field_text c.args.header cells) (room (goal.at.put_rows-requires c).Else-output-length)
          c.put_head-next.ensures;
      received = field_each _ _ c.requires.field_cells;
      cells_len = field_long _ _ c.requires.field_cells;
    }

pub returns : goal.returns
unfolding field_text
returns c =
    let a = c.args in
    success_answered _ _ _ (field_text a.header a.cells.now)
    (room (goal.at.returns c).Else-output-length) c.put_head-next.ensures c.put_rows.ensures
