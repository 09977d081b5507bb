-- `put_number_line` meets its contract: the key, the digits and the line feed are written one behind the other.
use mathlib.Core.List.{[], ◌∷◌, ◌++◌}
use mathlib.Core.Path.{◌≡◌, refl}
use Rattle.card.specs.Text.{digits, digit_count, number_line}
use Rattle.card.proofs.print.Lines.{key_room, value_room, feed_room, line_printed, number_parts}
use Rattle.card.proofs.print.put_number_line.Goals.{After-digit_count}
use Rattle.card.proofs.print.put_number_line.Goals as goal

line : (c : After-digit_count)
    → let a = c.args in
    number_line a.key.now a.n ≡ a.key.now ++ (digits c.digit_count.result a.n ++ (10 ∷ []))
line c =
    let a = c.args in
    number_parts a.key.now a.n _ c.digit_count.ensures

pub put_bytes-number-requires : goal.put_bytes-number-requires
put_bytes-number-requires c =
    let a = c.args in
    key_room _ (digits (digit_count a.n) a.n) (number_parts a.key.now a.n _ refl) c.requires

pub put_digits-end-requires : goal.put_digits-end-requires
put_digits-end-requires c =
    value_room _ _ (line c) c.requires c.put_bytes-number.ensures

pub put_byte-requires : goal.put_byte-requires
put_byte-requires c =
    feed_room _ _ (line (goal.at.put_byte-requires c).After-digit_count) c.requires c.put_bytes-number.ensures
    c.put_digits-end.ensures

pub returns : goal.returns
returns c =
    line_printed _ _ (line (goal.at.returns c).After-digit_count) c.requires c.put_bytes-number.ensures
    c.put_digits-end.ensures c.put_byte.ensures
