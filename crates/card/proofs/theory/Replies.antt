-- Whole answers: their length, and their parts written one behind the other.
use Prim.Native.Nat.{ℕ, ◌+◌, ◌*◌, ◌<◌, ◌≤◌}
use mathlib.Core.List.{List, ◌++◌}
use mathlib.Core.Path.{◌≡◌, ◌∙◌, subst}
use native.Mathlib.Nat.{zero-add, mul-le-mul}
use native.Mathlib.Omega.{arith}
use lib.ListN.{length, length-append}
use borrow.Author.Tests.{le-leb, lt-leb}
use Rattle.codec.specs.Field.{field_of, Received}
use Rattle.card.specs.declared.header.Header.{Header}
use Rattle.card.specs.Text.{header_keys, window_keys, number_line, header_text}
use Rattle.card.specs.Card.{FieldCells, CardHeader}
use Rattle.card.specs.Program.{output_leaves}
use Rattle.card.specs.Working.{HasRoom, Printed, Answered, head_text}
use Rattle.card.proofs.theory.CardLimits.{limits, rows_most}
use Rattle.card.proofs.theory.DecimalText.{digit_count_range}
use Rattle.card.proofs.theory.HeaderText.{header_most}
use Rattle.card.proofs.theory.LineText.{length_line}
use Rattle.card.proofs.theory.LinesText.{lines_most}
use Rattle.card.proofs.theory.Printed.{printed_then, printed_front, room_first, room_next}

-- an answer by another name of its text
pub answered_same : {text other before after : List ℕ} {r : ℕ}
    → text ≡ other
    → Answered text before after r
    → Answered other before after r
answered_same {before = before} {after = after} {r = r} e a = subst (λ (t : List ℕ). Answered t before after r) e a

-- an output that is too short is left as it was
pub answered_short : (text before : List ℕ) (r : ℕ) → r ≡ length text → length before < r → Answered text before before r
unfolding output_leaves
answered_short text before r e l = record { long = e; leaves = rw (lt-leb (length text) (length before) (omega arith)) }

-- one that is long enough has the answer at its front
pub answered_printed : {text before after : List ℕ} {r : ℕ}
    → HasRoom before 0 text
    → Printed before after 0 text r
    → Answered text before after r
unfolding output_leaves
answered_printed {text} {before} room p =
    record {
      long = p.behind ∙ zero-add (length text);
      leaves = rw (le-leb (length text) (length before) (omega (arith, room.fits))) (printed_front p);
    }

pub room_front : (text before : List ℕ) (r : ℕ) → r ≡ length text → r ≤ length before → HasRoom before 0 text
room_front text before r e l = record { fits = omega arith }

-- the head of a success
module _ {xs : List ℕ} {at : ℕ} (h : Header) (key : List ℕ) (n : ℕ) (room : HasRoom xs at (head_text h key n)) where
  both : HasRoom xs at (header_text h ++ number_line key n)
  unfolding head_text
  both = room

  pub header_room : HasRoom xs at (header_text h)
  header_room = room_first (number_line key n) both

  module _ {ys : List ℕ} {m : ℕ} (p : Printed xs ys at (header_text h) m) where
    pub line_room : HasRoom ys m (number_line key n)
    line_room = room_next both p

    pub head_printed : {zs : List ℕ} {next : ℕ}
        → Printed ys zs m (number_line key n) next
        → Printed xs zs at (head_text h key n) next
    unfolding head_text
    head_printed q = printed_then both p q

pub length_head : (h : Header) (key : List ℕ) (n : ℕ)
    → length (head_text h key n) ≡ length (header_text h) + length (number_line key n)
unfolding head_text
length_head h key n = length-append (header_text h) (number_line key n)

-- the head is short
module _ (h : Header) where
  pub head_most : (key : List ℕ) (n : ℕ)
      → length (head_text h key n) ≤ lines_most header_keys + lines_most window_keys + (length key + 6)
  head_most key n = omega (arith, length_head h key n, header_most h, length_line key n, digit_count_range n)

-- a success: the head and the rest
module _ (h : Header) (key : List ℕ) (n : ℕ) (rest : List ℕ) where
  pub length_success : (r k : ℕ) → r ≡ length (head_text h key n) → k ≡ length rest → r + k ≡ length (head_text h key n ++ rest)
  length_success r k e f = omega (arith, length-append (head_text h key n) rest)

  module _ {xs : List ℕ} (room : HasRoom xs 0 (head_text h key n ++ rest))
      {ys : List ℕ} {m : ℕ} (p : Printed xs ys 0 (head_text h key n) m) where
    pub rest_room : HasRoom ys m rest
    rest_room = room_next room p

    pub success_answered : {zs : List ℕ} {r : ℕ} → Printed ys zs m rest r → Answered (head_text h key n ++ rest) xs zs r
    success_answered q = answered_printed room (printed_then room p q)

-- the rows of a field
module _ (h : Header) (cells : List ℕ) (f : FieldCells h cells) where
  pub field_long : length cells ≡ h.planes * h.rows * h.columns
  field_long = f.long ∙ omega arith

  pub field_each : Received (field_of cells) (length cells)
  field_each = rw f.long f.each

-- its length fits
pub rows_far : (h : Header) → CardHeader h → h.planes * h.rows * (h.columns + 5) ≤ 1069056
rows_far h card =
    let wide : h.columns + 5 ≤ 261 = omega (arith, (limits h card).width_high) in
    mul-le-mul (rows_most h card) wide
