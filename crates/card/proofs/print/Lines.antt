-- The lines of an answer: a key, a value and a line feed; and rows, one behind the other.
use Prim.Native.Nat.{ℕ, ◌+◌, ◌-◌, ◌*◌, ◌<◌, ◌≤◌}
use mathlib.Core.List.{List, [], ◌∷◌, ◌++◌}
use mathlib.Core.Path.{◌≡◌, refl, sym, ap, subst, ◌∙◌}
use native.Mathlib.Nat.{mul-le-mul_right}
use native.Mathlib.Omega.{arith}
use lib.ListN.{length, take, drop, length-drop}
use lib.Seq.{get_or-take, get_or-drop, length-take-le}
use Rattle.codec.specs.Field.{field_of, Received}
use Rattle.card.specs.Text.{digits, digit_count, decimal, number_line, payload_key, hex_text, payload_text, row_key, rows_text}
use Rattle.card.specs.Text.{feed, cells_text, row_text}
use Rattle.card.specs.Working.{HasRoom, Printed}
use Rattle.card.proofs.theory.RowText.{length_rows}
use Rattle.card.proofs.theory.Printed.{printed_then, printed_long, room_first, room_next}
use Rattle.card.proofs.print.Text.{rows_more}

-- a line of three parts
module _ {xs : List ℕ} {at : ℕ} {text : List ℕ} (key value : List ℕ)
    (line : text ≡ key ++ (value ++ (feed ∷ []))) (room : HasRoom xs at text) where
  whole : HasRoom xs at (key ++ (value ++ (feed ∷ [])))
  whole = subst (λ (t : List ℕ). HasRoom xs at t) line room

  pub key_room : HasRoom xs at key
  key_room = room_first (value ++ (feed ∷ [])) whole

  module _ {ys : List ℕ} {m : ℕ} (p : Printed xs ys at key m) where
    rest : HasRoom ys m (value ++ (feed ∷ []))
    rest = room_next whole p

    pub value_room : HasRoom ys m value
    value_room = room_first (feed ∷ []) rest

    module _ {zs : List ℕ} {k : ℕ} (q : Printed ys zs m value k) where
      pub feed_room : HasRoom zs k (feed ∷ [])
      feed_room = room_next rest q

      pub line_printed : {us : List ℕ} {r : ℕ} → Printed zs us k (feed ∷ []) r → Printed xs us at text r
      line_printed {us} {r} f =
          subst (λ (t : List ℕ). Printed xs us at t r) (sym line) (printed_then whole p (printed_then rest q f))

-- the parts of each line
pub number_parts : (key : List ℕ) (n k : ℕ) → k ≡ digit_count n → number_line key n ≡ key ++ (digits k n ++ (feed ∷ []))
unfolding number_line decimal
number_parts key n k e = ap (λ (w : ℕ). key ++ (digits w n ++ (feed ∷ []))) (sym e)

pub payload_parts : (p : List ℕ) → payload_text p ≡ payload_key ++ (hex_text p ++ (feed ∷ []))
unfolding payload_text
payload_parts p = refl

pub row_parts : (cells : List ℕ) → row_text cells ≡ row_key ++ (cells_text cells ++ (feed ∷ []))
unfolding row_text
row_parts cells = refl

-- rows of w cells: r of them are written
module _ {xs : List ℕ} {at : ℕ} (w k : ℕ) (cells : List ℕ)
    (long : length cells ≡ k * w) (room : HasRoom xs at (rows_text w k cells)) where
  before : (r : ℕ) → r ≤ k → HasRoom xs at (rows_text w r cells)
  before r l =
      let less = mul-le-mul_right w l in
      let fewer = mul-le-mul_right (w + 5) l in
      record { fits = omega (arith, room.fits, length_rows w r cells (omega arith), length_rows w k cells (omega arith)) }

  pub rows_long : (r : ℕ) → r ≤ k → {ys : List ℕ} {next : ℕ} → Printed xs ys at (rows_text w r cells) next → length ys ≡ length xs
  rows_long r l p = printed_long (before r l) p

  module _ (r : ℕ) (l : r < k) where
    pub part_behind : r * w + w ≤ length cells
    part_behind = omega (arith, mul-le-mul_right w l)

    -- the cells of row r, as they are lent
    lent : take (r * w + w - r * w) (drop (r * w) cells) ≡ take w (drop (r * w) cells)
    lent = let e : r * w + w - r * w ≡ w = omega arith in rw e

    one_more : HasRoom xs at (rows_text w r cells ++ row_text (take (r * w + w - r * w) (drop (r * w) cells)))
    one_more =
        let next : r + 1 ≤ k = omega arith in
        rw lent (subst (λ (t : List ℕ). HasRoom xs at t) (rows_more w r cells) (before (r + 1) next))

    module _ {ys : List ℕ} {next : ℕ} (p : Printed xs ys at (rows_text w r cells) next) where
      pub row_room : HasRoom ys next (row_text (take (r * w + w - r * w) (drop (r * w) cells)))
      row_room = room_next one_more p

      pub row_printed : {zs : List ℕ} {behind : ℕ}
          → Printed ys zs next (row_text (take (r * w + w - r * w) (drop (r * w) cells))) behind
          → Printed xs zs at (rows_text w (r + 1) cells) behind
      row_printed {zs} {behind} q =
          subst
          (λ (t : List ℕ). Printed xs zs at t behind)
          (ap (λ (c : List ℕ). rows_text w r cells ++ row_text c) lent ∙ sym (rows_more w r cells))
          (printed_then one_more p q)

-- the cells of a part are cells
pub part_cells : (cells : List ℕ) → Received (field_of cells) (length cells) → (first n : ℕ) → first + n ≤ length cells
    → Received (field_of (take n (drop first cells))) (length (take n (drop first cells)))
part_cells cells each first n l i m =
    let long : length (take n (drop first cells)) ≡ n =
    length-take-le n (drop first cells) (omega (arith, length-drop first cells)) in
    let k : i < n = omega arith in
    rw (get_or-take n (drop first cells) i 0 k, get_or-drop first cells i 0) (each (first + i) (omega arith))
