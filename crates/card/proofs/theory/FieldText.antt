-- The rows of a field behind a header: their text is read back, what is read is such a text, and it is the text of one field
-- alone.
use Prim.Native.Nat.{ℕ, zero, suc, ◌+◌, ◌*◌, ◌<◌}
use mathlib.Core.Bool.{true, false}
use mathlib.Core.List.{List, [], ◌++◌, append-nil}
use mathlib.Core.Logic.{◌≢◌}
use mathlib.Core.Path.{◌≡◌, refl, sym, ap, ◌∙◌}
use native.Mathlib.Nat.{not-suc-le-zero}
use native.Mathlib.Omega.{arith}
use lib.Dec.{eqb}
use lib.ListN.{length, get_or, drop, length-append}
use lib.Seq.{get_or-append-add}
use Rattle.lattice.specs.Shape.{cells_of}
use Rattle.codec.proofs.theory.AllBelow.{fails_below}
use Rattle.card.specs.declared.header.Header.{Header}
use Rattle.card.specs.Text.{row_text, payload_key, rows_text, field_text, payload_text}
use Rattle.card.specs.Card.{shape_of, FieldCells}
use Rattle.card.specs.Parse.{key_at, cells_of_rows}
use Rattle.card.specs.Program.{is_payload, rows_fit, cells_in}
use Rattle.card.proofs.theory.StandsAt.{stands_last, stands_whole}
use Rattle.card.proofs.theory.RowText.{length_rows}
use Rattle.card.proofs.theory.RowsRead.{RowsStand, rows_ok_lem, rows_read, at_rows}

-- the number of rows, and the cells that they have together
abbrev rows_of : Header → ℕ
rows_of h = h.planes * h.rows

cells_of_lem : (h : Header) → cells_of (shape_of h) ≡ rows_of h * h.columns
cells_of_lem h = omega arith

-- the length of the rows
pub length_field : (h : Header) (cells : List ℕ) → length cells ≡ cells_of (shape_of h)
    → length (field_text h cells) ≡ h.planes * h.rows * (h.columns + 5)
unfolding field_text
length_field h cells long = length_rows h.columns (rows_of h) cells (omega arith)

-- the rows behind anything are read back
pub field_back : (before : List ℕ) (h : Header) (cells : List ℕ)
    → FieldCells h cells
    → (rows_fit (before ++ field_text h cells) h (length before) ≡ true)
    × (cells_in (before ++ field_text h cells) h (length before) ≡ cells)
unfolding field_text
field_back before h cells x =
    let s = before ++ field_text h cells in
    let y : RowsStand s (length before) h.columns (rows_of h) cells =
    record {
      long = x.long ∙ cells_of_lem h;
      each = λ i l. x.each i (omega (arith, cells_of_lem h));
      stands = stands_last before (field_text h cells);
      ends = length-append before (field_text h cells) ∙ omega (arith, length_field h cells x.long);
    } in (
      rows_ok_lem s (length before) h.columns (rows_of h) cells y,
      ap (cells_of_rows s (length before) h.columns) (cells_of_lem h)
          ∙ rows_read s (length before) h.columns (rows_of h) cells y,
    )

-- what a field is read from is its rows
pub field_text_lem : (s : List ℕ) (h : Header) (at : ℕ) → rows_fit s h at ≡ true
    → FieldCells h (cells_in s h at) × (drop at s ≡ field_text h (cells_in s h at))
unfolding field_text
field_text_lem s h at p =
    let x : RowsStand s at h.columns (rows_of h) (cells_in s h at) =
    rw (cells_of_lem h) (at_rows s at h.columns (rows_of h) p) in
    let cells : FieldCells h (cells_in s h at) =
    record { long = x.long ∙ sym (cells_of_lem h); each = λ i l. x.each i (omega (arith, cells_of_lem h)) } in (
      cells,
      stands_whole (field_text h (cells_in s h at)) s at x.stands
          (x.ends ∙ omega (arith, length_field h (cells_in s h at) cells.long)),
    )

-- rows are those of one field
pub field_same : (h : Header) (a b : List ℕ) → FieldCells h a → FieldCells h b → field_text h a ≡ field_text h b → a ≡ b
field_same h a b x y e =
    sym (field_back [] h a x).1 ∙ ap (λ (t : List ℕ). cells_in t h 0) e ∙ (field_back [] h b y).1

-- the first byte of a row, whatever follows: a row's key is no payload's
pub first_row : (w k : ℕ) (cells x : List ℕ) → 0 < k → get_or (rows_text w k cells ++ x) 0 0 ≡ 114
unfolding row_text
first_row w zero cells x l = absurd (not-suc-le-zero l)
first_row w (suc k) cells x l = refl

first_byte : (w k : ℕ) (cells : List ℕ) → 0 < k → get_or (rows_text w k cells) 0 0 ≡ 114
first_byte w k cells l = ap (λ (t : List ℕ). get_or t 0 0) (sym (append-nil (rows_text w k cells))) ∙ first_row w k cells [] l

pub field_key : (before : List ℕ) (h : Header) (cells : List ℕ) → 0 < h.planes * h.rows
    → is_payload (before ++ field_text h cells) (length before) ≡ false
unfolding field_text key_at
field_key before h cells l =
    fails_below (λ j. eqb (get_or (before ++ field_text h cells) (length before + j) 0) (get_or payload_key j 0)) 0 8
    (omega arith)
    (rw (get_or-append-add before (field_text h cells) 0 0 ∙ first_byte h.columns (rows_of h) cells l))

pub field_not_payload : (h : Header) (cells p : List ℕ) → 0 < h.planes * h.rows
    → payload_text p ≢ field_text h cells
unfolding payload_text field_text
field_not_payload h cells p l e =
    let first : 112 ≡ get_or (field_text h cells) 0 0 = ap (λ (t : List ℕ). get_or t 0 0) e in
    omega (arith, first_byte h.columns (rows_of h) cells l)
