-- The first byte of what follows a header: it is not that of a line of the window.
use Prim.Native.Nat.{ℕ, ◌*◌, ◌<◌}
use mathlib.Core.List.{List, [], ◌++◌, append-nil}
use mathlib.Core.Path.{◌≡◌, refl, ap}
use native.Mathlib.Omega.{arith}
use lib.ListN.{get_or}
use Rattle.card.specs.declared.header.Header.{Header}
use Rattle.card.specs.Text.{payload_text, field_text}
use Rattle.card.specs.Form.{NoWindowLine, Body}
use Rattle.card.proofs.theory.FieldText.{first_row}
use Rattle.card.proofs.theory.WindowText.{other_byte}

abbrev pub first : List ℕ → ℕ
first l = get_or l 0 0

pub first_payload : (p x : List ℕ) → first (payload_text p ++ x) ≡ 112
unfolding payload_text
first_payload p x = refl

pub first_rows : (h : Header) (cells x : List ℕ) → 0 < h.planes * h.rows → first (field_text h cells ++ x) ≡ 114
unfolding field_text
first_rows h cells x some = first_row h.columns (h.planes * h.rows) cells x some

-- neither a payload nor a row is taken for a line of the window
pub payload_other : (p : List ℕ) → NoWindowLine (payload_text p)
payload_other p =
    other_byte (payload_text p) (λ e. omega (arith, e, ap first (append-nil (payload_text p)), first_payload p []))

pub rows_other : (h : Header) (cells : List ℕ) → 0 < h.planes * h.rows → NoWindowLine (field_text h cells)
rows_other h cells some =
    other_byte (field_text h cells) (λ e. omega (
      arith,
      e,
      ap first (append-nil (field_text h cells)),
      first_rows h cells []
          some,
    ))

-- nor are they where more stands behind them
pub body_other : (h : Header) (rest more : List ℕ) → 0 < h.planes * h.rows → Body h rest → NoWindowLine (rest ++ more)
body_other h rest more some (Body.payload p _ e) =
    other_byte (rest ++ more) (λ z. omega (arith, z, ap (λ (l : List ℕ). first (l ++ more)) e, first_payload p more))
body_other h rest more some (Body.rows cells _ e) =
    other_byte (rest ++ more) (λ z. omega (arith, z, ap (λ (l : List ℕ). first (l ++ more)) e, first_rows h cells more some))
