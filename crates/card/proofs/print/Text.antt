-- The parts of an answer's text: the digits of a number, and the rows.
use Prim.Native.Nat.{ℕ, zero, suc, ◌+◌, ◌-◌, ◌*◌, ◌/◌, ◌%◌}
use mathlib.Core.List.{List, [], ◌∷◌, ◌++◌, append_assoc, append-nil}
use mathlib.Core.Path.{◌≡◌, refl, sym, ap, subst, ◌∙◌}
use native.Mathlib.Nat.{zero-mul}
use native.Mathlib.Numerals.{add-one}
use native.Mathlib.Omega.{arith}
use lib.ListN.{take, drop}
use lib.Seq.{drop-drop}
use Rattle.card.specs.Text.{digits, rows_text, row_text}
use Rattle.card.specs.Working.{HasRoom, Printed}
use Rattle.card.proofs.theory.Printed.{printed_then, room_next}

-- the last digit of several
digits_last : (k n : ℕ) → (k ≡ 0 → ⊥) → digits k n ≡ digits (k - 1) (n / 10) ++ ((48 + n % 10) ∷ [])
digits_last zero n p = absurd (p refl)
digits_last (suc k) n p = let e : suc k - 1 ≡ k = omega arith in rw e

-- the rows: one row more behind them
rows_last : (w k : ℕ) (cells : List ℕ) → rows_text w (suc k) cells ≡ rows_text w k cells ++ row_text (take w (drop (k * w) cells))
rows_last w zero cells = append-nil (row_text (take w cells)) ∙ ap (λ (m : ℕ). row_text (take w (drop m cells)))
    (sym (zero-mul w))
rows_last w (suc k) cells =
    let far : w + k * w ≡ suc k * w = omega arith in
    let rest : rows_text w (suc k) (drop w cells)
    ≡ rows_text w k (drop w cells) ++ row_text (take w (drop (suc k * w) cells)) =
    rows_last w k (drop w cells)
    ∙ ap (λ (l : List ℕ). rows_text w k (drop w cells) ++ row_text (take w l))
    (drop-drop (k * w) w cells ∙ ap (λ (m : ℕ). drop m cells) far) in
    ap (λ (t : List ℕ). row_text (take w cells) ++ t) rest
    ∙ sym (append_assoc (row_text (take w cells)) (rows_text w k (drop w cells)) _)

pub rows_more : (w r : ℕ) (cells : List ℕ)
    → rows_text w (r + 1) cells ≡ rows_text w r cells ++ row_text (take w (drop (r * w) cells))
rows_more w r cells = ap (λ (k : ℕ). rows_text w k cells) (add-one r) ∙ rows_last w r cells

-- the digits of a number, the last behind the others
module _ {xs : List ℕ} {at : ℕ} (k n : ℕ) (room : HasRoom xs at (digits k n)) where
  module _ (some : k ≡ 0 → ⊥) where
    parts : HasRoom xs at (digits (k - 1) (n / 10) ++ ((48 + n % 10) ∷ []))
    parts = subst (λ (t : List ℕ). HasRoom xs at t) (digits_last k n some) room

    module _ {ys : List ℕ} {m : ℕ} (p : Printed xs ys at (digits (k - 1) (n / 10)) m) where
      pub last_room : HasRoom ys m ((48 + n % 10) ∷ [])
      last_room = room_next parts p

      pub digits_printed : {zs : List ℕ} {r : ℕ} → Printed ys zs m ((48 + n % 10) ∷ []) r → Printed xs zs at (digits k n) r
      digits_printed {zs} {r} q =
          subst (λ (t : List ℕ). Printed xs zs at t r) (sym (digits_last k n some)) (printed_then parts p q)
