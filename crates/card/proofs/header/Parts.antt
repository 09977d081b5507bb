-- The first lines by their two parts, those that every header has and those of the window, as they are read and written.
use Prim.Native.Nat.{ℕ, ◌≤◌, zero-le}
use mathlib.Core.Bool.{true, false}
use mathlib.Core.List.{List, [], ◌∷◌, ◌++◌}
use mathlib.Core.Path.{◌≡◌, refl, sym, ap, ap₂, subst, ◌∙◌}
use native.Mathlib.Omega.{arith}
use lib.ListN.{length, get_or}
use Rattle.lattice.specs.declared.shape.Window.{Window}
use Rattle.std.specs.Prelude.{Option, Some, None}
use Rattle.card.specs.declared.scan.Found.{Found}
use Rattle.card.specs.declared.header.Header.{Header}
use Rattle.card.specs.Text.{header_keys, window_keys, lines_text, lines_of, window_lines, window_from, header_from, header_text}
use Rattle.card.specs.Parse.{LinesRead, read, before, lines_at, any_key_at, optional_at, header_read, header_of}
use Rattle.card.specs.Working.{window_read, HasRoom, Printed}
use Rattle.card.proofs.theory.Found.{same_value, same_next}
use Rattle.card.proofs.theory.LinesText.{lines_append, LinesStand, lines_text_lem}
use Rattle.card.proofs.theory.WindowText.{window_numbers}
use Rattle.card.proofs.theory.HeaderRest.{numbers}
use Rattle.card.proofs.theory.Printed.{printed_then, room_first, room_next}

-- the header of the numbers of the lines that every header has, and of the lines of the window
abbrev header : List ℕ → Option Window → Header
header ns l =
    let h = header_from ns in
    record { columns = h.columns; rows = h.rows; planes = h.planes; strength = h.strength; window = l }

-- the lines of the window are read
module _ (s : List ℕ) (at : ℕ) where
  pub window_left : any_key_at window_keys s at ≡ false → read None at ≡ window_read (optional_at window_keys s at)
  unfolding optional_at
  window_left e = rw e

  module _ (some : any_key_at window_keys s at ≡ true) where
    pub window_fault : lines_at window_keys s at ≡ None → None ≡ window_read (optional_at window_keys s at)
    unfolding optional_at
    window_fault e = rw (some, e)

    pub window_given : at ≤ length s → (r : Found (List ℕ)) → lines_at window_keys s at ≡ Some r
        → read (Some (record { rows = get_or r.value 0 0; columns = get_or r.value 1 0 })) r.next
        ≡ window_read (optional_at window_keys s at)
    unfolding optional_at
    window_given inside r e = rw (some, e) (go r.value (lines_text_lem window_keys s at r.value r.next inside e).count)
      where
        go : (ns : List ℕ) → length ns ≡ 2
            → read (Some (record { rows = get_or ns 0 0; columns = get_or ns 1 0 })) r.next ≡ read (window_from ns) r.next
        go [] l = absurd (omega arith)
        go (n ∷ ns) l = refl

-- the lines that every header has are read, and then those of the window
module _ (s : List ℕ) where
  pub lines_fault : lines_at header_keys s 0 ≡ None → None ≡ header_of s
  unfolding header_of
  lines_fault e = rw e

  module _ (r : Found (List ℕ)) (lines_read : lines_at header_keys s 0 ≡ Some r) where
    stand : LinesStand header_keys s 0 r.value r.next
    stand = lines_text_lem header_keys s 0 r.value r.next zero-le lines_read

    pub lines_inside : r.next ≤ length s
    lines_inside = stand.inside

    whole : header_of s ≡ header_read (before r.value (optional_at window_keys s r.next))
    unfolding header_of
    whole = rw lines_read

    pub header_fault : None ≡ window_read (optional_at window_keys s r.next) → None ≡ header_of s
    header_fault e = sym (whole ∙ go (optional_at window_keys s r.next) e)
      where
        go : (x : LinesRead) → None ≡ window_read x → header_read (before r.value x) ≡ None
        go (Some w) q = absurd (cc)
        go None q = refl

    pub header_made : (w : Found (Option Window)) → Some w ≡ window_read (optional_at window_keys s r.next)
        → read (header r.value w.value) w.next ≡ header_of s
    header_made w e = sym (whole ∙ go (optional_at window_keys s r.next) e)
      where
        made : (ns ms : List ℕ) → length ns ≡ 4 → header_from (ns ++ ms) ≡ header ns (window_from ms)
        made [] ms l = absurd (omega arith)
        made (a ∷ []) ms l = absurd (omega arith)
        made (a ∷ b ∷ []) ms l = absurd (omega arith)
        made (a ∷ b ∷ c ∷ []) ms l = absurd (omega arith)
        made (a ∷ b ∷ c ∷ d ∷ []) ms l = refl
        made (a ∷ b ∷ c ∷ d ∷ e ∷ ns) ms l = absurd (omega arith)

        go : (x : LinesRead) → Some w ≡ window_read x → header_read (before r.value x) ≡ read (header r.value w.value) w.next
        go (Some m) q =
            ap₂ read (made r.value m.value stand.count ∙ ap (header r.value) (sym (same_value q))) (sym (same_next q))
        go None q = absurd (cc)

-- the lines of the window are written
pub window_lines_lem : (l : Option Window) (w : Window) → l ≡ Some w
    → lines_text (window_lines l) ≡ lines_text (lines_of window_keys (window_numbers (Some w)))
window_lines_lem l w e = ap (λ (k : Option Window). lines_text (window_lines k)) e

-- the lines that every header has are written, and then those of the window
module _ {xs : List ℕ} {at : ℕ} (h : Header) (room : HasRoom xs at (header_text h)) where
  abbrev lines : List ℕ
  lines = lines_text (lines_of header_keys (numbers h))

  abbrev others : List ℕ
  others = lines_text (window_lines h.window)

  header_parts : header_text h ≡ lines ++ others
  unfolding header_text
  header_parts = lines_append (lines_of header_keys (numbers h)) (window_lines h.window)

  both : HasRoom xs at (lines ++ others)
  both = subst (λ (t : List ℕ). HasRoom xs at t) header_parts room

  pub lines_room : HasRoom xs at lines
  lines_room = room_first others both

  module _ {ys : List ℕ} {next : ℕ} (p : Printed xs ys at lines next) where
    pub window_room : HasRoom ys next others
    window_room = room_next both p

    pub header_printed : {zs : List ℕ} {end : ℕ} → Printed ys zs next others end → Printed xs zs at (header_text h) end
    header_printed {zs} {end} q = subst (λ (t : List ℕ). Printed xs zs at t end) (sym header_parts) (printed_then both p q)
