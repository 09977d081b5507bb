-- Card texts there and back: what is printed, now or before, is read again, whole, damaged and with erased cells.
use Rattle.std.specs.Prelude.{ℕ, Bool, true, List, ◌++◌, ◌⊎◌, ◌≡◌, ℤ, length}
use Rattle.lattice.specs.Shape.{cells_of}
use Rattle.lattice.specs.Cell.{Cell}
use Rattle.lattice.specs.Cluster.{Cluster, AtMost}
use Rattle.lattice.specs.Window.{InWindow}
use Rattle.codec.specs.Field.{field_of, differences}
use Rattle.codec.specs.Payload.{Bytes}
use Rattle.codec.specs.Plan.{plan_classes, plan_bytes}
use Rattle.codec.specs.Encode.{encoded_field, earlier_field, WrittenFrom}
use Rattle.codec.specs.Damage.{damaged_field, erased_field, selected_cells}
use Rattle.card.specs.declared.header.Header.{Header}
use Rattle.card.specs.Text.{header_text, number_line, payload_text, classes_key, mended_key}
use Rattle.card.specs.Card.{window_of, shape_of, CardHeader, payload_card, field_card}
use Rattle.card.specs.Program.{answer}

-- what is printed for a payload is the header, the line `classes` and a rest; with that line taken out it is the card text of the
-- field written, and is read back to `mended=0` and the payload
pub record ReadBack (h : Header) (p : List ℕ) : Type 0 where
  pub rest : List ℕ
  pub printed : answer (payload_card h p) ≡ header_text h ++ (number_line classes_key (plan_classes (shape_of h)) ++ rest)
  pub rows : header_text h ++ rest ≡ field_card h (encoded_field (shape_of h) p)
  pub read : answer (header_text h ++ rest) ≡ header_text h ++ (number_line mended_key 0 ++ payload_text p)

-- Theorem. What the program prints for a payload it reads back, and so it does the rows that it printed before, with zeros for
-- padding; and with demand 3's damage to the rows, printed now or before, `mended` is the number of cells changed and the payload
-- is the same.
pub record PrintedIsRead : Type 1 where
  pub whole : (h : Header) → CardHeader h → (p : List ℕ) → length p ≡ plan_bytes (shape_of h) → Bytes p → ReadBack h p
  pub earlier : (h : Header) → CardHeader h → (p : List ℕ) → length p ≡ plan_bytes (shape_of h) → Bytes p
      → answer (field_card h (earlier_field (shape_of h) p)) ≡ header_text h ++ (number_line mended_key 0 ++ payload_text p)
  pub damaged : (h : Header) → CardHeader h
      → (p F : List ℕ) → length p ≡ plan_bytes (shape_of h) → Bytes p → WrittenFrom (shape_of h) p F
      → (S : Cell → Type 0) → Cluster (shape_of h) S → AtMost h.strength S
      → (selected : Cell → Bool) → ((x : Cell) → selected x ≡ true → S x)
      → answer (field_card h (damaged_field (shape_of h) F selected))
      ≡ header_text h
      ++ (number_line mended_key
      (differences (field_of F) (field_of (damaged_field (shape_of h) F selected)) (cells_of (shape_of h)))
      ++ payload_text p)

-- Theorem. With any cells of any two clusters of at most t cells each printed as 2, and all others as they were written, now or
-- before, `mended` is the number of those cells and the payload is the same.
abbrev pub ErasedIsRead : Type 1
ErasedIsRead =
    (h : Header) → CardHeader h
    → (p F : List ℕ) → length p ≡ plan_bytes (shape_of h) → Bytes p → WrittenFrom (shape_of h) p F
    → (S T : Cell → Type 0) → Cluster (shape_of h) S → AtMost h.strength S
    → Cluster (shape_of h) T → AtMost h.strength T
    → (selected : Cell → Bool) → ((x : Cell) → selected x ≡ true → S x ⊎ T x)
    → answer (field_card h (erased_field (shape_of h) F selected))
    ≡ header_text h ++ (number_line mended_key (selected_cells (shape_of h) selected) ++ payload_text p)

-- Theorem. By window it is read back, printed now or before, with any cells inside one window turned over in the rows, and with
-- any cells inside two windows printed as 2; each may hang over any edge.
pub record WindowIsRead : Type 0 where
  pub damaged : (h : Header) → CardHeader h → h.strength ≡ 0
      → (p F : List ℕ) → length p ≡ plan_bytes (shape_of h) → Bytes p → WrittenFrom (shape_of h) p F
      → (r c : ℤ) (selected : Cell → Bool) → ((x : Cell) → selected x ≡ true → InWindow (window_of h.window) r c x)
      → answer (field_card h (damaged_field (shape_of h) F selected))
      ≡ header_text h
      ++ (number_line mended_key
      (differences (field_of F) (field_of (damaged_field (shape_of h) F selected)) (cells_of (shape_of h)))
      ++ payload_text p)
  pub erased : (h : Header) → CardHeader h → h.strength ≡ 0
      → (p F : List ℕ) → length p ≡ plan_bytes (shape_of h) → Bytes p → WrittenFrom (shape_of h) p F
      → (r c u v : ℤ) (selected : Cell → Bool)
      → ((x : Cell) → selected x ≡ true → InWindow (window_of h.window) r c x ⊎ InWindow (window_of h.window) u v x)
      → answer (field_card h (erased_field (shape_of h) F selected))
      ≡ header_text h ++ (number_line mended_key (selected_cells (shape_of h) selected) ++ payload_text p)
