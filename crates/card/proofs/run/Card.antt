-- A card's shape, and the operations on it: what encoding and decoding leave, and the answers that are made of it.
use Prim.Native.Nat.{ℕ, ◌*◌, ◌/◌, ◌<◌, ◌≤◌}
use mathlib.Core.Bool.{Bool}
use mathlib.Core.List.{List, ◌++◌, append_assoc}
use mathlib.Core.Path.{◌≡◌, sym, ap, ap₂, ◌∙◌}
use lib.ListN.{length}
use Rattle.std.specs.Prelude.{Result, Ok}
use Rattle.lattice.specs.declared.shape.Shape.{Shape}
use Rattle.lattice.specs.declared.refusal.Refusal.{Refusal}
use Rattle.lattice.specs.Refusal.{refusal_number, figure}
use Rattle.lattice.specs.Answer.{IsNewShape}
use Rattle.lattice.specs.Shape.{max_side, max_planes, shape_number, Accepted, cells_of}
use Rattle.lattice.specs.Class.{classes_of, layout_of}
use Rattle.lattice.specs.Check.{capacity}
use Rattle.lattice.proofs.theory.Answers.{beside_zero, refused}
use Rattle.lattice.proofs.theory.ClassAt.{at_cells}
use Rattle.lattice.proofs.theory.NewShapes.{new_accepted, new_shape_lem}
use Rattle.codec.specs.Payload.{Bytes}
use Rattle.codec.specs.Plan.{plan_classes, plan_capacity, plan_bytes}
use Rattle.codec.specs.Encode.{encode_number, encoded_field, encode_leaves}
use Rattle.codec.specs.Decode.{decode_number, decode_count, decode_leaves}
use Rattle.codec.proofs.theory.Accepted.{encode_number_lem}
use Rattle.card.specs.declared.header.Header.{Header}
use Rattle.card.specs.Text.{number_line, header_text, payload_text, field_text, refusal_text, classes_key, mended_key}
use Rattle.card.specs.Card.{max_card_cells, max_card_bytes, shape_numbers, shape_of, FieldCells}
use Rattle.card.specs.Parse.{rows_ok, cells_of_rows}
use Rattle.card.specs.Program.{blank_field, blank_payload, rows_fit, cells_in, written_text, read_text}
use Rattle.card.specs.Working.{CardShape, head_text, encoded_text, decoded_text}
use Rattle.card.proofs.theory.CardLimits.{limits, rows_most, bytes_most}
use Rattle.card.proofs.theory.CardPlan.{leaves_long}
use Rattle.card.proofs.theory.PrintedRows.{written_cells}
use Rattle.card.proofs.theory.ProgramParts.{blank_field_lem, blank_payload_lem}
use Rattle.card.proofs.theory.ProgramTests.{encoded_long}

-- the constructor's answer to a header
module _ (h : Header) (r : Result Shape Refusal) (x : IsNewShape (shape_numbers h) r) where
  module _ (s : Shape) (e : r ≡ Ok s) where
    cells_given : (n : ℕ) → n ≡ figure (shape_number s) (cells_of s) → n ≡ cells_of (shape_of h)
    cells_given n p =
        at_cells (shape_of h) (new_accepted _ _ x s e) n
        (p ∙ ap (λ (t : Shape). figure (shape_number t) (cells_of t)) (new_shape_lem _ _ x s e))

    pub new_many : (n : ℕ) → n ≡ figure (shape_number s) (cells_of s) → max_card_cells < n → max_card_cells
        < cells_of (shape_of h)
    new_many n p l = rw (cells_given n p) at l

-- the figures of a card's shape
module _ (h : Header) (s : Shape) (x : CardShape h s) where
  accepted : Accepted s
  accepted = rw x.shape x.card.accepted

  pub cells_are : (n : ℕ) → n ≡ figure (shape_number s) (cells_of s) → n ≡ cells_of s
  cells_are = at_cells s accepted

  pub cells_fit : (n : ℕ) → n ≡ figure (shape_number s) (cells_of s) → n ≤ max_card_cells
  cells_fit n e = rw (cells_are n e, x.shape) x.card.cells

  pub bytes_are : (k : ℕ) → k ≡ figure (shape_number s) (capacity (layout_of s)) → k / 8 ≡ plan_bytes s
  unfolding plan_bytes plan_capacity
  bytes_are k e = ap (λ (n : ℕ). n / 8) e

  pub bytes_fit : plan_bytes s ≤ max_card_bytes
  bytes_fit = rw x.shape (bytes_most h x.card)

  pub columns_some : 0 < s.columns
  columns_some = rw x.shape (limits h x.card).width_low

  pub columns_narrow : s.columns ≤ max_side
  columns_narrow = rw x.shape (limits h x.card).width_high

  pub lines_most_lem : s.planes * s.rows ≤ max_planes * max_side
  lines_most_lem = rw x.shape (rows_most h x.card)

  -- encoding, into a field of the card's cells
  module _ (payload field : List ℕ) (cells : length field ≡ cells_of s) where
    blank_number : encode_number s payload field ≡ encode_number (shape_of h) payload (blank_field h)
    unfolding encode_number
    blank_number =
        let n : length field ≡ length (blank_field h) = cells ∙ ap cells_of x.shape ∙ sym (blank_field_lem h) in
        rw n (ap (λ (t : Shape). encode_number t payload (blank_field h)) x.shape)

    pub encoded_refused : (why : Refusal) → refusal_number why ≡ encode_number s payload field
        → refusal_text (refusal_number why) ≡ encoded_text h payload
    unfolding encoded_text
    encoded_refused why e = let n = e ∙ blank_number in ap refusal_text n ∙ refused why _ _ _ n

    pub encoded_length : 0 ≡ encode_number s payload field → length payload ≡ plan_bytes s
    encoded_length e = encoded_long h x.card payload (sym blank_number ∙ sym e) ∙ ap plan_bytes (sym x.shape)

    pub encoded_done : 0 ≡ encode_number s payload field → written_text h payload ≡ encoded_text h payload
    unfolding encoded_text
    encoded_done e = sym (beside_zero (encode_number (shape_of h) payload (blank_field h)) _ _ (sym blank_number ∙ sym e))

  -- it leaves the field written
  module _ (payload field last : List ℕ) (long : length payload ≡ plan_bytes s) (cells : length field ≡ cells_of s)
      (leaves : last ≡ encode_leaves s payload field) where
    field_encoded : last ≡ encoded_field (shape_of h) payload
    unfolding encode_leaves
    field_encoded =
        leaves
        ∙ rw (encode_number_lem s accepted payload field long cells)
        (ap (λ (t : Shape). encoded_field t payload) x.shape)

    pub encoded_cells : Bytes payload → FieldCells h last
    encoded_cells bytes =
        rw field_encoded (written_cells h x.card payload (long ∙ ap plan_bytes x.shape) bytes)

    pub card_written : (m : ℕ) → m ≡ figure (shape_number s) (classes_of s)
        → head_text h classes_key m ++ field_text h last ≡ written_text h payload
    unfolding head_text written_text plan_classes
    card_written m e =
        append_assoc (header_text h) (number_line classes_key m) (field_text h last)
        ∙ ap₂
        (λ (n : ℕ) (f : List ℕ). header_text h ++ (number_line classes_key n ++ field_text h f))
        (e ∙ ap (λ (t : Shape). figure (shape_number t) (classes_of t)) x.shape)
        field_encoded

  -- decoding, into a payload of zeros
  module _ (payload cells : List ℕ) (blank : payload ≡ blank_payload h) where
    same_number : decode_number s payload cells ≡ decode_number (shape_of h) (blank_payload h) cells
    same_number = ap₂ (λ (t : Shape) (p : List ℕ). decode_number t p cells) x.shape blank

    pub decoded_refused : (why : Refusal)
        → refusal_number why ≡ decode_number s payload cells
        → refusal_text (refusal_number why) ≡ decoded_text h cells
    unfolding decoded_text
    decoded_refused why e = let n = e ∙ same_number in ap refusal_text n ∙ refused why _ _ _ n

    module _ (last : List ℕ) (leaves : last ≡ decode_leaves s payload cells) where
      pub decoded_long : length last ≤ max_card_bytes
      decoded_long =
          rw (
            leaves,
            leaves_long s accepted payload cells
                (ap length blank ∙ blank_payload_lem h ∙ ap plan_bytes (sym x.shape)),
          )
          bytes_fit

      pub card_decoded : (k : ℕ) → 0 ≡ decode_number s payload cells → k ≡ decode_count s payload cells
          → head_text h mended_key k ++ payload_text last ≡ decoded_text h cells
      unfolding head_text decoded_text read_text
      card_decoded k e f =
          append_assoc (header_text h) (number_line mended_key k) (payload_text last)
          ∙ ap₂
          (λ (m : ℕ) (p : List ℕ). header_text h ++ (number_line mended_key m ++ payload_text p))
          (f ∙ ap₂ (λ (t : Shape) (p : List ℕ). decode_count t p cells) x.shape blank)
          (leaves ∙ ap₂ (λ (t : Shape) (p : List ℕ). decode_leaves t p cells) x.shape blank)
          ∙ sym (beside_zero (decode_number (shape_of h) (blank_payload h) cells) _ _ (sym same_number ∙ sym e))

-- the rows of a card, read by its shape
module _ (h : Header) (s : Shape) (x : CardShape h s) (input : List ℕ) (next : ℕ) where
  pub rows_fit_lem : (t : Bool) → t ≡ rows_ok input next s.columns (s.planes * s.rows) → t ≡ rows_fit input h next
  rows_fit_lem t e = e ∙ ap (λ (k : Shape). rows_ok input next k.columns (k.planes * k.rows)) x.shape

  pub cells_read : (last : List ℕ) (n : ℕ)
      → n ≡ cells_of s
      → last ≡ cells_of_rows input next s.columns n
      → last ≡ cells_in input h next
  cells_read last n e p =
      p
      ∙ ap (cells_of_rows input next s.columns) e
      ∙ ap (λ (k : Shape). cells_of_rows input next k.columns (cells_of k)) x.shape
