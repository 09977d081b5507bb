-- The field written from a payload, now or before, as a buffer: a lawful field with the payload's bits and right padding.
use Prim.Native.Nat.{ℕ}
use mathlib.Core.List.{List}
use mathlib.Core.Logic.{inl, inr}
use mathlib.Core.Path.{◌≡◌, sym, ◌∙◌, subst⁻¹}
use lib.ListN.{length}
use Rattle.lattice.specs.declared.shape.Shape.{Shape}
use Rattle.lattice.specs.Shape.{Accepted, cells_of}
use Rattle.lattice.specs.Class.{layout_of}
use Rattle.codec.specs.Field.{Field, field_of, Same}
use Rattle.codec.specs.Payload.{Bytes, padding, earlier_padding, encoded_with, Carries, PaddedWith}
use Rattle.codec.specs.Payload.{PaddingRight, held_payload}
use Rattle.codec.specs.Code.{tags_at, LawfulField}
use Rattle.codec.specs.Encode.{field_with, WrittenFrom}
use Rattle.codec.specs.Plan.{plan_bytes}
use Rattle.codec.proofs.theory.Accepted.{plan_bytes_lem}
use Rattle.codec.proofs.theory.Correction.{lawful_same}
use Rattle.codec.proofs.theory.EncodedField.{encoded_carries, encoded_padded, encoded_lawful, encoded_only}
use Rattle.codec.proofs.theory.FieldLists.{length_list_of, get_d_list_of}
use Rattle.codec.proofs.theory.HeldPayload.{carries_same, carries_held}
use Rattle.codec.proofs.theory.PaddingCells.{padded_same}
use Rattle.codec.proofs.theory.PayloadBits.{OfCells, padding_most, earlier_most}

-- a buffer of a lawful field with the bits of a payload of the plan's length holds that payload
pub held : (s : Shape) → Accepted s → (p F : List ℕ) → length p ≡ plan_bytes s → Bytes p
    → LawfulField s (field_of F) → Carries (layout_of s) (field_of F) p → held_payload (layout_of s) (field_of F) ≡ p
held s accepted p F long bytes lawful carries =
    carries_held (layout_of s) (field_of F) lawful.cells p bytes (long ∙ plan_bytes_lem s accepted) carries

module _ (s : Shape) (pad : ℕ → ℕ) (p : List ℕ) where
  -- the buffer has the cells of the payload's field with a padding
  cells_with : Same (encoded_with (layout_of s) pad p) (field_of (field_with s pad p)) (cells_of s)
  unfolding field_with
  cells_with i h = sym (get_d_list_of (encoded_with (layout_of s) pad p) (cells_of s) i h)

  pub long_with : length (field_with s pad p) ≡ cells_of s
  unfolding field_with
  long_with = length_list_of (encoded_with (layout_of s) pad p) (cells_of s)

  pub carries_with : Carries (layout_of s) (field_of (field_with s pad p)) p
  carries_with =
      carries_same (layout_of s) (encoded_with (layout_of s) pad p) (field_of (field_with s pad p)) p cells_with
      (encoded_carries (layout_of s) pad p)

  pub padded_with_lem : PaddedWith (layout_of s) pad (field_of (field_with s pad p))
  padded_with_lem =
      padded_same (layout_of s) (encoded_with (layout_of s) pad p) (field_of (field_with s pad p)) cells_with
      (encoded_padded (layout_of s) pad p)

  module _ (most : OfCells pad) where
    pub lawful_with : LawfulField s (field_of (field_with s pad p))
    lawful_with =
        lawful_same (layout_of s) (tags_at s) (encoded_with (layout_of s) pad p) (field_of (field_with s pad p)) cells_with
        (encoded_lawful (layout_of s) pad p most)

    pub only_with : (f : Field) → LawfulField s f → Carries (layout_of s) f p → PaddedWith (layout_of s) pad f
        → Same f (field_of (field_with s pad p)) (cells_of s)
    only_with f lawful carries padded i h =
        encoded_only (layout_of s) pad p most f lawful carries padded i h ∙ cells_with i h

-- F is the buffer of a lawful field with the payload's bits and right padding
pub record Written (s : Shape) (p F : List ℕ) : Type 0 where
  pub long : length F ≡ cells_of s
  pub lawful : LawfulField s (field_of F)
  pub carries : Carries (layout_of s) (field_of F) p
  pub right : PaddingRight (layout_of s) (field_of F)

-- the field of the payload with a padding is, where that is right
written_with : (s : Shape) (pad : ℕ → ℕ) (p F : List ℕ) → OfCells pad
    → PaddingRight (layout_of s) (field_of (field_with s pad p)) → F ≡ field_with s pad p → Written s p F
written_with s pad p F most right e =
    subst⁻¹ (Written s p) e
    (record {
      long = long_with s pad p;
      lawful = lawful_with s pad p most;
      carries = carries_with s pad p;
      right = right;
    })

-- so the field written from the payload is, now and before
pub written : (s : Shape) (p F : List ℕ) → WrittenFrom s p F → Written s p F
written s p F (inl e) = written_with s padding p F padding_most (inl (padded_with_lem s padding p)) e
written s p F (inr e) = written_with s earlier_padding p F earlier_most (inr (padded_with_lem s earlier_padding p)) e
