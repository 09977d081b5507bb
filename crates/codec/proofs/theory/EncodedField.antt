-- The field of a payload with a padding is lawful, has the payload's bits and the padding, and is the only such field.
use Prim.Native.Nat.{ℕ, ◌*◌, ◌/◌, ◌%◌, ◌<◌}
use mathlib.Core.Bool.{true, false}
use mathlib.Core.List.{List}
use mathlib.Core.Path.{◌≡◌, refl, sym, ◌∙◌}
use native.Mathlib.Decide.{dec_lt}
use native.Mathlib.Omega.{arith}
use Rattle.lattice.specs.Position.{Layout, position}
use Rattle.lattice.specs.Check.{holds_data}
use Rattle.codec.specs.Field.{Field, Cells, Same}
use Rattle.codec.specs.Hamming.{tags_of, syndrome, Lawful}
use Rattle.codec.specs.Payload.{rank, data_value, data_field, encoded_with, Carries, PaddedWith, payload_bytes}
use Rattle.codec.proofs.theory.CellValues.{most_cell}
use Rattle.codec.proofs.theory.CompletedField.{completed_data, completed_check, completed_lawful, codeword_unique}
use Rattle.codec.proofs.theory.PayloadBits.{OfCells, value_bit, value_padding, data_value_most}

module _ (L : Layout) (pad : ℕ → ℕ) (p : List ℕ) where
  -- the payload's bits and the padding, by the cells that have them
  abbrev carried : Field
  carried i = data_value pad (payload_bytes L) p (rank L i)

  pub encoded_check : (i : ℕ) → holds_data L i ≡ false
      → encoded_with L pad p i ≡ syndrome L (tags_of L) (data_field L pad p) (L.class i) / position L i % 2
  unfolding encoded_with data_field
  encoded_check i e = completed_check L carried i e

  -- it has them in its data cells
  encoded_data : (i : ℕ) → holds_data L i ≡ true → encoded_with L pad p i ≡ data_value pad (payload_bytes L) p (rank L i)
  unfolding encoded_with data_field
  encoded_data i e = completed_data L carried i e

  pub encoded_carries : Carries L (encoded_with L pad p) p
  encoded_carries i l e r = encoded_data i e ∙ value_bit pad (payload_bytes L) p (rank L i) r

  pub encoded_padded : PaddedWith L pad (encoded_with L pad p)
  encoded_padded i l e r = encoded_data i e ∙ value_padding pad (payload_bytes L) p (rank L i) r

  -- with a padding of cells it is these data made lawful
  module _ (most : OfCells pad) where
    carried_cells : Cells carried L.cells
    carried_cells i l = most_cell _ (data_value_most pad (payload_bytes L) p (rank L i) most)

    pub encoded_lawful : Lawful L (tags_of L) (encoded_with L pad p)
    unfolding encoded_with data_field
    encoded_lawful = completed_lawful L carried carried_cells

    -- it is the only lawful field with these bits and this padding
    pub encoded_only : (f : Field) → Lawful L (tags_of L) f → Carries L f p → PaddedWith L pad f
        → Same f (encoded_with L pad p) L.cells
    encoded_only f u bits padded i l =
        let v = encoded_lawful in
        codeword_unique L (L.class i) f (encoded_with L pad p) u.cells v.cells (u.classes (L.class i))
        (v.classes (L.class i)) (λ j m q e. here j m e (dec_lt (rank L j) (8 * payload_bytes L))) i l refl
      where
        here : (j : ℕ) → j < L.cells → holds_data L j ≡ true → Dec (rank L j < 8 * payload_bytes L)
            → f j ≡ encoded_with L pad p j
        here j m e (yes r) = bits j m e r ∙ sym (encoded_carries j m e r)
        here j m e (no r) = padded j m e (omega arith) ∙ sym (encoded_padded j m e (omega arith))
