-- The payload that a field holds.
use Prim.Native.Nat.{ℕ, suc, ◌+◌, ◌-◌, ◌*◌, ◌/◌, ◌%◌, ◌^◌, ◌<◌, ◌≤◌}
use mathlib.Core.Bool.{true}
use mathlib.Core.List.{List}
use mathlib.Core.Path.{◌≡◌, refl, sym, ap, ◌∙◌}
use native.Mathlib.Decide.{dec_lt}
use native.Mathlib.Omega.{arith}
use lib.ListN.{get_or, length}
use lib.Pow.{pow_mono}
use Rattle.lattice.specs.Position.{Layout}
use Rattle.lattice.specs.Check.{holds_data}
use Rattle.codec.specs.Field.{Field, Cells, Same}
use Rattle.codec.specs.Payload.{Bytes, payload_bytes, rank, payload_bit, Carries, held_byte, held_payload}
use Rattle.codec.proofs.theory.CellValues.{cell_most}
use Rattle.codec.proofs.theory.FieldLists.{length_list_of, get_d_list_of, get_d_list_of_behind, list_of_same}
use Rattle.codec.proofs.theory.HeldByte.{DataCells, bits_of, byte_below, byte_bit, byte_same}
use Rattle.codec.proofs.theory.Ranks.{bytes_most, rank_all, rank_some}
use Rattle.codec.proofs.theorems.Payload.{bits_tell}

-- every bit of byte r / 8 is made once 8 m data cells are passed, where r is below 8 m
full : (r q m : ℕ) → r < 8 * m → 8 * m ≤ q → 7 - r % 8 + suc (r % 8) ≡ bits_of (r / 8) q
full r q m l k = omega arith

module _ (L : Layout) where
  -- it has the payload's length
  pub held_length : (f : Field) → length (held_payload L f) ≡ payload_bytes L
  unfolding held_payload
  held_length f = length_list_of _ (payload_bytes L)

  held_byte_lem : (f : Field) (j : ℕ) → j < payload_bytes L → get_or (held_payload L f) j 0 ≡ held_byte L f j L.cells
  unfolding held_payload
  held_byte_lem f j l = get_d_list_of (λ j. held_byte L f j L.cells) (payload_bytes L) j l

  held_behind : (f : Field) (j : ℕ) → payload_bytes L ≤ j → get_or (held_payload L f) j 0 ≡ 0
  unfolding held_payload
  held_behind f j l = get_d_list_of_behind _ (payload_bytes L) j l

  -- fields that agree on the data cells hold one payload
  held_data : (f g : Field) → ((i : ℕ) → i < L.cells → holds_data L i ≡ true → f i ≡ g i) → held_payload L f ≡ held_payload L g
  unfolding held_payload
  held_data f g s = list_of_same _ _ (payload_bytes L) (λ j l. byte_same L f g j L.cells s)

  pub held_same : (f g : Field) → Same f g L.cells → held_payload L f ≡ held_payload L g
  held_same f g s = held_data f g (λ i l e. s i l)

  -- every element is a byte, where the data cells are 0 or 1
  bytes : (f : Field) → DataCells L f L.cells → Bytes (held_payload L f)
  bytes f c j = go (dec_lt j (payload_bytes L))
    where
      go : Dec (j < payload_bytes L) → get_or (held_payload L f) j 0 < 256
      go (yes l) =
          let m : bits_of j (rank L L.cells) ≤ 8 = omega arith in
          omega (arith, held_byte_lem f j l, byte_below L f j L.cells c, pow_mono m)
      go (no l) = omega (arith, held_behind f j (omega arith))

  -- bit k is the value of the data cell of rank k
  bits : (f : Field) → DataCells L f L.cells → (i : ℕ) → i < L.cells → holds_data L i ≡ true → rank L i < 8 * payload_bytes L
      → payload_bit (held_payload L f) (rank L i) ≡ f i
  unfolding payload_bit
  bits f c i l h r =
      ap (λ (b : ℕ). b / 2 ^ (7 - rank L i % 8) % 2) (held_byte_lem f (rank L i / 8) (omega arith))
      ∙ byte_bit L f (rank L i / 8) i L.cells l c h refl (7 - rank L i % 8)
      (full (rank L i) (rank L L.cells) (payload_bytes L) r (omega (arith, bytes_most L, rank_all L)))

  data_cells_lem : (f : Field) → Cells f L.cells → DataCells L f L.cells
  data_cells_lem f c i l h = cell_most _ (c i l)

  pub held_bit : (f : Field) → Cells f L.cells → (i : ℕ) → i < L.cells → holds_data L i ≡ true
      → rank L i < 8 * payload_bytes L → payload_bit (held_payload L f) (rank L i) ≡ f i
  held_bit f c = bits f (data_cells_lem f c)

  pub held_bytes : (f : Field) → Cells f L.cells → Bytes (held_payload L f)
  held_bytes f c = bytes f (data_cells_lem f c)

  -- a field has the bits of the payload that it holds
  pub held_carries : (f : Field) → Cells f L.cells → Carries L f (held_payload L f)
  held_carries f c i l h r = sym (held_bit f c i l h r)

  -- a field that has a payload's bits holds it
  pub carries_held : (f : Field) → Cells f L.cells → (p : List ℕ) → Bytes p → length p ≡ payload_bytes L → Carries L f p
      → held_payload L f ≡ p
  carries_held f cells p b l c = bits_tell (held_payload L f) p (held_bytes f cells) b (held_length f ∙ sym l) bit
    where
      at : (k : ℕ) → k < 8 * payload_bytes L → (i : ℕ) × (i < L.cells) × (holds_data L i ≡ true) × (rank L i ≡ k)
          → payload_bit (held_payload L f) k ≡ payload_bit p k
      at k m r =
          let own : rank L r.0 < 8 * payload_bytes L = omega (arith, r.3) in
          ap (payload_bit (held_payload L f)) (sym r.3)
          ∙ held_bit f cells r.0 r.1 r.2 own
          ∙ c r.0 r.1 r.2 own
          ∙ ap (payload_bit p) r.3

      bit : (k : ℕ) → k < 8 * length (held_payload L f) → payload_bit (held_payload L f) k ≡ payload_bit p k
      bit k m =
          let q : k < 8 * payload_bytes L = omega (arith, held_length f) in
          at k q (rank_some L k (omega (arith, bytes_most L)))

  -- only the cells of the field matter
  pub carries_same : (f g : Field) (p : List ℕ) → Same f g L.cells → Carries L f p → Carries L g p
  carries_same f g p s c i l h r = sym (s i l) ∙ c i l h r
