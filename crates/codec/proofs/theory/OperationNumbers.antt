-- The numbers that an operation's tests give in their order: what each test adds, and what the number 0 tells.
use Prim.Native.Nat.{ℕ, zero, suc, ◌/◌}
use mathlib.Core.Bool.{Bool, true, false}
use mathlib.Core.List.{List}
use mathlib.Core.Path.{◌≡◌, refl, sym, ap, ◌∙◌}
use lib.Dec.{eqb}
use lib.ListN.{length}
use borrow.Author.Tests.{eq-eqb, ne_eqb, eqb-true}
use Rattle.lattice.specs.declared.refusal.Refusal.{Refusal}
use Rattle.lattice.specs.declared.shape.Shape.{Shape}
use Rattle.lattice.specs.Refusal.{refusal_number, unless, or_else, figure}
use Rattle.lattice.specs.Shape.{shape_number, Accepted, cells_of}
use Rattle.lattice.specs.Class.{classes_of, layout_of}
use Rattle.lattice.specs.Check.{capacity, data_in}
use Rattle.lattice.proofs.theory.Answers.{earlier_told, unless_zero, or_else_zero, beside_zero}
use Rattle.lattice.proofs.theory.CapacityGiven.{capacity_accepted}
use Rattle.codec.specs.Field.{field_of}
use Rattle.codec.specs.Payload.{payload_bytes}
use Rattle.codec.specs.Plan.{plan_capacity, plan_bytes, plan_cells}
use Rattle.codec.specs.Encode.{encode_number}
use Rattle.codec.specs.Decode.{field_number, decode_number}
use Rattle.codec.specs.Correct.{correct_number}
use Rattle.lattice.specs.Sizes.{HoldsSizes}
use Rattle.codec.specs.Working.{length_number}
use Rattle.codec.specs.Reach.{Readable}
use Rattle.codec.proofs.theory.Accepted.{plan_bytes_lem, plan_cells_lem}
use Rattle.codec.proofs.theory.FieldNumber.{zero_cells, zero_few}
use Rattle.codec.proofs.theory.FieldTests.{tested_few}

-- the payload's length that the sizes of the classes give is the plan's
pub bytes_given : (s : Shape) (sizes : List ℕ) (k m : ℕ) → Accepted s → HoldsSizes (layout_of s) sizes (cells_of s)
    → m ≡ figure (shape_number s) (classes_of s) → k ≡ data_in sizes m → k / 8 ≡ plan_bytes s
unfolding plan_bytes plan_capacity
bytes_given s sizes k m a p given e =
    ap
    (λ (n : ℕ). n / 8)
    (e ∙ capacity_accepted s sizes m a p given ∙ sym (beside_zero (shape_number s) (capacity (layout_of s)) 0 a))

pub cells_given : (s : Shape) (n : ℕ) → n ≡ figure (shape_number s) (cells_of s) → n ≡ plan_cells s
unfolding plan_cells
cells_given s n e = e

-- the tests of the lengths
module _ (s : Shape) (payload field : List ℕ) where
  pub length_refused : (r : Refusal) → refusal_number r ≡ shape_number s → refusal_number r ≡ length_number s payload field
  unfolding length_number
  length_refused r e = earlier_told r _ _ e

  module _ (a : Accepted s) where
    pub payload_number : (length payload ≡ plan_bytes s → ⊥) → length_number s payload field ≡ 3
    unfolding length_number
    payload_number d = rw (a, ne_eqb (length payload) (plan_bytes s) d)

    module _ (e : length payload ≡ plan_bytes s) where
      pub field_number_lem : (length field ≡ plan_cells s → ⊥) → length_number s payload field ≡ 4
      unfolding length_number
      field_number_lem d = rw (a, eq-eqb (length payload) (plan_bytes s) e, ne_eqb (length field) (plan_cells s) d)

      pub fit_number : length field ≡ plan_cells s → length_number s payload field ≡ 0
      unfolding length_number
      fit_number f = rw (a, eq-eqb (length payload) (plan_bytes s) e, eq-eqb (length field) (plan_cells s) f)

  -- encoding has these tests, and decoding has the field's own behind them
  pub encode_tests : encode_number s payload field ≡ length_number s payload field
  unfolding encode_number length_number
  encode_tests = refl

  pub decode_tests : or_else (length_number s payload field) (field_number s (field_of field)) ≡ decode_number s payload field
  unfolding decode_number length_number
  decode_tests = go (shape_number s) (eqb (length payload) (plan_bytes s)) (eqb (length field) (plan_cells s))
    where
      go : (n : ℕ) (p f : Bool)
          → or_else (or_else n (unless p 3 (unless f 4 0))) (field_number s (field_of field))
          ≡ or_else n (unless p 3 (unless f 4 (field_number s (field_of field))))
      go zero true true = refl
      go zero true false = refl
      go zero false f = refl
      go (suc n) p f = refl

-- what a field that is not refused tells
taken : (s : Shape) (field : List ℕ) → Accepted s
    → unless (eqb (length field) (plan_cells s)) 4 (field_number s (field_of field)) ≡ 0 → Readable s field
taken s field a e =
    let f = unless_zero (eqb (length field) (plan_cells s)) 3 _ e in
    record {
      accepted = a;
      long = eqb-true (length field) (plan_cells s) f.0 ∙ plan_cells_lem s a;
      cells = zero_cells s (field_of field) f.1;
      few = tested_few s a (field_of field) (zero_few s (field_of field) f.1);
    }

pub decode_taken : (s : Shape) (payload field : List ℕ) → decode_number s payload field ≡ 0
    → Readable s field × (length payload ≡ payload_bytes (layout_of s))
unfolding decode_number
decode_taken s payload field e =
    let a = or_else_zero (shape_number s) _ e in
    let p = unless_zero (eqb (length payload) (plan_bytes s)) 2 _ a.1 in
    (taken s field a.0 p.1, eqb-true (length payload) (plan_bytes s) p.0 ∙ plan_bytes_lem s a.0)

-- correcting has the test of the field's length alone between the shape's and the field's own
module _ (s : Shape) (field : List ℕ) where
  pub correct_refused_lem : (r : Refusal) → refusal_number r ≡ shape_number s → refusal_number r ≡ correct_number s field
  unfolding correct_number
  correct_refused_lem r e = earlier_told r _ _ e

  pub correct_length : Accepted s → (length field ≡ plan_cells s → ⊥) → correct_number s field ≡ 4
  unfolding correct_number
  correct_length a d = rw (a, ne_eqb (length field) (plan_cells s) d)

  pub correct_taken : correct_number s field ≡ 0 → Readable s field
  unfolding correct_number
  correct_taken e = let a = or_else_zero (shape_number s) _ e in taken s field a.0 a.1
