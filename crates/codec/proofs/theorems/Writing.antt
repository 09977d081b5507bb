-- Demand 2, writing: the terms of the theorems.
use Prim.Native.Nat.{ℕ}
use mathlib.Core.List.{List}
use mathlib.Core.Path.{sym, ◌∙◌, ap}
use borrow.Author.Tests.{eqb-true}
use lib.Dec.{eqb}
use lib.ListN.{length}
use Rattle.lattice.specs.Shape.{shape_number}
use Rattle.lattice.specs.Class.{layout_of}
use Rattle.lattice.proofs.theory.Answers.{or_else_zero, unless_zero, beside_zero}
use Rattle.codec.specs.Field.{field_of}
use Rattle.codec.specs.Payload.{padding, earlier_padding, held_payload}
use Rattle.codec.specs.Encode.{field_with, encoded_field, encode_number, encode_leaves}
use Rattle.codec.specs.Plan.{plan_bytes, plan_cells}
use Rattle.codec.specs.theorems.Writing.{FieldsMean, EncodeMeaning, EarlierMeaning, OnePayload, EncodeLeaves}
use Rattle.codec.proofs.theory.Accepted.{plan_cells_lem}
use Rattle.codec.proofs.theory.PayloadBits.{OfCells, padding_most, earlier_most}
use Rattle.codec.proofs.theory.WrittenFields.{held, long_with, lawful_with, carries_with, padded_with_lem, only_with}
use Rattle.codec.proofs.theory.WrittenFields.{written}

-- with either padding the field of a payload has the plan's cells, is lawful, has the payload's bits and the padding, and is the
-- only such field; and two different payloads have two different fields
fields_mean : (pad : ℕ → ℕ) → OfCells pad → FieldsMean pad (λ s p. field_with s pad p)
fields_mean pad most =
    record {
      long = λ s p. long_with s pad p;
      lawful = λ s accepted p long bytes. lawful_with s pad p most;
      carries = λ s accepted p long bytes. carries_with s pad p;
      padded = λ s accepted p long bytes. padded_with_lem s pad p;
      only = λ s accepted p long bytes. only_with s pad p most;
      different = λ s accepted p q p-long q-long p-bytes q-bytes e.
          sym (held s accepted p (field_with s pad p) p-long p-bytes (lawful_with s pad p most) (carries_with s pad p))
          ∙ ap (λ (F : List ℕ). held_payload (layout_of s) (field_of F)) e
          ∙ held s accepted q (field_with s pad q) q-long q-bytes (lawful_with s pad q most) (carries_with s pad q);
    }

-- Theorem. The field written is the one lawful field with the payload's bits and the padding.
pub encode_meaning : EncodeMeaning
encode_meaning = fields_mean padding padding_most

-- Theorem. The field that was written before is the one with zeros.
pub earlier_meaning : EarlierMeaning
earlier_meaning = fields_mean earlier_padding earlier_most

-- Theorem. No field was written from two payloads: it holds one.
pub one_payload : OnePayload
one_payload s accepted p q p-long q-long p-bytes q-bytes F from from' =
    let one = written s p F from in
    let other = written s q F from' in
    sym (held s accepted p F p-long p-bytes one.lawful one.carries)
    ∙ held s accepted q F q-long q-bytes other.lawful other.carries

-- Theorem (demand 2). Writing that succeeds leaves the field written.
pub encode_leaves_field : EncodeLeaves
unfolding encode_number encode_leaves
encode_leaves_field s p field e =
    let shape = or_else_zero (shape_number s) _ e in
    let first = unless_zero (eqb (length p) (plan_bytes s)) 2 _ shape.1 in
    let second = unless_zero (eqb (length field) (plan_cells s)) 3 0 first.1 in (
      shape.0,
      eqb-true (length p) (plan_bytes s) first.0,
      eqb-true (length field) (plan_cells s) second.0 ∙ plan_cells_lem s shape.0,
      beside_zero (encode_number s p field) (encoded_field s p) field e,
    )
