-- The numbers that the tests of an operation on levels give in their order: what each test adds, and the number on buffers of the
-- plan's lengths.
use Prim.Native.Nat.{ℕ, zero, suc}
use mathlib.Core.Bool.{Bool, true, false}
use mathlib.Core.List.{List}
use mathlib.Core.Logic.{◌↔◌}
use mathlib.Core.Path.{◌≡◌, refl, sym, ◌∙◌}
use native.Mathlib.Omega.{arith}
use lib.Dec.{eqb}
use lib.ListN.{length}
use borrow.Author.Tests.{eq-eqb, ne_eqb, eqb-true}
use Rattle.lattice.specs.declared.refusal.Refusal.{Refusal}
use Rattle.lattice.specs.declared.shape.Shape.{Shape}
use Rattle.lattice.specs.Refusal.{refusal_number, unless, or_else}
use Rattle.lattice.specs.Shape.{shape_number, Accepted, cells_of}
use Rattle.lattice.specs.Class.{layout_of}
use Rattle.lattice.proofs.theory.Answers.{earlier_told, unless_zero, or_else_zero}
use Rattle.codec.specs.Field.{Field, field_of}
use Rattle.codec.specs.Plan.{plan_cells, plan_digits}
use Rattle.codec.proofs.theory.Accepted.{plan_cells_lem}
use Rattle.levels.specs.Level.{levels_ok}
use Rattle.levels.specs.Restored.{levels_in_reach}
use Rattle.levels.specs.Encode.{Writable, encode_levels_number}
use Rattle.levels.specs.Decode.{restored_field, levels_number, decode_levels_number}
use Rattle.levels.specs.Correct.{correct_levels_number}
use Rattle.levels.specs.Reach.{ReadableLevels, FromLawful, NoWordInReach}
use Rattle.levels.specs.Working.{lengths_number}
use Rattle.levels.proofs.theory.LevelTests.{levels_ok_lem, ok_levels}
use Rattle.levels.proofs.theory.WordReach.{from_reach, reach_from, none_in_reach, in_reach_all}

-- the tests of the lengths
module _ (s : Shape) (payload field : List ℕ) where
  pub lengths_refused : (r : Refusal) → refusal_number r ≡ shape_number s → refusal_number r ≡ lengths_number s payload field
  unfolding lengths_number
  lengths_refused r e = earlier_told r _ _ e

  module _ (a : Accepted s) where
    pub digits_number : (length payload ≡ plan_digits s → ⊥) → lengths_number s payload field ≡ 3
    unfolding lengths_number
    digits_number d = rw (a, ne_eqb (length payload) (plan_digits s) d)

    module _ (e : length payload ≡ plan_digits s) where
      pub field_number_lem : (length field ≡ plan_cells s → ⊥) → lengths_number s payload field ≡ 4
      unfolding lengths_number
      field_number_lem d = rw (a, eq-eqb (length payload) (plan_digits s) e, ne_eqb (length field) (plan_cells s) d)

      pub fit_number : length field ≡ plan_cells s → lengths_number s payload field ≡ 0
      unfolding lengths_number
      fit_number f = rw (a, eq-eqb (length payload) (plan_digits s) e, eq-eqb (length field) (plan_cells s) f)

  -- behind them encoding tests the digits, and decoding the field
  behind_lengths : (later : ℕ) → or_else (lengths_number s payload field) later
      ≡ or_else (shape_number s)
      (unless (eqb (length payload) (plan_digits s)) 3 (unless (eqb (length field) (plan_cells s)) 4 later))
  unfolding lengths_number
  behind_lengths later = go (shape_number s) (eqb (length payload) (plan_digits s)) (eqb (length field) (plan_cells s))
    where
      go : (n : ℕ) (p f : Bool) → or_else (or_else n (unless p 3 (unless f 4 0))) later
          ≡ or_else n (unless p 3 (unless f 4 later))
      go zero true true = refl
      go zero true false = refl
      go zero false f = refl
      go (suc n) p f = refl

  pub encode_tests : or_else (lengths_number s payload field) (unless (levels_ok (field_of payload) (length payload)) 12 0)
      ≡ encode_levels_number s payload field
  unfolding encode_levels_number
  encode_tests = behind_lengths (unless (levels_ok (field_of payload) (length payload)) 12 0)

  pub decode_tests : or_else (lengths_number s payload field) (levels_number s (field_of field))
      ≡ decode_levels_number s payload field
  unfolding decode_levels_number
  decode_tests = behind_lengths (levels_number s (field_of field))

-- correcting has the test of the field's length alone between the shape's and the field's own
module _ (s : Shape) (field : List ℕ) where
  pub correct_refused_lem : (r : Refusal) → refusal_number r ≡ shape_number s → refusal_number r ≡ correct_levels_number s field
  unfolding correct_levels_number
  correct_refused_lem r e = earlier_told r _ _ e

  pub correct_length : Accepted s → (length field ≡ plan_cells s → ⊥) → correct_levels_number s field ≡ 4
  unfolding correct_levels_number
  correct_length a d = rw (a, ne_eqb (length field) (plan_cells s) d)

-- on buffers of the plan's lengths
module _ (s : Shape) (accepted : Accepted s) where
  pub encode_number_lem : (payload field : List ℕ) → Writable s payload → length field ≡ cells_of s
      → encode_levels_number s payload field ≡ 0
  unfolding encode_levels_number
  encode_number_lem payload field w hf =
      rw (
        accepted,
        eq-eqb (length payload) (plan_digits s) w.long,
        eq-eqb (length field) (plan_cells s) (hf ∙ sym (plan_cells_lem s accepted)),
        levels_ok_lem (field_of payload) (length payload) w.digits,
      )

  pub decode_number_lem : (payload field : List ℕ) → length payload ≡ plan_digits s → length field ≡ cells_of s
      → decode_levels_number s payload field ≡ levels_number s (field_of field)
  unfolding decode_levels_number
  decode_number_lem payload field hp hf =
      rw (
        accepted,
        eq-eqb (length payload) (plan_digits s) hp,
        eq-eqb (length field) (plan_cells s) (hf ∙ sym (plan_cells_lem s accepted)),
      )

  pub correct_number_lem : (field : List ℕ) → length field ≡ cells_of s → correct_levels_number s field
      ≡ levels_number s (field_of field)
  unfolding correct_levels_number
  correct_number_lem field hf = rw (accepted, eq-eqb (length field) (plan_cells s) (hf ∙ sym (plan_cells_lem s accepted)))

-- what a payload that is not refused tells
pub encode_taken : (s : Shape) (payload field : List ℕ) → encode_levels_number s payload field ≡ 0
    → Writable s payload × (length field ≡ cells_of s)
unfolding encode_levels_number
encode_taken s payload field e =
    let a = or_else_zero (shape_number s) _ e in
    let p = unless_zero (eqb (length payload) (plan_digits s)) 2 _ a.1 in
    let f = unless_zero (eqb (length field) (plan_cells s)) 3 _ p.1 in
    let d = unless_zero (levels_ok (field_of payload) (length payload)) 11 _ f.1 in (
      record {
        accepted = a.0;
        long = eqb-true (length payload) (plan_digits s) p.0;
        digits = ok_levels (field_of payload) (length payload) d.0;
      },
      eqb-true (length field) (plan_cells s) f.0 ∙ plan_cells_lem s a.0,
    )

-- the one test that is left of a field of levels
module _ (s : Shape) (field : List ℕ) (readable : ReadableLevels s field) where
  number_is : (b : Bool) → levels_in_reach (layout_of s) (field_of field) ≡ b → levels_number s (field_of field) ≡ unless b 6 0
  unfolding levels_number
  number_is b e = rw (levels_ok_lem (field_of field) (cells_of s) readable.levels, e)

  pub number_success : (levels_number s (field_of field) ≡ 0) ↔ ((g : Field) × FromLawful s (field_of field) g)
  number_success = (λ e. to (levels_in_reach (layout_of s) (field_of field)) refl e, from)
    where
      to : (b : Bool) → levels_in_reach (layout_of s) (field_of field) ≡ b → levels_number s (field_of field) ≡ 0
          → (g : Field) × FromLawful s (field_of field) g
      to true p e = (restored_field s (field_of field), reach_from (layout_of s) (field_of field) p)
      to false p e = absurd (omega (arith, number_is false p))

      from : (g : Field) × FromLawful s (field_of field) g → levels_number s (field_of field) ≡ 0
      from found = number_is true (from_reach (layout_of s) (field_of field) found.0 found.1)

  pub number_none : (levels_number s (field_of field) ≡ 6) ↔ NoWordInReach s (field_of field)
  number_none = (
    λ e. to (levels_in_reach (layout_of s) (field_of field)) refl e,
    λ none. from none (levels_in_reach (layout_of s) (field_of field)) refl,
  )
    where
      to : (b : Bool) → levels_in_reach (layout_of s) (field_of field) ≡ b → levels_number s (field_of field) ≡ 6
          → NoWordInReach s (field_of field)
      to true p e = absurd (omega (arith, number_is true p))
      to false p e = none_in_reach (layout_of s) (field_of field) p

      from : NoWordInReach s (field_of field) → (b : Bool) → levels_in_reach (layout_of s) (field_of field) ≡ b
          → levels_number s (field_of field) ≡ 6
      from none true p = absurd (none.1 (in_reach_all (layout_of s) (field_of field) p none.0))
      from none false p = number_is false p
