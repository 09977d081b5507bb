-- The constructor's refusal is that of every operation on the shape of the numbers.
use Prim.Native.Nat.{ℕ}
use mathlib.Core.List.{List}
use mathlib.Core.Path.{◌≡◌, refl}
use Rattle.std.specs.Prelude.{Result, Err}
use Rattle.lattice.specs.declared.refusal.Refusal.{Refusal}
use Rattle.lattice.specs.declared.refusal.Refusal.TheVariants as reasons
use Rattle.lattice.specs.declared.shape.Shape.{Shape}
use Rattle.lattice.specs.declared.shape.ShapeNumbers.{ShapeNumbers}
use Rattle.lattice.specs.Shape.{shape_from}
use Rattle.lattice.specs.Cell.{Cell}
use Rattle.lattice.specs.Class.{class_number, class_given}
use Rattle.lattice.specs.Answer.{IsNewShape, IsCellClass}
use Rattle.lattice.proofs.theory.Answers.{refused}
use Rattle.lattice.proofs.theory.NewShapes.{new_refused, new_first, new_other}
use Rattle.codec.specs.Encode.{encode_number, encode_leaves}
use Rattle.codec.specs.Decode.{decode_number, decode_count, decode_leaves}
use Rattle.codec.specs.Correct.{correct_number, correct_count, correct_leaves}
use Rattle.codec.specs.Answer.{IsPlan, IsEncoded, IsDecoded, IsCorrected}
use Rattle.levels.specs.Encode.{encode_levels_number, encode_levels_leaves}
use Rattle.levels.specs.Decode.{decode_levels_number, decode_levels_count, decode_levels_leaves}
use Rattle.levels.specs.Correct.{correct_levels_number, correct_levels_count, correct_levels_leaves}
use Rattle.levels.specs.Answer.{IsEncodedLevels, IsDecodedLevels, IsCorrectedLevels}
use Rattle.codec.proofs.theory.PlanRefusal.{plan_refused_lem}

module _ (n : ShapeNumbers) (r : Result Shape Refusal) (x : IsNewShape n r) (why : Refusal) (e : r ≡ Err why) where
  pub refused_plan : IsPlan (shape_from n) (Err why)
  refused_plan = plan_refused_lem (shape_from n) why (new_refused n r x why e)

  pub refused_class : (c : Cell) → IsCellClass (shape_from n) c (Err why)
  unfolding class_number class_given
  refused_class c =
      record {
        number = new_first n r x why e _;
        class = refused why _ _ _ (new_first n r x why e _);
        reason = λ z. new_other n r x why e reasons.FieldLength refl cc;
      }

  -- and the bytes that are lent stay as they were
  module _ (payload field : List ℕ) where
    pub refused_encode : IsEncoded (shape_from n) payload field field (Err why)
    unfolding encode_number encode_leaves
    refused_encode =
        record {
          number = new_first n r x why e _;
          leaves = refused why _ _ _ (new_first n r x why e _);
          reason = λ z. new_other n r x why e reasons.OutsideShape refl cc;
        }

    pub refused_decode : IsDecoded (shape_from n) payload field payload (Err why)
    unfolding decode_number decode_count decode_leaves
    refused_decode =
        record {
          number = new_first n r x why e _;
          count = refused why _ _ _ (new_first n r x why e _);
          leaves = refused why _ _ _ (new_first n r x why e _);
          reason = λ z. new_other n r x why e reasons.OutsideShape refl cc;
        }

    -- so it is of fields of levels
    pub refused_encode_levels : IsEncodedLevels (shape_from n) payload field field (Err why)
    unfolding encode_levels_number encode_levels_leaves
    refused_encode_levels =
        record {
          number = new_first n r x why e _;
          leaves = refused why _ _ _ (new_first n r x why e _);
          reason = λ z. new_other n r x why e reasons.OutsideShape refl cc;
        }

    pub refused_decode_levels : IsDecodedLevels (shape_from n) payload field payload (Err why)
    unfolding decode_levels_number decode_levels_count decode_levels_leaves
    refused_decode_levels =
        record {
          number = new_first n r x why e _;
          count = refused why _ _ _ (new_first n r x why e _);
          leaves = refused why _ _ _ (new_first n r x why e _);
          reason = λ z. new_other n r x why e reasons.OutsideShape refl cc;
        }

  pub refused_correct_levels : (field : List ℕ) → IsCorrectedLevels (shape_from n) field field (Err why)
  unfolding correct_levels_number correct_levels_count correct_levels_leaves
  refused_correct_levels field =
      record {
        number = new_first n r x why e _;
        count = refused why _ _ _ (new_first n r x why e _);
        leaves = refused why _ _ _ (new_first n r x why e _);
        reason = λ z. new_other n r x why e reasons.OutsideShape refl cc;
      }

  pub refused_correct : (field : List ℕ) → IsCorrected (shape_from n) field field (Err why)
  unfolding correct_number correct_count correct_leaves
  refused_correct field =
      record {
        number = new_first n r x why e _;
        count = refused why _ _ _ (new_first n r x why e _);
        leaves = refused why _ _ _ (new_first n r x why e _);
        reason = λ z. new_other n r x why e reasons.OutsideShape refl cc;
      }
