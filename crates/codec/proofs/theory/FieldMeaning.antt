-- What the tests of a field of cells and few erasures mean: the number 0, 6 or 7 by the lawful fields in reach, the corrected
-- field, its payload and its count.
use Prim.Native.Nat.{ℕ}
use mathlib.Core.Bool.{Bool, true, false, true≢false}
use mathlib.Core.Logic.{◌↔◌}
use mathlib.Core.Path.{◌≡◌, refl, sym, ◌∙◌, ap₂}
use native.Mathlib.Omega.{arith}
use Rattle.lattice.specs.declared.shape.Shape.{Shape}
use Rattle.lattice.specs.Refusal.{unless}
use Rattle.lattice.specs.Shape.{Accepted, cells_of}
use Rattle.lattice.specs.Class.{classes_of, layout_of}
use Rattle.codec.specs.Field.{Field, Cells, Received, Same, differences}
use Rattle.codec.specs.Erasure.{FewErasures}
use Rattle.codec.specs.Payload.{Carries, PaddingRight, padding_ok, held_payload}
use Rattle.codec.specs.Code.{tags_at, NearestTo, field_in_reach}
use Rattle.codec.specs.Decode.{corrected_field, field_number, corrected_count}
use Rattle.codec.specs.Reach.{RightInReach, WrongInReach}
use Rattle.codec.proofs.theory.Accepted.{class_at_below}
use Rattle.codec.proofs.theory.FieldLists.{received_ok}
use Rattle.codec.proofs.theory.NearestField.{nearest_corrected, corrected_cells}
use Rattle.codec.proofs.theory.Reach.{few_all, reach_nearest, nearest_all}
use Rattle.codec.proofs.theory.Differences.{differences_nearest}
use Rattle.codec.proofs.theory.PaddingCells.{padding_ok_lem, ok_padding, not_padding, padding_right_same}
use Rattle.codec.proofs.theory.HeldPayload.{held_carries, carries_same}
use Rattle.codec.proofs.theory.Tags.{tags_tell}

pub record FieldMeans (s : Shape) (f : Field) : Type 0 where
  pub success : (field_number s f ≡ 0) ↔ RightInReach s f
  pub none : (field_number s f ≡ 6) ↔ ((g : Field) → ¬ NearestTo s f g)
  pub wrong : (field_number s f ≡ 7) ↔ WrongInReach s f
  pub cells : Cells (corrected_field s f) (cells_of s)
  pub corrected : (g : Field) → NearestTo s f g → Same (corrected_field s f) g (cells_of s)
  pub carries : (g : Field) → NearestTo s f g → Carries (layout_of s) g (held_payload (layout_of s) (corrected_field s f))
  pub count : (g : Field) → NearestTo s f g → corrected_count s f ≡ differences f g (cells_of s)

-- the two tests that are left where every cell is 0, 1 or erased and no class has three erasures
number_of : Bool → Bool → ℕ
number_of reach padding = unless reach 6 (unless padding 7 0)

module _ (s : Shape) (accepted : Accepted s) (f : Field) (received : Received f (cells_of s))
    (few : FewErasures (layout_of s) f) where
  reach : Bool
  reach = field_in_reach s f

  right : Bool
  right = padding_ok (layout_of s) (corrected_field s f)

  field_number_lem : field_number s f ≡ number_of reach right
  unfolding field_number number_of reach right
  field_number_lem =
      rw
      (received_ok f (cells_of s) received, few_all (layout_of s) (tags_at s) (classes_of s) (class_at_below s accepted) f few)

  -- the corrected field is the nearest one where a codeword is in reach of each class
  here_nearest : reach ≡ true → NearestTo s f (corrected_field s f)
  unfolding reach
  here_nearest =
      reach_nearest (layout_of s) (tags_at s) (classes_of s) (class_at_below s accepted) f (tags_tell (layout_of s)) received

  nearest_reach : (g : Field) → NearestTo s f g → reach ≡ true
  unfolding reach
  nearest_reach =
      nearest_all (layout_of s) (tags_at s) (classes_of s) (class_at_below s accepted) f (tags_tell (layout_of s)) received few

  -- and any nearest field is the corrected one
  nearest_here : (g : Field) → NearestTo s f g → Same (corrected_field s f) g (cells_of s)
  nearest_here = nearest_corrected (tags_tell (layout_of s)) f received few

  corrected_right : right ≡ true → PaddingRight (layout_of s) (corrected_field s f)
  unfolding right
  corrected_right = ok_padding (layout_of s) (corrected_field s f)

  corrected_wrong : right ≡ false → ¬ PaddingRight (layout_of s) (corrected_field s f)
  unfolding right
  corrected_wrong = not_padding (layout_of s) (corrected_field s f)

  nearest_right : (g : Field) → NearestTo s f g → PaddingRight (layout_of s) g → right ≡ true
  unfolding right
  nearest_right g near padding =
      padding_ok_lem (layout_of s) (corrected_field s f)
      (padding_right_same (layout_of s) g (corrected_field s f) (λ i h. sym (nearest_here g near i h)) padding)

  nearest_wrong : (g : Field) → NearestTo s f g → (¬ PaddingRight (layout_of s) g) → right ≡ true → ⊥
  nearest_wrong g near wrong e =
      wrong (padding_right_same (layout_of s) (corrected_field s f) g (nearest_here g near) (corrected_right e))

  -- the corrected field is a field of cells, and the nearest one has the bits of the payload that it holds
  cells_corrected : Cells (corrected_field s f) (cells_of s)
  cells_corrected = corrected_cells (layout_of s) (tags_at s) f received

  nearest_carries : (g : Field) → NearestTo s f g → Carries (layout_of s) g (held_payload (layout_of s) (corrected_field s f))
  nearest_carries g near =
      carries_same (layout_of s) (corrected_field s f) g _ (nearest_here g near)
      (held_carries (layout_of s) (corrected_field s f) cells_corrected)

  number_is : (a b : Bool) → reach ≡ a → right ≡ b → field_number s f ≡ unless a 6 (unless b 7 0)
  unfolding number_of
  number_is a b p q = field_number_lem ∙ ap₂ number_of p q

  -- 0 exactly when a lawful field in reach has right padding
  number_success : (field_number s f ≡ 0) ↔ RightInReach s f
  number_success = (λ e. to reach right refl refl e, from)
    where
      to : (a b : Bool) → reach ≡ a → right ≡ b → field_number s f ≡ 0 → RightInReach s f
      to true true p q e = (corrected_field s f, here_nearest p, corrected_right q)
      to true false p q e = absurd (omega (arith, number_is true false p q))
      to false b p q e = absurd (omega (arith, number_is false b p q))

      from : RightInReach s f → field_number s f ≡ 0
      from found = number_is true true (nearest_reach found.0 found.1) (nearest_right found.0 found.1 found.2)

  -- 6 exactly when none is in reach
  number_none : (field_number s f ≡ 6) ↔ ((g : Field) → ¬ NearestTo s f g)
  number_none = (λ e. to reach right refl refl e, λ none. from none reach right refl refl)
    where
      to : (a b : Bool) → reach ≡ a → right ≡ b → field_number s f ≡ 6 → (g : Field) → ¬ NearestTo s f g
      to true true p q e = absurd (omega (arith, number_is true true p q))
      to true false p q e = absurd (omega (arith, number_is true false p q))
      to false b p q e = λ g near. true≢false (sym (nearest_reach g near) ∙ p)

      from : ((g : Field) → ¬ NearestTo s f g) → (a b : Bool) → reach ≡ a → right ≡ b → field_number s f ≡ 6
      from none true b p q = absurd (none (corrected_field s f) (here_nearest p))
      from none false b p q = number_is false b p q

  -- 7 exactly when one has wrong padding
  number_wrong : (field_number s f ≡ 7) ↔ WrongInReach s f
  number_wrong = (λ e. to reach right refl refl e, λ found. from found right refl)
    where
      to : (a b : Bool) → reach ≡ a → right ≡ b → field_number s f ≡ 7 → WrongInReach s f
      to true true p q e = absurd (omega (arith, number_is true true p q))
      to true false p q e = (corrected_field s f, here_nearest p, corrected_wrong q)
      to false b p q e = absurd (omega (arith, number_is false b p q))

      from : WrongInReach s f → (b : Bool) → right ≡ b → field_number s f ≡ 7
      from found true q = absurd (nearest_wrong found.0 found.1 found.2 q)
      from found false q = number_is true false (nearest_reach found.0 found.1) q

  -- the count is the number of cells where the nearest field differs
  count_nearest : (g : Field) → NearestTo s f g → corrected_count s f ≡ differences f g (cells_of s)
  unfolding corrected_count
  count_nearest = differences_nearest (tags_tell (layout_of s)) f received few

  pub field_means : FieldMeans s f
  field_means =
      record {
        success = number_success;
        none = number_none;
        wrong = number_wrong;
        cells = cells_corrected;
        corrected = nearest_here;
        carries = nearest_carries;
        count = count_nearest;
      }
