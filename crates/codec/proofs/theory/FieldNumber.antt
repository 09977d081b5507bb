-- The number that the field's own tests give in their order.
use mathlib.Core.Bool.{Bool, true, false}
use Prim.Native.Nat.{ℕ}
use mathlib.Core.Path.{◌≡◌, sym, ap, ◌∙◌}
use Rattle.std.specs.Prelude.{Result}
use native.Mathlib.Omega.{arith}
use Rattle.lattice.specs.declared.shape.Shape.{Shape}
use Rattle.lattice.specs.declared.refusal.Refusal.{Refusal}
use Rattle.lattice.specs.Refusal.{number_of, NoOutside, unless}
use Rattle.lattice.specs.Shape.{cells_of}
use Rattle.lattice.specs.Class.{layout_of}
use Rattle.lattice.proofs.theory.Answers.{unless_zero}
use Rattle.codec.specs.Field.{Field, Received, cells_ok}
use Rattle.codec.specs.Payload.{padding_ok}
use Rattle.codec.specs.Decode.{corrected_field, field_number}
use Rattle.codec.specs.Code.{field_few_erasures, field_in_reach}
use Rattle.codec.proofs.theory.FieldLists.{ok_received}

module _ (s : Shape) (f : Field) where
  pub number_cell : cells_ok f (cells_of s) ≡ false → 5 ≡ field_number s f
  unfolding field_number
  number_cell p = rw p

  module _ (p : cells_ok f (cells_of s) ≡ true) where
    pub number_erasures : field_few_erasures s f ≡ false → 10 ≡ field_number s f
    unfolding field_number
    number_erasures q = rw (p, q)

    module _ (q : field_few_erasures s f ≡ true) where
      pub number_reach : field_in_reach s f ≡ false → 6 ≡ field_number s f
      unfolding field_number
      number_reach r = rw (p, q, r)

      module _ (r : field_in_reach s f ≡ true) where
        pub number_padding : padding_ok (layout_of s) (corrected_field s f) ≡ false → 7 ≡ field_number s f
        unfolding field_number
        number_padding x = rw (p, q, r, x)

        pub number_none : padding_ok (layout_of s) (corrected_field s f) ≡ true → 0 ≡ field_number s f
        unfolding field_number
        number_none x = rw (p, q, r, x)

-- it is never 4
pub field_other : (s : Shape) (f : Field) → field_number s f ≡ 4 → ⊥
unfolding field_number
field_other s f e =
    go (cells_ok f (cells_of s)) (field_few_erasures s f) (field_in_reach s f) (padding_ok (layout_of s) (corrected_field s f)) e
  where
    go : (a b c d : Bool) → unless a 5 (unless b 10 (unless c 6 (unless d 7 0))) ≡ 4 → ⊥
    go true true true true p = omega arith
    go true true true false p = omega arith
    go true true false d p = omega arith
    go true false c d p = omega arith
    go false b c d p = omega arith

-- so the field's own tests do not give a cell that lies outside the shape
pub field_inside : (s : Shape) (f : Field) {x : Result ℕ Refusal} → number_of x ≡ field_number s f → NoOutside x
field_inside s f e p = field_other s f (sym e ∙ ap number_of p)

-- beside 0 the field has nothing but cells and erasures
pub zero_cells : (s : Shape) (f : Field) → field_number s f ≡ 0 → Received f (cells_of s)
unfolding field_number
zero_cells s f p =
    ok_received f (cells_of s) (unless_zero (cells_ok f (cells_of s)) 4 _ p).0

-- and no class has three erasures
pub zero_few : (s : Shape) (f : Field) → field_number s f ≡ 0 → field_few_erasures s f ≡ true
unfolding field_number
zero_few s f p =
    let cells = unless_zero (cells_ok f (cells_of s)) 4 _ p in (unless_zero (field_few_erasures s f) 9 _ cells.1).0
