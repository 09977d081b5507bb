-- The planes of the field filled with the data alone, each in its own stretch of the field.
use Prim.Native.Nat.{ℕ, ◌+◌, ◌-◌, ◌*◌, ◌<◌, ◌≤◌}
use mathlib.Core.List.{List, ◌++◌, append-nil}
use mathlib.Core.Path.{◌≡◌, refl, sym, ap, ap₂, subst, ◌∙◌}
use native.Mathlib.Nat.{zero-add, mul-le-mul_right, le_antisymm, le_of_lt, le_of_eq}
use native.Mathlib.Omega.{arith}
use lib.ListN.{length, take, drop, length-drop, drop_of_length-le}
use borrow.Author.Rules.{part_to_end}
use borrow.Rule.Slice.PartMut.{put_mid}
use Rattle.lattice.specs.declared.shape.Shape.{Shape}
use Rattle.lattice.specs.Shape.{cells_of}
use Rattle.lattice.specs.Class.{layout_of}
use Rattle.lattice.specs.Listing.{checks_to}
use Rattle.lattice.proofs.theory.Runs.{checks_none}
use Rattle.codec.specs.Field.{list_of}
use Rattle.codec.specs.Payload.{padding, data_field}
use Rattle.codec.specs.Filling.{AtPlane, Filled, plane_cells, data_buffer}
use Rattle.codec.proofs.theory.FieldLists.{list_of_same}
use Rattle.codec.proofs.theory.FilledLists.{filled_part, length_filled}

module _ (s : Shape) (m : ℕ) (e : m ≡ plane_cells s) where
  -- the planes before z are cells of the field, and so is plane z
  planes_cells : s.planes * m ≡ cells_of s
  planes_cells = ap (λ (k : ℕ). s.planes * k) e ∙ omega arith

  planes_within : (z : ℕ) → z ≤ s.planes → z * m ≤ cells_of s
  planes_within z l = omega (arith, mul-le-mul_right m l, planes_cells)

  plane_within : (z : ℕ) → z < s.planes → z * m + m ≤ cells_of s
  plane_within z l = omega (arith, mul-le-mul_right m l, planes_cells)

module _ (s : Shape) (payload xs : List ℕ) (long : length xs ≡ cells_of s) (m : ℕ) (e : m ≡ plane_cells s) where
  pub planes_none : Filled s payload xs xs 0 0 (0 * m)
  planes_none =
      let z : 0 * m ≡ 0 = omega arith in
      subst (λ (k : ℕ). Filled s payload xs xs 0 0 k) (sym z) record { cells = refl; counted = checks_none (layout_of s) }

  module _ (ys : List ℕ) (q z : ℕ) (f : Filled s payload xs ys 0 q (z * m)) where
    pub planes_length : z ≤ s.planes → length ys ≡ cells_of s
    planes_length l = length_filled _ xs (z * m) ys (omega (arith, planes_within s m e z l)) f.cells ∙ long

    pub plane_begins : z < s.planes → z * m ≤ length ys
    plane_begins l = rw (planes_length (le_of_lt l)) (planes_within s m e z (le_of_lt l))

    -- the part lent for plane z
    pub plane_next : z < s.planes → AtPlane s (take (length ys - z * m) (drop (z * m) ys)) (z * m) q
    plane_next l =
        record {
          inside = omega (arith, plane_within s m e z l);
          room =
              rw
              (part_to_end ys (z * m))
              (omega (arith, length-drop (z * m) ys, planes_length (omega arith), plane_within s m e z l));
          counted = ap (checks_to (layout_of s)) (sym (zero-add (z * m))) ∙ f.counted;
        }

    -- the field with plane z filled
    pub planes_more : z < s.planes → (zs : List ℕ) (r : ℕ)
        → Filled s payload (take (length ys - z * m) (drop (z * m) ys)) zs (z * m) r (plane_cells s)
        → Filled s payload xs (put_mid (z * m) (length ys - z * m) ys zs) 0 r ((z + 1) * m)
    planes_more l zs r g =
        let n : z * m + plane_cells s ≡ (z + 1) * m = omega arith in
        subst
        (λ (k : ℕ). Filled s payload xs (put_mid (z * m) (length ys - z * m) ys zs) 0 r k)
        n
        record {
          cells =
              filled_part
              (λ j. data_field (layout_of s) padding payload (0 + j))
              (λ j. data_field (layout_of s) padding payload (z * m + j))
              (z * m)
              (plane_cells s)
              xs
              ys
              zs
              (λ j. ap (data_field (layout_of s) padding payload) (sym (zero-add (z * m + j))))
              (omega (arith, planes_within s m e z (omega arith)))
              f.cells
              g.cells;
          counted = ap (checks_to (layout_of s)) (zero-add (z * m + plane_cells s)) ∙ g.counted;
        }

    -- all planes filled
    pub planes_all : z ≤ s.planes → s.planes ≤ z → ys ≡ data_buffer s payload
    unfolding data_buffer
    planes_all p r =
        f.cells
        ∙ ap
        (λ (k : ℕ). list_of (λ j. data_field (layout_of s) padding payload (0 + j)) k ++ drop k xs)
        (ap (λ (k : ℕ). k * m) (le_antisymm p r) ∙ planes_cells s m e)
        ∙ ap₂
        (λ (a b : List ℕ). a ++ b)
        (list_of_same _ _ (cells_of s) (λ j l. ap (data_field (layout_of s) padding payload) (zero-add j)))
        (drop_of_length-le xs (le_of_eq long))
        ∙ append-nil _
