-- The test that the padding cells hold a padding after correction, cell by cell from the field's end, and that of one of two
-- paddings.
use Prim.Native.Nat.{ℕ, ◌+◌, ◌-◌, ◌*◌, ◌%◌, ◌<◌, ◌≤◌}
use mathlib.Core.Bool.{Bool, true, false, cond, not, ◌&&◌, ◌||◌, true≢false, false≢true}
use mathlib.Core.List.{List}
use mathlib.Core.Path.{◌≡◌, refl, sym, ap, ◌∙◌}
use native.Mathlib.Omega.{arith}
use lib.Dec.{eqb}
use borrow.Author.Tests.{le-leb, lt-leb}
use Rattle.lattice.specs.declared.shape.Shape.{Shape}
use Rattle.lattice.specs.Refusal.{figure}
use Rattle.lattice.specs.Shape.{shape_number, Accepted, cells_of}
use Rattle.lattice.specs.Class.{classes_of, layout_of}
use Rattle.lattice.specs.Position.{Layout}
use Rattle.lattice.specs.Check.{holds_data, capacity, data_in}
use Rattle.lattice.specs.Counting.{all_below}
use Rattle.lattice.proofs.theory.CapacityGiven.{capacity_accepted}
use Rattle.codec.specs.Field.{Field}
use Rattle.codec.specs.Payload.{payload_bytes, rank, is_padding, padded_with}
use Rattle.lattice.specs.Sizes.{HoldsSizes}
use Rattle.codec.specs.Working.{right_at}
use Rattle.codec.proofs.theory.AllBelow.{all_below_lem, last_fails, last_passes}
use Rattle.codec.proofs.theory.Ranks.{rank_all, rank_rises, rank_most, rank_last}

-- a cell that holds a check passes, and a padding cell passes by its value
check : (d x : Bool) → d ≡ false → true ≡ (not d || x)
check true x p = absurd (true≢false p)
check false x p = refl

filler : (d x : Bool) → d ≡ true → x ≡ (not d || x)
filler true x p = refl
filler false x p = absurd (false≢true p)

module _ (pad : ℕ → ℕ) (d : Bool) (j v : ℕ) where
  pub right_check : d ≡ false → true ≡ right_at pad d j v
  unfolding right_at
  right_check p = check d _ p

  pub right_padding : (x : ℕ) → d ≡ true → x ≡ pad j → eqb v x ≡ right_at pad d j v
  unfolding right_at
  right_padding x p e = ap (eqb v) e ∙ filler d _ p

-- the test of cell i
unfoldable pub right : Layout → (ℕ → ℕ) → Field → ℕ → Bool
right L pad f i = not (is_padding L i) || eqb (f i) (pad (rank L i - 8 * payload_bytes L))

-- where a data cell is padding the test asks for the value of every data cell, and where it is none it asks for nothing
under : (d e x y : Bool) → (d ≡ true → e ≡ true) → (d ≡ true → x ≡ y) → (not d || x) ≡ (not (d && e) || y)
under true true x y p q = q refl
under true false x y p q = absurd (false≢true (p refl))
under false e x y p q = refl

idle : (d e x : Bool) → (d ≡ true → e ≡ false) → (not (d && e) || x) ≡ true
idle true true x p = absurd (true≢false (p refl))
idle true false x p = refl
idle false e x p = refl

-- the padding cells from cell i on hold the padding, and u of the cells before it are padding
pub record PassedFrom (L : Layout) (pad : ℕ → ℕ) (f : Field) (u i : ℕ) : Type 0 where
  pub within : i ≤ L.cells
  pub unseen : u + 8 * payload_bytes L ≡ rank L i
  pub rest : padded_with L pad f ≡ all_below (right L pad f) i

-- before the first cell is looked at
pub padding_start : (s : Shape) (pad : ℕ → ℕ) (f : Field) (sizes : List ℕ) (k i : ℕ)
    → Accepted s
    → HoldsSizes (layout_of s) sizes (cells_of s)
    → (m : ℕ)
    → m ≡ figure (shape_number s) (classes_of s)
    → k ≡ data_in sizes m
    → i ≡ cells_of s
    → PassedFrom (layout_of s) pad f (k % 8) i
unfolding padded_with right payload_bytes
padding_start s pad f sizes k i a p m given e c =
    let all : k ≡ capacity (layout_of s) = e ∙ capacity_accepted s sizes m a p given in
    record {
      within = omega arith;
      unseen = omega (arith, rank_all (layout_of s), ap (rank (layout_of s)) c);
      rest = ap (all_below (right (layout_of s) pad f)) (sym c);
    }

module _ (L : Layout) (pad : ℕ → ℕ) (f : Field) (u i : ℕ) (p : PassedFrom L pad f u i) where
  -- with none unseen the cells that are left are no padding
  pub padding_passes : u ≤ 0 → true ≡ padded_with L pad f
  unfolding right
  padding_passes none =
      sym
      (p.rest
      ∙ all_below_lem (right L pad f) i
      (λ k l.
      idle (holds_data L k) _ _
      (λ h. lt-leb (8 * payload_bytes L) (rank L k) (omega (arith, p.unseen, rank_rises L k i l h)))))

  module _ (some : 0 < u) where
    -- while one is unseen there are cells left
    pub left_some : 0 < i
    left_some = omega (arith, p.unseen, rank_most L i)

    -- a data cell as the last of them is the last padding cell unseen
    last_unseen : holds_data L (i - 1) ≡ true
        → (8 * payload_bytes L ≤ rank L (i - 1)) × (u - 1 ≡ rank L (i - 1) - 8 * payload_bytes L)
    last_unseen h =
        let one : rank L i ≡ 1 + rank L (i - 1) = rank_last L i left_some _ h in
        (omega (arith, p.unseen), omega (arith, p.unseen))

    -- the test of the last of them
    module _ (d b : Bool) (v : ℕ) (held : d ≡ holds_data L (i - 1)) (value : v ≡ f (i - 1))
        (test : b ≡ right_at pad d (u - 1) v) where
      here : b ≡ right L pad f (i - 1)
      unfolding right right_at
      here =
          test
          ∙ rw (held, value)
          (under
          (holds_data L (i - 1))
          _ _ _
          (λ h. le-leb (8 * payload_bytes L) (rank L (i - 1)) (last_unseen h).0)
          (λ h. ap (λ (j : ℕ). eqb (f (i - 1)) (pad j)) (last_unseen h).1))

      pub padding_fails : b ≡ false → false ≡ padded_with L pad f
      padding_fails e = last_fails (right L pad f) i i refl left_some (sym here ∙ e) ∙ sym p.rest

      pub padding_more : b ≡ true → (x : ℕ) → cond d 1 0 + x ≡ u → PassedFrom L pad f x (i - 1)
      padding_more e x less =
          let last : rank L i ≡ cond d 1 0 + rank L (i - 1) = rank_last L i left_some d (sym held) in
          record {
            within = omega (arith, p.within);
            unseen = omega (arith, p.unseen);
            rest = p.rest ∙ last_passes (right L pad f) i i refl left_some (sym here ∙ e);
          }

-- one of two paddings is held: the first, or else the second
module _ (L : Layout) (a b : ℕ → ℕ) (f : Field) where
  pub first_held : padded_with L a f ≡ true → true ≡ (padded_with L a f || padded_with L b f)
  first_held p = rw p

  pub second_held : padded_with L a f ≡ false → padded_with L b f ≡ (padded_with L a f || padded_with L b f)
  second_held p = rw p
