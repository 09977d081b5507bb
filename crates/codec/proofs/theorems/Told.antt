-- Damage beyond the promise: the term of the theorem.
use Prim.Native.Nat.{ℕ, ◌<◌}
use mathlib.Core.Bool.{Bool, true, not, false}
use mathlib.Core.List.{List, Memᴰ}
use mathlib.Core.Logic.{◌≢◌}
use mathlib.Core.Path.{◌≡◌, sym, ◌∙◌, subst}
use native.Mathlib.Nat.{le_trans}
use native.Mathlib.Omega.{arith}
use borrow.Author.Tests.{not-true, eqb-false}
use lib.Dec.{eqb}
use lib.ListN.{length, replicate, length-replicate}
use Rattle.lattice.specs.declared.shape.Shape.{Shape}
use Rattle.lattice.specs.Shape.{Accepted, cells_of}
use Rattle.lattice.specs.Cell.{Cell, cell_at, cell_number}
use Rattle.lattice.specs.Cluster.{Cluster, AtMost}
use Rattle.lattice.proofs.theory.ClusterPaths.{together_near}
use Rattle.lattice.proofs.theory.Pigeonhole.{count_covered}
use Rattle.lattice.proofs.theorems.Numbering.{numbering}
use Rattle.codec.specs.Field.{field_of, is_cell, differences}
use Rattle.codec.specs.Payload.{Bytes}
use Rattle.codec.specs.Plan.{plan_bytes}
use Rattle.codec.specs.Encode.{WrittenFrom}
use Rattle.codec.specs.Damage.{damaged, damaged_field, WithinPromise}
use Rattle.codec.specs.Correct.{correct_leaves}
use Rattle.codec.specs.theorems.Told.{DamageTold, DamageDiffers}
use Rattle.codec.proofs.theory.Damage.{damaged_selected, damaged_kept, damaged_flipped}
use Rattle.codec.proofs.theory.FieldLists.{get_d_list_of}
use Rattle.codec.proofs.theory.WrittenFields.{written}
use Rattle.codec.proofs.theory.CellValues.{cell_most}
use Rattle.codec.proofs.theorems.Recovery.{recovery}

module _ (s : Shape) (F : List ℕ) (selected : Cell → Bool) (i : ℕ) (h : i < cells_of s) where
  -- a cell of the damaged field
  held : field_of (damaged_field s F selected) i ≡ damaged (field_of F) (λ j. selected (cell_at s j)) i
  held = get_d_list_of (damaged (field_of F) (λ j. selected (cell_at s j))) (cells_of s) i h

  stays : selected (cell_at s i) ≡ false → field_of (damaged_field s F selected) i ≡ field_of F i
  stays e = held ∙ damaged_kept (field_of F) (λ j. selected (cell_at s j)) i e

  differs : is_cell (field_of F i) ≡ true → selected (cell_at s i) ≡ true → field_of (damaged_field s F selected) i ≢ field_of F i
  differs cell e same =
      omega (arith, same, held, damaged_flipped (field_of F) (λ j. selected (cell_at s j)) i e, cell_most _ cell)

module _ (s : Shape) (F : List ℕ) (S : Cell → Type 0) (cluster : Cluster s S) (small : AtMost s.strength S)
    (selected : Cell → Bool) (inside : (x : Cell) → selected x ≡ true → S x) where
  G : List ℕ
  G = damaged_field s F selected

  -- a cell that differs was selected, so it lies in the cluster
  harmed : (i : ℕ) → i < cells_of s → field_of G i ≢ field_of F i → S (cell_at s i)
  unfolding G
  harmed i h other =
      inside (cell_at s i)
      (damaged_selected (field_of F) (λ j. selected (cell_at s j)) i (λ e. other (held s F selected i h ∙ e)))

  -- the cells that differ are among those of the cluster
  found : (i : ℕ) → i < cells_of s → not (eqb (field_of G i) (field_of F i)) ≡ true
      → (c : Cell) × Memᴰ c small.cells × (i ≡ cell_number s c)
  found i h e = (
    cell_at s i,
    small.all (cell_at s i) (harmed i h (eqb-false (field_of G i) (field_of F i) (not-true _ e))),
    sym (numbering.at s i h).1,
  )

  told : WithinPromise s G F
  unfolding differences
  told =
      record {
        few = le_trans (count_covered (cell_number s) _ (cells_of s) small.cells found) small.few;
        near = λ i j hi hj di dj.
            together_near s s.strength (cell_at s i) (cell_at s j)
            (record { set = S; cluster = cluster; small = small; first = harmed i hi di; second = harmed j hj dj });
      }

-- Theorem. Where the damage lies in one cluster of at most t cells, correcting flips at most t cells, any two of them less than t
-- apart.
pub damage_told : DamageTold
unfolding G
damage_told =
    record {
      within = within;
      beyond = λ s G accepted other p F long bytes from S cluster small selected inside e.
          other
          (subst (λ (g : List ℕ). WithinPromise s g (correct_leaves s g)) (sym e)
          (within s accepted p F long bytes from S cluster small selected inside));
    }
  where
    within : (s : Shape) → Accepted s → (p F : List ℕ) → length p ≡ plan_bytes s → Bytes p → WrittenFrom s p F
        → (S : Cell → Type 0) → Cluster s S → AtMost s.strength S
        → (selected : Cell → Bool) → ((x : Cell) → selected x ≡ true → S x)
        → WithinPromise s (damaged_field s F selected) (correct_leaves s (damaged_field s F selected))
    within s accepted p F long bytes from S cluster small selected inside =
        let buffer : List ℕ = replicate (plan_bytes s) 0 in
        let back =
        recovery s accepted p F long bytes from S cluster small selected inside buffer (length-replicate (plan_bytes s) 0) in
        subst (λ (f : List ℕ). WithinPromise s (damaged_field s F selected) f) (sym back.field_corrected)
        (told s F S cluster small selected inside)

-- Theorem. The selected cells of a field that was written differ after the damage, and the others do not.
pub damage_differs : DamageDiffers
damage_differs =
    record {
      selected = λ s p F from selected i h. differs s F selected i h ((written s p F from).lawful.cells i h);
      others = stays;
    }
