-- Examples that meet the hypotheses of the theorems on erased cells: a class with two erasures, and two cells of one class of the
-- field of 5 by 5 of strength 3, in two clusters.
use Prim.Native.Nat.{ℕ, zero, suc, ◌<◌, ◌≤◌}
use mathlib.Core.Bool.{Bool, true, ◌||◌}
use mathlib.Core.List.{List, [], ◌∷◌}
use mathlib.Core.Logic.{◌≢◌, ◌⊎◌, inl, inr, ⊎_elim}
use mathlib.Core.Path.{◌≡◌, refl, sym, ◌∙◌}
use native.Mathlib.Omega.{arith}
use lib.Dec.{lit≤}
use Rattle.lattice.specs.Shape.{cells_of}
use Rattle.lattice.specs.Cell.{Cell, cell_at}
use Rattle.lattice.specs.Class.{layout_of}
use Rattle.lattice.specs.Position.{Layout, size_to, position}
use Rattle.lattice.proofs.theory.Bools.{or_cases}
use Rattle.lattice.proofs.examples.Placing.{field, corner, mate, OfThree, three_cluster, three_few, OfMate, mate_cluster}
use Rattle.lattice.proofs.examples.Placing.{mate_few}
use Rattle.codec.specs.Field.{Field, field_of, is_cell, Cells, erased, is_received, Received, differences}
use Rattle.codec.specs.Hamming.{tags_of, Codeword}
use Rattle.codec.specs.Erasure.{erasures_to, erasures, Agrees, Near}
use Rattle.codec.specs.Reach.{Readable}
use Rattle.codec.specs.Damage.{erased_field, selected_cells, Recovered, TwoInEachClass}
use Rattle.codec.proofs.theory.AllBelow.{below_all}
use Rattle.codec.proofs.theory.ClusterCells.{one_number}
use Rattle.codec.proofs.theory.OperationNumbers.{correct_taken}
use Rattle.codec.proofs.theorems.Erasures.{refill}
use Rattle.codec.proofs.examples.Coding.{accepted, payload, payload_long, payload_bytes_lem, is_at, at_is, is_corner}
use Rattle.codec.proofs.examples.Coding.{corner_selected, two, written, written_from}

-- a class of three cells, of which the first two are erased, and the codeword that agrees with the third
abbrev pub three : Layout
three = record { class = λ i. 0; cells = 3 }

abbrev pub lost : Field
lost = field_of (2 ∷ 2 ∷ 1 ∷ [])

abbrev pub black : Field
black = field_of (1 ∷ 1 ∷ 1 ∷ [])

pub lost_received : Received lost 3
unfolding is_received is_cell
lost_received = below_all (λ i. is_received (lost i)) 3 refl

pub lost_few : erasures three lost 0 ≤ 2
unfolding erasures_to
lost_few = lit≤ tt

pub black_cells : Cells black 3
unfolding is_cell
black_cells = below_all (λ i. is_cell (black i)) 3 refl

pub black_codeword : Codeword three (tags_of three) black 0
unfolding Codeword tags_of position size_to
black_codeword = refl

pub lost_near : Near three lost black 0
unfolding Agrees erasures_to
lost_near =
    record {
      read = λ z. absurd (omega (arith, z));
      filled = λ z i l c d. go i l d;
    }
  where
    go : (i : ℕ) → i < 3 → lost i ≢ erased → lost i ≡ black i
    go zero l d = absurd (d refl)
    go (suc zero) l d = absurd (d refl)
    go (suc (suc zero)) l d = refl
    go (suc (suc (suc i))) l d = absurd (omega arith)

-- two black cells of a class of two were both read
pub both_read : erasures two (field_of (1 ∷ 1 ∷ [])) 0 ≡ 0
unfolding erasures_to
both_read = refl

-- a cell of each of two clusters, both of one class
abbrev pub is_mate : Cell → Bool
is_mate x = is_corner x || is_at mate x

pub mates_selected : (x : Cell) → is_mate x ≡ true → OfThree x ⊎ OfMate x
mates_selected x e =
    ⊎_elim (λ p. inl (corner_selected x p)) (λ p. inr (at_is mate x p)) (or_cases (is_corner x) (is_at mate x) e)

-- they are at most two cells of each class
pub mates_two : TwoInEachClass (layout_of field) (λ i. is_mate (cell_at field i))
mates_two i j k hi hj hk si sj sk c d = go (which i si) (which j sj) (which k sk)
  where
    which : (x : ℕ) → is_mate (cell_at field x) ≡ true → (cell_at field x ≡ corner) ⊎ (cell_at field x ≡ mate)
    which x s =
        ⊎_elim (λ p. inl (at_is corner (cell_at field x) p)) (λ p. inr (at_is mate (cell_at field x) p))
        (or_cases (is_corner (cell_at field x)) (is_at mate (cell_at field x)) s)

    go : (cell_at field i ≡ corner) ⊎ (cell_at field i ≡ mate) → (cell_at field j ≡ corner) ⊎ (cell_at field j ≡ mate)
        → (cell_at field k ≡ corner) ⊎ (cell_at field k ≡ mate) → (i ≡ j) ⊎ (j ≡ k) ⊎ (i ≡ k)
    go (inl x) (inl y) z = inl (one_number field i j hi hj (x ∙ sym y))
    go (inr x) (inr y) z = inl (one_number field i j hi hj (x ∙ sym y))
    go (inl x) (inr y) (inl z) = inr (inr (one_number field i k hi hk (x ∙ sym z)))
    go (inl x) (inr y) (inr z) = inr (inl (one_number field j k hj hk (y ∙ sym z)))
    go (inr x) (inl y) (inl z) = inr (inl (one_number field j k hj hk (y ∙ sym z)))
    go (inr x) (inl y) (inr z) = inr (inr (one_number field i k hi hk (x ∙ sym z)))

-- with both erased the payload and the field come back, and the field is readable
abbrev pub mates_erased : List ℕ
mates_erased = erased_field field written is_mate

pub mates_refilled : Recovered field payload written mates_erased payload
    × (differences (field_of written) (field_of mates_erased) (cells_of field) ≡ selected_cells field is_mate)
mates_refilled =
    refill field accepted payload written payload_long payload_bytes_lem written_from OfThree OfMate three_cluster three_few
    mate_cluster mate_few is_mate mates_selected payload payload_long

pub mates_readable : Readable field mates_erased
mates_readable = correct_taken field mates_erased mates_refilled.0.corrected_number
