-- The field of a payload written: the data alone, then the checks.
use Prim.Native.Nat.{ℕ, ◌/◌, ◌<◌, ◌≤◌}
use mathlib.Core.List.{List}
use mathlib.Core.Path.{◌≡◌, ap, ◌∙◌}
use native.Mathlib.Nat.{le_refl, lt_of_lt_of_le}
use native.Mathlib.Omega.{arith}
use lib.ListN.{length, get_or}
use Rattle.lattice.specs.declared.shape.Shape.{Shape}
use Rattle.lattice.specs.Shape.{max_classes, Accepted, cells_of}
use Rattle.lattice.specs.Class.{layout_of}
use Rattle.lattice.specs.Listing.{max_checks, ListsChecks, HoldsPlaces}
use Rattle.lattice.specs.Sizes.{HoldsSizes}
use Rattle.lattice.proofs.theory.ClassBelow.{class_below}
use Rattle.lattice.proofs.theory.Placements.{classes_limit}
use Rattle.lattice.proofs.theory.Limits.{legal}
use Rattle.codec.specs.Field.{field_of, Same}
use Rattle.codec.specs.Hamming.{tags_of}
use Rattle.codec.specs.Payload.{padding, data_field, encoded_with}
use Rattle.codec.specs.Encode.{field_with, encoded_field}
use Rattle.codec.specs.Working.{HoldsSyndromes, PayloadFits, FieldFits}
use Rattle.codec.specs.Filling.{ChecksListed, data_buffer, ToCheck}
use Rattle.codec.proofs.encode.ChecksSet.{place_class}
use Rattle.codec.proofs.theory.FieldLists.{length_list_of, get_d_list_of, list_field}
use Rattle.codec.proofs.theory.Syndrome.{syndrome_same}

-- the lists of the checks and their places, as they are made from the sizes of the classes
abbrev ListsGiven : Shape → List ℕ → List ℕ → List ℕ → ℕ → Type 0
ListsGiven s sizes checks places amount =
    (Accepted s → HoldsSizes (layout_of s) sizes (cells_of s)
    → ListsChecks (layout_of s) (cells_of s) amount checks × HoldsPlaces (layout_of s) amount checks places)
    × (amount ≤ max_checks)

module _ (s : Shape) (payload sizes checks places : List ℕ) (amount : ℕ) (fits : PayloadFits s payload sizes)
    (given : ListsGiven s sizes checks places amount) where
  lists : ListsChecks (layout_of s) (cells_of s) amount checks × HoldsPlaces (layout_of s) amount checks places
  lists = given.0 fits.accepted fits.sized

  pub checks_listed : ChecksListed s payload checks amount
  checks_listed =
      record {
        accepted = fits.accepted;
        few = given.1;
        cells = record { long = fits.long; lists = lists.0; inside = le_refl _ };
      }

  -- the class of a place
  pub place_below : (k : ℕ) → k < amount → get_or places k 0 / 32 < max_classes
  place_below k l =
      let c = lists.0.at k l in
      let own = ap (λ (x : ℕ). x / 32) (lists.1.at k l)
      ∙ place_class (layout_of s) _ c.below (legal s fits.accepted).product c.check in
      rw own (lt_of_lt_of_le (class_below s fits.accepted _) (classes_limit s fits.accepted))

  -- a field that holds the data alone
  module _ (field : List ℕ) (filled : field ≡ data_buffer s payload) where
    pub filled_fits : FieldFits s field
    unfolding data_buffer
    filled_fits = record { accepted = fits.accepted; long = ap length filled ∙ length_list_of _ (cells_of s) }

    pub filled_same : Same (field_of field) (data_field (layout_of s) padding payload) (cells_of s)
    unfolding data_buffer
    filled_same i l = ap (λ (x : List ℕ). get_or x i 0) filled ∙ get_d_list_of _ (cells_of s) i l

    pub listed_below : (k : ℕ) → k < amount → get_or checks k 0 < length field
    listed_below k l = omega (arith, (lists.0.at k l).below, filled_fits.long)

    pub to_check : (syndromes : List ℕ) → HoldsSyndromes (layout_of s) (field_of field) syndromes (cells_of s)
        → ToCheck (layout_of s) payload checks places syndromes amount
    to_check syndromes held =
        record {
          few = (legal s fits.accepted).product;
          lists = lists.0;
          placed = lists.1;
          held =
              record {
                at =
                    λ a l.
                    held.at a l
                    ∙ syndrome_same (layout_of s) (tags_of (layout_of s)) _ _ a (cells_of s) (λ i b q. filled_same i b);
              };
        }

    pub written : (after : List ℕ) → length after ≡ length field
        → Same (field_of after) (encoded_with (layout_of s) padding payload) (cells_of s) → after ≡ encoded_field s payload
    unfolding field_with
    written after long same = list_field after _ (cells_of s) (long ∙ filled_fits.long) same
