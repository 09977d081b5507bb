-- The list of the check cells after one more cell, and after a line with no check.
use Prim.Native.Nat.{ℕ, zero, suc, ◌+◌, ◌<◌}
use mathlib.Core.Bool.{true, false}
use mathlib.Core.List.{List}
use mathlib.Core.Path.{◌≡◌, sym, ap, subst, ◌∙◌}
use native.Mathlib.Decide.{ℕ_discrete}
use native.Mathlib.Omega.{arith}
use lib.ListN.{get_or}
use Rattle.lattice.specs.Position.{Layout}
use Rattle.lattice.specs.Check.{holds_data}
use Rattle.lattice.specs.Listing.{IsCheckCell, ListsChecks, place_of, HoldsPlaces}
use Rattle.passes.specs.CheckList.{PutLast}
use Rattle.lattice.proofs.theory.Runs.{checks_check, checks_data}

module _ (L : Layout) (n : ℕ) where
  -- a check cell among the first n is one among the first n + 1
  still : (k i : ℕ) → IsCheckCell L n k i → IsCheckCell L (n + 1) k i
  still k i c = record { below = omega (arith, c.below); check = c.check; before = c.before }

  module _ (amount : ℕ) (cells : List ℕ) (listed : ListsChecks L n amount cells) where
    pub listed_free : holds_data L n ≡ true → ListsChecks L (n + 1) amount cells
    listed_free e =
        record {
          all = listed.all ∙ sym (checks_data L n e);
          at = λ k l. still k (get_or cells k 0) (listed.at k l);
        }

    pub listed_check : (r place : ℕ) (places cells' places' : List ℕ) → holds_data L n ≡ false
        → PutLast amount r n place cells places cells' places' → ListsChecks L (n + 1) r cells'
    listed_check r place places cells' places' e p =
        record {
          all = omega (arith, p.more, listed.all, checks_check L n e);
          at = λ k l. go k l (ℕ_discrete k amount);
        }
      where
        own : IsCheckCell L (n + 1) amount n
        own = record { below = omega arith; check = e; before = sym listed.all }

        go : (k : ℕ) → k < r → Dec (k ≡ amount) → IsCheckCell L (n + 1) k (get_or cells' k 0)
        go k l (yes q) =
            subst (λ (j : ℕ). IsCheckCell L (n + 1) j (get_or cells' j 0)) (sym q)
            (subst (λ (i : ℕ). IsCheckCell L (n + 1) amount i) (sym p.cell) own)
        go k l (no q) =
            let low : k < amount = omega (arith, p.more) in
            subst (λ (i : ℕ). IsCheckCell L (n + 1) k i) (sym (p.cells_stay k low)) (still k (get_or cells k 0) (listed.at k low))

-- the place of the cell that is put last
pub places_check : (L : Layout) (n amount r place : ℕ) (cells places cells' places' : List ℕ) → HoldsPlaces L amount cells places
    → PutLast amount r n place cells places cells' places' → place ≡ place_of L n → HoldsPlaces L r cells' places'
places_check L n amount r place cells places cells' places' held p own =
    record { at = λ k l. go k l (ℕ_discrete k amount) }
  where
    go : (k : ℕ) → k < r → Dec (k ≡ amount) → get_or places' k 0 ≡ place_of L (get_or cells' k 0)
    go k l (yes q) =
        ap (λ (j : ℕ). get_or places' j 0) q
        ∙ p.place
        ∙ own
        ∙ ap (place_of L) (sym p.cell)
        ∙ ap (λ (j : ℕ). place_of L (get_or cells' j 0)) (sym q)
    go k l (no q) =
        let low : k < amount = omega (arith, p.more) in
        p.places_stay k low ∙ held.at k low ∙ ap (place_of L) (sym (p.cells_stay k low))

-- a stretch of cells with no check
pub listed_run : (L : Layout) (n amount : ℕ) (cells : List ℕ) (w : ℕ) → ((x : ℕ) → x < w → holds_data L (n + x) ≡ true)
    → ListsChecks L n amount cells → ListsChecks L (n + w) amount cells
listed_run L n amount cells zero free listed =
    let e : n ≡ n + 0 = omega arith in
    subst (λ (k : ℕ). ListsChecks L k amount cells) e listed
listed_run L n amount cells (suc w) free listed =
    let e : n + w + 1 ≡ n + suc w = omega arith in
    subst (λ (k : ℕ). ListsChecks L k amount cells) e
    (listed_free L (n + w) amount cells (listed_run L n amount cells w (λ x l. free x (omega arith)) listed)
    (free w (omega arith)))
