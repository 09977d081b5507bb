-- Whether each class has few erasures and a codeword is in reach of it, for any layout of cells in m classes and any tags that
-- tell them.
use Prim.Native.Nat.{ℕ, ◌<◌, ◌≤◌}
use mathlib.Core.Bool.{true, false, true≢false, ◌&&◌}
use mathlib.Core.Path.{◌≡◌, sym, ◌∙◌}
use native.Mathlib.Decide.{dec_lt}
use native.Mathlib.Omega.{arith}
use lib.Dec.{eqb, leb}
use borrow.Author.Tests.{le-leb, leb-true, leb-false, ne_eqb}
use Rattle.lattice.specs.Position.{Layout}
use Rattle.lattice.proofs.theory.Bools.{and_false_left}
use Rattle.lattice.proofs.theory.Counting.{count_none}
use Rattle.codec.specs.Field.{Field, Cells, Received}
use Rattle.codec.specs.Hamming.{Tags, Tells, Codeword}
use Rattle.codec.specs.Erasure.{is_erased, erasures_to, erasures, FewErasures, few_erasures, Near, Nearest, corrected}
use Rattle.codec.specs.Erasure.{in_reach, all_in_reach}
use Rattle.codec.proofs.theory.AllBelow.{all_below_lem, below_all, some_fails}
use Rattle.codec.proofs.theory.NearestField.{near_reach, corrected_cells, corrected_near, reach_codeword, codeword_reach}
use Rattle.codec.proofs.theory.NearestField.{corrected_nearest, nearest_reach}
use Rattle.codec.proofs.theory.Syndrome.{syndrome_empty}

module _ (L : Layout) (tag : Tags) (m : ℕ) (below : (i : ℕ) → i < L.cells → L.class i < m) (f : Field) where
  -- the test of the erasures passes exactly where each class has at most two
  pub all_few : few_erasures L m f ≡ true → FewErasures L f
  unfolding few_erasures erasures_to
  all_few e a = go (dec_lt a m)
    where
      go : Dec (a < m) → erasures L f a ≤ 2
      go (yes l) = leb-true (erasures L f a) 2 (below_all (λ c. leb (erasures L f c) 2) m e a l)
      go (no l) =
          let none =
          count_none (λ i. eqb (L.class i) a && is_erased f i) L.cells
          (λ i k. and_false_left (eqb (L.class i) a) (is_erased f i)
          (ne_eqb (L.class i) a (λ c. omega (arith, c, below i k)))) in
          omega (arith, none)

  pub few_all : FewErasures L f → few_erasures L m f ≡ true
  unfolding few_erasures
  few_all p = all_below_lem (λ a. leb (erasures L f a) 2) m (λ a l. le-leb (erasures L f a) 2 (p a))

  pub many_erasures : few_erasures L m f ≡ false → (a : ℕ) × (3 ≤ erasures L f a)
  unfolding few_erasures
  many_erasures e =
      let r = some_fails (λ a. leb (erasures L f a) 2) m e in
      (r.0, omega (arith, leb-false (erasures L f r.0) 2 r.2))

  -- the test of all classes below m passes exactly where that of each class does
  all_reach : all_in_reach L tag m f ≡ true → (a : ℕ) → in_reach L tag f a ≡ true
  unfolding all_in_reach Codeword
  all_reach e a = go (dec_lt a m)
    where
      go : Dec (a < m) → in_reach L tag f a ≡ true
      go (yes l) = below_all (in_reach L tag f) m e a l
      go (no l) =
          codeword_reach L tag f a
          (syndrome_empty L tag (corrected L tag f) a L.cells (λ i k c o. omega (arith, below i k)))

  reach_all : ((a : ℕ) → in_reach L tag f a ≡ true) → all_in_reach L tag m f ≡ true
  unfolding all_in_reach
  reach_all p = all_below_lem (in_reach L tag f) m (λ a l. p a)

  module _ (tells : Tells L tag) (received : Received f L.cells) where
    -- where it passes, every class may stand for a codeword, and correction leaves it
    pub some_reach : all_in_reach L tag m f ≡ true → (a : ℕ)
        → (g : Field) × Cells g L.cells × Near L f g a × Codeword L tag g a
    some_reach e a =
        let word = reach_codeword L tag f a (all_reach e a) in
        (corrected L tag f, corrected_cells L tag f received, corrected_near tells f received a, word)

    pub reach_nearest : all_in_reach L tag m f ≡ true → Nearest L tag f (corrected L tag f)
    reach_nearest e = corrected_nearest tells f received (all_reach e)

    module _ (few : FewErasures L f) where
      pub nearest_all : (g : Field) → Nearest L tag f g → all_in_reach L tag m f ≡ true
      nearest_all g h = reach_all (nearest_reach tells f received few g h)

      -- where it fails, some class may stand for no codeword
      pub none_in_reach : all_in_reach L tag m f ≡ false
          → (a : ℕ) × ((g : Field) → Cells g L.cells → Near L f g a → Codeword L tag g a → ⊥)
      unfolding all_in_reach
      none_in_reach e =
          let r = some_fails (in_reach L tag f) m e in
          (r.0, λ g q near word. true≢false (sym (near_reach tells f received g r.0 (few r.0) q near word) ∙ r.2))
