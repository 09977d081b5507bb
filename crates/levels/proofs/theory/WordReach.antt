-- The lawful word from which a word comes, and the lawful field from which a field comes, for any layout of cells in classes: it
-- is the corrected one, and there is one exactly where the changes can be taken back.
use Prim.Native.Nat.{ℕ, zero, suc, ◌+◌, ◌-◌, ◌<◌, ◌≤◌}
use mathlib.Core.Bool.{Bool, true, false, cond, true≢false}
use mathlib.Core.Logic.{◌≢◌, ◌⊎◌, inl, inr, ⊎_elim}
use mathlib.Core.Path.{◌≡◌, refl, sym, ap, subst, ◌∙◌}
use native.Mathlib.Decide.{ℕ_discrete}
use native.Mathlib.Nat.{le_refl, not-suc-le-zero, eq-or-lt_of_le, le_of_suc-le-suc}
use native.Mathlib.Omega.{arith}
use Rattle.lattice.specs.Position.{Layout}
use Rattle.codec.specs.Field.{Field, Same}
use Rattle.codec.proofs.theory.AllBelow.{all_below_lem, below_all, some_fails}
use Rattle.levels.specs.Level.{max_level}
use Rattle.levels.specs.Faults.{IsFault, change}
use Rattle.levels.specs.Words.{slot, in_word, word, is_of, remainder, LawfulWord, ComesFrom, LevelsFrom, WordInReach}
use Rattle.levels.specs.Restored.{change_at, corrected_levels, fits, levels_in_reach}
use Rattle.levels.proofs.theory.FaultLaws.{change_none, leaves_changed}
use Rattle.levels.proofs.theory.WordCells.{slot_below, of_in, is_of_lem}
use Rattle.levels.proofs.theory.Remainders.{remainder_same, lawful_effect, lawful_same}
use Rattle.levels.proofs.theory.RestoredCells.{corrected_in, corrected_ignored, change_of_lem, changes_one, fits_high, fits_in}
use Rattle.levels.proofs.theory.RestoredCells.{fits_ignored, corrected_comes, corrected_word}

-- two fields agree on the cells of word w, or differ in one
abbrev Agree : Layout → Field → Field → ℕ → ℕ → Type 0
Agree L f g w m = (i : ℕ) → i < m → is_of L w i ≡ true → f i ≡ g i

abbrev Differ : Layout → Field → Field → ℕ → ℕ → Type 0
Differ L f g w m = (i : ℕ) × (i < m) × (is_of L w i ≡ true) × (f i ≢ g i)

agree_or_differ : (L : Layout) (f g : Field) (w m : ℕ) → Agree L f g w m ⊎ Differ L f g w m
agree_or_differ L f g w zero = inl (λ i l. absurd (not-suc-le-zero l))
agree_or_differ L f g w (suc m) = go (agree_or_differ L f g w m) (is_of L w m) refl (ℕ_discrete (f m) (g m))
  where
    more : Agree L f g w m → (is_of L w m ≡ true → f m ≡ g m) → Agree L f g w (suc m)
    more before last i l =
        ⊎_elim
        (λ (e : i ≡ m). subst (λ (k : ℕ). is_of L w k ≡ true → f k ≡ g k) (sym e) last)
        (λ (k : i < m). before i k)
        (eq-or-lt_of_le (le_of_suc-le-suc l))

    go : Agree L f g w m ⊎ Differ L f g w m → (b : Bool) → is_of L w m ≡ b → Dec (f m ≡ g m)
        → Agree L f g w (suc m) ⊎ Differ L f g w (suc m)
    go (inr r) b e d = inr (r.0, omega (arith, r.1), r.2, r.3)
    go (inl p) false e d = inl (more p (λ h. absurd (true≢false (sym h ∙ e))))
    go (inl p) true e (yes d) = inl (more p (λ h. d))
    go (inl p) true e (no d) = inr (m, le_refl _, e, d)

-- word w of f comes from that of g, which is lawful
module _ (L : Layout) (f g : Field) (w : ℕ) (comes : ComesFrom L f g w) (lawful : LawfulWord L g w) where
  -- a word that agrees is changed in no cell
  agrees : Agree L f g w L.cells → (i : ℕ) → i < L.cells → is_of L w i ≡ true → f i + 1 ≡ g i + change_at L f i
  unfolding LawfulWord
  agrees e i l p =
      let z : remainder L f w ≡ 0 = remainder_same L f g w e ∙ lawful in
      let u : change_at L f i ≡ 1 = change_of_lem L f w i p ∙ ap (λ (r : ℕ). change r (slot L i)) z ∙ change_none (slot L i) in
      omega (arith, e i l p, u)

  -- a word that differs is changed in cell d alone
  module _ (d : ℕ) (below : d < L.cells) (own : is_of L w d ≡ true) (other : f d ≢ g d) where
    up : ℕ
    up = f d + 1 - g d

    apart : f d + 1 ≡ g d + up
    unfolding up
    apart = omega (arith, comes.within d below own)

    is_fault : IsFault (slot L d) up
    unfolding up
    is_fault =
        record {
          cell = slot_below L d;
          low = omega (arith, comes.within d below own);
          some = λ e. other (omega (arith, e, comes.within d below own));
        }

    rest : (j : ℕ) → j < L.cells → is_of L w j ≡ true → j ≢ d → f j ≡ g j
    rest j m q o = same (ℕ_discrete (f j) (g j))
      where
        same : Dec (f j ≡ g j) → f j ≡ g j
        same (yes e) = e
        same (no e) = absurd (o (comes.one j d m below q own e other))

    there : change_at L f d ≡ up
    there =
        change_of_lem L f w d own
        ∙ leaves_changed (remainder L f w) (slot L d) up is_fault
        (sym (lawful_effect L f g w d below own rest up apart lawful))

    differs : (i : ℕ) → i < L.cells → is_of L w i ≡ true → f i + 1 ≡ g i + change_at L f i
    differs i l p = go (ℕ_discrete (f i) (g i)) (ℕ_discrete (change_at L f i) 1)
      where
        go : Dec (f i ≡ g i) → Dec (change_at L f i ≡ 1) → f i + 1 ≡ g i + change_at L f i
        go (no e) u =
            subst (λ (k : ℕ). f k + 1 ≡ g k + change_at L f k) (comes.one d i below l own p other e)
            (apart ∙ ap (λ (v : ℕ). g d + v) (sym there))
        go (yes e) (yes u) = omega (arith, e, u)
        go (yes e) (no u) =
            absurd (other (subst (λ (k : ℕ). f k ≡ g k)
            (changes_one L f w i d p own u (λ (q : change_at L f d ≡ 1). is_fault.some (sym there ∙ q))) e))

  -- the change of each cell is found
  pub comes_change : (i : ℕ) → i < L.cells → is_of L w i ≡ true → f i + 1 ≡ g i + change_at L f i
  comes_change i l p =
      ⊎_elim
      (λ e. agrees e i l p)
      (λ (h : Differ L f g w L.cells). differs h.0 h.1 h.2 h.3 i l p)
      (agree_or_differ L f g w L.cells)

  -- so correction finds g's word
  pub comes_corrected : (i : ℕ) → i < L.cells → is_of L w i ≡ true → corrected_levels L f i ≡ g i
  comes_corrected i l p = omega (arith, corrected_in L f i (of_in L w i p), comes_change i l p)

  -- and the test passes where g's cells are levels
  pub comes_fits : (i : ℕ) → i < L.cells → is_of L w i ≡ true → g i ≤ max_level → fits L f i ≡ true
  comes_fits i l p q = fits_in L f i (omega (arith, comes_change i l p)) (omega (arith, comes_change i l p))

-- a word in reach: the corrected word, with 0 in the cells of the others
module _ (L : Layout) (f : Field) (w : ℕ) where
  alone : Field
  alone i = cond (is_of L w i) (corrected_levels L f i) 0

  alone_own : (i : ℕ) → is_of L w i ≡ true → alone i ≡ corrected_levels L f i
  unfolding alone
  alone_own i e = rw e

  alone_other : (i : ℕ) → is_of L w i ≡ false → alone i ≡ 0
  unfolding alone
  alone_other i e = rw e

  pub fit_reach : ((i : ℕ) → i < L.cells → is_of L w i ≡ true → fits L f i ≡ true) → WordInReach L f w
  fit_reach fit =
      record {
        from = alone;
        levels = λ i l. level i l (is_of L w i) refl;
        comes = record {
          one = λ i j l m p q d e.
              (corrected_comes L f w fit).one i j l m p q
              (λ h. d (h ∙ sym (alone_own i p))) (λ h. e (h ∙ sym (alone_own j q)));
          within = λ i l p. rw (alone_own i p) ((corrected_comes L f w fit).within i l p);
        };
        lawful =
            lawful_same L (corrected_levels L f) alone w (λ i l p. sym (alone_own i p)) (corrected_word L f w fit);
      }
    where
      level : (i : ℕ) → i < L.cells → (b : Bool) → is_of L w i ≡ b → alone i ≤ max_level
      level i l true e = omega (arith, alone_own i e, fits_high L f i (of_in L w i e) (fit i l e))
      level i l false e = omega (arith, alone_other i e)

  pub reach_fit : WordInReach L f w → (i : ℕ) → i < L.cells → is_of L w i ≡ true → fits L f i ≡ true
  reach_fit r i l p = comes_fits L f r.from w r.comes r.lawful i l p (r.levels i l)

module _ (L : Layout) (f : Field) where
  in_or_ignored : (i : ℕ) → Dec (in_word L i ≡ true)
  in_or_ignored i = go (in_word L i) refl
    where
      go : (b : Bool) → in_word L i ≡ b → Dec (in_word L i ≡ true)
      go true e = yes e
      go false e = no (λ h. true≢false (sym h ∙ e))

  -- the lawful field from which f comes, where there is one, is the corrected field
  pub from_corrected : (g : Field) → LevelsFrom L f g → Same (corrected_levels L f) g L.cells
  from_corrected g h i l = go (in_or_ignored i)
    where
      go : Dec (in_word L i ≡ true) → corrected_levels L f i ≡ g i
      go (yes e) =
          comes_corrected L f g (word L i) (h.comes (word L i)) (h.lawful.words (word L i)) i l (is_of_lem L (word L i) i e refl)
      go (no d) = corrected_ignored L f i d ∙ sym (h.lawful.ignored i l d)

  -- and the test passes
  pub from_reach : (g : Field) → LevelsFrom L f g → levels_in_reach L f ≡ true
  unfolding levels_in_reach
  from_reach g h = all_below_lem (fits L f) L.cells (λ i l. go i l (in_or_ignored i))
    where
      go : (i : ℕ) → i < L.cells → Dec (in_word L i ≡ true) → fits L f i ≡ true
      go i l (yes e) =
          comes_fits L f g (word L i) (h.comes (word L i)) (h.lawful.words (word L i)) i l (is_of_lem L (word L i) i e refl)
          (h.lawful.levels i l)
      go i l (no d) = fits_ignored L f i d

  -- where the test passes the corrected field is lawful, and f comes from it
  pub reach_from : levels_in_reach L f ≡ true → LevelsFrom L f (corrected_levels L f)
  unfolding levels_in_reach
  reach_from e =
      record {
        lawful = record {
          levels = λ i l. level i l (in_or_ignored i);
          words = λ w. corrected_word L f w (λ i l p. fit i l);
          ignored = λ i l d. corrected_ignored L f i d;
        };
        comes = λ w. corrected_comes L f w (λ i l p. fit i l);
      }
    where
      fit : (i : ℕ) → i < L.cells → fits L f i ≡ true
      fit i l = below_all (fits L f) L.cells e i l

      level : (i : ℕ) → i < L.cells → Dec (in_word L i ≡ true) → corrected_levels L f i ≤ max_level
      level i l (yes p) = fits_high L f i p (fit i l)
      level i l (no d) = omega (arith, corrected_ignored L f i d)

  -- where it fails, some word has no lawful word in reach
  pub none_in_reach : levels_in_reach L f ≡ false → (w : ℕ) × (¬ WordInReach L f w)
  unfolding levels_in_reach
  none_in_reach e =
      let r = some_fails (fits L f) L.cells e in
      (word L r.0, λ h. true≢false (sym (go r.0 r.1 h (in_or_ignored r.0)) ∙ r.2))
    where
      go : (i : ℕ) → i < L.cells → WordInReach L f (word L i) → Dec (in_word L i ≡ true) → fits L f i ≡ true
      go i l h (yes p) = reach_fit L f (word L i) h i l (is_of_lem L (word L i) i p refl)
      go i l h (no d) = fits_ignored L f i d

  pub in_reach_all : levels_in_reach L f ≡ true → (w : ℕ) → WordInReach L f w
  unfolding levels_in_reach
  in_reach_all e w = fit_reach L f w (λ i l p. below_all (fits L f) L.cells e i l)
