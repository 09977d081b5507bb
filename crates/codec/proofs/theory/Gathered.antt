-- The payload that a field holds, gathered from runs of cells that hold no check: eight cells at a time or one by one.
use Prim.Native.Nat.{ℕ, zero, suc, ◌+◌, ◌-◌, ◌*◌, ◌/◌, ◌%◌, ◌<◌, ◌≤◌}
use mathlib.Core.Bool.{true, false, cond}
use mathlib.Core.List.{List}
use mathlib.Core.Path.{◌≡◌, refl, sym, ap, subst, ◌∙◌}
use native.Mathlib.Decide.{ℕ_discrete}
use native.Mathlib.Numerals.{add-one}
use native.Mathlib.Omega.{arith}
use lib.Dec.{eqb}
use lib.ListN.{length, get_or, set, length-set}
use lib.Seq.{get_or-set_same, get_or-set_other}
use borrow.Author.Tests.{eq-eqb, ne_eqb}
use Rattle.lattice.specs.Position.{Layout}
use Rattle.lattice.specs.Check.{holds_data}
use Rattle.lattice.specs.Listing.{checks_to, Run}
use Rattle.lattice.proofs.theory.Counting.{count_not}
use Rattle.lattice.proofs.theory.Runs.{run_checks}
use Rattle.codec.specs.Field.{Field, Cells}
use Rattle.codec.specs.Payload.{rank, held_byte}
use Rattle.codec.specs.Packing.{BeginsByte, four_at, eight_at, HoldsBytes, BitStored}
use Rattle.codec.proofs.theory.CellValues.{cell_most}
use Rattle.codec.proofs.theory.HeldByte.{byte_here, byte_other, byte_check}

-- each cell before a cell holds data or a check
pub rank_checks : (L : Layout) (i : ℕ) → rank L i + checks_to L i ≡ i
unfolding rank checks_to
rank_checks L i = count_not (holds_data L) i

-- in a run that k checks stand before, the rank of a cell is its number less k
pub run_rank : (L : Layout) (k i e : ℕ) → Run L k i e → (x : ℕ) → i ≤ x → x ≤ e → rank L x + k ≡ x
run_rank L k i e r x p q = omega (arith, rank_checks L x, run_checks L k i e r x p q)

module _ (L : Layout) (f : Field) (j : ℕ) where
  -- the byte with one cell more, and with four
  one : (x y : ℕ) → x + 1 ≡ y → holds_data L x ≡ true → rank L x / 8 ≡ j → held_byte L f j y ≡ held_byte L f j x * 2 + f x
  one x y e h r =
      subst (λ (z : ℕ). held_byte L f j z ≡ held_byte L f j x * 2 + f x) (sym (add-one x) ∙ e) (byte_here L f j x h r)

  four_here : (i : ℕ) → ((x : ℕ) → x < 4 → holds_data L (i + x) ≡ true) → ((x : ℕ) → x < 4 → rank L (i + x) / 8 ≡ j)
      → held_byte L f j (i + 4) ≡ held_byte L f j i * 16 + four_at f i
  four_here i h r =
      let z : i + 0 ≡ i = omega arith in
      omega (
        arith,
        one i (i + 1) refl (subst (λ (y : ℕ). holds_data L y ≡ true) z (h 0 (omega arith)))
            (subst (λ (y : ℕ). rank L y / 8 ≡ j) z (r 0 (omega arith))),
        one (i + 1) (i + 2) (omega arith) (h 1 (omega arith)) (r 1 (omega arith)),
        one (i + 2) (i + 3) (omega arith) (h 2 (omega arith)) (r 2 (omega arith)),
        one (i + 3) (i + 4) (omega arith) (h 3 (omega arith)) (r 3 (omega arith)),
      )

  -- cells of other bytes leave it
  others : (i d : ℕ) → ((x : ℕ) → x < d → rank L (i + x) / 8 ≡ j → ⊥) → held_byte L f j (i + d) ≡ held_byte L f j i
  others i zero n = let z : i + 0 ≡ i = omega arith in ap (held_byte L f j) z
  others i (suc d) n =
      let next : suc (i + d) ≡ i + suc d = omega arith in
      ap (held_byte L f j) (sym next) ∙ byte_other L f j (i + d) (n d (omega arith)) ∙ others i d (λ x l. n x (omega arith))

four_most : (f : Field) (n i : ℕ) → Cells f n → i + 4 ≤ n → four_at f i ≤ 15
four_most f n i c l =
    omega (
      arith,
      cell_most _ (c i (omega arith)),
      cell_most _ (c (i + 1) (omega arith)),
      cell_most _ (c (i + 2) (omega arith)),
      cell_most _ (c (i + 3) (omega arith)),
    )

pub fours_most : (f : Field) (n i : ℕ) → Cells f n → i + 8 ≤ n → (four_at f i ≤ 15) × (four_at f (i + 4) ≤ 15)
fours_most f n i c l = (four_most f n i c (omega arith), four_most f n (i + 4) c (omega arith))

pub gathered_none : (L : Layout) (f : Field) (l : List ℕ) → ((j : ℕ) → get_or l j 0 ≡ 0) → HoldsBytes L f l 0
gathered_none L f l p = record { at = λ j h. p j }

module _ (L : Layout) (f : Field) (l : List ℕ) (i : ℕ) (holds : HoldsBytes L f l i) where
  -- a check leaves the bytes
  pub gathered_check : holds_data L i ≡ false → HoldsBytes L f l (i + 1)
  gathered_check h =
      record {
        at =
            λ j p.
            holds.at j p ∙ ap (λ (b : ℕ). b % 256) (sym (byte_check L f j i h) ∙ ap (held_byte L f j) (sym (add-one i)));
      }

  module _ (k e : ℕ) (r : Run L k i e) where
    -- one cell more
    pub gathered_cell : (after : List ℕ) → i < e → length after ≡ length l → BitStored l after (i - k) (f i)
        → HoldsBytes L f after (i + 1)
    gathered_cell after p long st =
        record {
          at = λ j h.
              let q : j < length l = omega arith in st.at j q ∙ go j (holds.at j q) (ℕ_discrete ((i - k) / 8) j);
        }
      where
        own : rank L i ≡ i - k
        own = omega (arith, run_rank L k i e r i (omega arith) (omega arith))

        held : holds_data L i ≡ true
        held = r.free i (omega arith) p

        go : (j : ℕ) → get_or l j 0 ≡ held_byte L f j i % 256 → Dec ((i - k) / 8 ≡ j)
            → cond (eqb ((i - k) / 8) j) ((get_or l j 0 * 2 + f i) % 256) (get_or l j 0) ≡ held_byte L f j (i + 1) % 256
        go j h (yes q) =
            rw (eq-eqb ((i - k) / 8) j q)
            (omega (arith, one L f j i (i + 1) refl held (ap (λ (n : ℕ). n / 8) own ∙ q)))
        go j h (no q) =
            rw (ne_eqb ((i - k) / 8) j q)
            (h ∙ ap (λ (b : ℕ). b % 256) (sym (others L f j i 1 (λ x s z. q (back x s z)))))
          where
            back : (x : ℕ) → x < 1 → rank L (i + x) / 8 ≡ j → (i - k) / 8 ≡ j
            back x s z =
                let here : i + x ≡ i = omega arith in
                sym (ap (λ (n : ℕ). n / 8) (ap (rank L) here ∙ own)) ∙ z

    -- eight cells more
    module _ (n : ℕ) (c : Cells f n) (fit : e ≤ n) (begins : BeginsByte (i - k) (e - i) (length l)) where
      byte : (x : ℕ) → x < 8 → rank L (i + x) / 8 ≡ (i - k) / 8
      byte x p = omega (
        arith,
        begins.first,
        begins.enough,
        run_rank L k i e r (i + x) (omega arith) (omega (arith, begins.enough)),
        run_rank L k i e r i (omega arith) r.ordered,
      )

      free : (x : ℕ) → x < 8 → holds_data L (i + x) ≡ true
      free x p = r.free (i + x) (omega arith) (omega (arith, begins.enough))

      move : (x : ℕ) → i + (4 + x) ≡ i + 4 + x
      move x = omega arith

      whole : held_byte L f ((i - k) / 8) (i + 8) ≡ held_byte L f ((i - k) / 8) i * 256 + eight_at f i
      whole =
          let j = (i - k) / 8 in
          let last : i + 4 + 4 ≡ i + 8 = omega arith in
          omega (
            arith,
            four_here L f j i (λ x p. free x (omega arith)) (λ x p. byte x (omega arith)),
            four_here L f j (i + 4)
                (λ x p. subst (λ (y : ℕ). holds_data L y ≡ true) (move x) (free (4 + x) (omega arith)))
                (λ x p. subst (λ (y : ℕ). rank L y / 8 ≡ j) (move x) (byte (4 + x) (omega arith))),
            ap (held_byte L f j) last,
          )

      pub gathered_byte : HoldsBytes L f (set l ((i - k) / 8) (eight_at f i)) (i + 8)
      gathered_byte = record { at = λ j p. go j (holds.at j (rw length-set at p)) (ℕ_discrete j ((i - k) / 8)) }
        where
          go : (j : ℕ) → get_or l j 0 ≡ held_byte L f j i % 256 → Dec (j ≡ (i - k) / 8)
              → get_or (set l ((i - k) / 8) (eight_at f i)) j 0 ≡ held_byte L f j (i + 8) % 256
          go j h (yes q) =
              let few = fours_most f n i c (omega (arith, begins.enough)) in
              ap (λ (x : ℕ). get_or (set l ((i - k) / 8) (eight_at f i)) x 0) q
              ∙ get_or-set_same l ((i - k) / 8) _ 0 begins.inside
              ∙ omega (arith, few.0, few.1, whole, ap (λ (x : ℕ). held_byte L f x (i + 8)) q)
          go j h (no q) =
              get_or-set_other l ((i - k) / 8) j _ 0 q
              ∙ h
              ∙ ap (λ (b : ℕ). b % 256) (sym (others L f j i 8 (λ x p z. q (sym z ∙ byte x p))))
