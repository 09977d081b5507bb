-- Cells flipped in a field: one cell, and those that a list names, one for each class.
use Prim.Native.Nat.{ℕ, ◌+◌, ◌<◌, ◌≤◌}
use mathlib.Core.Bool.{cond}
use mathlib.Core.List.{List}
use mathlib.Core.Logic.{◌≢◌}
use mathlib.Core.Path.{◌≡◌, refl, sym, ap, ap₂, ◌∙◌}
use native.Mathlib.Decide.{ℕ_discrete, dec_lt}
use native.Mathlib.Omega.{arith}
use lib.Dec.{eqb}
use lib.ListN.{get_or}
use borrow.Author.Tests.{eq-eqb, ne_eqb, lt-ltb, le-ltb}
use Rattle.lattice.specs.Position.{Layout}
use Rattle.codec.specs.Field.{Field, Same, flip}
use Rattle.codec.specs.Packing.{flipped_at, flipped_by, flipped_to, Names}

-- the value v of cell i, flipped where c is this cell
abbrev pub flipped_if : ℕ → ℕ → ℕ → ℕ
flipped_if c i v = cond (eqb c i) (flip v) v

pub flipped_if_there : (c i v : ℕ) → c ≡ i → flipped_if c i v ≡ flip v
flipped_if_there c i v e = rw (eq-eqb c i e)

pub flipped_if_kept : (c i v : ℕ) → c ≢ i → flipped_if c i v ≡ v
flipped_if_kept c i v d = rw (ne_eqb c i d)

-- a cell flipped, and the others
pub flipped_own : (f : Field) (c : ℕ) → flipped_at f c c ≡ flip (f c)
unfolding flipped_at
flipped_own f c = rw (eq-eqb c c refl)

pub flipped_other : (f : Field) (c i : ℕ) → i ≢ c → flipped_at f c i ≡ f i
unfolding flipped_at
flipped_other f c i d = rw (ne_eqb i c d)

pub flipped_same : (f g : Field) (c n : ℕ) → Same f g n → Same (flipped_at f c) (flipped_at g c) n
unfolding flipped_at
flipped_same f g c n p i l = ap (λ (v : ℕ). cond (eqb i c) (flip v) v) (p i l)

module _ (L : Layout) (cells : List ℕ) where
  -- the named cells flipped, and the others
  named_flipped : (f : Field) (i : ℕ) → get_or cells (L.class i) 0 ≡ i → flipped_by L cells f i ≡ flip (f i)
  unfolding flipped_by
  named_flipped f i e = flipped_if_there _ i (f i) e

  named_other : (f : Field) (i : ℕ) → get_or cells (L.class i) 0 ≢ i → flipped_by L cells f i ≡ f i
  unfolding flipped_by
  named_other f i d = flipped_if_kept _ i (f i) d

  pub named_same : (f g : Field) (n : ℕ) → Same f g n → Same (flipped_by L cells f) (flipped_by L cells g) n
  unfolding flipped_by
  named_same f g n p i l = ap (flipped_if (get_or cells (L.class i) 0) i) (p i l)

  -- the value of cell i of class a, from its value v before
  pub named_value : (f : Field) (i : ℕ) {a v : ℕ} → L.class i ≡ a → v ≡ f i
      → flipped_if (get_or cells a 0) i v ≡ flipped_by L cells f i
  unfolding flipped_by
  named_value f i own value = ap₂ (λ (b x : ℕ). flipped_if (get_or cells b 0) i x) (sym own) value

  module _ (f : Field) where
    -- those of the classes below a are flipped, and the others are not
    flipped_to_below : (a i : ℕ) → L.class i < a → flipped_to L cells f a i ≡ flipped_by L cells f i
    unfolding flipped_to
    flipped_to_below a i l = rw (lt-ltb (L.class i) a l)

    flipped_to_above : (a i : ℕ) → a ≤ L.class i → flipped_to L cells f a i ≡ f i
    unfolding flipped_to
    flipped_to_above a i l = rw (le-ltb (L.class i) a l)

    pub flipped_to_none : (n : ℕ) → Same f (flipped_to L cells f 0) n
    flipped_to_none n i l = sym (flipped_to_above 0 i (omega arith))

    pub flipped_to_all : (m n : ℕ) → ((i : ℕ) → i < n → L.class i < m) → Same (flipped_to L cells f m) (flipped_by L cells f) n
    flipped_to_all m n below i l = flipped_to_below m i (below i l)

    -- one class more: its named cell is flipped
    pub flipped_to_more : (m : ℕ) → Names L m cells → (a : ℕ) → a < m
        → Same (flipped_at (flipped_to L cells f a) (get_or cells a 0)) (flipped_to L cells f (a + 1)) L.cells
    flipped_to_more m own a l i p = go (ℕ_discrete i c) (ℕ_discrete (L.class i) a) (dec_lt (L.class i) a)
      where
        c : ℕ
        c = get_or cells a 0

        go : Dec (i ≡ c) → Dec (L.class i ≡ a) → Dec (L.class i < a)
            → flipped_at (flipped_to L cells f a) c i ≡ flipped_to L cells f (a + 1) i
        go (yes e) _ low =
            let class : L.class i ≡ a = ap L.class e ∙ own.class a l (rw (← e) p) in
            ap (flipped_at (flipped_to L cells f a) c) e
            ∙ flipped_own (flipped_to L cells f a) c
            ∙ ap flip (ap (flipped_to L cells f a) (sym e) ∙ flipped_to_above a i (omega arith))
            ∙ sym (named_flipped f i (ap (λ (b : ℕ). get_or cells b 0) class ∙ sym e))
            ∙ sym (flipped_to_below (a + 1) i (omega arith))
        go (no d) (yes e) low =
            flipped_other (flipped_to L cells f a) c i d
            ∙ flipped_to_above a i (omega arith)
            ∙ sym (named_other f i (λ h. d (sym h ∙ ap (λ (b : ℕ). get_or cells b 0) e)))
            ∙ sym (flipped_to_below (a + 1) i (omega arith))
        go (no d) (no e) (yes q) =
            flipped_other (flipped_to L cells f a) c i d ∙ flipped_to_below a i q ∙ sym (flipped_to_below (a + 1) i (omega arith))
        go (no d) (no e) (no q) =
            flipped_other (flipped_to L cells f a) c i d
            ∙ flipped_to_above a i (omega arith)
            ∙ sym (flipped_to_above (a + 1) i (omega (arith, e)))
