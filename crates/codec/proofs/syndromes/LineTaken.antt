-- A line taken into the syndromes, by places of the table.
use Prim.Native.Nat.{ℕ, zero, suc, ◌+◌, ◌-◌, ◌*◌, ◌%◌, ◌<◌, ◌≤◌}
use mathlib.Core.Bool.{Bool, true, false, cond, ◌&&◌}
use mathlib.Core.List.{List}
use mathlib.Core.Logic.{◌≢◌}
use mathlib.Core.Path.{◌≡◌, refl, sym, ap, ap₂, ◌∙◌}
use native.Mathlib.Decide.{ℕ_discrete}
use native.Mathlib.Nat.{le_refl, add-zero, mul-one, mul-zero}
use native.Mathlib.Numerals.{unary_clauses, add-one}
use native.Mathlib.Omega.{arith}
use lib.Bits.{bit_xor, xor_zero_r, xor_comm}
use lib.Dec.{eqb}
use lib.ListN.{length, get_or, set}
use lib.Seq.{get_or-set_same, get_or-set_other}
use borrow.Author.Tests.{eq-eqb, ne_eqb}
use Rattle.lattice.specs.declared.line.Line.{Line}
use Rattle.lattice.specs.declared.shape.Shape.{Shape}
use Rattle.lattice.specs.Shape.{Accepted}
use Rattle.lattice.specs.Class.{layout_of}
use Rattle.lattice.specs.Position.{Layout}
use Rattle.lattice.specs.Lines.{table_of, slices_of, offset_of, AtLine}
use Rattle.lattice.proofs.theory.Among.{same_test}
use Rattle.lattice.proofs.theory.AtLine.{at_class, at_position}
use Rattle.codec.specs.Field.{Field, having}
use Rattle.codec.specs.Hamming.{Tags, tags_of, term, syndrome_to}
use Rattle.codec.specs.Lines.{xor_below, folded, Taken, LineTaken}
use Rattle.codec.proofs.theory.CellValues.{having_own, having_other}
use Rattle.codec.proofs.theory.Tags.{tag_position}
use Rattle.codec.proofs.theory.Xor.{xor_assoc, xor_exchange}

-- sums of exclusive ors
xor_same : (f g : ℕ → ℕ) (n : ℕ) → ((i : ℕ) → i < n → f i ≡ g i) → xor_below f n ≡ xor_below g n
xor_same f g zero p = refl
xor_same f g (suc n) p = ap₂ bit_xor (xor_same f g n (λ i l. p i (omega arith))) (p n (le_refl _))

xor_both : (f g : ℕ → ℕ) (n : ℕ) → xor_below (λ i. bit_xor (f i) (g i)) n ≡ bit_xor (xor_below f n) (xor_below g n)
xor_both f g zero = refl
xor_both f g (suc n) =
    ap (λ (x : ℕ). bit_xor x (bit_xor (f n) (g n))) (xor_both f g n)
    ∙ xor_exchange (xor_below f n) (xor_below g n) (f n) (g n)

xor_from : (g : ℕ → ℕ) (j w : ℕ) → xor_below g (j + w) ≡ bit_xor (xor_below g j) (xor_below (λ x. g (j + x)) w)
xor_from g j zero = ap (xor_below g) (add-zero j) ∙ sym (xor_zero_r (xor_below g j))
xor_from g j (suc w) =
    simp
    unary_clauses
    (ap (λ (x : ℕ). bit_xor x (g (j + w))) (xor_from g j w) ∙ xor_assoc (xor_below g j) (xor_below (λ x. g (j + x)) w)
    (g (j + w)))

syndrome_from : (L : Layout) (tag : Tags) (f : Field) (a n w : ℕ)
    → syndrome_to L tag f a (n + w) ≡ bit_xor (syndrome_to L tag f a n) (xor_below (λ x. term L tag f a (n + x)) w)
syndrome_from L tag f a n zero = ap (syndrome_to L tag f a) (add-zero n) ∙ sym (xor_zero_r (syndrome_to L tag f a n))
syndrome_from L tag f a n (suc w) =
    simp
    unary_clauses
    (ap (λ (x : ℕ). bit_xor x (term L tag f a (n + w))) (syndrome_from L tag f a n w)
    ∙ xor_assoc (syndrome_to L tag f a n) (xor_below (λ x. term L tag f a (n + x)) w) (term L tag f a (n + w)))

split : (b : Bool) (x y : ℕ) → cond b (bit_xor x y) 0 ≡ bit_xor (cond b x 0) (cond b y 0)
split true x y = refl
split false x y = refl

-- a product with a cell of 0 or 1
pub chosen : (b : Bool) (v p : ℕ) → v ≤ 1 → cond b (p * v) 0 ≡ cond (b && eqb v 1) p 0
chosen true zero p l = mul-zero p
chosen true (suc zero) p l = mul-one p
chosen true (suc (suc v)) p l = absurd (omega arith)
chosen false v p l = refl

-- a position where a cell has a value, else 0
module _ (value : ℕ) (f : Field) (i p : ℕ) where
  pub product_own : f i ≡ value → p ≡ p * having value f i
  product_own e = rw (having_own value f i e) (sym (mul-one p))

  pub product_other : f i ≢ value → 0 ≡ p * having value f i
  product_other d = rw (having_other value f i d) (sym (mul-zero p))

-- what the entry at place y adds to the class a
abbrev entry : ℕ → ℕ → List ℕ → ℕ → ℕ
entry m a t y = cond (eqb (y % m) a) (get_or t y 0) 0

-- a fold in three stretches: before the line's places, those, and behind them
fold_parts : (m a start w rest : ℕ) (t : List ℕ) → folded m a (start + w + rest) t
    ≡ bit_xor (bit_xor (xor_below (entry m a t) start) (xor_below (λ x. entry m a t (start + x)) w))
    (xor_below (λ x. entry m a t (start + w + x)) rest)
unfolding folded
fold_parts m a start w rest t =
    xor_from (entry m a t) (start + w) rest
    ∙ ap (λ (z : ℕ). bit_xor z (xor_below (λ x. entry m a t (start + w + x)) rest)) (xor_from (entry m a t) start w)

regroup : (p q h c : ℕ) → bit_xor (bit_xor p (bit_xor q h)) c ≡ bit_xor (bit_xor (bit_xor p q) c) h
regroup p q h c =
    ap (λ (z : ℕ). bit_xor z c) (sym (xor_assoc p q h))
    ∙ xor_assoc (bit_xor p q) h c
    ∙ ap (λ (z : ℕ). bit_xor (bit_xor p q) z) (xor_comm h c)
    ∙ sym (xor_assoc (bit_xor p q) c h)

module _ (f : Field) (start n w : ℕ) (e before after : List ℕ) (taken : LineTaken f start n w e before after) (m a : ℕ) where
  abbrev added : ℕ → ℕ
  added x = cond (eqb ((start + x) % m) a) (get_or e (start + x) 0 * f (n + x)) 0

  -- a line that is taken in adds its products to the folds
  fold_line : (rest : ℕ)
      → folded m a (start + w + rest) after ≡ bit_xor (folded m a (start + w + rest) before) (xor_below added w)
  fold_line rest =
      fold_parts m a start w rest after
      ∙ ap (λ (z : ℕ). bit_xor (bit_xor z (own after)) (high after)) same_low
      ∙ ap (λ (z : ℕ). bit_xor (bit_xor (low before) z) (high after)) same_own
      ∙ ap (λ (z : ℕ). bit_xor (bit_xor (low before) (bit_xor (own before) (xor_below added w))) z) same_high
      ∙ regroup (low before) (own before) (xor_below added w) (high before)
      ∙ ap (λ (z : ℕ). bit_xor z (xor_below added w)) (sym (fold_parts m a start w rest before))
    where
      -- the three stretches
      low : List ℕ → ℕ
      low t = xor_below (entry m a t) start

      own : List ℕ → ℕ
      own t = xor_below (λ x. entry m a t (start + x)) w

      high : List ℕ → ℕ
      high t = xor_below (λ x. entry m a t (start + w + x)) rest

      class : ℕ → Bool
      class y = eqb (y % m) a

      same_low : low after ≡ low before
      same_low = xor_same _ _ start (λ y r. ap (λ (z : ℕ). cond (class y) z 0) (taken.below y r))

      same_high : high after ≡ high before
      same_high =
          xor_same _ _ rest (λ x r. ap (λ (z : ℕ). cond (class (start + w + x)) z 0) (taken.above (start + w + x) (omega arith)))

      same_own : own after ≡ bit_xor (own before) (xor_below added w)
      same_own =
          xor_same _ _ w
          (λ x r.
          ap (λ (z : ℕ). cond (class (start + x)) z 0) (taken.own x r)
          ∙ split (class (start + x)) (get_or before (start + x) 0) (get_or e (start + x) 0 * f (n + x)))
          ∙ xor_both (λ x. entry m a before (start + x)) added w

-- Theorem. A line of an accepted shape is taken in.
module _ (s : Shape) (ok : Accepted s) (l : ℕ) (line : Line) (e : List ℕ) (at : AtLine s l line e)
    (inside : l < s.rows * s.planes) (j : ℕ) (slice : l % slices_of s ≡ j)
    (f : Field) (before after : List ℕ) (taken : LineTaken f line.start (l * s.columns) s.columns e before after)
    (room : line.start + s.columns ≤ length before)
    (long : length after ≡ length before) (cells : (x : ℕ) → x < s.columns → f (l * s.columns + x) ≤ 1) where
  -- a place has the class of its remainder and the slice
  place : (y a : ℕ) → eqb (y + offset_of s l) (j * (table_of s).m + a) ≡ eqb y a
  place y a =
      same_test (y + offset_of s l) (j * (table_of s).m + a) y a
      (λ (p : y + offset_of s l ≡ j * (table_of s).m + a). omega (arith, own))
      (λ (p : y ≡ a). omega (arith, own))
    where
      own : offset_of s l ≡ j * (table_of s).m
      own = ap (λ (n : ℕ). n * (table_of s).m) slice

  same : (a x : ℕ) → x < s.columns
      → term (layout_of s) (tags_of (layout_of s)) f (j * (table_of s).m + a) (l * s.columns + x)
      ≡ added f line.start (l * s.columns) s.columns e before after taken (table_of s).m a x
  same a x q =
      let i = l * s.columns + x in
      ap₂
      (λ (c v : ℕ). cond (eqb c (j * (table_of s).m + a) && eqb (f i) 1) v 0)
      (at_class s ok l line e at inside x q)
      (tag_position (layout_of s) i ∙ at_position s ok l line e at inside x q)
      ∙ ap
      (λ (b : Bool). cond (b && eqb (f i) 1) (get_or e (line.start + x) 0) 0)
      (place ((line.start + x) % (table_of s).m) a)
      ∙ sym (chosen (eqb ((line.start + x) % (table_of s).m) a) (f i) (get_or e (line.start + x) 0) (cells x q))

  pub line_taken : Taken (layout_of s) (table_of s).m (j * (table_of s).m) f before (l * s.columns)
      → Taken (layout_of s) (table_of s).m (j * (table_of s).m) f after (l * s.columns + s.columns)
  unfolding Taken
  line_taken p a r =
      let m = (table_of s).m in
      let start = line.start in
      let wide = length before in
      let rest = wide - (start + s.columns) in
      let far : wide ≡ start + s.columns + rest = omega arith in
      let sum = xor_below (added f start (l * s.columns) s.columns e before after taken m a) s.columns in
      ap (λ (k : ℕ). folded m a k after) (long ∙ far)
      ∙ fold_line f start (l * s.columns) s.columns e before after taken m a rest
      ∙ ap (λ (k : ℕ). bit_xor (folded m a k before) sum) (sym far)
      ∙ ap₂ bit_xor (p a r) (sym (xor_same _ _ s.columns (same a)))
      ∙ sym (syndrome_from (layout_of s) (tags_of (layout_of s)) f (j * m + a) (l * s.columns) s.columns)

-- one entry more of a fold
pub fold_none : (m a : ℕ) (t : List ℕ) → folded m a 0 t ≡ 0
unfolding folded
fold_none m a t = refl

pub fold_more : (m first y : ℕ) (t s : List ℕ) (k v : ℕ) → k ≡ y % m → first + k < length s
    → v ≡ bit_xor (get_or s (first + k) 0) (get_or t y 0) → ((a : ℕ) → a < m → get_or s (first + a) 0 ≡ folded m a y t)
    → (a : ℕ) → a < m → get_or (set s (first + k) v) (first + a) 0 ≡ folded m a (y + 1) t
unfolding folded
fold_more m first y t s k v own h q p a l = go (ℕ_discrete a k)
  where
    next : xor_below (entry m a t) (y + 1) ≡ bit_xor (xor_below (entry m a t) y) (entry m a t y)
    next = ap (xor_below (entry m a t)) (add-one y)

    go : Dec (a ≡ k) → get_or (set s (first + k) v) (first + a) 0 ≡ xor_below (entry m a t) (y + 1)
    go (yes d) =
        ap (λ (z : ℕ). get_or (set s (first + k) v) (first + z) 0) d
        ∙ get_or-set_same s (first + k) v 0 h
        ∙ q
        ∙ ap (λ (z : ℕ). bit_xor (get_or s (first + z) 0) (get_or t y 0)) (sym d)
        ∙ ap (λ (z : ℕ). bit_xor z (get_or t y 0)) (p a l)
        ∙ ap (λ (b : Bool). bit_xor (xor_below (entry m a t) y) (cond b (get_or t y 0) 0))
        (sym (eq-eqb (y % m) a (sym own ∙ sym d)))
        ∙ sym next
    go (no d) =
        get_or-set_other s (first + k) (first + a) v 0 (λ (z : first + a ≡ first + k). d (omega arith))
        ∙ p a l
        ∙ sym (xor_zero_r (xor_below (entry m a t) y))
        ∙ ap (λ (b : Bool). bit_xor (xor_below (entry m a t) y) (cond b (get_or t y 0) 0))
        (sym (ne_eqb (y % m) a (λ (z : y % m ≡ a). d (sym z ∙ sym own))))
        ∙ sym next

-- nothing is taken in yet
pub taken_none : (L : Layout) (m first : ℕ) (f : Field) (t : List ℕ) → ((y : ℕ) → get_or t y 0 ≡ 0) → Taken L m first f t 0
unfolding Taken folded
taken_none L m first f t p a l =
    xor_same (entry m a t) (λ y. 0) (length t)
    (λ y r. ap (λ (z : ℕ). cond (eqb (y % m) a) z 0) (p y) ∙ either (eqb (y % m) a))
    ∙ none (length t)
  where
    either : (b : Bool) → ◌≡◌ {A = ℕ} (cond b 0 0) 0
    either true = refl
    either false = refl

    none : (n : ℕ) → xor_below (λ y. 0) n ≡ 0
    none zero = refl
    none (suc n) = ap (λ (z : ℕ). bit_xor z 0) (none n)
