-- A text that stands at a position of another.
use Prim.Native.Nat.{ℕ, zero, suc, ◌+◌, ◌-◌, ◌<◌, ◌≤◌}
use mathlib.Core.Bool.{true}
use mathlib.Core.List.{List, [], ◌∷◌, ◌++◌, append-nil}
use mathlib.Core.Logic.{◌≢◌}
use mathlib.Core.Path.{◌≡◌, sym, ap, ◌∙◌}
use native.Mathlib.Decide.{dec_lt}
use native.Mathlib.Nat.{add_assoc, add-zero, not-suc-le-zero, le_of_suc-le-suc, le_refl}
use native.Mathlib.Omega.{arith}
use borrow.Author.Tests.{eq-eqb, eqb-true}
use lib.Dec.{eqb}
use lib.ListN.{length, get_or, take, drop, length-append, length-drop, take-append-drop, drop_of_length-le, get_or-append}
use lib.ListN.{get_or-eq_default}
use lib.Seq.{get_or-append-add, get_or-take, get_or-drop, drop-drop, ext_get_or, length-take-le}
use Rattle.codec.proofs.theory.AllBelow.{all_below_lem, below_all}
use Rattle.card.specs.Parse.{key_at}

-- the bytes of the text are those of s from `at` on
abbrev pub StandsAt : List ℕ → List ℕ → ℕ → Type 0
StandsAt text s at = (j : ℕ) → j < length text → get_or s (at + j) 0 ≡ get_or text j 0

-- a joined text stands where its parts stand, one behind the other
pub stands_left : (a b s : List ℕ) (at : ℕ) → StandsAt (a ++ b) s at → StandsAt a s at
stands_left a b s at p j l =
    p j (omega (arith, length-append a b)) ∙ get_or-append a b 0 j l

pub stands_right : (a b s : List ℕ) (at : ℕ) → StandsAt (a ++ b) s at → StandsAt b s (at + length a)
stands_right a b s at p j l =
    ap (λ (i : ℕ). get_or s i 0) (add_assoc at (length a) j)
    ∙ p (length a + j) (omega (arith, length-append a b))
    ∙ get_or-append-add a b j 0

pub stands_both : (a b s : List ℕ) (at : ℕ) → StandsAt a s at → StandsAt b s (at + length a) → StandsAt (a ++ b) s at
stands_both a b s at p q j l = go (dec_lt j (length a))
  where
    go : Dec (j < length a) → get_or s (at + j) 0 ≡ get_or (a ++ b) j 0
    go (yes k) = p j k ∙ sym (get_or-append a b 0 j k)
    go (no k) =
        let e : at + length a + (j - length a) ≡ at + j = omega arith in
        let d : length a + (j - length a) ≡ j = omega arith in
        ap (λ (i : ℕ). get_or s i 0) (sym e)
        ∙ q (j - length a) (omega (arith, length-append a b))
        ∙ sym (get_or-append-add a b (j - length a) 0)
        ∙ ap (λ (i : ℕ). get_or (a ++ b) i 0) d

-- a part stands behind what precedes it
pub stands_part : (before text rest : List ℕ) → StandsAt text (before ++ (text ++ rest)) (length before)
stands_part before text rest j l =
    get_or-append-add before (text ++ rest) j 0 ∙ get_or-append text rest 0 j l

pub stands_last : (before text : List ℕ) → StandsAt text (before ++ text) (length before)
stands_last before text j l = get_or-append-add before text j 0

-- what stands in the text is what the text goes on with
pub stands_drop : (text s : List ℕ) (at : ℕ) → StandsAt text s at → at + length text ≤ length s
    → drop at s ≡ text ++ drop (at + length text) s
stands_drop text s at p l =
    sym (take-append-drop (length text) (drop at s))
    ∙ ap (λ (l : List ℕ). l ++ drop (length text) (drop at s)) (sym same)
    ∙ ap (λ (l : List ℕ). text ++ l) (drop-drop (length text) at s)
  where
    long : length text ≡ length (take (length text) (drop at s))
    long = sym (length-take-le (length text) (drop at s) (omega (arith, length-drop at s)))

    same : text ≡ take (length text) (drop at s)
    same =
        ext_get_or 0 text (take (length text) (drop at s)) long
        (λ j k. sym (get_or-take (length text) (drop at s) j 0 k ∙ get_or-drop at s j 0 ∙ p j k))

pub stands_whole : (text s : List ℕ) (at : ℕ) → StandsAt text s at → length s ≡ at + length text → drop at s ≡ text
stands_whole text s at p e =
    stands_drop text s at p (omega arith)
    ∙ ap (λ (l : List ℕ). text ++ l) (drop_of_length-le s {i = at + length text} (omega arith))
    ∙ append-nil text

-- a byte that isn't 0 stands inside
pub byte_inside : (s : List ℕ) (i : ℕ) → get_or s i 0 ≢ 0 → i < length s
byte_inside s i p = go (dec_lt i (length s))
  where
    go : Dec (i < length s) → i < length s
    go (yes k) = k
    go (no k) = absurd (p (get_or-eq_default s 0 (omega arith)))

-- a key stands exactly where the test finds it
pub key_at_lem : (key s : List ℕ) (at : ℕ) → StandsAt key s at → key_at key s at ≡ true
unfolding key_at
key_at_lem key s at p = all_below_lem _ (length key) (λ j l. eq-eqb (get_or s (at + j) 0) (get_or key j 0) (p j l))

pub at_key : (key s : List ℕ) (at : ℕ) → key_at key s at ≡ true → StandsAt key s at
unfolding key_at
at_key key s at p j l =
    eqb-true (get_or s (at + j) 0) (get_or key j 0) (below_all (λ i. eqb (get_or s (at + i) 0) (get_or key i 0)) (length key) p
    j l)

-- a text of one byte
pub stands_one : (s : List ℕ) (at b : ℕ) → get_or s at 0 ≡ b → StandsAt (b ∷ []) s at
stands_one s at b p zero l = rw (add-zero at) p
stands_one s at b p (suc j) l = absurd (not-suc-le-zero (le_of_suc-le-suc l))

pub one_stands : (s : List ℕ) (at b : ℕ) → StandsAt (b ∷ []) s at → get_or s at 0 ≡ b
one_stands s at b p = rw (add-zero at) at (p 0 (le_refl 1))
