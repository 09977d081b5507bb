-- Tests of bytes one after the other, as a chain of an iterator makes them: each is the test of all places below a bound.
use Prim.Native.Nat.{ℕ, zero, suc, ◌+◌}
use mathlib.Core.Bool.{Bool, true, false, ◌&&◌}
use mathlib.Core.List.{List, [], ◌∷◌}
use mathlib.Core.Path.{◌≡◌, refl, sym, ap, ap₂, ◌∙◌}
use native.Mathlib.Nat.{add-zero}
use native.Mathlib.Omega.{arith}
use lib.Dec.{eqb}
use lib.ListN.{length, get_or}
use Rattle.std.specs.List.{list_all, enumerate_from, range_with_len}
use Rattle.lattice.specs.Counting.{all_below}
use Rattle.codec.proofs.theory.AllBelow.{all_same}
use Rattle.card.specs.Parse.{key_at}

and_swap : (a b c : Bool) → (a && (b && c)) ≡ (b && (a && c))
and_swap true b c = refl
and_swap false true c = refl
and_swap false false c = refl

-- the test of the first place, then of those behind it
all_first : (f : ℕ → Bool) (n : ℕ) → (f 0 && all_below (λ j. f (suc j)) n) ≡ all_below f (suc n)
all_first f zero = refl
all_first f (suc n) =
    and_swap (f 0) (f (suc n)) (all_below (λ j. f (suc j)) n)
    ∙ ap (λ b. f (suc n) && b) (all_first f n)

-- of each number of a range
all_from : (f : ℕ → Bool) (a n : ℕ) → list_all f (range_with_len a n) ≡ all_below (λ j. f (a + j)) n
all_from f a zero = refl
all_from f a (suc n) =
    ap₂ ◌&&◌ (ap f (sym (add-zero a)))
    (all_from f (a + 1) n ∙ all_same _ _ n (λ i l. let e : a + 1 + i ≡ a + suc i = omega arith in ap f e))
    ∙ all_first (λ j. f (a + j)) n

pub all_range : (f : ℕ → Bool) (n : ℕ) → list_all f (range_with_len 0 n) ≡ all_below f n
all_range f n = all_from f 0 n ∙ all_same _ _ n (λ i l. let e : 0 + i ≡ i = omega arith in ap f e)

-- of each byte of a text, by its place
all_places : (f : ℕ → ℕ → Bool) (xs : List ℕ) (a : ℕ)
    → list_all (λ p. f p.0 p.1) (enumerate_from a xs) ≡ all_below (λ j. f (a + j) (get_or xs j 0)) (length xs)
all_places f [] a = refl
all_places f (x ∷ xs) a =
    ap₂ ◌&&◌ (ap (λ i. f i x) (sym (add-zero a)))
    (all_places f xs (a + 1)
    ∙ all_same _ _ (length xs) (λ i l. let e : a + 1 + i ≡ a + suc i = omega arith in ap (λ j. f j (get_or xs i 0)) e))
    ∙ all_first (λ j. f (a + j) (get_or (x ∷ xs) j 0)) (length xs)

-- a key, byte by byte
pub key_bytes : (key s : List ℕ) (at : ℕ)
    → list_all (λ p. eqb (get_or s (at + p.0) 0) p.1) (enumerate_from 0 key) ≡ key_at key s at
unfolding key_at
key_bytes key s at =
    all_places (λ i b. eqb (get_or s (at + i) 0) b) key 0
    ∙ all_same _ _ (length key)
    (λ i l. let e : 0 + i ≡ i = omega arith in ap (λ j. eqb (get_or s (at + j) 0) (get_or key i 0)) e)
