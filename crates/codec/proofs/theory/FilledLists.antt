-- Buffers that are filled from the front with the cells of a field.
use Prim.Native.Nat.{ℕ, zero, suc, ◌+◌, ◌-◌, ◌<◌, ◌≤◌}
use mathlib.Core.List.{List, [], ◌∷◌, ◌++◌, append_assoc, append-nil}
use mathlib.Core.Path.{◌≡◌, sym, ap, ap₂, ◌∙◌}
use native.Mathlib.Decide.{dec_lt}
use native.Mathlib.Nat.{add-zero, add-suc, le_of_eq}
use native.Mathlib.Numerals.{add-one}
use native.Mathlib.Omega.{arith}
use borrow.Author.Rules.{part_to_end}
use borrow.Rule.Slice.PartMut.{put_mid}
use lib.ListN.{length, get_or, set, take, drop, length-append, length-drop, drop_of_length-le, get_or-append}
use lib.Seq.{drop-cons, set_at, take_at, drop_at, drop-drop, get_or-append-add, get_or-drop, ext_get_or}
use Rattle.codec.specs.Field.{Field, list_of}
use Rattle.codec.proofs.theory.FieldLists.{length_list_of, get_d_list_of}

-- one cell more behind those stored
pub filled_more : (f : Field) (xs : List ℕ) (n v : ℕ) (ys : List ℕ) → n < length xs → v ≡ f n → ys ≡ list_of f n ++ drop n xs
    → set ys n v ≡ list_of f (n + 1) ++ drop (n + 1) xs
filled_more f xs n v ys l e p =
    ap₂ (λ (y : List ℕ) (x : ℕ). set y n x) (p ∙ ap (λ (t : List ℕ). list_of f n ++ t) (drop-cons xs n 0 l)) e
    ∙ set_at (list_of f n) (get_or xs n 0) (drop (suc n) xs) (f n) n (length_list_of f n)
    ∙ sym (append_assoc (list_of f n) (f n ∷ []) (drop (suc n) xs))
    ∙ ap (λ (m : ℕ). list_of f m ++ drop m xs) (sym (add-one n))

-- a buffer that has the first n cells of a field, and goes on as before
pub filled_cells : (f : Field) (xs : List ℕ) (n : ℕ) (ys : List ℕ) → length ys ≡ length xs → n ≤ length xs
    → ((j : ℕ) → j < n → get_or ys j 0 ≡ f j) → ((j : ℕ) → n ≤ j → get_or ys j 0 ≡ get_or xs j 0) → ys ≡ list_of f n ++ drop n xs
filled_cells f xs n ys long l own others =
    ext_get_or 0 ys (list_of f n ++ drop n xs) (long ∙ sym lengths) (λ j p. at j (dec_lt j n))
  where
    lengths : length (list_of f n ++ drop n xs) ≡ length xs
    lengths = length-append (list_of f n) (drop n xs) ∙ omega (arith, length_list_of f n, length-drop n xs)

    at : (j : ℕ) → Dec (j < n) → get_or ys j 0 ≡ get_or (list_of f n ++ drop n xs) j 0
    at j (yes q) =
        own j q ∙ sym (get_or-append (list_of f n) (drop n xs) 0 j (omega (arith, length_list_of f n)) ∙ get_d_list_of f n j q)
    at j (no q) =
        let there : j ≡ length (list_of f n) + (j - n) = omega (arith, length_list_of f n) in
        let back : n + (j - n) ≡ j = omega arith in
        others j (omega arith)
        ∙ sym
        (ap (λ (k : ℕ). get_or (list_of f n ++ drop n xs) k 0) there
        ∙ get_or-append-add (list_of f n) (drop n xs) (j - n) 0
        ∙ get_or-drop n xs (j - n) 0
        ∙ ap (λ (k : ℕ). get_or xs k 0) back)

pub length_filled : (f : Field) (xs : List ℕ) (n : ℕ) (ys : List ℕ)
    → n ≤ length xs
    → ys ≡ list_of f n ++ drop n xs
    → length ys ≡ length xs
length_filled f xs n ys l p =
    ap length p
    ∙ length-append (list_of f n) (drop n xs)
    ∙ omega (arith, length_list_of f n, length-drop n xs)

-- the cells of a field from cell k on, behind those before it
list_of_join : (f g : Field) (k n : ℕ) → ((j : ℕ) → g j ≡ f (k + j)) → list_of f k ++ list_of g n ≡ list_of f (k + n)
list_of_join f g k zero p = append-nil (list_of f k) ∙ ap (list_of f) (sym (add-zero k))
list_of_join f g k (suc n) p =
    sym (append_assoc (list_of f k) (list_of g n) (g n ∷ []))
    ∙ ap₂ (λ (l : List ℕ) (v : ℕ). l ++ (v ∷ [])) (list_of_join f g k n p) (p n)
    ∙ ap (list_of f) (sym (add-suc k n))

-- a buffer that is filled up to cell k, and whose part from there on was lent, as zs, and filled with n cells more
pub filled_part : (f g : Field) (k n : ℕ) (xs ys zs : List ℕ) → ((j : ℕ) → g j ≡ f (k + j)) → k ≤ length xs
    → ys ≡ list_of f k ++ drop k xs → zs ≡ list_of g n ++ drop n (take (length ys - k) (drop k ys))
    → put_mid k (length ys - k) ys zs ≡ list_of f (k + n) ++ drop (k + n) xs
filled_part f g k n xs ys zs agree l p q =
    ap₂ (λ (a b : List ℕ). a ++ b) front (ap₂ (λ (a b : List ℕ). a ++ b)
    (q ∙ ap (λ (t : List ℕ). list_of g n ++ drop n t) (part_to_end ys k ∙ rest)) behind)
    ∙ ap (λ (t : List ℕ). list_of f k ++ t) (append-nil _)
    ∙ sym (append_assoc (list_of f k) (list_of g n) (drop n (drop k xs)))
    ∙ ap₂ (λ (a b : List ℕ). a ++ b) (list_of_join f g k n agree) (drop-drop n k xs)
  where
    front : take k ys ≡ list_of f k
    front = ap (take k) p ∙ take_at (list_of f k) (drop k xs) k (length_list_of f k)

    rest : drop k ys ≡ drop k xs
    rest = ap (drop k) p ∙ drop_at (list_of f k) (drop k xs) k (length_list_of f k)

    behind : drop (length ys - k) (drop k ys) ≡ []
    behind = drop_of_length-le (drop k ys) (le_of_eq (length-drop k ys))
