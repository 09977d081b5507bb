-- Fields and the buffers that hold them.
use Prim.Native.Nat.{ℕ, zero, suc, ◌<◌, ◌≤◌}
use mathlib.Core.Bool.{true, false}
use mathlib.Core.List.{List, [], ◌∷◌, ◌++◌}
use mathlib.Core.Logic.{⊎_elim}
use mathlib.Core.Path.{◌≡◌, refl, sym, ap, ap₂, ◌∙◌}
use native.Mathlib.Nat.{le_refl, not-suc-le-zero, eq-or-lt_of_le, le_of_suc-le-suc}
use native.Mathlib.Omega.{arith}
use lib.ListN.{length, get_or, length-append, get_or-append, get_or-eq_default}
use lib.Seq.{get_or_at, ext_get_or}
use Rattle.codec.specs.Field.{Field, field_of, list_of, Cells, is_received, Received, cells_ok, Same}
use Rattle.codec.proofs.theory.AllBelow.{all_below_lem, below_all, some_fails}

pub length_list_of : (f : Field) (n : ℕ) → length (list_of f n) ≡ n
length_list_of f zero = refl
length_list_of f (suc n) = length-append (list_of f n) (f n ∷ []) ∙ omega (arith, length_list_of f n)

-- the cells of the buffer are the field's first n cells, and 0 stands behind them
pub get_d_list_of : (f : Field) (n i : ℕ) → i < n → get_or (list_of f n) i 0 ≡ f i
get_d_list_of f zero i l = absurd (not-suc-le-zero l)
get_d_list_of f (suc n) i l =
    ⊎_elim
    (λ (e : i ≡ n). get_or_at (list_of f n) (f n) [] 0 i (length_list_of f n ∙ sym e) ∙ ap f (sym e))
    (λ (k : i < n).
    get_or-append (list_of f n) (f n ∷ []) 0 i (omega (arith, length_list_of f n)) ∙ get_d_list_of f n i k)
    (eq-or-lt_of_le (le_of_suc-le-suc l))

pub get_d_list_of_behind : (f : Field) (n i : ℕ) → n ≤ i → get_or (list_of f n) i 0 ≡ 0
get_d_list_of_behind f n i l = get_or-eq_default (list_of f n) 0 (omega (arith, length_list_of f n))

-- buffers are the same where the fields are
pub list_of_same : (f g : Field) (n : ℕ) → Same f g n → list_of f n ≡ list_of g n
list_of_same f g zero p = refl
list_of_same f g (suc n) p =
    ap₂ (λ (l : List ℕ) (v : ℕ). l ++ (v ∷ [])) (list_of_same f g n (λ i l. p i (omega arith))) (p n (le_refl _))

-- a buffer of n cells is the field's when its cells are
pub list_field : (l : List ℕ) (f : Field) (n : ℕ) → length l ≡ n → Same (field_of l) f n → l ≡ list_of f n
list_field l f n e p =
    ext_get_or 0 l (list_of f n) (e ∙ sym (length_list_of f n)) (λ i k. p i (omega arith)
    ∙ sym (get_d_list_of f n i (omega arith)))

pub list_of_field_of : (l : List ℕ) → list_of (field_of l) (length l) ≡ l
list_of_field_of l = sym (list_field l (field_of l) (length l) refl (λ i k. refl))

-- the test of a field that is handed in
pub received_ok : (f : Field) (n : ℕ) → Received f n → cells_ok f n ≡ true
unfolding cells_ok
received_ok f n p = all_below_lem (λ i. is_received (f i)) n p

pub ok_received : (f : Field) (n : ℕ) → cells_ok f n ≡ true → Received f n
unfolding cells_ok
ok_received f n p = below_all (λ i. is_received (f i)) n p

pub not_received : (f : Field) (n : ℕ) → cells_ok f n ≡ false → (i : ℕ) × (i < n) × (is_received (f i) ≡ false)
unfolding cells_ok
not_received f n p = some_fails (λ i. is_received (f i)) n p

pub cells_same : (f g : Field) (n : ℕ) → Same f g n → Cells f n → Cells g n
cells_same f g n s p i l = rw (← s i l) (p i l)

pub received_same : (f g : Field) (n : ℕ) → Same f g n → Received f n → Received g n
received_same f g n s p i l = rw (← s i l) (p i l)
