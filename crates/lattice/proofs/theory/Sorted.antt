-- Lists in rising order of a relation, and the members of a list by their places.
use Prim.Native.Nat.{ℕ, zero, suc, ◌<◌}
use mathlib.Core.List.Memᴰ
use mathlib.Core.List.{List, [], ◌∷◌, ◌++◌, Memᴰ}
use mathlib.Core.Logic.{⊎_elim}
use mathlib.Core.Path.{◌≡◌, refl, sym}
use native.Mathlib.Omega.{arith}
use lib.ListN.{length, get_or}

module _ {A : Type 0} where
  -- each member has a place, and what stands at a place is a member
  pub place : (d x : A) (xs : List A) → Memᴰ x xs → (k : ℕ) × (k < length xs) × (get_or xs k d ≡ x)
  place d x [] m = elim m [ ]
  place d x (y ∷ xs) (Memᴰ.head e) = (0, omega arith, sym e)
  place d x (y ∷ xs) (Memᴰ.tail m) =
      let p = place d x xs m in
      (suc p.0, omega (arith, p.1), p.2)

  pub member : (d : A) (xs : List A) (k : ℕ) → k < length xs → Memᴰ (get_or xs k d) xs
  member d [] k h = absurd (omega arith)
  member d (x ∷ xs) zero h = Memᴰ.head refl
  member d (x ∷ xs) (suc k) h = Memᴰ.tail (member d xs k (omega arith))

  -- each element is related to all that follow it
  abbrev pub Sorted : (A → A → Type 0) → List A → Type 0
  Sorted R [] = Unit {0}
  Sorted R (x ∷ xs) = ((y : A) → Memᴰ y xs → R x y) × Sorted R xs

  pub sorted_append : (R : A → A → Type 0) (xs ys : List A) → Sorted R xs → Sorted R ys
      → ((x y : A) → Memᴰ x xs → Memᴰ y ys → R x y) → Sorted R (xs ++ ys)
  sorted_append R [] ys sx sy h = sy
  sorted_append R (x ∷ xs) ys sx sy h = (
    (λ y m. ⊎_elim (sx.0 y) (h x y (Memᴰ.head refl)) (Memᴰ.append_cases xs m)),
    sorted_append R xs ys sx.1 sy (λ x y m. h x y (Memᴰ.tail m)),
  )

  pub sorted_at : (R : A → A → Type 0) (d : A) (xs : List A) → Sorted R xs → (j k : ℕ) → j < k → k < length xs
      → R (get_or xs j d) (get_or xs k d)
  sorted_at R d [] s j k h g = absurd (omega arith)
  sorted_at R d (x ∷ xs) s j zero h g = absurd (omega arith)
  sorted_at R d (x ∷ xs) s zero (suc k) h g = s.0 (get_or xs k d) (member d xs k (omega arith))
  sorted_at R d (x ∷ xs) s (suc j) (suc k) h g = sorted_at R d xs s.1 j k (omega arith) (omega arith)
