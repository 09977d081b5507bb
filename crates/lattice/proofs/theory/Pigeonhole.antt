-- The pigeonhole: pairwise different entries that all stand in a list are at most as many as its entries. So pairwise different
-- values of a function are at most as many as its arguments, and numbers among them as its different values.
use Prim.Native.Nat.{ℕ, zero, suc, ◌+◌, ◌≤◌, ◌<◌}
use mathlib.Core.Bool.{Bool, true, false, cond, ◌||◌, false≢true}
use mathlib.Core.List.Memᴰ
use mathlib.Core.List.{List, [], ◌∷◌, map}
use mathlib.Core.List.{Memᴰ}
use mathlib.Core.Logic.{◌≢◌, ⊎_elim}
use mathlib.Core.Path.{◌≡◌, refl, ap, ◌∙◌, sym}
use native.Mathlib.Nat.{not-suc-le-zero, le_antisymm}
use native.Mathlib.Decide.{ℕ_discrete}
use native.Mathlib.Omega.{arith}
use borrow.Author.Tests.{eqb-true, eqb-false}
use lib.Dec.{eqb}
use lib.ListN.{length, length-map}
use Rattle.lattice.specs.Labelling.{takes, different_values}
use Rattle.lattice.specs.Counting.{count}
use Rattle.lattice.specs.Distinct.{Distinct}
use Rattle.lattice.proofs.theory.Tabulated.{tabulate, tabulate_length, tabulate_has, tabulate_are, tabulate_distinct}

-- the list without one entry
without : {A : Type 0} {c : A} (l : List A) → Memᴰ c l → List A
without [] m = elim m [ ]
without (a ∷ l) (Memᴰ.head e) = l
without (a ∷ l) (Memᴰ.tail m) = a ∷ without l m

without_length : {A : Type 0} {c : A} (l : List A) (m : Memᴰ c l) → length l ≡ suc (length (without l m))
unfolding without
without_length [] m = elim m [ ]
without_length (a ∷ l) (Memᴰ.head e) = refl
without_length (a ∷ l) (Memᴰ.tail m) = ap suc (without_length l m)

-- what is left has every other entry
without_has : {A : Type 0} {c b : A} (l : List A) (m : Memᴰ c l) → Memᴰ b l → c ≢ b → Memᴰ b (without l m)
unfolding without
without_has [] m k h = elim m [ ]
without_has {c = c} {b = b} (a ∷ l) (Memᴰ.head e) k h =
    ⊎_elim (λ (q : b ≡ a). absurd (h (e ∙ sym q))) (λ (r : Memᴰ b l). r) (Memᴰ.cases_cons k)
without_has {c = c} {b = b} (a ∷ l) (Memᴰ.tail m) k h =
    ⊎_elim
    (λ (q : b ≡ a). Memᴰ.head q)
    (λ (r : Memᴰ b l). Memᴰ.tail (without_has l m r h))
    (Memᴰ.cases_cons k)

-- The pigeonhole, over any type: pairwise different entries that all stand in a list are at most as many as its entries.
pub pigeonhole : {A : Type 0} (xs l : List A) → Distinct xs → ((x : A) → Memᴰ x xs → Memᴰ x l) → length xs ≤ length l
pigeonhole [] l d h = omega arith
pigeonhole (x ∷ xs) l d h =
    let first = h x (Memᴰ.head refl) in
    omega (
      arith,
      pigeonhole xs (without l first) d.1 (λ y m. without_has l first (h y (Memᴰ.tail m)) (d.0 y m)),
      without_length l first,
    )

-- each entry of xs is a value of g at some entry of l
abbrev Covered : {A B : Type 0} → (A → B) → List A → List B → Type 0
Covered {A} {B} g l xs = (x : B) → Memᴰ x xs → (c : A) × Memᴰ c l × (x ≡ g c)

-- Pairwise different values of g at the entries of a list are at most as many as these.
pub covered_length : {A B : Type 0} (g : A → B) (xs : List B) (l : List A) → Distinct xs → Covered g l xs → length xs ≤ length l
covered_length g xs l d h =
    rw (length-map l g) at (pigeonhole xs (map g l) d (λ x m. let r = h x m in Memᴰ.cast r.2 (Memᴰ.map g r.1)))

-- the numbers below m
abbrev up_to : ℕ → List ℕ
up_to m = tabulate (λ i. i) m

-- Where each number below n is a value of g at some entry of a list, the list has at least n entries.
pub all_covered : {A : Type 0} (g : A → ℕ) (n : ℕ) (l : List A)
    → ((k : ℕ) → k < n → (c : A) × Memᴰ c l × (k ≡ g c))
    → n ≤ length l
all_covered g n l h =
    rw (tabulate_length (λ i. i) n) at
    (covered_length g (up_to n) l (tabulate_distinct (λ i. i) n (λ i j p q e. e))
    (λ k m. let r = tabulate_are (λ i. i) n m in h k (omega (arith, r.1, r.2))))

-- v is the value of f at some number below n
abbrev pub ValueBelow : (ℕ → ℕ) → ℕ → ℕ → Type 0
ValueBelow f n v = (i : ℕ) × (i < n) × (v ≡ f i)

value_later : {f : ℕ → ℕ} {n v : ℕ} → ValueBelow f n v → ValueBelow f (suc n) v
value_later r = (r.0, omega arith, r.2)

-- `takes` says yes of such values only
takes_sound : (f : ℕ → ℕ) (v n : ℕ) → takes f v n ≡ true → ValueBelow f n v
takes_sound f v zero h = absurd (false≢true h)
takes_sound f v (suc n) h = go (eqb (f n) v) refl h (takes_sound f v n)
  where
    go : (b : Bool)
        → eqb (f n) v ≡ b
        → (b || takes f v n) ≡ true
        → (takes f v n ≡ true → ValueBelow f n v)
        → ValueBelow f (suc n) v
    go true e h' rest = (n, omega arith, sym (eqb-true (f n) v e))
    go false e h' rest = value_later (rest h')

-- `takes` says yes of all of them
takes_complete : (f : ℕ → ℕ) (v n : ℕ) → ValueBelow f n v → takes f v n ≡ true
takes_complete f v zero r = absurd (not-suc-le-zero r.1)
takes_complete f v (suc n) r = go (eqb (f n) v) refl (ℕ_discrete r.0 n) (takes_complete f v n)
  where
    go : (b : Bool) → eqb (f n) v ≡ b → Dec (r.0 ≡ n) → (ValueBelow f n v → takes f v n ≡ true) → (b || takes f v n) ≡ true
    go true t d rest = refl
    go false t (yes p) rest = absurd (eqb-false (f n) v t (ap f (sym p) ∙ sym r.2))
    go false t (no p) rest = rest (r.0, omega arith, r.2)

-- the different values of f at the numbers below n
values : (ℕ → ℕ) → ℕ → List ℕ
values f zero = []
values f (suc n) = cond (takes f (f n) n) (values f n) (f n ∷ values f n)

values_length : (f : ℕ → ℕ) (n : ℕ) → length (values f n) ≡ different_values f n
unfolding values
values_length f zero = refl
values_length f (suc n) = go (takes f (f n) n) (values_length f n)
  where
    go : (b : Bool) → length (values f n) ≡ different_values f n
        → length (cond b (values f n) (f n ∷ values f n)) ≡ cond b 0 1 + different_values f n
    go true e = omega arith
    go false e = omega arith

-- each entry is a value
values_sound : (f : ℕ → ℕ) (n v : ℕ) → Memᴰ v (values f n) → ValueBelow f n v
unfolding values
values_sound f zero v m = absurd (Memᴰ.not-nil m)
values_sound f (suc n) v m = go (takes f (f n) n) m (values_sound f n v)
  where
    go : (b : Bool) → Memᴰ v (cond b (values f n) (f n ∷ values f n))
        → (Memᴰ v (values f n) → ValueBelow f n v) → ValueBelow f (suc n) v
    go true m' rest = value_later (rest m')
    go false m' rest = ⊎_elim (λ e. (n, omega arith, e)) (λ m''. value_later (rest m'')) (Memᴰ.cases_cons m')

-- each value is an entry
values_complete : (f : ℕ → ℕ) (n v : ℕ) → ValueBelow f n v → Memᴰ v (values f n)
unfolding values
values_complete f zero v r = absurd (not-suc-le-zero r.1)
values_complete f (suc n) v r = go (takes f (f n) n) refl (ℕ_discrete r.0 n) (values_complete f n v)
  where
    go : (b : Bool) → takes f (f n) n ≡ b → Dec (r.0 ≡ n) → (ValueBelow f n v → Memᴰ v (values f n))
        → Memᴰ v (cond b (values f n) (f n ∷ values f n))
    go true t (yes p) rest = let s = takes_sound f (f n) n t in rest (s.0, s.1, r.2 ∙ ap f p ∙ s.2)
    go true t (no p) rest = rest (r.0, omega arith, r.2)
    go false t (yes p) rest = Memᴰ.head (r.2 ∙ ap f p)
    go false t (no p) rest = Memᴰ.tail (rest (r.0, omega arith, r.2))

values_distinct : (f : ℕ → ℕ) (n : ℕ) → Distinct (values f n)
unfolding values
values_distinct f zero = tt
values_distinct f (suc n) = go (takes f (f n) n) refl (values_distinct f n)
  where
    go : (b : Bool) → takes f (f n) n ≡ b → Distinct (values f n) → Distinct (cond b (values f n) (f n ∷ values f n))
    go true t d = d
    go false t d = (
      λ y m e. let r = values_sound f n y m in
          false≢true (sym t ∙ takes_complete f (f n) n (r.0, r.1, e ∙ r.2)),
      d,
    )

-- Pairwise different numbers, each a value of f at some number below n, are at most as many as f's different values there.
pub different_values_many : (f : ℕ → ℕ) (n : ℕ) (xs : List ℕ) → Distinct xs → ((x : ℕ) → Memᴰ x xs → ValueBelow f n x)
    → length xs ≤ different_values f n
different_values_many f n xs d h =
    rw (← values_length f n) (pigeonhole xs (values f n) d (λ x m. values_complete f n x (h x m)))

-- A function whose values at the numbers below n are below m has at most m different values there.
pub different_values_few : (f : ℕ → ℕ) (m n : ℕ) → ((i : ℕ) → i < n → f i < m) → different_values f n ≤ m
different_values_few f m n h =
    omega (
      arith,
      values_length f n,
      tabulate_length (λ i. i) m,
      pigeonhole (values f n) (up_to m) (values_distinct f n)
          in_range_lem,
    )
  where
    in_range_lem : (x : ℕ) → Memᴰ x (values f n) → Memᴰ x (up_to m)
    in_range_lem x k = let r = values_sound f n x k in tabulate_has (λ i. i) m x (rw r.2 (h r.0 r.1))

-- the numbers below n that pass a test
hits : (ℕ → Bool) → ℕ → List ℕ
hits f zero = []
hits f (suc n) = cond (f n) (n ∷ hits f n) (hits f n)

hits_length : (f : ℕ → Bool) (n : ℕ) → length (hits f n) ≡ count f n
unfolding hits
hits_length f zero = refl
hits_length f (suc n) = go (f n) (hits_length f n)
  where
    go : (b : Bool) → length (hits f n) ≡ count f n → length (cond b (n ∷ hits f n) (hits f n)) ≡ cond b 1 0 + count f n
    go true e = omega (arith, e)
    go false e = omega (arith, e)

hits_sound : (f : ℕ → Bool) (n x : ℕ) → Memᴰ x (hits f n) → (x < n) × (f x ≡ true)
unfolding hits
hits_sound f zero x m = absurd (Memᴰ.not-nil m)
hits_sound f (suc n) x m = go (f n) refl (hits_sound f n x) m
  where
    later : (x < n) × (f x ≡ true) → (x < suc n) × (f x ≡ true)
    later r = (omega (arith, r.0), r.1)

    go : (b : Bool) → f n ≡ b → (Memᴰ x (hits f n) → (x < n) × (f x ≡ true))
        → Memᴰ x (cond b (n ∷ hits f n) (hits f n)) → (x < suc n) × (f x ≡ true)
    go true e before k = ⊎_elim (λ q. (omega arith, ap f q ∙ e)) (λ r. later (before r)) (Memᴰ.cases_cons k)
    go false e before k = later (before k)

hits_complete : (f : ℕ → Bool) (n x : ℕ) → x < n → f x ≡ true → Memᴰ x (hits f n)
unfolding hits
hits_complete f zero x l p = absurd (not-suc-le-zero l)
hits_complete f (suc n) x l p = go (f n) refl (ℕ_discrete x n) (hits_complete f n x)
  where
    go : (b : Bool) → f n ≡ b → Dec (x ≡ n) → (x < n → f x ≡ true → Memᴰ x (hits f n))
        → Memᴰ x (cond b (n ∷ hits f n) (hits f n))
    go true e (yes q) rest = Memᴰ.head q
    go true e (no q) rest = Memᴰ.tail (rest (omega arith) p)
    go false e (yes q) rest = absurd (false≢true (sym e ∙ ap f (sym q) ∙ p))
    go false e (no q) rest = rest (omega arith) p

hits_distinct : (f : ℕ → Bool) (n : ℕ) → Distinct (hits f n)
unfolding hits
hits_distinct f zero = tt
hits_distinct f (suc n) = go (f n) (hits_distinct f n)
  where
    go : (b : Bool) → Distinct (hits f n) → Distinct (cond b (n ∷ hits f n) (hits f n))
    go true d = (λ y m e. omega (arith, (hits_sound f n y m).0), d)
    go false d = d

-- Numbers below n that pass a test, each a value of g at some entry of a list, are at most as many as the list's entries.
pub count_covered : {A : Type 0} (g : A → ℕ) (f : ℕ → Bool) (n : ℕ) (l : List A)
    → ((i : ℕ) → i < n → f i ≡ true → (c : A) × Memᴰ c l × (i ≡ g c)) → count f n ≤ length l
count_covered g f n l h =
    rw (← hits_length f n)
    (covered_length g (hits f n) l (hits_distinct f n) (λ x m. let r = hits_sound f n x m in h x r.0 r.1))

-- Where the values of f at the numbers below n are below m, and a test passes just these of the numbers below m, as many pass as
-- f has different values.
pub count_values : (f : ℕ → ℕ) (test : ℕ → Bool) (m n : ℕ) → ((i : ℕ) → i < n → f i < m)
    → ((a : ℕ) → test a ≡ true → ValueBelow f n a) → ((i : ℕ) → i < n → test (f i) ≡ true)
    → count test m ≡ different_values f n
count_values f test m n below sound complete = le_antisymm few many
  where
    few : count test m ≤ different_values f n
    few =
        rw (← hits_length test m)
        (different_values_many f n (hits test m) (hits_distinct test m) (λ x k. sound x (hits_sound test m x k).1))

    passed : (x : ℕ) → Memᴰ x (values f n) → Memᴰ x (hits test m)
    passed x k =
        let r = values_sound f n x k in
        hits_complete test m x (rw r.2 (below r.0 r.1)) (rw r.2 (complete r.0 r.1))

    many : different_values f n ≤ count test m
    many =
        rw (← values_length f n, ← hits_length test m) (pigeonhole (values f n) (hits test m) (values_distinct f n) passed)
