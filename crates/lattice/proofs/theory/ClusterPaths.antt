-- Two cells of the field lie in some cluster of at most t cells exactly when their distance is below t.
use Prim.Native.Nat.{ℕ, zero, suc, ◌<◌}
use mathlib.Core.List.Memᴰ
use mathlib.Core.List.{List, [], ◌∷◌, Memᴰ}
use mathlib.Core.Logic.{◌⊎◌, inl, inr, ⊎_elim}
use mathlib.Core.Path.{◌≡◌, refl, ap}
use native.Mathlib.Omega.{arith}
use lib.ListN.{length}
use Rattle.lattice.specs.declared.shape.Shape.{Shape}
use Rattle.lattice.specs.Cell.{Cell, InField}
use Rattle.lattice.specs.Cluster.{distance, Joined, Linked, stay, step, Together}
use Rattle.lattice.proofs.theory.Distances.{distance_self, distance_eq, distance_triangle, distance_joined, joined_sym}
use Rattle.lattice.proofs.theory.Distances.{Towards, towards}
use Rattle.lattice.proofs.theory.Paths.{path_append, path_reverse, path_into, path_end, path_short}

-- cells of one cluster of at most t cells are less than t apart
pub together_near : (s : Shape) (t : ℕ) (x y : Cell) → Together s t x y → distance x y < t
together_near s t x y r =
    path_short (distance x) (λ a b j. omega (arith, distance_triangle x a b, distance_joined j)) t r.small
    (r.cluster.linked x y r.first r.second) (distance_self x)

-- a walk from x to y of d steps, inside the field: its cells, each linked to y among them
record Walk (s : Shape) (x y : Cell) (d : ℕ) : Type 0 where
  cells : List Cell
  many : length cells ≡ suc d
  start : Memᴰ x cells
  inside : (c : Cell) → Memᴰ c cells → InField s c
  linked : (c : Cell) → Memᴰ c cells → Linked (λ z. Memᴰ z cells) c y

-- the walk of no step, and a walk with one more step in front
walk_here : (s : Shape) (x y : Cell) → x ≡ y → InField s y → Walk s x y 0
walk_here s x y e h =
    record {
      cells = y ∷ [];
      many = refl;
      start = Memᴰ.head e;
      inside = λ c m. rw (Memᴰ.eq_of_singleton m) h;
      linked = λ c m. rw (Memᴰ.eq_of_singleton m) (stay (Memᴰ.head refl));
    }

walk_step : (s : Shape) (x y z : Cell) (d : ℕ) → InField s x → Joined x z → Walk s z y d → Walk s x y (suc d)
walk_step s x y z d h j w =
    record {
      cells = x ∷ w.cells;
      many = ap suc w.many;
      start = Memᴰ.head refl;
      inside = λ c m. ⊎_elim (λ e. rw e h) (w.inside c) (Memᴰ.cases_cons m);
      linked = λ c m. ⊎_elim (λ e. rw e first) (λ k. later (w.linked c k)) (Memᴰ.cases_cons m);
    }
  where
    later : {c : Cell} → Linked (λ v. Memᴰ v w.cells) c y → Linked (λ v. Memᴰ v (x ∷ w.cells)) c y
    later l = path_into (λ v m. Memᴰ.tail m) l

    first : Linked (λ v. Memᴰ v (x ∷ w.cells)) x y
    first = step (Memᴰ.head refl) j (later (w.linked z w.start))

-- between any two cells of the field there is a walk of as many steps as their distance
walk : (s : Shape) (x y : Cell) (d : ℕ) → InField s x → InField s y → distance x y ≡ d → Walk s x y d
walk s x y zero hx hy e = go (towards x y)
  where
    go : (x ≡ y) ⊎ Towards x y → Walk s x y zero
    go (inl p) = walk_here s x y p hy
    go (inr p) = absurd (omega (arith, p.nearer))
walk s x y (suc d) hx hy e = go (towards x y) (λ z hz e'. walk s z y d hz hy e')
  where
    go : (x ≡ y) ⊎ Towards x y → ((z : Cell) → InField s z → distance z y ≡ d → Walk s z y d) → Walk s x y (suc d)
    go (inl p) rest = absurd (omega (arith, distance_eq p))
    go (inr p) rest = walk_step s x y p.next d hx p.joined (rest p.next (p.inside s hx hy) (omega (arith, p.nearer)))

-- cells of the field less than t apart lie in one cluster of at most t cells: the walk from one to the other
pub near_together : (s : Shape) (t : ℕ) (x y : Cell) → InField s x → InField s y → distance x y < t → Together s t x y
near_together s t x y hx hy h =
    let w = walk s x y (distance x y) hx hy refl in
    record {
      set = λ c. Memᴰ c w.cells;
      cluster = record {
        inside = w.inside;
        linked = λ a b ha hb. path_append (w.linked a ha) (path_reverse joined_sym (w.linked b hb));
      };
      small = record { cells = w.cells; few = omega (arith, w.many); all = λ c m. m };
      first = w.start;
      second = path_end (w.linked x w.start);
    }
