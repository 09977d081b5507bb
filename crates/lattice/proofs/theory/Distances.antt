-- The absolute difference and the distance of cells as measures: symmetric, 0 for equal things only, the triangle inequality, and
-- a step that goes nearer.
use Prim.Native.Nat.{ℕ, suc, ◌+◌, ◌-◌, ◌≤◌, ◌<◌}
use mathlib.Core.Logic.{◌⊎◌, inl, inr, ◌≢◌}
use mathlib.Core.Path.{◌≡◌, refl, ap, ◌∙◌, sym}
use native.Mathlib.Decide.{ℕ_discrete, dec_lt}
use native.Mathlib.Omega.{arith}
use Rattle.lattice.specs.declared.shape.Shape.{Shape}
use Rattle.lattice.specs.Cell.{Cell, cell, InField}
use Rattle.lattice.specs.Cluster.{apart, distance, Joined, by_row, by_plane, by_column}
use Rattle.lattice.specs.Window.{Touching}

pub apart_self : (a : ℕ) → apart a a ≡ 0
unfolding apart
apart_self a = omega arith

pub apart_eq : {a b : ℕ} → a ≡ b → apart a b ≡ 0
apart_eq {a} {b} e = ap (apart a) (sym e) ∙ apart_self a

pub apart_sym : (a b : ℕ) → apart a b ≡ apart b a
unfolding apart
apart_sym a b = omega arith

pub apart_triangle : (a b c : ℕ) → apart a c ≤ apart a b + apart b c
unfolding apart
apart_triangle a b c = omega arith

-- the numbers j below and above h
pub apart_below : (h j : ℕ) → j ≤ h → apart (h - j) h ≡ j
unfolding apart
apart_below h j p = omega arith

pub apart_above : (h j : ℕ) → apart (h + j) h ≡ j
unfolding apart
apart_above h j = omega arith

pub apart_within : (a h : ℕ) → a ≤ h + apart a h
unfolding apart
apart_within a h = omega arith

-- a number next to a, one nearer to b, and below what both are below
record Nearer (a b : ℕ) : Type 0 where
  next : ℕ
  step : apart a next ≡ 1
  nearer : apart a b ≡ suc (apart next b)
  between : (n : ℕ) → a < n → b < n → next < n

nearer : (a b : ℕ) → a ≢ b → Nearer a b
unfolding apart
nearer a b h = go (dec_lt a b)
  where
    go : Dec (a < b) → Nearer a b
    go (yes l) = record { next = suc a; step = omega arith; nearer = omega arith; between = λ n p q. omega arith }
    go (no l) = record { next = a - 1; step = omega arith; nearer = omega arith; between = λ n p q. omega arith }

pub distance_self : (x : Cell) → distance x x ≡ 0
unfolding distance
distance_self x = omega (arith, apart_self x.row, apart_self x.plane, apart_self x.column)

pub distance_eq : {x y : Cell} → x ≡ y → distance x y ≡ 0
distance_eq {x} {y} e = ap (distance x) (sym e) ∙ distance_self x

pub distance_triangle : (x y z : Cell) → distance x z ≤ distance x y + distance y z
unfolding distance
distance_triangle x y z =
    omega (
      arith,
      apart_triangle x.row y.row z.row,
      apart_triangle x.plane y.plane z.plane,
      apart_triangle x.column y.column z.column,
    )

pub cell_path : (x y : Cell) → x.row ≡ y.row → x.plane ≡ y.plane → x.column ≡ y.column → x ≡ y
cell_path x y r p c = λ i. record { row = r i; plane = p i; column = c i }

pub joined_sym : (x y : Cell) → Joined x y → Joined y x
joined_sym x y (by_row r p c) = by_row (apart_sym y.row x.row ∙ r) (sym p) (sym c)
joined_sym x y (by_plane r p c) = by_plane (sym r) (apart_sym y.plane x.plane ∙ p) (sym c)
joined_sym x y (by_column r p c) = by_column (sym r) (sym p) (apart_sym y.column x.column ∙ c)

pub touching_sym : (x y : Cell) → Touching x y → Touching y x
touching_sym x y h =
    record {
      plane = sym h.plane;
      row = omega (arith, apart_sym x.row y.row, h.row);
      column = omega (arith, apart_sym x.column y.column, h.column);
    }

-- joined cells are at distance 1
pub distance_joined : {x y : Cell} → Joined x y → distance x y ≡ 1
unfolding distance
distance_joined (by_row r p c) = omega (arith, apart_eq p, apart_eq c)
distance_joined (by_plane r p c) = omega (arith, apart_eq r, apart_eq c)
distance_joined (by_column r p c) = omega (arith, apart_eq r, apart_eq p)

-- a cell joined to x, one nearer to y, and in each field that has both
pub record Towards (x y : Cell) : Type 0 where
  pub next : Cell
  pub joined : Joined x next
  pub nearer : distance x y ≡ suc (distance next y)
  pub inside : (s : Shape) → InField s x → InField s y → InField s next

-- two cells are equal, or a step goes nearer
pub towards : (x y : Cell) → (x ≡ y) ⊎ Towards x y
unfolding distance
towards x y = go (ℕ_discrete x.row y.row) (ℕ_discrete x.plane y.plane) (ℕ_discrete x.column y.column)
  where
    go : Dec (x.row ≡ y.row) → Dec (x.plane ≡ y.plane) → Dec (x.column ≡ y.column) → (x ≡ y) ⊎ Towards x y
    go (no r) p c = let k = nearer x.row y.row r in
        inr (record {
          next = cell k.next x.plane x.column;
          joined = by_row k.step refl refl;
          nearer = omega (arith, k.nearer);
          inside = λ s hx hy. record { row = k.between s.rows hx.row hy.row; plane = hx.plane; column = hx.column };
        })
    go (yes r) (no p) c =
        let k = nearer x.plane y.plane p in
        inr (record {
          next = cell x.row k.next x.column;
          joined = by_plane refl k.step refl;
          nearer = omega (arith, k.nearer);
          inside = λ s hx hy.
              record { row = hx.row; plane = k.between s.planes hx.plane hy.plane; column = hx.column };
        })
    go (yes r) (yes p) (no c) =
        let k = nearer x.column y.column c in
        inr (record {
          next = cell x.row x.plane k.next;
          joined = by_column refl refl k.step;
          nearer = omega (arith, k.nearer);
          inside = λ s hx hy.
              record { row = hx.row; plane = hx.plane; column = k.between s.columns hx.column hy.column };
        })
    go (yes r) (yes p) (yes c) = inl (cell_path x y r p c)

-- where a step goes nearer, the cells are different
pub towards_other : {x y : Cell} → Towards x y → x ≢ y
towards_other {x} {y} p e = omega (arith, p.nearer, distance_eq e)
