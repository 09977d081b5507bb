-- The sphere of source document 002, theorem 2.1, cut to t rows and t columns: around row h, where t is 2h + 1 or 2h + 2, the row
-- j above or below has the columns from j up to t − j. It has m cells, and any two are less than t apart.
use Prim.Native.Nat.{ℕ, zero, suc, ◌+◌, ◌-◌, ◌*◌, ◌/◌, ◌%◌, ◌≤◌, ◌<◌}
use mathlib.Core.List.Memᴰ
use mathlib.Core.List.{List, ◌++◌, Memᴰ}
use mathlib.Core.Logic.{◌⊎◌, inl, inr, ⊎_elim}
use mathlib.Core.Path.{◌≡◌, ap, ◌∙◌, sym}
use native.Mathlib.Decide.{ℕ_discrete}
use native.Mathlib.Omega.{arith}
use lib.ListN.{length, length-append}
use Rattle.lattice.specs.Settings.{odd_settings, even_settings, flat_settings}
use Rattle.lattice.specs.declared.shape.Shape.{Shape}
use Rattle.lattice.specs.Cell.{Cell, cell, InField}
use Rattle.lattice.specs.Cluster.{apart, distance}
use Rattle.lattice.specs.Distinct.{Distinct}
use Rattle.lattice.proofs.theory.Distances.{apart_self, apart_sym, apart_eq, apart_triangle, apart_below, apart_above}
use Rattle.lattice.proofs.theory.Distances.{apart_within}
use Rattle.lattice.proofs.theory.SettingsLaws.{flat_odd, flat_even}
use Rattle.lattice.proofs.theory.Distinct.{distinct_append}
use Rattle.lattice.proofs.theory.Tabulated.{tabulate, tabulate_length, tabulate_are, tabulate_distinct}

-- n cells of a row of plane 0, from column a on
abbrev run : ℕ → ℕ → ℕ → List Cell
run r a n = tabulate (λ i. cell r 0 (a + i)) n

run_length : (r a n : ℕ) → length (run r a n) ≡ n
run_length r a n = tabulate_length (λ i. cell r 0 (a + i)) n

-- what is known of its cells
record InRun (r a n : ℕ) (x : Cell) : Type 0 where
  row : x.row ≡ r
  plane : x.plane ≡ 0
  from : a ≤ x.column
  to : x.column < a + n

run_cells : (r a n : ℕ) (x : Cell) → Memᴰ x (run r a n) → InRun r a n x
run_cells r a n x m =
    let i = tabulate_are (λ i. cell r 0 (a + i)) n m in
    let c : x.column ≡ a + i.0 = ap (λ (y : Cell). y.column) i.2 in
    record {
      row = ap (λ (y : Cell). y.row) i.2;
      plane = ap (λ (y : Cell). y.plane) i.2;
      from = omega arith;
      to = omega (arith, i.1);
    }

run_distinct : (r a n : ℕ) → Distinct (run r a n)
run_distinct r a n =
    tabulate_distinct (λ i. cell r 0 (a + i)) n (λ i j p q e. omega (arith, ap (λ (z : Cell). z.column) e))

-- columns at least i and k inside the t columns are less than t − i − k apart
columns_near : {t i k a b : ℕ} → i ≤ a → a + i < t → k ≤ b → b + k < t → apart a b + (i + k) < t
unfolding apart
columns_near p q r s = omega arith

module _ (t h : ℕ) where
  -- row r, at the columns from j up to t − j
  line : ℕ → ℕ → List Cell
  line r j = run r j (t - 2 * j)

  -- the rows h − j to h + j of the sphere
  ball : ℕ → List Cell
  ball zero = line h zero
  ball (suc j) = line (h - suc j) (suc j) ++ (line (h + suc j) (suc j) ++ ball j)

  -- their size is t × (1 + 2j) less 2j(j + 1)
  ball_length : (j : ℕ) → 2 * j ≤ t → length (ball j) + 2 * (j * (j + 1)) ≡ t + 2 * (j * t)
  unfolding ball line
  ball_length zero p = omega (arith, run_length h 0 (t - 2 * 0))
  ball_length (suc j) p =
      omega (
        arith,
        ball_length j (omega arith),
        run_length (h - suc j) (suc j) (t - 2 * suc j),
        run_length (h + suc j) (suc j) (t - 2 * suc j),
        length-append (line (h - suc j) (suc j)) (line (h + suc j) (suc j) ++ ball j),
        length-append (line (h + suc j) (suc j)) (ball j),
      )

  -- a cell j rows above or below row h, in the columns from j up to t − j
  record OnLine (j : ℕ) (x : Cell) : Type 0 where
    plane : x.plane ≡ 0
    row : apart x.row h ≡ j
    left : j ≤ x.column
    right : x.column + j < t

  line_cells : (r j : ℕ) (x : Cell) → apart r h ≡ j → Memᴰ x (line r j) → OnLine j x
  unfolding line
  line_cells r j x e m =
      let i = run_cells r j (t - 2 * j) x m in
      record {
        plane = i.plane;
        row = ap (λ (k : ℕ). apart k h) i.row ∙ e;
        left = i.from;
        right = omega (arith, i.from, i.to);
      }

  -- each cell of the ball lies on one of its lines
  ball_cells : (j : ℕ) → j ≤ h → (x : Cell) → Memᴰ x (ball j) → (i : ℕ) × (i ≤ j) × OnLine i x
  unfolding ball
  ball_cells zero p x m = (0, omega arith, line_cells h 0 x (apart_self h) m)
  ball_cells (suc j) p x m = go (Memᴰ.append_cases (line (h - suc j) (suc j)) m) (ball_cells j (omega arith) x)
    where
      go : Memᴰ x (line (h - suc j) (suc j)) ⊎ Memᴰ x (line (h + suc j) (suc j) ++ ball j)
          → (Memᴰ x (ball j) → (i : ℕ) × (i ≤ j) × OnLine i x) → (i : ℕ) × (i ≤ suc j) × OnLine i x
      go (inl k) rest = (suc j, omega arith, line_cells (h - suc j) (suc j) x (apart_below h (suc j) p) k)
      go (inr k) rest =
          ⊎_elim
          (λ l. (suc j, omega arith, line_cells (h + suc j) (suc j) x (apart_above h (suc j)) l))
          (λ l. let r = rest l in (r.0, omega arith, r.2))
          (Memᴰ.append_cases (line (h + suc j) (suc j)) k)

  -- a cell of the next line is none of the ball's
  next_line : (j : ℕ) → j ≤ h → (x y : Cell) → OnLine (suc j) x → Memᴰ y (ball j) → ¬ (x ≡ y)
  next_line j p x y i m e =
      let k = ball_cells j p y m in
      omega (arith, i.row, k.1, k.2.row, ap (λ (z : Cell). apart z.row h) e)

  ball_distinct : (j : ℕ) → j ≤ h → Distinct (ball j)
  unfolding ball line
  ball_distinct zero p = run_distinct h 0 (t - 2 * 0)
  ball_distinct (suc j) p =
      distinct_append upper (lower ++ ball j) (run_distinct (h - suc j) (suc j) n)
      (distinct_append lower (ball j) (run_distinct (h + suc j) (suc j) n) (ball_distinct j (omega arith)) below)
      above
    where
      n : ℕ
      n = t - 2 * suc j

      upper : List Cell
      upper = run (h - suc j) (suc j) n

      lower : List Cell
      lower = run (h + suc j) (suc j) n

      below : (x y : Cell) → Memᴰ x lower → Memᴰ y (ball j) → ¬ (x ≡ y)
      below x y mx = next_line j (omega arith) x y (line_cells (h + suc j) (suc j) x (apart_above h (suc j)) mx)

      across : (x y : Cell) → Memᴰ x upper → Memᴰ y lower → ¬ (x ≡ y)
      across x y mx my e =
          omega (
            arith,
            (run_cells (h - suc j) (suc j) n x mx).row,
            (run_cells (h + suc j) (suc j) n y my).row,
            ap (λ (z : Cell). z.row) e,
          )

      above : (x y : Cell) → Memᴰ x upper → Memᴰ y (lower ++ ball j) → ¬ (x ≡ y)
      above x y mx my =
          ⊎_elim (across x y mx)
          (next_line j (omega arith) x y (line_cells (h - suc j) (suc j) x (apart_below h (suc j) p) mx))
          (Memᴰ.append_cases lower my)

  -- any two cells of the ball are less than t apart
  ball_near : (j : ℕ) → j ≤ h → (x y : Cell) → Memᴰ x (ball j) → Memᴰ y (ball j) → distance x y < t
  unfolding distance
  ball_near j p x y mx my =
      let i = (ball_cells j p x mx).2 in
      let k = (ball_cells j p y my).2 in
      omega (
        arith,
        apart_triangle x.row h y.row,
        i.row,
        apart_sym h y.row,
        k.row,
        apart_eq (i.plane ∙ sym k.plane),
        columns_near i.left i.right k.left k.right,
      )

-- the middle row
middle : ℕ → ℕ
middle t = (t - 1) / 2

-- the whole sphere
pub sphere : ℕ → List Cell
sphere t = ball t (middle t) (middle t)

-- the size by the two parities of t
odd_size : (h t n : ℕ) → t ≡ 2 * h + 1 → n + 2 * (h * (h + 1)) ≡ t + 2 * (h * t) → n ≡ (t * t + 1) / 2
odd_size h t n e = rw e (omega arith)

even_size : (h t n : ℕ) → t ≡ 2 * h + 2 → n + 2 * (h * (h + 1)) ≡ t + 2 * (h * t) → n ≡ t * t / 2
even_size h t n e = rw e (omega arith)

module _ (t : ℕ) (p : 1 ≤ t) where
  fits : 2 * middle t < t
  unfolding middle
  fits = omega arith

  -- the sphere has m cells: (t² + 1)/2 for odd t, t²/2 for even t
  pub sphere_length : length (sphere t) ≡ (flat_settings t).m
  unfolding sphere middle odd_settings even_settings
  sphere_length = go (ℕ_discrete (t % 2) 1)
    where
      size : length (sphere t) + 2 * (middle t * (middle t + 1)) ≡ t + 2 * (middle t * t)
      size = ball_length t (middle t) (middle t) (omega (arith, fits))

      go : Dec (t % 2 ≡ 1) → length (sphere t) ≡ (flat_settings t).m
      go (yes odd) = rw (flat_odd t odd) (odd_size (middle t) t (length (sphere t)) (omega arith) size)
      go (no even) = rw (flat_even t even) (even_size (middle t) t (length (sphere t)) (omega arith) size)

  pub sphere_distinct : Distinct (sphere t)
  unfolding sphere
  sphere_distinct = ball_distinct t (middle t) (middle t) (omega arith)

  -- any two of its cells are less than t apart
  pub sphere_near : (x y : Cell) → Memᴰ x (sphere t) → Memᴰ y (sphere t) → distance x y < t
  unfolding sphere
  sphere_near = ball_near t (middle t) (middle t) (omega arith)

  -- it lies in every field with both sides at least t
  pub sphere_inside : (s : Shape)
      → 1 ≤ s.planes
      → t ≤ s.columns
      → t ≤ s.rows
      → (x : Cell)
      → Memᴰ x (sphere t)
      → InField s x
  unfolding sphere
  sphere_inside s d c r x m =
      let i = ball_cells t (middle t) (middle t) (omega arith) x m in
      record {
        row = omega (arith, fits, i.1, i.2.row, apart_within x.row (middle t));
        plane = omega (arith, i.2.plane);
        column = omega (arith, i.2.right);
      }
