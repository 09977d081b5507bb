-- The lines of a field, for a pass that divides nothing. Line l is the cells l × W to l × W + W − 1, a row of a plane. Its
-- classes are a stretch of one table, moved by an offset. The lines of one offset are a slice; no other line has their classes.
-- Only contracts of functions that pass over the cells cite this file.
use Rattle.std.specs.Prelude.{ℕ, ◌+◌, ◌-◌, ◌*◌, ◌/◌, ◌%◌, ◌<◌, ◌≤◌, cond, List, ◌≡◌, eqb, ltb, length, get_or}
use Rattle.lattice.specs.declared.class.Placement.{Placement}
use Rattle.lattice.specs.declared.line.Line.{Line}
use Rattle.lattice.specs.declared.line.Pass.{Pass}
use Rattle.lattice.specs.declared.settings.Settings.{Settings}
use Rattle.lattice.specs.declared.shape.Shape.{Shape}
use Rattle.lattice.specs.Refusal.{beside}
use Rattle.lattice.specs.Shape.{max_cells, shape_number, Accepted, cells_of}
use Rattle.lattice.specs.Class.{minus_mod, layout_of, placement_of}
use Rattle.lattice.specs.Position.{Layout, size_to}
use Rattle.lattice.specs.Counting.{count, sum_below}

-- a layout by lines of w cells: the classes of line l are those of one table from `start l` on, moved by `offset l`
pub record ByLines (L : Layout) (w lines : ℕ) (table start offset : ℕ → ℕ) : Type 0 where
  pub class : (l x : ℕ) → l < lines → x < w → L.class (l * w + x) ≡ table (start l + x) + offset l

-- a table of period m: two entries are equal exactly where their places have one remainder
pub record HasPeriod (m : ℕ) (table : ℕ → ℕ) : Type 0 where
  pub some : 0 < m
  pub same : (y z : ℕ) → y % m ≡ z % m → table y ≡ table z
  pub only : (y z : ℕ) → table y ≡ table z → y % m ≡ z % m

-- the table of a field: y mod m
abbrev pub remainder_table : ℕ → ℕ → ℕ
remainder_table m y = y % m

-- the settings by which the lines of a slice begin in the table, the number of slices, and the offset of line l: by strength the
-- field's own, 1 and 0
abbrev pub table_of : Shape → Settings
table_of s = (placement_of s).settings

abbrev pub slices_of : Shape → ℕ
slices_of s = (placement_of s).slices

abbrev pub offset_of : Shape → ℕ → ℕ
offset_of s l = l % slices_of s * (table_of s).m

-- where line l of planes of h rows begins in the table: −b × row − c × plane, mod m
unfoldable pub line_start : Settings → ℕ → ℕ → ℕ
line_start k h l = minus_mod 0 (k.b * (l % h) + k.c * (l / h)) k.m

-- what a pass over a field needs: its columns, lines, cells and classes; the slices and the period of the table; how far back in
-- the table the next row of a slice begins, and the next plane behind its last row; and the number of a plane's last row
unfoldable pub pass_with : Placement → Shape → Pass
pass_with p s =
    let k = p.settings in
    record {
      columns = s.columns;
      lines = s.rows * s.planes;
      cells = cells_of s;
      classes = p.slices * k.m;
      slices = p.slices;
      period = k.m;
      row = k.b % k.m;
      plane = minus_mod k.c (k.b * (s.rows - 1)) k.m;
      last = s.rows - 1;
    }

unfoldable pub no_pass : Pass
no_pass =
    record { columns = 0; lines = 0; cells = 0; classes = 0; slices = 0; period = 0; row = 0; plane = 0; last = 0 }

abbrev pub pass_of : Shape → Pass
pass_of s = pass_with (placement_of s) s

-- the pass that a shape gives: its own, or all 0 where the constructor refuses it
unfoldable pub pass_given : Shape → Pass
pass_given s = beside (shape_number s) (pass_of s) no_pass

-- the pass is that of a shape that the constructor accepts
pub record OfShape (pass : Pass) : Type 0 where
  pub shape : Shape
  pub accepted : Accepted shape
  pub same : pass ≡ pass_of shape

-- line l of planes of h rows, as the code keeps it: the rows behind it in its plane, and where it begins in the table
pub record IsLine (k : Settings) (h l : ℕ) (x : Line) : Type 0 where
  pub left : x.left ≡ h - 1 - l % h
  pub start : x.start ≡ line_start k h l

-- how many of the places below n have the remainder of y
unfoldable pub among : ℕ → ℕ → ℕ → ℕ
among m y n = count (λ z. eqb (z % m) (y % m)) n

-- the list e, up to `wide`, holds the positions of a line that begins at cell n, at `start` in the table and with the offset
-- `off`: the cell in column x has the position e[start + x]
unfoldable pub Positions : Layout → ℕ → (ℕ → ℕ) → ℕ → ℕ → ℕ → ℕ → List ℕ → Type 0
Positions L m table start off n wide e =
    (y : ℕ) → y < wide → get_or e y 0 + among m y start ≡ size_to L (table y + off) n + among m y y + 1

-- the list repeats itself after m places, with d more each time
unfoldable pub Repeats : ℕ → ℕ → ℕ → List ℕ → Type 0
Repeats m d wide e = (y : ℕ) → y + m < wide → get_or e (y + m) 0 ≡ get_or e y 0 + d

-- the list holds what a stretch of n places of the table gives to the remainder of each place
unfoldable pub Gains : ℕ → ℕ → ℕ → List ℕ → Type 0
Gains m n wide p = (z : ℕ) → z < wide → get_or p z 0 ≡ among m z n

-- 1 where the step back from a line's start goes round the table's beginning, else 0
abbrev pub round : ℕ → ℕ → ℕ
round start step = cond (ltb start step) 1 0

-- f is the list of the line after, `step` places back in the table, from the list e of a line and what its stretch gives
unfoldable pub Advanced : ℕ → ℕ → ℕ → ℕ → List ℕ → List ℕ → List ℕ → Type 0
Advanced m start step wide e p f =
    (y : ℕ) → y < wide → get_or f y 0 + round start step ≡ get_or e y 0 + get_or p (y + (m - minus_mod start step m)) 0

-- the step stays within 16 bits
pub record CanAdvance (m start step wide : ℕ) (e p : List ℕ) : Type 0 where
  pub low : (y : ℕ) → y < wide → round start step ≤ get_or e y 0 + get_or p (y + (m - minus_mod start step m)) 0
  pub high : (y : ℕ) → y < wide → get_or e y 0 + get_or p (y + (m - minus_mod start step m)) 0 < 65536

-- line l is next in a pass over a slice, whose lines before it are l / slices, and the list e holds its positions: the cell in
-- column x has the class (start + x) mod m, moved by the offset, and the position e[start + x]
pub record AtLine (s : Shape) (l : ℕ) (x : Line) (e : List ℕ) : Type 0 where
  pub line : IsLine (table_of s) s.rows (l / slices_of s) x
  pub wide : (table_of s).m + s.columns ≤ length e
  pub held :
      Positions (layout_of s) (table_of s).m (remainder_table (table_of s).m) x.start (offset_of s l) (l * s.columns)
      (length e) e

-- lists of those lengths have room for a pass
pub record Room (pass : Pass) (e p q : ℕ) : Type 0 where
  pub wide : pass.period + pass.columns ≤ e
  pub row_long : e + pass.period ≤ p
  pub row_short : p ≤ 4096
  pub plane_long : e + pass.period ≤ q
  pub plane_short : q ≤ 4096

-- the lists have a place for each class of a slice, and the numbers of the pass are small
pub record Small (pass : Pass) (e p q : ℕ) : Type 0 where
  pub some : 0 < pass.period
  pub long : pass.period ≤ e
  pub short : e ≤ 4096
  pub row_long : pass.period ≤ p
  pub row_short : p ≤ 4096
  pub plane_long : pass.period ≤ q
  pub plane_short : q ≤ 4096
  pub row : pass.columns + pass.row ≤ 8192
  pub plane : pass.columns + pass.plane ≤ 8192

-- the lists p and q hold what a line and its step give, to the next row and to the next plane, for a list of positions of that
-- length
pub record Ready (pass : Pass) (wide : ℕ) (p q : List ℕ) : Type 0 where
  pub short : wide ≤ 4096
  pub row_long : wide + pass.period ≤ length p
  pub row : Gains pass.period (pass.columns + pass.row) (length p) p
  pub plane_long : wide + pass.period ≤ length q
  pub plane : Gains pass.period (pass.columns + pass.plane) (length q) q

-- how many of the first n lines begin at place a
unfoldable pub starts_at : (ℕ → ℕ) → ℕ → ℕ → ℕ
starts_at start a n = count (λ l. eqb (start l) a) n

-- a list of sums: each entry up to n is the sum of f over the places below its own, each at most the number of cells
pub record Sums (f : ℕ → ℕ) (n : ℕ) (xs : List ℕ) : Type 0 where
  pub first : get_or xs 0 0 ≡ 0
  pub next : (k : ℕ) → k < n → get_or xs (k + 1) 0 ≡ get_or xs k 0 + f k
  pub most : (k : ℕ) → k ≤ n → get_or xs k 0 ≤ k * max_cells

-- how many places below y are beginnings of the first n lines, where each beginning comes again after every m places
unfoldable pub heads : ℕ → (ℕ → ℕ) → ℕ → ℕ → ℕ
heads m start n y = sum_below (λ l. among m (start l) y) n
