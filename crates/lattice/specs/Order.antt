-- The order in which the distance test tries difference triples (row, plane, column): rising by row, then plane, then column.
-- For example, at t = 3 the triples of an absolute sum of 1 or 2 whose first number that is not 0 is positive, twelve in all:
-- (0, 0, 1), (0, 0, 2), (0, 1, −1), (0, 1, 0), (0, 1, 1), (0, 2, 0),
-- (1, −1, 0), (1, 0, −1), (1, 0, 0), (1, 0, 1), (1, 1, 0), (2, 0, 0).
use Rattle.std.specs.Prelude.{ℕ, zero, suc, ◌+◌, ◌-◌, List, [], ◌∷◌, ◌++◌, map, ◌⊎◌, ◌≡◌, ℤ, pos, neg_ℤ, nat_abs, ◌-ℤ◌}
use Rattle.std.specs.Prelude.{Option, Some, None}
use Rattle.std.proofs.Math.IntN.{suc_ℤ}
use Rattle.lattice.specs.declared.distance.Triple.{Triple}

abbrev pub triple : ℤ → ℤ → ℤ → Triple
triple r p c = record { row = r; plane = p; column = c }

abbrev pub origin : Triple
origin = triple (pos 0) (pos 0) (pos 0)

-- a triple that may be there, (0, 0, 0) where it is not
abbrev pub or_origin : Option Triple → Triple
or_origin None = origin
or_origin (Some x) = x

-- the n integers from `low` upward
abbrev pub run : ℤ → ℕ → List ℤ
run low zero = []
run low (suc n) = low ∷ run (suc_ℤ low) n

-- the integers from −n to n
abbrev pub span : ℕ → List ℤ
span n = run (neg_ℤ (pos n)) (n + n + 1)

-- the triples of a row and a plane, at the listed columns
abbrev pub columns_at : ℤ → ℤ → List ℤ → List Triple
columns_at r p cs = map (triple r p) cs

-- the triples of a row at the listed planes whose plane and column have an absolute sum of at most n
abbrev pub planes_at : ℤ → ℕ → List ℤ → List Triple
planes_at r n [] = []
planes_at r n (p ∷ ps) = columns_at r p (span (n - nat_abs p)) ++ planes_at r n ps

-- the triples at the listed rows of an absolute sum of at most n
abbrev pub rows_at : ℕ → List ℤ → List Triple
rows_at n [] = []
rows_at n (r ∷ rs) = planes_at r (n - nat_abs r) (span (n - nat_abs r)) ++ rows_at n rs

-- the triples of an absolute sum of at most n of row 0 and plane 0 with a positive column, of row 0 with a positive plane, and
-- with a positive row
abbrev pub first_columns : ℕ → List Triple
first_columns n = columns_at (pos 0) (pos 0) (run (pos 1) n)

abbrev pub first_planes : ℕ → List Triple
first_planes n = planes_at (pos 0) n (run (pos 1) n)

abbrev pub all_rows : ℕ → List Triple
all_rows n = rows_at n (run (pos 1) n)

-- the triples that the test tries for strength t, in their order
unfoldable pub order : ℕ → List Triple
order t = first_columns (t - 1) ++ (first_planes (t - 1) ++ all_rows (t - 1))

-- the absolute sum of a triple
unfoldable pub magnitude : Triple → ℕ
magnitude x = nat_abs x.row + nat_abs x.plane + nat_abs x.column

-- a is less than b, for integers: b − a is a positive number
abbrev pub Less : ℤ → ℤ → Type 0
Less a b = (n : ℕ) × (b -ℤ a ≡ pos (suc n))

-- the first number of the triple that is not 0 is positive
unfoldable pub Leading : Triple → Type 0
Leading x =
    Less (pos 0) x.row
    ⊎ (((x.row ≡ pos 0) × Less (pos 0) x.plane)
    ⊎ ((x.row ≡ pos 0) × (x.plane ≡ pos 0) × Less (pos 0) x.column))

-- x comes before y: by row, then plane, then column
unfoldable pub Before : Triple → Triple → Type 0
Before x y =
    Less x.row y.row
    ⊎ (((x.row ≡ y.row) × Less x.plane y.plane)
    ⊎ ((x.row ≡ y.row) × (x.plane ≡ y.plane) × Less x.column y.column))
