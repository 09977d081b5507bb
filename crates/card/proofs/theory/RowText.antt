-- The lines `row`: their length, and where each of them and its cells stand.
use Prim.Native.Nat.{ℕ, zero, suc, ◌+◌, ◌*◌, ◌<◌, ◌≤◌}
use mathlib.Core.List.{List, [], ◌∷◌, ◌++◌, append_assoc}
use mathlib.Core.Path.{◌≡◌, sym, ap, subst, ◌∙◌}
use native.Mathlib.Nat.{zero-mul, zero-add, not-suc-le-zero}
use native.Mathlib.Omega.{arith}
use lib.ListN.{length, get_or, take, drop, length-append, length-drop}
use lib.Seq.{length-take-le, get_or-take, get_or-drop}
use Rattle.card.specs.Text.{row_key, cells_text, row_text, rows_text, feed}
use Rattle.card.specs.Parse.{row_start}
use Rattle.card.proofs.theory.CellDigits.{length_cells, cell_text}
use Rattle.card.proofs.theory.StandsAt.{StandsAt, stands_left, stands_right, stands_both, stands_one, one_stands}

-- the digits of w cells
abbrev cell_digits : ℕ → List ℕ → List ℕ
cell_digits w cells = cells_text (take w cells)

row_long : (w : ℕ) (cells : List ℕ) → w ≤ length cells → length (cell_digits w cells) ≡ w
row_long w cells l = sym (length_cells (take w cells)) ∙ length-take-le w cells l

row_digit : (w : ℕ) (cells : List ℕ) → w ≤ length cells → (c : ℕ) → c < w → get_or (cell_digits w cells) c 0 ≡ 48
    + get_or cells c 0
row_digit w cells l c m =
    sym (cell_text (take w cells) c (omega (arith, length-take-le w cells l)))
    ∙ ap (λ (v : ℕ). 48 + v) (get_or-take w cells c 0 m)

-- the first row and the others behind it
rows_first : (w k : ℕ) (cells : List ℕ)
    → rows_text w (suc k) cells ≡ row_key ++ (cell_digits w cells ++ (feed ∷ rows_text w k (drop w cells)))
unfolding row_text
rows_first w k cells =
    let rest = rows_text w k (drop w cells) in
    append_assoc row_key (cell_digits w cells ++ (feed ∷ [])) rest
    ∙ ap (λ (t : List ℕ). row_key ++ t) (append_assoc (cell_digits w cells) (feed ∷ []) rest)

-- the length of k rows of w cells
pub length_rows : (w k : ℕ) (cells : List ℕ) → k * w ≤ length cells → length (rows_text w k cells) ≡ k * (w + 5)
length_rows w zero cells l = sym (zero-mul (w + 5))
length_rows w (suc k) cells l =
    let row = cell_digits w cells in
    let rest = rows_text w k (drop w cells) in
    omega (
      arith,
      ap length (rows_first w k cells),
      length-append row_key (row ++ (feed ∷ rest)),
      length-append row (feed ∷ rest),
      row_long w cells (omega arith),
      length_rows w k (drop w cells) (omega (arith, length-drop w cells)),
    )

-- a row of w cells, from cell `base` on, stands at `start`
pub record RowStands (s : List ℕ) (start w : ℕ) (cells : List ℕ) (base : ℕ) : Type 0 where
  pub key : StandsAt row_key s start
  pub cell : (c : ℕ) → c < w → get_or s (start + 4 + c) 0 ≡ 48 + get_or cells (base + c) 0
  pub ended : get_or s (start + 4 + w) 0 ≡ feed

-- the text of one row and what follows it
module _ (s : List ℕ) (at w : ℕ) (cells rest : List ℕ) (fits : w ≤ length cells) where
  next_row : at + 4 + w + 1 ≡ at + (4 + w + 1)
  next_row = omega arith

  first_row : StandsAt (row_key ++ (cell_digits w cells ++ (feed ∷ rest))) s at
      → RowStands s at w cells 0 × StandsAt rest s (at + (4 + w + 1))
  first_row p =
      let behind = stands_right row_key (cell_digits w cells ++ (feed ∷ rest)) s at p in
      let end : StandsAt (feed ∷ rest) s (at + 4 + w) =
      rw (row_long w cells fits) at (stands_right (cell_digits w cells) (feed ∷ rest) s (at + 4) behind) in (
        record {
          key = stands_left row_key (cell_digits w cells ++ (feed ∷ rest)) s at p;
          cell = λ c m.
              stands_left (cell_digits w cells) (feed ∷ rest) s (at + 4) behind c (omega (arith, row_long w cells fits))
              ∙ rw (zero-add c) (row_digit w cells fits c m);
          ended = one_stands s (at + 4 + w) feed (stands_left (feed ∷ []) rest s (at + 4 + w) end);
        },
        rw next_row at (stands_right (feed ∷ []) rest s (at + 4 + w) end),
      )

  row_first : RowStands s at w cells 0
      → StandsAt rest s (at + (4 + w + 1))
      → StandsAt (row_key ++ (cell_digits w cells ++ (feed ∷ rest))) s at
  row_first row behind =
      stands_both row_key (cell_digits w cells ++ (feed ∷ rest)) s at row.key
      (stands_both (cell_digits w cells) (feed ∷ rest) s (at + 4)
      (λ c l.
      let m : c < w = omega (arith, row_long w cells fits) in
      row.cell c m ∙ rw (zero-add c) (sym (row_digit w cells fits c m)))
      (rw (row_long w cells fits)
      (stands_both (feed ∷ []) rest s (at + 4 + w) (stands_one s (at + 4 + w) feed row.ended) (rw next_row behind))))

-- a row stays where its place and its cells are the same
row_same : (s : List ℕ) (start start' w : ℕ) (cells cells' : List ℕ) (base base' : ℕ) → start ≡ start'
    → ((c : ℕ) → get_or cells (base + c) 0 ≡ get_or cells' (base' + c) 0)
    → RowStands s start w cells base → RowStands s start' w cells' base'
row_same s start start' w cells cells' base base' e same x =
    rw (← e)
    (record { key = x.key; cell = λ c l. x.cell c l ∙ ap (λ (v : ℕ). 48 + v) (same c); ended = x.ended })

-- the cells behind the first w, from the next row's on
cells_behind : (w : ℕ) (cells : List ℕ) (r c : ℕ) → get_or (drop w cells) (r * w + c) 0 ≡ get_or cells (suc r * w + c) 0
cells_behind w cells r c =
    let place : w + (r * w + c) ≡ suc r * w + c = omega arith in
    get_or-drop w cells (r * w + c) 0 ∙ ap (λ (i : ℕ). get_or cells i 0) place

start_behind : (at w r : ℕ) → row_start (at + (4 + w + 1)) w r ≡ row_start at w (suc r)
start_behind at w r = omega arith

start_first : (at w : ℕ) → at ≡ row_start at w 0
start_first at w = omega arith

-- rows stand one behind the other: from their text, and back
pub rows_stand : (s : List ℕ) (at w k : ℕ) (cells : List ℕ) → k * w ≤ length cells → StandsAt (rows_text w k cells) s at
    → (r : ℕ) → r < k → RowStands s (row_start at w r) w cells (r * w)
rows_stand s at w zero cells l p r m = absurd (not-suc-le-zero m)
rows_stand s at w (suc k) cells l p zero m =
    row_same s at (row_start at w 0) w cells cells 0 (0 * w) (start_first at w) (λ c. rw (zero-mul w))
    (first_row s at w cells (rows_text w k (drop w cells)) (omega arith)
    (subst (λ (t : List ℕ). StandsAt t s at) (rows_first w k cells) p)).0
rows_stand s at w (suc k) cells l p (suc r) m =
    row_same s (row_start (at + (4 + w + 1)) w r) (row_start at w (suc r)) w (drop w cells) cells (r * w) (suc r * w)
    (start_behind at w r) (cells_behind w cells r) (rows_stand s (at + (4 + w + 1)) w k (drop w cells)
    (omega (arith, length-drop w cells))
    (first_row s at w cells (rows_text w k (drop w cells)) (omega arith)
    (subst (λ (t : List ℕ). StandsAt t s at) (rows_first w k cells) p)).1
    r (omega arith))

pub stand_rows : (s : List ℕ) (at w k : ℕ) (cells : List ℕ) → k * w ≤ length cells
    → ((r : ℕ) → r < k → RowStands s (row_start at w r) w cells (r * w)) → StandsAt (rows_text w k cells) s at
stand_rows s at w zero cells l p = λ j m. absurd (not-suc-le-zero m)
stand_rows s at w (suc k) cells l p =
    subst (λ (t : List ℕ). StandsAt t s at) (sym (rows_first w k cells))
    (row_first s at w cells (rows_text w k (drop w cells)) (omega arith)
    (row_same s (row_start at w 0) at w cells cells (0 * w) 0 (sym (start_first at w)) (λ c. rw (zero-mul w)) (p 0 (omega arith)))
    (stand_rows s (at + (4 + w + 1)) w k (drop w cells) (omega (arith, length-drop w cells))
    (λ r m.
    row_same s (row_start at w (suc r)) (row_start (at + (4 + w + 1)) w r) w cells (drop w cells) (suc r * w) (r * w)
    (sym (start_behind at w r))
    (λ c. sym (cells_behind w cells r c))
    (p (suc r) (omega arith)))))
