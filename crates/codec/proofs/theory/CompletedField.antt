-- A field made lawful: for any values of the data cells there is one lawful field, and a class of it is settled by its data.
use Prim.Native.Nat.{ℕ, ◌/◌, ◌%◌, ◌<◌}
use mathlib.Core.Bool.{Bool, true, false, cond}
use mathlib.Core.Path.{◌≡◌, refl, sym, ap, ◌∙◌}
use native.Mathlib.Omega.{arith}
use Rattle.lattice.specs.Position.{Layout, position}
use Rattle.lattice.specs.Check.{holds_data}
use Rattle.codec.specs.Field.{Field, Cells}
use Rattle.codec.specs.Hamming.{tags_of, syndrome, Codeword, Lawful}
use Rattle.codec.proofs.theory.CellValues.{most_cell, cond_cell}
use Rattle.codec.proofs.theory.CheckBits.{data_part, codeword_checks, checks_codeword}
use Rattle.codec.proofs.theory.Syndrome.{syndrome_same}

-- the data cells of d, and in the check cell at position 2^j bit j of the syndrome of its class's data
abbrev pub completed : Layout → Field → Field
completed L d i = cond (holds_data L i) (d i) (syndrome L (tags_of L) (data_part L d) (L.class i) / position L i % 2)

module _ (L : Layout) (d : Field) where
  pub completed_data : (i : ℕ) → holds_data L i ≡ true → completed L d i ≡ d i
  completed_data i e = rw e

  pub completed_check : (i : ℕ) → holds_data L i ≡ false
      → completed L d i ≡ syndrome L (tags_of L) (data_part L d) (L.class i) / position L i % 2
  completed_check i e = rw e

  -- its data are those of d
  completed_part : (i : ℕ) → data_part L d i ≡ data_part L (completed L d) i
  completed_part i = twice (holds_data L i) _ _ 0
    where
      twice : (b : Bool) (v w z : ℕ) → cond b v z ≡ cond b (cond b v w) z
      twice true v w z = refl
      twice false v w z = refl

  completed_cells : (m : ℕ) → Cells d m → Cells (completed L d) m
  completed_cells m c i l = cond_cell (holds_data L i) _ _ (c i l) (most_cell _ (omega arith))

  -- every class is a codeword
  completed_codeword : Cells d L.cells → (a : ℕ) → Codeword L (tags_of L) (completed L d) a
  completed_codeword c a =
      checks_codeword
      L
      (completed L d)
      (completed_cells L.cells c)
      a
      (λ j l e h.
      completed_check j h
      ∙ ap
      (λ (s : ℕ). s / position L j % 2)
      (ap (syndrome L (tags_of L) (data_part L d)) e
      ∙ syndrome_same L (tags_of L) (data_part L d) (data_part L (completed L d)) a L.cells (λ i q r. completed_part i)))

  pub completed_lawful : Cells d L.cells → Lawful L (tags_of L) (completed L d)
  completed_lawful c = record { cells = completed_cells L.cells c; classes = completed_codeword c }

-- two codewords of a class that agree on its data cells are the same
pub codeword_unique : (L : Layout) (a : ℕ) (f g : Field) → Cells f L.cells → Cells g L.cells
    → Codeword L (tags_of L) f a → Codeword L (tags_of L) g a
    → ((i : ℕ) → i < L.cells → L.class i ≡ a → holds_data L i ≡ true → f i ≡ g i)
    → (i : ℕ) → i < L.cells → L.class i ≡ a → f i ≡ g i
codeword_unique L a f g f-cells g-cells f-word g-word e i l c = go (holds_data L i) refl
  where
    part : (b : Bool) (x y : ℕ) → (b ≡ true → x ≡ y) → cond b x 0 ≡ cond b y 0
    part true x y h = h refl
    part false x y h = refl

    same : syndrome L (tags_of L) (data_part L f) a ≡ syndrome L (tags_of L) (data_part L g) a
    same =
        syndrome_same L (tags_of L) (data_part L f) (data_part L g) a L.cells
        (λ j m q. part (holds_data L j) (f j) (g j) (e j m q))

    go : (b : Bool) → holds_data L i ≡ b → f i ≡ g i
    go true h = e i l c h
    go false h =
        codeword_checks L f f-cells a f-word i l c h
        ∙ ap (λ (s : ℕ). s / position L i % 2) same
        ∙ sym (codeword_checks L g g-cells a g-word i l c h)
