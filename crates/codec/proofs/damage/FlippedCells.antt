-- Cells of a buffer flipped, one after another.
use Prim.Native.Nat.{ℕ, ◌<◌, ◌≤◌}
use mathlib.Core.List.{List}
use mathlib.Core.Path.{◌≡◌, sym, ap, ◌∙◌}
use native.Mathlib.Decide.{ℕ_discrete}
use native.Mathlib.Omega.{arith}
use lib.ListN.{length, get_or, set}
use lib.Seq.{get_or-set_same, get_or-set_other}
use Rattle.codec.specs.Field.{field_of, flip, Same}
use Rattle.codec.specs.Packing.{flipped_at}
use Rattle.codec.proofs.theory.NamedCells.{flipped_own, flipped_other}

pub flipped_inside : (l : List ℕ) (c v : ℕ) → c < length l → v ≡ flip (get_or l c 0)
    → Same (field_of (set l c v)) (flipped_at (field_of l) c) (length l)
flipped_inside l c v p e i q = go (ℕ_discrete i c)
  where
    go : Dec (i ≡ c) → get_or (set l c v) i 0 ≡ flipped_at (field_of l) c i
    go (yes d) =
        ap (λ (x : ℕ). get_or (set l c v) x 0) d
        ∙ get_or-set_same l c v 0 p
        ∙ e
        ∙ sym (ap (flipped_at (field_of l) c) d ∙ flipped_own (field_of l) c)
    go (no d) = get_or-set_other l c i v 0 d ∙ sym (flipped_other (field_of l) c i d)

pub flipped_outside : (l : List ℕ) (c : ℕ) → length l ≤ c → Same (field_of l) (flipped_at (field_of l) c) (length l)
flipped_outside l c p i q = sym (flipped_other (field_of l) c i (λ (d : i ≡ c). omega arith))
