-- The change of a cell at a spot, and a value without its change.
use Prim.Native.Nat.{ℕ, ◌+◌, ◌-◌, ◌<◌, ◌≤◌}
use mathlib.Core.Bool.{Bool, true, false, cond, ◌&&◌}
use mathlib.Core.List.{List}
use mathlib.Core.Path.{◌≡◌, sym, ap, ◌∙◌}
use lib.Dec.{leb}
use lib.ListN.{get_or}
use borrow.Author.Tests.{le-leb, lt-leb}
use Rattle.levels.specs.declared.spot.Spot.{Spot}
use Rattle.levels.specs.Level.{max_level, is_level}
use Rattle.levels.specs.Faults.{change}
use Rattle.levels.specs.Restored.{restored, restores}
use Rattle.levels.specs.Working.{change_of}

module _ (l : List ℕ) (x : Spot) where
  pub change_inside : x.inside ≡ true → (y : ℕ) → y ≡ change (get_or l x.word 0) x.slot → y ≡ change_of l x
  unfolding change_of
  change_inside e y q = q ∙ sym (rw e)

  pub change_ignored : x.inside ≡ false → 1 ≡ change_of l x
  unfolding change_of
  change_ignored e = sym (rw e)

module _ (v u : ℕ) where
  pub restores_not : v + 1 < u → false ≡ restores v u
  unfolding restores
  restores_not l = sym (ap (λ (b : Bool). b && is_level (restored v u)) (lt-leb u (v + 1) l))

  pub restores_is : u ≤ v + 1 → leb (v + 1 - u) max_level ≡ restores v u
  unfolding restores is_level
  restores_is l = sym (ap (λ (b : Bool). b && is_level (restored v u)) (le-leb u (v + 1) l))

  pub restored_is : (b : Bool) → b ≡ true → v + 1 - u ≡ cond b (restored v u) 0
  restored_is b e = sym (rw e)
