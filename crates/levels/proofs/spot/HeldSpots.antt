-- A spot that holds a digit, and one that holds none.
use mathlib.Core.Bool.{true, false, not}
use mathlib.Core.Path.{◌≡◌, sym}
use lib.Dec.{eqb}
use Rattle.levels.specs.declared.spot.Spot.{Spot}
use Rattle.levels.specs.Working.{holds_at}

pub holds_inside : (x : Spot) → x.inside ≡ true → not (eqb x.slot 0) ≡ holds_at x
unfolding holds_at
holds_inside x e = sym (rw e)

pub holds_ignored : (x : Spot) → x.inside ≡ false → false ≡ holds_at x
unfolding holds_at
holds_ignored x e = sym (rw e)
