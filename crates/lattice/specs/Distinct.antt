-- Lists whose entries are pairwise different.
use mathlib.Core.List.{List, [], ◌∷◌, Memᴰ}
use Rattle.std.specs.Prelude.{◌≢◌}

-- the entries of the list are pairwise different
abbrev pub Distinct : {A : Type 0} → List A → Type 0
Distinct [] = Unit {0}
Distinct {A} (x ∷ xs) = ((y : A) → Memᴰ y xs → x ≢ y) × Distinct xs
