-- Three cells of which a step leads from each other to the second: they are a cluster by joined cells, a patch by touching ones.
use mathlib.Core.List.Memᴰ
use mathlib.Core.List.{[], ◌∷◌, Memᴰ}
use mathlib.Core.Path.{refl, subst⁻¹}
use lib.Dec.{lit≤}
use Rattle.lattice.specs.declared.shape.Shape.{Shape}
use Rattle.lattice.specs.Cell.{Cell, InField}
use Rattle.lattice.specs.Cluster.{Joined, Path, stay, step, Cluster, AtMost}
use Rattle.lattice.specs.Window.{Touching, Patch}
use Rattle.lattice.proofs.theory.Distances.{joined_sym, touching_sym}
use Rattle.lattice.proofs.theory.Paths.{path_append, path_reverse}

-- one of the three
abbrev pub Among : Cell → Cell → Cell → Cell → Type 0
Among a b c x = Memᴰ x (a ∷ b ∷ c ∷ [])

-- what holds of the three holds of each
each : (a b c : Cell) (P : Cell → Type 0) → P a → P b → P c → (x : Cell) → Among a b c x → P x
each a b c P p q r x (Memᴰ.head e) = subst⁻¹ P e p
each a b c P p q r x (Memᴰ.tail (Memᴰ.head e)) = subst⁻¹ P e q
each a b c P p q r x (Memᴰ.tail (Memᴰ.tail m)) = subst⁻¹ P (Memᴰ.eq_of_singleton m) r

-- any two are linked, by way of the second
module _ (R : Cell → Cell → Type 0) (back : (x y : Cell) → R x y → R y x) (a b c : Cell) (first : R a b) (last : R c b) where
  here : Path R (Among a b c) b b
  here = stay (Memᴰ.tail (Memᴰ.head refl))

  to_second : (x : Cell) → Among a b c x → Path R (Among a b c) x b
  to_second =
      each a b c (λ (x : Cell). Path R (Among a b c) x b)
      (step (Memᴰ.head refl) first here)
      here
      (step (Memᴰ.tail (Memᴰ.tail (Memᴰ.head refl))) last here)

  by_second : (x y : Cell) → Among a b c x → Among a b c y → Path R (Among a b c) x y
  by_second x y mx my = path_append (to_second x mx) (path_reverse back (to_second y my))

module _ (s : Shape) (a b c : Cell) where
  pub cluster_of_three : Joined a b → Joined c b → InField s a → InField s b → InField s c → Cluster s (Among a b c)
  cluster_of_three first last in-a in_b in_c =
      record { inside = each a b c (InField s) in-a in_b in_c; linked = by_second Joined joined_sym a b c first last }

  pub patch_of_three : Touching a b → Touching c b → InField s a → InField s b → InField s c → Patch s (Among a b c)
  patch_of_three first last in-a in_b in_c =
      record { inside = each a b c (InField s) in-a in_b in_c; linked = by_second Touching touching_sym a b c first last }

pub at_most_three : (a b c : Cell) → AtMost 3 (Among a b c)
at_most_three a b c = record { cells = a ∷ b ∷ c ∷ []; few = lit≤ tt; all = λ x m. m }
