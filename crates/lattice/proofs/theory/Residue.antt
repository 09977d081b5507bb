-- The residue of a point, column − b × row − c × plane, as a difference of two natural numbers, and what one class tells of two
-- points.
use Prim.Native.Nat.{ℕ, ◌+◌, ◌*◌, ◌%◌, ◌<◌}
use mathlib.Core.Path.{◌≡◌, sym, ◌∙◌, ap, ap₂}
use native.Mathlib.Nat.{add-zero}
use native.Mathlib.Omega.{arith}
use lib.IntN.{ℤ, pos, sub_ℕ, ◌-ℤ◌, ◌*ℤ◌}
use Rattle.lattice.specs.declared.settings.Settings.{Settings}
use Rattle.lattice.specs.Endless.{Point, HasClass}
use Rattle.lattice.proofs.theory.Integers.{up, down, sub_of, sub_zero, sub_sub, sub_scale, multiple_sub}
use Rattle.lattice.proofs.theory.Remainder.{add_same, cancel_same}

-- what stands on the positive side of the residue, and on the negative
abbrev gain : Settings → ℤ → ℤ → ℤ → ℕ
gain k row plane column = up column + k.b * down row + k.c * down plane

abbrev loss : Settings → ℤ → ℤ → ℤ → ℕ
loss k row plane column = down column + k.b * up row + k.c * up plane

-- the residue of coordinates that are differences of naturals
pub residue_sub : (k : Settings) (row₊ row₋ plane₊ plane₋ column₊ column₋ : ℕ)
    → sub_ℕ column₊ column₋ -ℤ pos k.b *ℤ sub_ℕ row₊ row₋ -ℤ pos k.c *ℤ sub_ℕ plane₊ plane₋
    ≡ sub_ℕ (column₊ + k.b * row₋ + k.c * plane₋) (column₋ + k.b * row₊ + k.c * plane₊)
residue_sub k row₊ row₋ plane₊ plane₋ column₊ column₋ =
    ap₂ (λ (x y : ℤ). x -ℤ y)
    (ap (λ (x : ℤ). sub_ℕ column₊ column₋ -ℤ x) (sub_scale k.b row₊ row₋)
    ∙ sub_sub column₊ column₋ (k.b * row₊) (k.b * row₋))
    (sub_scale k.c plane₊ plane₋)
    ∙ sub_sub (column₊ + k.b * row₋) (column₋ + k.b * row₊) (k.c * plane₊) (k.c * plane₋)

-- and of any coordinates
pub residue : (k : Settings) (row plane column : ℤ)
    → column -ℤ pos k.b *ℤ row -ℤ pos k.c *ℤ plane ≡ sub_ℕ (gain k row plane column) (loss k row plane column)
residue k row plane column =
    ap₂ (λ (x y : ℤ). x -ℤ pos k.c *ℤ y)
    (ap₂ (λ (x y : ℤ). x -ℤ pos k.b *ℤ y) (sym (sub_of column)) (sym (sub_of row)))
    (sym (sub_of plane))
    ∙ residue_sub k (up row) (down row) (up plane) (down plane) (up column) (down column)

-- the class of a point is r exactly when r is below m and its gain is its loss and r, but for multiples of m
module _ (k : Settings) (x : Point) where
  abbrev pub gained : ℕ
  gained = gain k x.row x.plane x.column

  abbrev pub lost : ℕ
  lost = loss k x.row x.plane x.column

  with_class : (r : ℕ)
      → x.column -ℤ pos k.b *ℤ x.row -ℤ pos k.c *ℤ x.plane -ℤ pos r ≡ sub_ℕ gained (lost + r)
  with_class r =
      ap₂ (λ (y z : ℤ). y -ℤ z) (residue k x.row x.plane x.column) (sym (sub_zero r))
      ∙ sub_sub gained lost r 0
      ∙ ap (λ (n : ℕ). sub_ℕ n (lost + r)) (add-zero gained)

  pub class_mod : (r : ℕ) → HasClass k x r → gained % k.m ≡ (lost + r) % k.m
  class_mod r h = (multiple_sub k.m gained (lost + r)).0 (rw (with_class r) at h.rest)

  pub mod_class : (r : ℕ) → r < k.m → gained % k.m ≡ (lost + r) % k.m → HasClass k x r
  mod_class r below e = record { below = below; rest = rw (with_class r) ((multiple_sub k.m gained (lost + r)).1 e) }

-- two points of one class: the gain of each with the loss of the other leaves one remainder
pub same_class : (k : Settings) (x y : Point) (r : ℕ) → HasClass k x r → HasClass k y r
    → (gained k x + lost k y) % k.m ≡ (gained k y + lost k x) % k.m
same_class k x y r hx hy =
    cancel_same (gained k x + lost k y) (gained k y + lost k x) r k.m
    (ap (λ (n : ℕ). n % k.m) (omega arith)
    ∙ add_same (gained k x) (lost k x + r) (lost k y + r) (gained k y) k.m (class_mod k x r hx) (sym (class_mod k y r hy))
    ∙ ap (λ (n : ℕ). n % k.m) (omega arith))
