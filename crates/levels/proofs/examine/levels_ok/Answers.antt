-- `levels_ok` meets its contract.
use Prim.Native.Nat.{ℕ, ◌<◌, ◌≤◌}
use mathlib.Core.Bool.{true}
use mathlib.Core.Path.{◌≡◌}
use lib.ListN.{length, get_or}
use Rattle.std.proofs.Common.{rules}
use Rattle.levels.proofs.examine.Tests.{levels_told}
use Rattle.levels.proofs.examine.levels_ok.Goals as goal

pub returns : goal.returns
returns c =
    let bytes = c.args.bytes.now in
    let yes : c.all.result ≡ true → (i : ℕ) → i < length bytes → get_or bytes i 0 ≤ 24 = search rules in
    let all : ((i : ℕ) → i < length bytes → get_or bytes i 0 ≤ 24) → c.all.result ≡ true = search rules in
    levels_told bytes c.all.result yes all
