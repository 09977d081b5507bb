-- What the functions that list the check cells keep from cell to cell and from line to line. Only their contracts cite this file.
use Rattle.std.specs.Prelude.{ℕ, ◌+◌, ◌*◌, ◌/◌, ◌<◌, ◌≤◌, false, List, ◌≡◌, get_or}
use Rattle.lattice.specs.declared.line.Line.{Line}
use Rattle.lattice.specs.declared.line.Pass.{Pass}
use Rattle.lattice.specs.declared.shape.Shape.{Shape}
use Rattle.lattice.specs.Shape.{Accepted}
use Rattle.lattice.specs.Class.{layout_of}
use Rattle.lattice.specs.Position.{Layout}
use Rattle.lattice.specs.Check.{is_power}
use Rattle.lattice.specs.Lines.{table_of, pass_of, IsLine}
use Rattle.lattice.specs.Listing.{max_checks, ListsChecks, HoldsPlaces}
use Rattle.lattice.specs.Sizes.{HoldsSizes}

-- the first n cells are counted and, where the array of sizes is right, listed
pub record ListedTo (L : Layout) (n amount : ℕ) (sizes counts cells places : List ℕ) : Type 0 where
  pub few : amount ≤ max_checks
  pub counted : HoldsSizes L counts n
  pub listed : HoldsSizes L sizes L.cells → ListsChecks L n amount cells
  pub placed : HoldsSizes L sizes L.cells → HoldsPlaces L amount cells places

-- the first l lines of a pass are counted and listed
abbrev pub LinesListed : Pass → ℕ → ℕ → List ℕ → List ℕ → List ℕ → List ℕ → Type 0
LinesListed pass l amount sizes counts cells places =
    (s : Shape) → Accepted s → pass ≡ pass_of s → ListedTo (layout_of s) (l * s.columns) amount sizes counts cells places

-- line l of a pass, as the code keeps it
abbrev pub LineOf : Pass → ℕ → Line → Type 0
LineOf pass l line = (s : Shape) → Accepted s → pass ≡ pass_of s → IsLine (table_of s) s.rows l line

-- none of the `more` numbers after an entry below m is a power of two
abbrev pub NoPowerNear : ℕ → ℕ → List ℕ → Type 0
NoPowerNear m more counts = (a k : ℕ) → a < m → get_or counts a 0 < k → k ≤ get_or counts a 0 + more → is_power k ≡ false

-- no class reaches a power of two in the next `free` lines of a pass, which give it at most W / m + 1 cells each, with m classes
-- in a slice
abbrev pub FreeAhead : Pass → ℕ → List ℕ → Type 0
FreeAhead pass free counts = NoPowerNear pass.classes (free * (pass.columns / pass.period + 1)) counts

-- cell i is put at the end of the lists, with its place
pub record PutLast (amount r i j : ℕ) (cells places cells' places' : List ℕ) : Type 0 where
  pub more : r ≡ amount + 1
  pub cell : get_or cells' amount 0 ≡ i
  pub cells_stay : (k : ℕ) → k < amount → get_or cells' k 0 ≡ get_or cells k 0
  pub place : get_or places' amount 0 ≡ j
  pub places_stay : (k : ℕ) → k < amount → get_or places' k 0 ≡ get_or places k 0
