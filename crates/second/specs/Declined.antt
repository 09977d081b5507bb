-- The numbers of the reasons for which an operation declines.
use Rattle.std.specs.Prelude.{ℕ, ◌≤◌}
use Rattle.second.specs.declared.declined.Declined.{Declined}
use Rattle.second.specs.declared.declined.Declined.TheVariants as why

-- the papers' number of each reason; a field whose length is wrong and a cell outside the shape are both 4
abbrev pub number_of : Declined → ℕ
number_of why.BadSize = 1
number_of why.BadStrength = 2
number_of why.PayloadLength = 3
number_of why.FieldLength = 4
number_of why.OutsideShape = 4
number_of why.BadCell = 5
number_of why.OutOfReach = 6
number_of why.BadFiller = 7
number_of why.BadSettings = 9
number_of why.TooManyUnread = 10
number_of why.BadWindow = 11
number_of why.BadShade = 12

-- a reason that is not of the shaded operations alone
abbrev pub IsUnshaded : Declined → Type 0
IsUnshaded why = number_of why ≤ 11
