-- The nine kinds of finding: their order, and the words with which they are printed.
use Rattle.std.specs.Prelude.{ℕ, List, [], ◌∷◌, codes}
use Rattle.sym_findings.specs.declared.kind.FindingKind.{FindingKind}
use Rattle.sym_findings.specs.declared.kind.FindingKind.TheVariants as kind

-- the kinds in order, C1 to C9
abbrev pub kinds : List FindingKind
kinds = kind.GivenAgain ∷ kind.NoFile ∷ kind.NoOrigin ∷ kind.BadSize ∷ kind.FuncMeets ∷ kind.LeavesFunc ∷ kind.LineMeets ∷ kind.InitMeets ∷ kind.ChangeOutside ∷ []

-- the number of a kind
abbrev pub kind_number : FindingKind → ℕ
kind_number kind.GivenAgain = 1
kind_number kind.NoFile = 2
kind_number kind.NoOrigin = 3
kind_number kind.BadSize = 4
kind_number kind.FuncMeets = 5
kind_number kind.LeavesFunc = 6
kind_number kind.LineMeets = 7
kind_number kind.InitMeets = 8
kind_number kind.ChangeOutside = 9

-- the word of a kind: C and its number
abbrev pub kind_word : FindingKind → List ℕ
kind_word kind.GivenAgain = codes "C1"
kind_word kind.NoFile = codes "C2"
kind_word kind.NoOrigin = codes "C3"
kind_word kind.BadSize = codes "C4"
kind_word kind.FuncMeets = codes "C5"
kind_word kind.LeavesFunc = codes "C6"
kind_word kind.LineMeets = codes "C7"
kind_word kind.InitMeets = codes "C8"
kind_word kind.ChangeOutside = codes "C9"
