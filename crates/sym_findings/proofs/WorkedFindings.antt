-- Worked examples: for each kind of finding a list of records that has only this one, and the
-- nearest list without it.
use Rattle.std.proofs.Common.{◌≡◌, ℕ, false, List, [], ◌∷◌, codes, refl}
use Rattle.sym_records.specs.declared.line.Extent.{Extent}
use Rattle.sym_records.specs.declared.line.SymLine.{SymLine}
use Rattle.sym_records.specs.declared.line.SymLine.TheVariants.{Module, Info, File, Origin, Func, Inline, Line, Public, Init, Change}
use Rattle.sym_meaning.specs.Findings.{run_of}
use Rattle.sym_findings.specs.declared.kind.FindingKind.{FindingKind}
use Rattle.sym_findings.specs.declared.kind.FindingKind.TheVariants as kind
use Rattle.sym_findings.specs.declared.kind.Finding.{Finding}
use Rattle.sym_findings.specs.Findings.{findings}
use Rattle.sym_findings.proofs.Computing.{sym_findings_computes}

abbrev at : FindingKind → ℕ → Finding
at k i = record { kind = k; index = i }

abbrev file : ℕ → SymLine
file n = File n (codes "a")

abbrev origin : ℕ → SymLine
origin n = Origin n (codes "in")

abbrev func : ℕ → ℕ → SymLine
func address size = Func false address size 0 (codes "f")

-- A line record and an INLINE that refer to FILE 0 and INLINE_ORIGIN 0.
abbrev line : ℕ → ℕ → SymLine
line address size = Line address size 1 0

abbrev inlined : List Extent → SymLine
inlined ranges = Inline 0 4 0 0 ranges

abbrev head : SymLine
head = Module (record { os = codes "Linux"; arch = codes "x86_64"; id = codes "0"; name = codes "a" })

-- The module, FILE 0, INLINE_ORIGIN 0, and other records from index 3 on.
abbrev file_of : List SymLine → List SymLine
file_of lines = head ∷ file 0 ∷ origin 0 ∷ lines

-- A file of functions, inlined copies, lines and frames without a finding.
nothing : findings (file_of (func 0x10 0x10 ∷ inlined (run_of 0x10 4 ∷ run_of 0x18 8 ∷ []) ∷ line 0x10 8 ∷ line 0x18 8 ∷ func 0x20 0x10 ∷ line 0x20 0x10 ∷ Public false 0x50 0 (codes "p") ∷ Init 0x10 0x10 [] ∷ Change 0x11 [] ∷ Change 0x1f [] ∷ Init 0x20 0x10 [] ∷ Change 0x21 [] ∷ [])) ≡ []
unfolding sym_findings_computes
nothing = refl

-- C1: FILE and INLINE_ORIGIN are numbered separately, and the later record has the finding,
-- whatever is between.
file_again : findings (file_of (Info (codes "i") ∷ file 1 ∷ file 0 ∷ [])) ≡ at kind.GivenAgain 5 ∷ []
unfolding sym_findings_computes
file_again = refl

file_thrice : findings (file_of (file 0 ∷ file 0 ∷ [])) ≡ at kind.GivenAgain 3 ∷ at kind.GivenAgain 4 ∷ []
unfolding sym_findings_computes
file_thrice = refl

origin_again : findings (file_of (origin 1 ∷ origin 0 ∷ [])) ≡ at kind.GivenAgain 4 ∷ []
unfolding sym_findings_computes
origin_again = refl

other_numbers : findings (file_of (file 1 ∷ origin 2 ∷ file 2 ∷ origin 1 ∷ [])) ≡ []
unfolding sym_findings_computes
other_numbers = refl

-- C2: no record gives the FILE, not even a later one.
line_without_file : findings (file_of (func 0x10 0x10 ∷ Line 0x10 8 1 7 ∷ [])) ≡ at kind.NoFile 4 ∷ []
unfolding sym_findings_computes
line_without_file = refl

inline_without_file : findings (file_of (func 0x10 0x10 ∷ Inline 0 4 7 0 (run_of 0x10 4 ∷ []) ∷ [])) ≡ at kind.NoFile 4 ∷ []
unfolding sym_findings_computes
inline_without_file = refl

file_behind : findings (file_of (func 0x10 0x10 ∷ Line 0x10 8 1 7 ∷ Inline 0 4 7 0 (run_of 0x10 4 ∷ []) ∷ file 7 ∷ [])) ≡ []
unfolding sym_findings_computes
file_behind = refl

-- C3: no record gives the INLINE_ORIGIN, not even a later one; a FILE with its number does not
-- count.
inline_without_origin : findings (file_of (file 7 ∷ func 0x10 0x10 ∷ Inline 0 4 0 7 (run_of 0x10 4 ∷ []) ∷ [])) ≡ at kind.NoOrigin 5 ∷ []
unfolding sym_findings_computes
inline_without_origin = refl

origin_behind : findings (file_of (file 7 ∷ func 0x10 0x10 ∷ Inline 0 4 0 7 (run_of 0x10 4 ∷ []) ∷ origin 7 ∷ [])) ≡ []
unfolding sym_findings_computes
origin_behind = refl

-- C4: size 0, or an end of 2^64 or more, even of a FUNC that covers the last address.
empty_func : findings (file_of (func 0x10 0 ∷ [])) ≡ at kind.BadSize 3 ∷ []
unfolding sym_findings_computes
empty_func = refl

one_address : findings (file_of (func 0x10 1 ∷ [])) ≡ []
unfolding sym_findings_computes
one_address = refl

last_address : findings (file_of (func 0xffffffffffffffff 1 ∷ [])) ≡ at kind.BadSize 3 ∷ []
unfolding sym_findings_computes
last_address = refl

last_but_one : findings (file_of (func 0xfffffffffffffffe 1 ∷ [])) ≡ []
unfolding sym_findings_computes
last_but_one = refl

empty_line : findings (file_of (func 0x10 0x10 ∷ line 0x10 0 ∷ [])) ≡ at kind.BadSize 4 ∷ []
unfolding sym_findings_computes
empty_line = refl

empty_range : findings (file_of (func 0x10 0x10 ∷ inlined (run_of 0x10 4 ∷ run_of 0x18 0 ∷ []) ∷ [])) ≡ at kind.BadSize 4 ∷ []
unfolding sym_findings_computes
empty_range = refl

empty_init : findings (file_of (Init 0x10 0 [] ∷ [])) ≡ at kind.BadSize 3 ∷ []
unfolding sym_findings_computes
empty_init = refl

far_init : findings (file_of (Init 0x8000000000000000 0x8000000000000000 [] ∷ [])) ≡ at kind.BadSize 3 ∷ []
unfolding sym_findings_computes
far_init = refl

near_init : findings (file_of (Init 0x8000000000000000 0x7fffffffffffffff [] ∷ [])) ≡ []
unfolding sym_findings_computes
near_init = refl

-- C5: the earlier FUNC need not be a neighbour, and ends are not taken modulo 2^64. FUNCs that
-- touch, and empty ones, do not overlap.
funcs_meet : findings (file_of (func 0x1000 0x10 ∷ func 0x1008 0x10 ∷ [])) ≡ at kind.FuncMeets 4 ∷ []
unfolding sym_findings_computes
funcs_meet = refl

funcs_touch : findings (file_of (func 0x1000 0x10 ∷ func 0x1010 0x10 ∷ [])) ≡ []
unfolding sym_findings_computes
funcs_touch = refl

funcs_fall : findings (file_of (func 0x1010 0x10 ∷ func 0x1000 0x10 ∷ [])) ≡ []
unfolding sym_findings_computes
funcs_fall = refl

func_around : findings (file_of (func 0x10 0x10 ∷ func 0x40 0x10 ∷ func 0 0x80 ∷ func 0x70 0x20 ∷ [])) ≡ at kind.FuncMeets 5 ∷ at kind.FuncMeets 6 ∷ []
unfolding sym_findings_computes
func_around = refl

not_the_one_before : findings (file_of (func 0x10 0x10 ∷ func 0x40 0x10 ∷ func 0x18 0x10 ∷ [])) ≡ at kind.FuncMeets 5 ∷ []
unfolding sym_findings_computes
not_the_one_before = refl

far_funcs : findings (file_of (func 0xfffffffffffffff0 0x10 ∷ func 0xffffffffffffffff 5 ∷ [])) ≡ at kind.BadSize 3 ∷ at kind.BadSize 4 ∷ at kind.FuncMeets 4 ∷ []
unfolding sym_findings_computes
far_funcs = refl

empty_meets_nothing : findings (file_of (func 0x10 0x10 ∷ func 0x18 0 ∷ func 0x20 0x10 ∷ [])) ≡ at kind.BadSize 4 ∷ []
unfolding sym_findings_computes
empty_meets_nothing = refl

-- C6: ends are not taken modulo 2^64, also for a size of 0. An empty range at the very end of its
-- FUNC is inside.
line_before : findings (file_of (func 0x10 0x10 ∷ line 0xf 4 ∷ [])) ≡ at kind.LeavesFunc 4 ∷ []
unfolding sym_findings_computes
line_before = refl

line_behind : findings (file_of (func 0x10 0x10 ∷ line 0x10 0x11 ∷ [])) ≡ at kind.LeavesFunc 4 ∷ []
unfolding sym_findings_computes
line_behind = refl

range_behind : findings (file_of (func 0x10 0x10 ∷ line 0x10 4 ∷ inlined (run_of 0x10 4 ∷ run_of 0x18 9 ∷ []) ∷ [])) ≡ at kind.LeavesFunc 5 ∷ []
unfolding sym_findings_computes
range_behind = refl

empty_at_the_end : findings (file_of (func 0x10 0x10 ∷ line 0x20 0 ∷ [])) ≡ at kind.BadSize 4 ∷ []
unfolding sym_findings_computes
empty_at_the_end = refl

empty_behind_the_end : findings (file_of (func 0x10 0x10 ∷ line 0x21 0 ∷ [])) ≡ at kind.BadSize 4 ∷ at kind.LeavesFunc 4 ∷ []
unfolding sym_findings_computes
empty_behind_the_end = refl

-- C7: an earlier line record of the same FUNC, in any order; those of two FUNCs do not count.
lines_meet : findings (file_of (func 0x10 0x10 ∷ line 0x10 8 ∷ inlined (run_of 0x10 4 ∷ []) ∷ line 0x18 8 ∷ line 0x14 2 ∷ [])) ≡ at kind.LineMeets 7 ∷ []
unfolding sym_findings_computes
lines_meet = refl

lines_fall : findings (file_of (func 0x10 0x10 ∷ line 0x18 8 ∷ line 0x14 4 ∷ line 0x10 4 ∷ [])) ≡ []
unfolding sym_findings_computes
lines_fall = refl

lines_of_two : findings (file_of (func 0x10 0x10 ∷ line 0x10 8 ∷ func 0x10 0x10 ∷ line 0x10 8 ∷ [])) ≡ at kind.FuncMeets 5 ∷ []
unfolding sym_findings_computes
lines_of_two = refl

-- C8: an earlier INIT, whatever is between.
inits_meet : findings (file_of (Init 0x10 0x10 [] ∷ Change 0x11 [] ∷ file 1 ∷ Init 0x1f 0x10 [] ∷ [])) ≡ at kind.InitMeets 6 ∷ []
unfolding sym_findings_computes
inits_meet = refl

inits_touch : findings (file_of (Init 0x10 0x10 [] ∷ Change 0x11 [] ∷ file 1 ∷ Init 0x20 0x10 [] ∷ [])) ≡ []
unfolding sym_findings_computes
inits_touch = refl

-- C9: at the INIT's own address, at its end, below it, and not above the record before it. After a
-- change below the INIT, one at the INIT's own address is above the record before it.
change_at_init : findings (file_of (Init 0x10 0x10 [] ∷ Change 0x10 [] ∷ [])) ≡ at kind.ChangeOutside 4 ∷ []
unfolding sym_findings_computes
change_at_init = refl

change_at_end : findings (file_of (Init 0x10 0x10 [] ∷ Change 0x20 [] ∷ [])) ≡ at kind.ChangeOutside 4 ∷ []
unfolding sym_findings_computes
change_at_end = refl

changes_inside : findings (file_of (Init 0x10 0x10 [] ∷ Change 0x11 [] ∷ Change 0x1f [] ∷ [])) ≡ []
unfolding sym_findings_computes
changes_inside = refl

change_twice : findings (file_of (Init 0x10 0x10 [] ∷ Change 0x12 [] ∷ Change 0x12 [] ∷ Change 0x13 [] ∷ [])) ≡ at kind.ChangeOutside 5 ∷ []
unfolding sym_findings_computes
change_twice = refl

change_below : findings (file_of (Init 0x10 0x10 [] ∷ Change 8 [] ∷ Change 0x10 [] ∷ Change 0x11 [] ∷ [])) ≡ at kind.ChangeOutside 4 ∷ []
unfolding sym_findings_computes
change_below = refl

-- Several findings at one record, in the order of their kinds, and then by record.
several : findings (file_of (func 0x10 0x10 ∷ line 0x18 8 ∷ Line 0x1f 2 1 7 ∷ Inline 0 4 7 7 (run_of 0xf 0 ∷ []) ∷ func 0x10 0 ∷ [])) ≡ at kind.NoFile 5 ∷ at kind.LeavesFunc 5 ∷ at kind.LineMeets 5 ∷ at kind.NoFile 6 ∷ at kind.NoOrigin 6 ∷ at kind.BadSize 6 ∷ at kind.LeavesFunc 6 ∷ at kind.BadSize 7 ∷ []
unfolding sym_findings_computes
several = refl

two_records : findings (head ∷ file 0 ∷ File 0 (codes "b") ∷ func 0x10 0 ∷ []) ≡ at kind.GivenAgain 2 ∷ at kind.BadSize 3 ∷ []
unfolding sym_findings_computes
two_records = refl

-- The smallest lists: two functions that overlap, two that touch, and one file.
two_funcs : findings (head ∷ func 0x1000 0x10 ∷ func 0x1008 0x10 ∷ []) ≡ at kind.FuncMeets 2 ∷ []
unfolding sym_findings_computes
two_funcs = refl

two_that_touch : findings (head ∷ func 0x1000 0x10 ∷ func 0x1010 0x10 ∷ []) ≡ []
unfolding sym_findings_computes
two_that_touch = refl

one_file : findings (head ∷ file 0 ∷ []) ≡ []
unfolding sym_findings_computes
one_file = refl
