-- Worked texts (Breakpad's symbol_files.md): how lists are spelled and read, and the first fault with its line.
use Rattle.std.proofs.Common.{◌≡◌, false, List, [], ◌∷◌, codes, Ok, Err, refl}
use Prim.Native.String.{String}
use Rattle.sym_edges.proofs.Shown.{shown}
use Rattle.sym_records.proofs.Computing.{sym_records_computes}
use Rattle.sym_records.specs.Canon.{canon_text}
use Rattle.sym_records.specs.Reading.{reading, reading_within}
use Rattle.sym_records.specs.declared.line.SymLine.{SymLine}
use Rattle.sym_records.specs.declared.line.SymLine.TheVariants as line
use Rattle.sym_rules.specs.declared.text_fault.TextKind.TheVariants as fault

-- Records as text.
spells : List SymLine → String
spells lines = shown (canon_text lines)

-- A function of three line records, with another one inlined.
abbrev example : List SymLine
example = (line.Module (record { os = codes "a"; arch = codes "b"; id = codes "c"; name = codes "d" }) ∷ line.File 0 (codes "/s/a.c") ∷ line.Origin 0 (codes "g") ∷ line.Func false 4096 32 0 (codes "_Z1fv") ∷ line.Inline 0 4 0 0 (record { address = 4100; size = 8 } ∷ []) ∷ line.Line 4096 4 3 0 ∷ line.Line 4100 8 9 0 ∷ line.Line 4108 20 4 0 ∷ [])

-- A function with an inlined one.
example_spelled : spells example ≡ "MODULE a b c d\nFILE 0 /s/a.c\nINLINE_ORIGIN 0 g\nFUNC 1000 20 0 _Z1fv\nINLINE 0 4 0 0 1004 8\n1000 4 3 0\n1004 8 9 0\n100c 14 4 0\n"
unfolding sym_records_computes shown spells
example_spelled = refl

example_read : reading (codes "MODULE a b c d\nFILE 0 /s/a.c\nINLINE_ORIGIN 0 g\nFUNC 1000 20 0 _Z1fv\nINLINE 0 4 0 0 1004 8\n1000 4 3 0\n1004 8 9 0\n100c 14 4 0\n") ≡ Ok example
unfolding sym_records_computes
example_read = refl

-- The last LF may be missing, and blank lines are counted.
no_last_lf : reading (codes "\n \r\nMODULE a b c d\r\n\nINFO x") ≡ Ok (line.Module (record { os = codes "a"; arch = codes "b"; id = codes "c"; name = codes "d" }) ∷ line.Info (codes "x") ∷ [])
unfolding sym_records_computes
no_last_lf = refl

-- Nothing that counts.
empty : reading (codes "\n \r\n") ≡ Err (record { kind = fault.Empty; line = 1 })
unfolding sym_records_computes
empty = refl

empty_text : reading (codes "") ≡ Err (record { kind = fault.Empty; line = 1 })
unfolding sym_records_computes
empty_text = refl

-- The first line that counts is no MODULE.
no_module : reading (codes "\nINFO x\n") ≡ Err (record { kind = fault.NoModule; line = 2 })
unfolding sym_records_computes
no_module = refl

no_module_windows : reading (codes "STACK WIN 4\n") ≡ Err (record { kind = fault.NoModule; line = 1 })
unfolding sym_records_computes
no_module_windows = refl

no_module_unknown : reading (codes "WHAT\n") ≡ Err (record { kind = fault.NoModule; line = 1 })
unfolding sym_records_computes
no_module_unknown = refl

module_bad : reading (codes "MODULE x\n") ≡ Err (record { kind = fault.Fields; line = 1 })
unfolding sym_records_computes
module_bad = refl

-- A second MODULE.
second_module : reading (codes "MODULE a b c d\nMODULE a b c d\n") ≡ Err (record { kind = fault.Misplaced; line = 2 })
unfolding sym_records_computes
second_module = refl

-- A line record after PUBLIC.
line_misplaced : reading (codes "MODULE a b c d\nPUBLIC 0 0 a\n\n0 1 1 0\n") ≡ Err (record { kind = fault.Misplaced; line = 4 })
unfolding sym_records_computes
line_misplaced = refl

-- STACK CFI after FUNC.
change_misplaced : reading (codes "MODULE a b c d\nFUNC 0 1 0 a\nSTACK CFI 0 .cfa: 1\n") ≡ Err (record { kind = fault.Misplaced; line = 3 })
unfolding sym_records_computes
change_misplaced = refl

-- Fields before places.
fields_first : reading (codes "MODULE a b c d\n0 1 x 0\n") ≡ Err (record { kind = fault.Decimal; line = 2 })
unfolding sym_records_computes
fields_first = refl

-- Windows.
windows : reading (codes "MODULE a b c d\nSTACK WIN 4\n") ≡ Err (record { kind = fault.Windows; line = 2 })
unfolding sym_records_computes
windows = refl

-- A line past the limit, its CRs counted.
long_line : reading_within 14 (codes "MODULE a b c d\nINFO 123456789\nINFO 12345678\r\r\n") ≡ Err (record { kind = fault.LongLine; line = 3 })
unfolding sym_records_computes
long_line = refl

-- And one at the limit.
at_limit : reading_within 14 (codes "MODULE a b c d\nINFO 123456789\n") ≡ Ok (line.Module (record { os = codes "a"; arch = codes "b"; id = codes "c"; name = codes "d" }) ∷ line.Info (codes "123456789") ∷ [])
unfolding sym_records_computes
at_limit = refl

-- Before there is a MODULE too.
long_first : reading_within 3 (codes "WHAT\n") ≡ Err (record { kind = fault.LongLine; line = 1 })
unfolding sym_records_computes
long_first = refl
