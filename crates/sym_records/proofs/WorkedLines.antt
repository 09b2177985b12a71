-- Worked examples of lines (Breakpad's symbol_files.md): how records are spelled, and how lines are
-- read.
use Rattle.std.proofs.Common.{◌≡◌, pos, true, false, [], ◌∷◌, codes, Option, Some, None, Result, Ok, Err, refl}
use Prim.Native.String.{String}
use Rattle.sym_edges.proofs.Shown.{shown}
use Rattle.sym_records.proofs.Computing.{sym_records_computes}
use Rattle.sym_records.specs.Canon.{canon}
use Rattle.sym_records.specs.Text.{line_read}
use Rattle.sym_records.specs.declared.line.SymLine.{SymLine}
use Rattle.sym_records.specs.declared.line.SymLine.TheVariants as line
use Rattle.sym_rules.specs.declared.rules.Target.TheVariants as target
use Rattle.sym_rules.specs.declared.rules.Token.TheVariants as token
use Rattle.sym_rules.specs.declared.text_fault.TextKind.{TextKind}
use Rattle.sym_rules.specs.declared.text_fault.TextKind.TheVariants as fault

-- The spelling of a record as a text.
spells : SymLine → String
spells s = shown (canon s)

-- What is read from a line.
abbrev reads : String → Result (Option SymLine) TextKind
reads text = line_read (codes text)

-- Each kind of record.
module_spelled : spells (line.Module (record { os = codes "Linux"; arch = codes "x86_64"; id = codes "030201000504070608090A0B0C0D0E0F0"; name = codes "a.out" })) ≡ "MODULE Linux x86_64 030201000504070608090A0B0C0D0E0F0 a.out\n"
unfolding sym_records_computes shown spells
module_spelled = refl

module_read : reads "MODULE Linux x86_64 030201000504070608090A0B0C0D0E0F0 a.out" ≡ Ok (Some (line.Module (record { os = codes "Linux"; arch = codes "x86_64"; id = codes "030201000504070608090A0B0C0D0E0F0"; name = codes "a.out" })))
unfolding sym_records_computes
module_read = refl

info_spelled : spells (line.Info (codes "CODE_ID 000102030405060708090A0B0C0D0E0F10111213")) ≡ "INFO CODE_ID 000102030405060708090A0B0C0D0E0F10111213\n"
unfolding sym_records_computes shown spells
info_spelled = refl

info_read : reads "INFO CODE_ID 000102030405060708090A0B0C0D0E0F10111213" ≡ Ok (Some (line.Info (codes "CODE_ID 000102030405060708090A0B0C0D0E0F10111213")))
unfolding sym_records_computes
info_read = refl

file_spelled : spells (line.File 0 (codes "/s/a.c")) ≡ "FILE 0 /s/a.c\n"
unfolding sym_records_computes shown spells
file_spelled = refl

file_read : reads "FILE 0 /s/a.c" ≡ Ok (Some (line.File 0 (codes "/s/a.c")))
unfolding sym_records_computes
file_read = refl

origin_spelled : spells (line.Origin 7 (codes "g")) ≡ "INLINE_ORIGIN 7 g\n"
unfolding sym_records_computes shown spells
origin_spelled = refl

origin_read : reads "INLINE_ORIGIN 7 g" ≡ Ok (Some (line.Origin 7 (codes "g")))
unfolding sym_records_computes
origin_read = refl

func_spelled : spells (line.Func false 4096 32 0 (codes "_Z1fv")) ≡ "FUNC 1000 20 0 _Z1fv\n"
unfolding sym_records_computes shown spells
func_spelled = refl

func_read : reads "FUNC 1000 20 0 _Z1fv" ≡ Ok (Some (line.Func false 4096 32 0 (codes "_Z1fv")))
unfolding sym_records_computes
func_read = refl

func_marked_spelled : spells (line.Func true 4096 32 8 (codes "_Z1fv")) ≡ "FUNC m 1000 20 8 _Z1fv\n"
unfolding sym_records_computes shown spells
func_marked_spelled = refl

func_marked_read : reads "FUNC m 1000 20 8 _Z1fv" ≡ Ok (Some (line.Func true 4096 32 8 (codes "_Z1fv")))
unfolding sym_records_computes
func_marked_read = refl

inline_spelled : spells (line.Inline 0 4 0 0 (record { address = 4100; size = 8 } ∷ [])) ≡ "INLINE 0 4 0 0 1004 8\n"
unfolding sym_records_computes shown spells
inline_spelled = refl

inline_read : reads "INLINE 0 4 0 0 1004 8" ≡ Ok (Some (line.Inline 0 4 0 0 (record { address = 4100; size = 8 } ∷ [])))
unfolding sym_records_computes
inline_read = refl

inline_three_spelled : spells (line.Inline 1 4 2 3 (record { address = 4100; size = 8 } ∷ record { address = 8192; size = 16 } ∷ record { address = 0; size = 1 } ∷ [])) ≡ "INLINE 1 4 2 3 1004 8 2000 10 0 1\n"
unfolding sym_records_computes shown spells
inline_three_spelled = refl

inline_three_read : reads "INLINE 1 4 2 3 1004 8 2000 10 0 1" ≡ Ok (Some (line.Inline 1 4 2 3 (record { address = 4100; size = 8 } ∷ record { address = 8192; size = 16 } ∷ record { address = 0; size = 1 } ∷ [])))
unfolding sym_records_computes
inline_three_read = refl

line_record_spelled : spells (line.Line 4100 8 9 0) ≡ "1004 8 9 0\n"
unfolding sym_records_computes shown spells
line_record_spelled = refl

line_record_read : reads "1004 8 9 0" ≡ Ok (Some (line.Line 4100 8 9 0))
unfolding sym_records_computes
line_record_read = refl

public_spelled : spells (line.Public false 4096 0 (codes "main")) ≡ "PUBLIC 1000 0 main\n"
unfolding sym_records_computes shown spells
public_spelled = refl

public_read : reads "PUBLIC 1000 0 main" ≡ Ok (Some (line.Public false 4096 0 (codes "main")))
unfolding sym_records_computes
public_read = refl

public_marked_spelled : spells (line.Public true 4104 0 (codes "b")) ≡ "PUBLIC m 1008 0 b\n"
unfolding sym_records_computes shown spells
public_marked_spelled = refl

public_marked_read : reads "PUBLIC m 1008 0 b" ≡ Ok (Some (line.Public true 4104 0 (codes "b")))
unfolding sym_records_computes
public_marked_read = refl

init_spelled : spells (line.Init 4096 32 (record { target = target.Cfa; tokens = token.Reg 7 ∷ token.Number (pos 8) ∷ token.Add ∷ [] } ∷ [])) ≡ "STACK CFI INIT 1000 20 .cfa: $rsp 8 +\n"
unfolding sym_records_computes shown spells
init_spelled = refl

init_read : reads "STACK CFI INIT 1000 20 .cfa: $rsp 8 +" ≡ Ok (Some (line.Init 4096 32 (record { target = target.Cfa; tokens = token.Reg 7 ∷ token.Number (pos 8) ∷ token.Add ∷ [] } ∷ [])))
unfolding sym_records_computes
init_read = refl

change_spelled : spells (line.Change 4105 (record { target = target.Reg 6; tokens = token.Reg 6 ∷ [] } ∷ [])) ≡ "STACK CFI 1009 $rbp: $rbp\n"
unfolding sym_records_computes shown spells
change_spelled = refl

change_read : reads "STACK CFI 1009 $rbp: $rbp" ≡ Ok (Some (line.Change 4105 (record { target = target.Reg 6; tokens = token.Reg 6 ∷ [] } ∷ [])))
unfolding sym_records_computes
change_read = refl

-- The least and the greatest numbers.
file_least_spelled : spells (line.File 0 (codes "a")) ≡ "FILE 0 a\n"
unfolding sym_records_computes shown spells
file_least_spelled = refl

file_least_read : reads "FILE 0 a" ≡ Ok (Some (line.File 0 (codes "a")))
unfolding sym_records_computes
file_least_read = refl

file_greatest_spelled : spells (line.File 4294967295 (codes "a")) ≡ "FILE 4294967295 a\n"
unfolding sym_records_computes shown spells
file_greatest_spelled = refl

file_greatest_read : reads "FILE 4294967295 a" ≡ Ok (Some (line.File 4294967295 (codes "a")))
unfolding sym_records_computes
file_greatest_read = refl

line_greatest_spelled : spells (line.Line 18446744073709551615 18446744073709551615 4294967295 4294967295) ≡ "ffffffffffffffff ffffffffffffffff 4294967295 4294967295\n"
unfolding sym_records_computes shown spells
line_greatest_spelled = refl

line_greatest_read : reads "ffffffffffffffff ffffffffffffffff 4294967295 4294967295" ≡ Ok (Some (line.Line 18446744073709551615 18446744073709551615 4294967295 4294967295))
unfolding sym_records_computes
line_greatest_read = refl

line_least_spelled : spells (line.Line 0 0 0 0) ≡ "0 0 0 0\n"
unfolding sym_records_computes shown spells
line_least_spelled = refl

line_least_read : reads "0 0 0 0" ≡ Ok (Some (line.Line 0 0 0 0))
unfolding sym_records_computes
line_least_read = refl

-- A name with spaces and CRs inside and spaces at its end.
name_kept_spelled : spells (line.Public false 0 0 (codes "\ra\r b ")) ≡ "PUBLIC 0 0 \ra\r b \n"
unfolding sym_records_computes shown spells
name_kept_spelled = refl

name_kept_read : reads "PUBLIC 0 0 \ra\r b " ≡ Ok (Some (line.Public false 0 0 (codes "\ra\r b ")))
unfolding sym_records_computes
name_kept_read = refl

-- Additional spaces, and CRs at the end.
lenient_func : reads "  FUNC   m  1000 2f  0  main of  \r" ≡ Ok (Some (line.Func true 4096 47 0 (codes "main of  ")))
unfolding sym_records_computes
lenient_func = refl

lenient_line : reads " 1000  10 5 1 \r \r" ≡ Ok (Some (line.Line 4096 16 5 1))
unfolding sym_records_computes
lenient_line = refl

lenient_inline : reads "INLINE 0 4 0 0 1004 8 \r" ≡ Ok (Some (line.Inline 0 4 0 0 (record { address = 4100; size = 8 } ∷ [])))
unfolding sym_records_computes
lenient_inline = refl

-- CRs and spaces after a name that other bytes follow belong to the name.
name_with_cr : reads "FILE 1 a\r " ≡ Ok (Some (line.File 1 (codes "a\r ")))
unfolding sym_records_computes
name_with_cr = refl

-- Hexadecimal digits in either case, sixteen of them.
sixteen_digits : reads "PUBLIC 00000000DeadBEEF 0 a" ≡ Ok (Some (line.Public false 3735928559 0 (codes "a")))
unfolding sym_records_computes
sixteen_digits = refl

-- Twenty decimal digits.
twenty_digits : reads "FILE 00000000000000000001 a" ≡ Ok (Some (line.File 1 (codes "a")))
unfolding sym_records_computes
twenty_digits = refl

-- A line whose first word has only hexadecimal digits is a line record.
hexadecimal_word : reads "FADE 1 2 3" ≡ Ok (Some (line.Line 64222 1 2 3))
unfolding sym_records_computes
hexadecimal_word = refl

-- A blank line has no record.
blank : reads " \r \r" ≡ Ok None
unfolding sym_records_computes
blank = refl

-- Unknown keywords.
unknown : reads "FUNCTION 0 1 0 a" ≡ Err fault.Unknown
unfolding sym_records_computes
unknown = refl

other_stack : reads "STACK X" ≡ Err fault.Unknown
unfolding sym_records_computes
other_stack = refl

stack_alone : reads "STACK" ≡ Err fault.Unknown
unfolding sym_records_computes
stack_alone = refl

-- CR directly after a keyword belongs to its word.
file_cr : reads "FILE\r " ≡ Err fault.Unknown
unfolding sym_records_computes
file_cr = refl

change_cr : reads "STACK CFI\r " ≡ Err fault.Unknown
unfolding sym_records_computes
change_cr = refl

-- CR instead of a number.
init_cr : reads "STACK CFI INIT\r " ≡ Err fault.Hex
unfolding sym_records_computes
init_cr = refl

-- A frame record of Windows.
windows : reads "STACK WIN 4" ≡ Err fault.Windows
unfolding sym_records_computes
windows = refl

-- The first wrong field decides the fault.
func_hex : reads "FUNC x" ≡ Err fault.Hex
unfolding sym_records_computes
func_hex = refl

func_fields : reads "FUNC 10 4 0" ≡ Err fault.Fields
unfolding sym_records_computes
func_fields = refl

func_marked_hex : reads "FUNC m x" ≡ Err fault.Hex
unfolding sym_records_computes
func_marked_hex = refl

module_fields : reads "MODULE x" ≡ Err fault.Fields
unfolding sym_records_computes
module_fields = refl

info_fields : reads "INFO " ≡ Err fault.Fields
unfolding sym_records_computes
info_fields = refl

file_decimal : reads "FILE x" ≡ Err fault.Decimal
unfolding sym_records_computes
file_decimal = refl

file_fields : reads "FILE 1" ≡ Err fault.Fields
unfolding sym_records_computes
file_fields = refl

-- An INLINE without a range, with half a range, and with a bad one.
inline_none : reads "INLINE 0 4 0 0" ≡ Err fault.Fields
unfolding sym_records_computes
inline_none = refl

inline_odd : reads "INLINE 0 4 0 0 1004 8 20" ≡ Err fault.Fields
unfolding sym_records_computes
inline_odd = refl

inline_hex : reads "INLINE 0 4 0 0 1004 8 x" ≡ Err fault.Hex
unfolding sym_records_computes
inline_hex = refl

-- A line record with too few fields, too many, and a bad one.
line_few : reads "1000 10 5" ≡ Err fault.Fields
unfolding sym_records_computes
line_few = refl

line_many : reads "1000 10 5 1 1" ≡ Err fault.Fields
unfolding sym_records_computes
line_many = refl

line_hex : reads "1000 g 5 1" ≡ Err fault.Hex
unfolding sym_records_computes
line_hex = refl

line_decimal : reads "1000 10 5 a" ≡ Err fault.Decimal
unfolding sym_records_computes
line_decimal = refl

-- Seventeen hexadecimal digits.
seventeen_digits : reads "12345678901234567 1 1 1" ≡ Err fault.Hex
unfolding sym_records_computes
seventeen_digits = refl

seventeen_zeros : reads "PUBLIC 00000000000000000 0 a" ≡ Err fault.Hex
unfolding sym_records_computes
seventeen_zeros = refl

-- A decimal number of 2^32, and one of 21 digits.
past_u32 : reads "FILE 4294967296 a" ≡ Err fault.Decimal
unfolding sym_records_computes
past_u32 = refl

past_u32_last : reads "1 1 1 4294967296" ≡ Err fault.Decimal
unfolding sym_records_computes
past_u32_last = refl

many_digits : reads "FILE 000000000000000000001 a" ≡ Err fault.Decimal
unfolding sym_records_computes
many_digits = refl

-- A number with a sign.
with_sign : reads "FILE +1 a" ≡ Err fault.Decimal
unfolding sym_records_computes
with_sign = refl

-- A missing address or size, and missing or bad rules.
no_address : reads "STACK CFI" ≡ Err fault.Fields
unfolding sym_records_computes
no_address = refl

no_size : reads "STACK CFI INIT 10" ≡ Err fault.Fields
unfolding sym_records_computes
no_size = refl

bad_address : reads "STACK CFI x .cfa: 1" ≡ Err fault.Hex
unfolding sym_records_computes
bad_address = refl

no_rules : reads "STACK CFI 1000" ≡ Err fault.Rule
unfolding sym_records_computes
no_rules = refl

no_rules_init : reads "STACK CFI INIT 1000 20" ≡ Err fault.Rule
unfolding sym_records_computes
no_rules_init = refl

bad_rules : reads "STACK CFI 0 .cfa: .ra: 1" ≡ Err fault.Rule
unfolding sym_records_computes
bad_rules = refl
