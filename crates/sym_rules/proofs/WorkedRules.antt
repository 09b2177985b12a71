-- Worked examples of frame rules (Breakpad's symbol_files.md): how they are spelled and read, and
-- which a line can spell.
use Rattle.std.proofs.Common.{◌≡◌, pos, negsuc, true, false, List, [], ◌∷◌, codes, Ok, Err, refl}
use Prim.Native.String.{String}
use Rattle.sym_rules.proofs.Computing.{sym_rules_computes}
use Rattle.sym_edges.proofs.Shown.{shown}
use Rattle.sym_rules.specs.Rules.{spelled_rules}
use Rattle.sym_rules.specs.RuleReading.{rules_at}
use Rattle.sym_rules.specs.RuleValidity.{are_rules}
use Rattle.sym_rules.specs.declared.rules.RuleText.{RuleText}
use Rattle.sym_rules.specs.declared.rules.Target.TheVariants as target
use Rattle.sym_rules.specs.declared.rules.Token.TheVariants as token
use Rattle.sym_rules.specs.declared.text_fault.TextKind.TheVariants as fault

-- The spelling of rules as a text.
spells : List RuleText → String
spells rules = shown (spelled_rules rules)

-- The rules at the first instruction of a function.
at_entry_spelled : spells (record { target = target.Cfa; tokens = token.Reg 7 ∷ token.Number (pos 8) ∷ token.Add ∷ [] } ∷ record { target = target.Ra; tokens = token.Cfa ∷ token.Number (negsuc 7) ∷ token.Add ∷ token.Fetch ∷ [] } ∷ []) ≡ " .cfa: $rsp 8 + .ra: .cfa -8 + ^"
unfolding sym_rules_computes shown spells
at_entry_spelled = refl

at_entry_read : rules_at (codes " .cfa: $rsp 8 + .ra: .cfa -8 + ^") ≡ Ok (record { target = target.Cfa; tokens = token.Reg 7 ∷ token.Number (pos 8) ∷ token.Add ∷ [] } ∷ record { target = target.Ra; tokens = token.Cfa ∷ token.Number (negsuc 7) ∷ token.Add ∷ token.Fetch ∷ [] } ∷ [])
unfolding sym_rules_computes
at_entry_read = refl

at_entry_good : are_rules (record { target = target.Cfa; tokens = token.Reg 7 ∷ token.Number (pos 8) ∷ token.Add ∷ [] } ∷ record { target = target.Ra; tokens = token.Cfa ∷ token.Number (negsuc 7) ∷ token.Add ∷ token.Fetch ∷ [] } ∷ []) ≡ true
unfolding sym_rules_computes
at_entry_good = refl

-- The changes after $rbp was pushed.
pushed_spelled : spells (record { target = target.Cfa; tokens = token.Reg 7 ∷ token.Number (pos 16) ∷ token.Add ∷ [] } ∷ record { target = (target.Reg 6); tokens = token.Cfa ∷ token.Number (negsuc 15) ∷ token.Add ∷ token.Fetch ∷ [] } ∷ []) ≡ " .cfa: $rsp 16 + $rbp: .cfa -16 + ^"
unfolding sym_rules_computes shown spells
pushed_spelled = refl

pushed_read : rules_at (codes " .cfa: $rsp 16 + $rbp: .cfa -16 + ^") ≡ Ok (record { target = target.Cfa; tokens = token.Reg 7 ∷ token.Number (pos 16) ∷ token.Add ∷ [] } ∷ record { target = (target.Reg 6); tokens = token.Cfa ∷ token.Number (negsuc 15) ∷ token.Add ∷ token.Fetch ∷ [] } ∷ [])
unfolding sym_rules_computes
pushed_read = refl

pushed_good : are_rules (record { target = target.Cfa; tokens = token.Reg 7 ∷ token.Number (pos 16) ∷ token.Add ∷ [] } ∷ record { target = (target.Reg 6); tokens = token.Cfa ∷ token.Number (negsuc 15) ∷ token.Add ∷ token.Fetch ∷ [] } ∷ []) ≡ true
unfolding sym_rules_computes
pushed_good = refl

-- The change after $rbp was popped.
popped_spelled : spells (record { target = (target.Reg 6); tokens = token.Reg 6 ∷ [] } ∷ []) ≡ " $rbp: $rbp"
unfolding sym_rules_computes shown spells
popped_spelled = refl

popped_read : rules_at (codes " $rbp: $rbp") ≡ Ok (record { target = (target.Reg 6); tokens = token.Reg 6 ∷ [] } ∷ [])
unfolding sym_rules_computes
popped_read = refl

popped_good : are_rules (record { target = (target.Reg 6); tokens = token.Reg 6 ∷ [] } ∷ []) ≡ true
unfolding sym_rules_computes
popped_good = refl

-- Names that have no variant at this place.
other_places_spelled : spells (record { target = (target.Other (codes ".undef")); tokens = token.Other (codes ".ra") ∷ token.Undef ∷ [] } ∷ []) ≡ " .undef: .ra .undef"
unfolding sym_rules_computes shown spells
other_places_spelled = refl

other_places_read : rules_at (codes " .undef: .ra .undef") ≡ Ok (record { target = (target.Other (codes ".undef")); tokens = token.Other (codes ".ra") ∷ token.Undef ∷ [] } ∷ [])
unfolding sym_rules_computes
other_places_read = refl

other_places_good : are_rules (record { target = (target.Other (codes ".undef")); tokens = token.Other (codes ".ra") ∷ token.Undef ∷ [] } ∷ []) ≡ true
unfolding sym_rules_computes
other_places_good = refl

-- Names without a variant of their own.
own_names_spelled : spells (record { target = (target.Other (codes "$xmm0")); tokens = token.Other (codes "T:0") ∷ [] } ∷ []) ≡ " $xmm0: T:0"
unfolding sym_rules_computes shown spells
own_names_spelled = refl

own_names_read : rules_at (codes " $xmm0: T:0") ≡ Ok (record { target = (target.Other (codes "$xmm0")); tokens = token.Other (codes "T:0") ∷ [] } ∷ [])
unfolding sym_rules_computes
own_names_read = refl

own_names_good : are_rules (record { target = (target.Other (codes "$xmm0")); tokens = token.Other (codes "T:0") ∷ [] } ∷ []) ≡ true
unfolding sym_rules_computes
own_names_good = refl

-- The least and the greatest integer of 64 bits.
far_integers_spelled : spells (record { target = target.Cfa; tokens = token.Number (negsuc 9223372036854775807) ∷ token.Number (pos 9223372036854775807) ∷ token.Add ∷ [] } ∷ []) ≡ " .cfa: -9223372036854775808 9223372036854775807 +"
unfolding sym_rules_computes shown spells
far_integers_spelled = refl

far_integers_read : rules_at (codes " .cfa: -9223372036854775808 9223372036854775807 +") ≡ Ok (record { target = target.Cfa; tokens = token.Number (negsuc 9223372036854775807) ∷ token.Number (pos 9223372036854775807) ∷ token.Add ∷ [] } ∷ [])
unfolding sym_rules_computes
far_integers_read = refl

far_integers_good : are_rules (record { target = target.Cfa; tokens = token.Number (negsuc 9223372036854775807) ∷ token.Number (pos 9223372036854775807) ∷ token.Add ∷ [] } ∷ []) ≡ true
unfolding sym_rules_computes
far_integers_good = refl

-- Each operator.
signs_spelled : spells (record { target = (target.Reg 15); tokens = token.Number (pos 0) ∷ token.Number (negsuc 0) ∷ token.Sub ∷ token.Mul ∷ token.Div ∷ token.Rem ∷ token.Align ∷ token.Fetch ∷ [] } ∷ []) ≡ " $r15: 0 -1 - * / % @ ^"
unfolding sym_rules_computes shown spells
signs_spelled = refl

signs_read : rules_at (codes " $r15: 0 -1 - * / % @ ^") ≡ Ok (record { target = (target.Reg 15); tokens = token.Number (pos 0) ∷ token.Number (negsuc 0) ∷ token.Sub ∷ token.Mul ∷ token.Div ∷ token.Rem ∷ token.Align ∷ token.Fetch ∷ [] } ∷ [])
unfolding sym_rules_computes
signs_read = refl

signs_good : are_rules (record { target = (target.Reg 15); tokens = token.Number (pos 0) ∷ token.Number (negsuc 0) ∷ token.Sub ∷ token.Mul ∷ token.Div ∷ token.Rem ∷ token.Align ∷ token.Fetch ∷ [] } ∷ []) ≡ true
unfolding sym_rules_computes
signs_good = refl

-- The first eight registers.
low_registers_spelled : spells (record { target = (target.Reg 0); tokens = token.Reg 1 ∷ token.Reg 2 ∷ token.Reg 3 ∷ token.Reg 4 ∷ [] } ∷ []) ≡ " $rax: $rdx $rcx $rbx $rsi"
unfolding sym_rules_computes shown spells
low_registers_spelled = refl

low_registers_read : rules_at (codes " $rax: $rdx $rcx $rbx $rsi") ≡ Ok (record { target = (target.Reg 0); tokens = token.Reg 1 ∷ token.Reg 2 ∷ token.Reg 3 ∷ token.Reg 4 ∷ [] } ∷ [])
unfolding sym_rules_computes
low_registers_read = refl

low_registers_good : are_rules (record { target = (target.Reg 0); tokens = token.Reg 1 ∷ token.Reg 2 ∷ token.Reg 3 ∷ token.Reg 4 ∷ [] } ∷ []) ≡ true
unfolding sym_rules_computes
low_registers_good = refl

-- The last eight registers.
high_registers_spelled : spells (record { target = (target.Reg 5); tokens = token.Reg 8 ∷ token.Reg 9 ∷ token.Reg 10 ∷ token.Reg 11 ∷ token.Reg 12 ∷ token.Reg 13 ∷ token.Reg 14 ∷ [] } ∷ []) ≡ " $rdi: $r8 $r9 $r10 $r11 $r12 $r13 $r14"
unfolding sym_rules_computes shown spells
high_registers_spelled = refl

high_registers_read : rules_at (codes " $rdi: $r8 $r9 $r10 $r11 $r12 $r13 $r14") ≡ Ok (record { target = (target.Reg 5); tokens = token.Reg 8 ∷ token.Reg 9 ∷ token.Reg 10 ∷ token.Reg 11 ∷ token.Reg 12 ∷ token.Reg 13 ∷ token.Reg 14 ∷ [] } ∷ [])
unfolding sym_rules_computes
high_registers_read = refl

high_registers_good : are_rules (record { target = (target.Reg 5); tokens = token.Reg 8 ∷ token.Reg 9 ∷ token.Reg 10 ∷ token.Reg 11 ∷ token.Reg 12 ∷ token.Reg 13 ∷ token.Reg 14 ∷ [] } ∷ []) ≡ true
unfolding sym_rules_computes
high_registers_good = refl

-- CRs inside of the rules.
cr_inside_spelled : spells (record { target = (target.Other (codes "a\r")); tokens = token.Other (codes "b\r") ∷ token.Number (pos 1) ∷ [] } ∷ []) ≡ " a\r: b\r 1"
unfolding sym_rules_computes shown spells
cr_inside_spelled = refl

cr_inside_read : rules_at (codes " a\r: b\r 1") ≡ Ok (record { target = (target.Other (codes "a\r")); tokens = token.Other (codes "b\r") ∷ token.Number (pos 1) ∷ [] } ∷ [])
unfolding sym_rules_computes
cr_inside_read = refl

cr_inside_good : are_rules (record { target = (target.Other (codes "a\r")); tokens = token.Other (codes "b\r") ∷ token.Number (pos 1) ∷ [] } ∷ []) ≡ true
unfolding sym_rules_computes
cr_inside_good = refl

-- More than one space between words, and spaces at the end.
more_spaces : rules_at (codes "   $rbp:  $rbp  ") ≡ Ok (record { target = (target.Reg 6); tokens = token.Reg 6 ∷ [] } ∷ [])
unfolding sym_rules_computes
more_spaces = refl

-- Leading zeros.
zeros : rules_at (codes " .cfa: 007") ≡ Ok (record { target = target.Cfa; tokens = token.Number (pos 7) ∷ [] } ∷ [])
unfolding sym_rules_computes
zeros = refl

-- There are no rules.
no_rules : rules_at (codes "") ≡ Err fault.Rule
unfolding sym_rules_computes
no_rules = refl

-- A rule without tokens.
no_tokens : rules_at (codes " .cfa: .ra: 1") ≡ Err fault.Rule
unfolding sym_rules_computes
no_tokens = refl

-- The last rule has no tokens.
last_without_tokens : rules_at (codes " .cfa: 1 .ra:") ≡ Err fault.Rule
unfolding sym_rules_computes
last_without_tokens = refl

-- A word before the first target.
no_target : rules_at (codes " 1 .cfa: 1") ≡ Err fault.Rule
unfolding sym_rules_computes
no_target = refl

-- The name of a target ends with a colon.
two_colons : rules_at (codes " a:: 1") ≡ Err fault.Rule
unfolding sym_rules_computes
two_colons = refl

-- A target without a name.
colon_alone : rules_at (codes " : 1") ≡ Err fault.Rule
unfolding sym_rules_computes
colon_alone = refl

-- A target that begins with a digit.
digit_target : rules_at (codes " 1a: 1") ≡ Err fault.Rule
unfolding sym_rules_computes
digit_target = refl

-- An integer with a plus sign.
plus_in_front : rules_at (codes " .cfa: +5") ≡ Err fault.Rule
unfolding sym_rules_computes
plus_in_front = refl

-- An integer above the greatest of 64 bits.
past_the_greatest : rules_at (codes " .cfa: 9223372036854775808") ≡ Err fault.Rule
unfolding sym_rules_computes
past_the_greatest = refl

-- An integer below the least of 64 bits.
below_the_least : rules_at (codes " .cfa: -9223372036854775809") ≡ Err fault.Rule
unfolding sym_rules_computes
below_the_least = refl

-- An integer of 21 digits.
many_digits : rules_at (codes " .cfa: 000000000000000000001") ≡ Err fault.Rule
unfolding sym_rules_computes
many_digits = refl

-- An integer with two minus signs.
two_minuses : rules_at (codes " .cfa: --1") ≡ Err fault.Rule
unfolding sym_rules_computes
two_minuses = refl

-- Two operators in one word.
two_signs : rules_at (codes " .cfa: 1 2 ++") ≡ Err fault.Rule
unfolding sym_rules_computes
two_signs = refl

-- There are no rules.
bad_nothing : are_rules [] ≡ false
unfolding sym_rules_computes
bad_nothing = refl

-- A rule without tokens.
bad_no_tokens : are_rules (record { target = target.Cfa; tokens = [] } ∷ []) ≡ false
unfolding sym_rules_computes
bad_no_tokens = refl

-- Register 16 as a target.
bad_target_register : are_rules (record { target = (target.Reg 16); tokens = token.Cfa ∷ [] } ∷ []) ≡ false
unfolding sym_rules_computes
bad_target_register = refl

-- Register 16 as a token.
bad_token_register : are_rules (record { target = target.Cfa; tokens = token.Reg 16 ∷ [] } ∷ []) ≡ false
unfolding sym_rules_computes
bad_token_register = refl

-- Names that have a variant, as `Other`.
bad_target_cfa : are_rules (record { target = (target.Other (codes ".cfa")); tokens = token.Cfa ∷ [] } ∷ []) ≡ false
unfolding sym_rules_computes
bad_target_cfa = refl

bad_target_ra : are_rules (record { target = (target.Other (codes ".ra")); tokens = token.Cfa ∷ [] } ∷ []) ≡ false
unfolding sym_rules_computes
bad_target_ra = refl

bad_target_rax : are_rules (record { target = (target.Other (codes "$rax")); tokens = token.Cfa ∷ [] } ∷ []) ≡ false
unfolding sym_rules_computes
bad_target_rax = refl

bad_token_cfa : are_rules (record { target = target.Ra; tokens = token.Other (codes ".cfa") ∷ [] } ∷ []) ≡ false
unfolding sym_rules_computes
bad_token_cfa = refl

bad_token_undef : are_rules (record { target = target.Ra; tokens = token.Other (codes ".undef") ∷ [] } ∷ []) ≡ false
unfolding sym_rules_computes
bad_token_undef = refl

bad_token_r15 : are_rules (record { target = target.Ra; tokens = token.Other (codes "$r15") ∷ [] } ∷ []) ≡ false
unfolding sym_rules_computes
bad_token_r15 = refl

-- A name that ends with a colon.
bad_target_colon : are_rules (record { target = (target.Other (codes "a:")); tokens = token.Cfa ∷ [] } ∷ []) ≡ false
unfolding sym_rules_computes
bad_target_colon = refl

bad_token_colon : are_rules (record { target = target.Ra; tokens = token.Other (codes "a:") ∷ [] } ∷ []) ≡ false
unfolding sym_rules_computes
bad_token_colon = refl

-- An empty name of a target.
bad_target_empty : are_rules (record { target = (target.Other (codes "")); tokens = token.Cfa ∷ [] } ∷ []) ≡ false
unfolding sym_rules_computes
bad_target_empty = refl

-- A token that begins with a digit.
bad_token_digit : are_rules (record { target = target.Ra; tokens = token.Other (codes "1a") ∷ [] } ∷ []) ≡ false
unfolding sym_rules_computes
bad_token_digit = refl

-- A name with a space, and one with LF.
bad_space : are_rules (record { target = target.Ra; tokens = token.Other (codes "a b") ∷ [] } ∷ []) ≡ false
unfolding sym_rules_computes
bad_space = refl

bad_lf : are_rules (record { target = (target.Other (codes "a\n")); tokens = token.Cfa ∷ [] } ∷ []) ≡ false
unfolding sym_rules_computes
bad_lf = refl

-- CR at the end of the line.
bad_cr : are_rules (record { target = target.Ra; tokens = token.Other (codes "a\r") ∷ [] } ∷ []) ≡ false
unfolding sym_rules_computes
bad_cr = refl
