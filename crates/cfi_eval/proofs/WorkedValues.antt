-- Worked examples of the values of rules (Breakpad's symbol_files.md, "STACK CFI"): each operator,
-- each failure, names, and words of memory.
use Rattle.std.proofs.Common.{◌≡◌, ◌^◌, ◌-◌, ◌+◌, lit<, ◌∙◌, List, [], ◌∷◌, ◌++◌, codes, replicate, Option, Some, None, Result, Ok, refl}
use Prim.Native.String.{String}
use lib.Count.{ones, ones_cat}
use Rattle.sym_rules.specs.RuleReading.{rules_at}
use Rattle.sym_rules.specs.declared.rules.RuleText.{RuleText}
use Rattle.sym_rules.specs.declared.rules.Token.{Token}
use Rattle.sym_rules.specs.declared.text_fault.TextKind.{TextKind}
use Rattle.cfi_eval.proofs.Computing.{cfi_eval_computes}
use Rattle.cfi_eval.specs.declared.registers.Regs.{Regs}
use Rattle.cfi_eval.specs.declared.memory.MemRun.{MemRun}
use Rattle.cfi_eval.specs.declared.outcome.Cause.TheVariants.{Missing, Unreadable, Divide, Align, Stack, UnknownName, NoCfa}
use Rattle.cfi_eval.specs.declared.outcome.Outcome.{Outcome}
use Rattle.cfi_eval.specs.declared.outcome.Outcome.TheVariants.{Value, Undefined, Failed}
use Rattle.cfi_eval.specs.Bytes.{byte_at, word_at}
use Rattle.cfi_eval.specs.Postfix.{multiple_of, rule_value}

-- The words of the first rule in a text.
abbrev tokens_in : Result (List RuleText) TextKind → List Token
tokens_in (Ok (rule ∷ rules)) = rule.tokens
tokens_in _ = []

-- No register has a value; only rbx and rip have one.
abbrev none_known : Regs
none_known = record { values = replicate 16 None; rip = None }

abbrev some_known : Regs
some_known = record { values = None ∷ None ∷ None ∷ Some 0x2000 ∷ replicate 12 None; rip = Some 0x401000 }

-- Eight bytes at 1000, and the last eight bytes below 2^64.
abbrev known : List MemRun
known =
    record { start = 0x1000; bytes = 0x40 ∷ 0x00 ∷ 0xfe ∷ 0x7f ∷ 0 ∷ 0 ∷ 0 ∷ 0x80 ∷ [] }
    ∷ record { start = 0xfffffffffffffff8; bytes = 1 ∷ 2 ∷ 3 ∷ 4 ∷ 5 ∷ 6 ∷ 7 ∷ 8 ∷ [] }
    ∷ []

-- The value of the words in a text, for a CFA of 7ffe0020 or another one.
value_by : Regs → Option Outcome → String → Outcome
unfolding cfi_eval_computes
value_by regs cfa words = rule_value regs known cfa (tokens_in (rules_at (codes ".ra: " ++ codes words)))

value : String → Outcome
value words = value_by some_known (Some (Value 0x7ffe0020)) words

-- Each operator with two values.
sum_row : value "4 3 +" ≡ Value 7
unfolding cfi_eval_computes value value_by
sum_row = refl

difference_row : value "4 3 -" ≡ Value 1
unfolding cfi_eval_computes value value_by
difference_row = refl

product_row : value "4 3 *" ≡ Value 12
unfolding cfi_eval_computes value value_by
product_row = refl

quotient_row : value "7 2 /" ≡ Value 3
unfolding cfi_eval_computes value value_by
quotient_row = refl

remainder_row : value "7 2 %" ≡ Value 1
unfolding cfi_eval_computes value value_by
remainder_row = refl

multiple_row : value "1023 16 @" ≡ Value 0x3f0
unfolding cfi_eval_computes value value_by
multiple_row = refl

-- Operators are applied from left to right.
order_row : value "16 4 2 - -" ≡ Value 14
unfolding cfi_eval_computes value value_by
order_row = refl

left_first_row : value "16 4 - 2 -" ≡ Value 10
unfolding cfi_eval_computes value value_by
left_first_row = refl

-- Operators with too few values.
sum_of_none_row : value "+" ≡ Failed Stack
unfolding cfi_eval_computes value value_by
sum_of_none_row = refl

sum_of_one_row : value "1 +" ≡ Failed Stack
unfolding cfi_eval_computes value value_by
sum_of_one_row = refl

difference_of_none_row : value "-" ≡ Failed Stack
unfolding cfi_eval_computes value value_by
difference_of_none_row = refl

difference_of_one_row : value "1 -" ≡ Failed Stack
unfolding cfi_eval_computes value value_by
difference_of_one_row = refl

product_of_none_row : value "*" ≡ Failed Stack
unfolding cfi_eval_computes value value_by
product_of_none_row = refl

product_of_one_row : value "1 *" ≡ Failed Stack
unfolding cfi_eval_computes value value_by
product_of_one_row = refl

quotient_of_none_row : value "/" ≡ Failed Stack
unfolding cfi_eval_computes value value_by
quotient_of_none_row = refl

quotient_of_one_row : value "1 /" ≡ Failed Stack
unfolding cfi_eval_computes value value_by
quotient_of_one_row = refl

remainder_of_none_row : value "%" ≡ Failed Stack
unfolding cfi_eval_computes value value_by
remainder_of_none_row = refl

remainder_of_one_row : value "1 %" ≡ Failed Stack
unfolding cfi_eval_computes value value_by
remainder_of_one_row = refl

multiple_of_none_row : value "@" ≡ Failed Stack
unfolding cfi_eval_computes value value_by
multiple_of_none_row = refl

multiple_of_one_row : value "1 @" ≡ Failed Stack
unfolding cfi_eval_computes value value_by
multiple_of_one_row = refl

fetch_of_none_row : value "^" ≡ Failed Stack
unfolding cfi_eval_computes value value_by
fetch_of_none_row = refl

-- Not exactly one value is left at the end.
two_left_row : value "1 2" ≡ Failed Stack
unfolding cfi_eval_computes value value_by
two_left_row = refl

one_left_row : value "5" ≡ Value 5
unfolding cfi_eval_computes value value_by
one_left_row = refl

-- Division by 0, which is found before a later failure.
divide_row : value "7 0 /" ≡ Failed Divide
unfolding cfi_eval_computes value value_by
divide_row = refl

divide_rest_row : value "7 0 %" ≡ Failed Divide
unfolding cfi_eval_computes value value_by
divide_rest_row = refl

first_failure_row : value "7 0 / $none ^" ≡ Failed Divide
unfolding cfi_eval_computes value value_by
first_failure_row = refl

-- The second operand of `@` must be a power of two.
align_0_row : value "1 0 @" ≡ Failed Align
unfolding cfi_eval_computes value value_by
align_0_row = refl

align_1_row : value "1023 1 @" ≡ Value 1023
unfolding cfi_eval_computes value value_by
align_1_row = refl

align_3_row : value "1 3 @" ≡ Failed Align
unfolding cfi_eval_computes value value_by
align_3_row = refl

align_10_row : value "1 10 @" ≡ Failed Align
unfolding cfi_eval_computes value value_by
align_10_row = refl

align_page_row : value "-1 4096 @" ≡ Value 0xfffffffffffff000
unfolding cfi_eval_computes value value_by
align_page_row = refl

one_bit : ones 1 + ones 0 ≡ 1
unfolding ones
one_bit = refl

align_top_row : multiple_of (2 ^ 64 - 1) (2 ^ 63) ≡ Ok (2 ^ 63)
align_top_row = let one : ones (2 ^ 63) ≡ 1 = ones_cat 63 1 0 (lit< tt) ∙ one_bit in rw one refl

-- Values are modulo 2^64 and unsigned.
negative_row : value "-8" ≡ Value 0xfffffffffffffff8
unfolding cfi_eval_computes value value_by
negative_row = refl

sum_wraps_row : value "-1 2 +" ≡ Value 1
unfolding cfi_eval_computes value value_by
sum_wraps_row = refl

product_wraps_row : value "-1 -1 *" ≡ Value 1
unfolding cfi_eval_computes value value_by
product_wraps_row = refl

product_of_halves_row : value "4294967296 4294967296 *" ≡ Value 0
unfolding cfi_eval_computes value value_by
product_of_halves_row = refl

difference_wraps_row : value "0 1 -" ≡ Value 0xffffffffffffffff
unfolding cfi_eval_computes value value_by
difference_wraps_row = refl

quotient_unsigned_row : value "-8 2 /" ≡ Value 0x7ffffffffffffffc
unfolding cfi_eval_computes value value_by
quotient_unsigned_row = refl

remainder_unsigned_row : value "-8 3 %" ≡ Value 2
unfolding cfi_eval_computes value value_by
remainder_unsigned_row = refl

-- Names.
register_row : value "$rbx" ≡ Value 0x2000
unfolding cfi_eval_computes value value_by
register_row = refl

register_missing_row : value "$rax" ≡ Failed (Missing 0)
unfolding cfi_eval_computes value value_by
register_missing_row = refl

register_last_row : value "$r15" ≡ Failed (Missing 15)
unfolding cfi_eval_computes value value_by
register_last_row = refl

rip_row : value "$rip" ≡ Value 0x401000
unfolding cfi_eval_computes value value_by
rip_row = refl

other_name_row : value "$eax" ≡ Failed UnknownName
unfolding cfi_eval_computes value value_by
other_name_row = refl

ra_name_row : value ".ra" ≡ Failed UnknownName
unfolding cfi_eval_computes value value_by
ra_name_row = refl

cfa_row : value ".cfa" ≡ Value 0x7ffe0020
unfolding cfi_eval_computes value value_by
cfa_row = refl

-- No value.
undefined_row : value ".undef" ≡ Undefined
unfolding cfi_eval_computes value value_by
undefined_row = refl

undefined_first_row : value ".undef 1" ≡ Failed UnknownName
unfolding cfi_eval_computes value value_by
undefined_first_row = refl

undefined_behind_row : value "1 .undef" ≡ Failed UnknownName
unfolding cfi_eval_computes value value_by
undefined_behind_row = refl

undefined_twice_row : value ".undef .undef" ≡ Failed UnknownName
unfolding cfi_eval_computes value value_by
undefined_twice_row = refl

-- Words of memory: all eight bytes must be known and below 2^64.
word_row : value "4096 ^" ≡ Value 0x800000007ffe0040
unfolding cfi_eval_computes value value_by
word_row = refl

word_part_row : value "4097 ^" ≡ Failed (Unreadable 0x1001)
unfolding cfi_eval_computes value value_by
word_part_row = refl

word_before_row : value "4095 ^" ≡ Failed (Unreadable 0xfff)
unfolding cfi_eval_computes value value_by
word_before_row = refl

word_last_row : value "-8 ^" ≡ Value 0x0807060504030201
unfolding cfi_eval_computes value value_by
word_last_row = refl

word_past_row : value "-7 ^" ≡ Failed (Unreadable 0xfffffffffffffff9)
unfolding cfi_eval_computes value value_by
word_past_row = refl

word_none_row : value "0 ^" ≡ Failed (Unreadable 0)
unfolding cfi_eval_computes value value_by
word_none_row = refl

-- `.cfa` inside its own rule, with an undefined CFA, and with one that failed.
cfa_own_row : value_by some_known None ".cfa 8 +" ≡ Failed UnknownName
unfolding cfi_eval_computes value_by
cfa_own_row = refl

cfa_undefined_row : value_by some_known (Some Undefined) ".cfa 8 +" ≡ Failed NoCfa
unfolding cfi_eval_computes value_by
cfa_undefined_row = refl

cfa_failed_row : value_by some_known (Some (Failed (Missing 7))) ".cfa 8 +" ≡ Failed (Missing 7)
unfolding cfi_eval_computes value_by
cfa_failed_row = refl

-- Rip without a value, and rules without `.cfa` if the CFA failed.
rip_missing_row : value_by none_known None "$rip" ≡ Failed (Missing 16)
unfolding cfi_eval_computes value_by
rip_missing_row = refl

cfa_unused_row : value_by some_known (Some (Failed (Missing 7))) "$rbx" ≡ Value 0x2000
unfolding cfi_eval_computes value_by
cfa_unused_row = refl

-- There are no words.
no_words_row : rule_value some_known known None [] ≡ Failed Stack
unfolding cfi_eval_computes
no_words_row = refl

-- Runs that overlap: the last that contains an address counts. A run may be empty, and may reach
-- beyond 2^64 - 1.
abbrev overlapping : List MemRun
overlapping =
    record { start = 0x10; bytes = replicate 8 1 }
    ∷ record { start = 0x14; bytes = replicate 8 2 }
    ∷ record { start = 0x12; bytes = 3 ∷ [] }
    ∷ record { start = 0x13; bytes = [] }
    ∷ record { start = 0xffffffffffffffff; bytes = 4 ∷ 5 ∷ [] }
    ∷ []

byte_first_row : byte_at overlapping 0x10 ≡ Some 1
unfolding cfi_eval_computes
byte_first_row = refl

byte_single_row : byte_at overlapping 0x12 ≡ Some 3
unfolding cfi_eval_computes
byte_single_row = refl

byte_empty_row : byte_at overlapping 0x13 ≡ Some 1
unfolding cfi_eval_computes
byte_empty_row = refl

byte_later_row : byte_at overlapping 0x14 ≡ Some 2
unfolding cfi_eval_computes
byte_later_row = refl

byte_later_end_row : byte_at overlapping 0x1b ≡ Some 2
unfolding cfi_eval_computes
byte_later_end_row = refl

byte_behind_row : byte_at overlapping 0x1c ≡ None
unfolding cfi_eval_computes
byte_behind_row = refl

byte_before_row : byte_at overlapping 0xf ≡ None
unfolding cfi_eval_computes
byte_before_row = refl

byte_top_row : byte_at overlapping 0xffffffffffffffff ≡ Some 4
unfolding cfi_eval_computes
byte_top_row = refl

word_over_runs_row : word_at overlapping 0x10 ≡ Some 0x0202020201030101
unfolding cfi_eval_computes
word_over_runs_row = refl

word_over_end_row : word_at overlapping 0x15 ≡ None
unfolding cfi_eval_computes
word_over_end_row = refl
