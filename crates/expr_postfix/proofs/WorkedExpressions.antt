-- Worked examples: the words of expressions. Evaluating the words gives what the operations give,
-- in three states: all registers are known, no register is known, and the registers have numbers
-- near 2^64.
use Rattle.std.proofs.Common.{◌≡◌, ℕ, Bool, true, false, List, [], ◌∷◌, ◌++◌, drop, map, replicate, Option, None, Some, refl}
use Rattle.std.specs.List.{flat_map, range_with_len}
use Prim.Native.String.{String}
use Rattle.sym_edges.proofs.Hex.{hex}
use Rattle.sym_edges.proofs.Shown.{shown}
use Rattle.sym_rules.specs.Rules.{spelled_token}
use Rattle.sym_rules.specs.declared.rules.Token.{Token}
use Rattle.cfi_eval.specs.declared.registers.Regs.{Regs}
use Rattle.cfi_eval.specs.declared.memory.MemRun.{MemRun}
use Rattle.cfi_eval.specs.declared.outcome.Outcome.{Outcome}
use Rattle.cfi_eval.specs.declared.outcome.Outcome.TheVariants.{Value, Undefined, Failed}
use Rattle.cfi_eval.specs.declared.outcome.Cause.TheVariants.{Missing, Unreadable}
use Rattle.cfi_eval.specs.Postfix.{rule_value}
use Rattle.expr_postfix.specs.ExprTokens.{expr_tokens, rule_tokens}
use Rattle.expr_postfix.specs.ExprValue.{expr_value}
use Rattle.expr_postfix.proofs.Computing.{expr_postfix_computes}

-- The words as they are spelled.
abbrev spelling : Option (List Token) → String
unfolding shown
spelling None = "none"
spelling (Some words) = shown (drop 1 (flat_map spelled_token words))

words : Bool → String → String
unfolding expr_postfix_computes spelling
words start text = spelling (expr_tokens start (hex text))

-- Three states, each with its CFA.
record Known : Type 0 where
  regs : Regs
  memory : List MemRun
  cfa : Outcome

unfoldable known : Known
known = record {
  regs = record { values = Some 0x1000 ∷ Some 0x2000 ∷ Some 0x3000 ∷ Some 0x4000 ∷ Some 0x5000 ∷ Some 0x6000 ∷ Some 0x7ffe0018 ∷ Some 0x7ffe0000 ∷ Some 0x9000 ∷ Some 0x9001 ∷ Some 0x9002 ∷ Some 0x9003 ∷ Some 0x9004 ∷ Some 0x9005 ∷ Some 0x9006 ∷ Some 0x9007 ∷ []; rip = Some 0x103b };
  memory = (let run : MemRun = record { start = 0x7ffe0000; bytes = 64 ∷ 0 ∷ 254 ∷ 127 ∷ 0 ∷ 0 ∷ 0 ∷ 128 ∷ 1 ∷ 2 ∷ 3 ∷ 4 ∷ 5 ∷ 6 ∷ 7 ∷ 8 ∷ [] } in run) ∷ [];
  cfa = Value 0x7ffe0010;
}

unfoldable unknown : Known
unknown = record { regs = record { values = replicate 16 None; rip = None }; memory = []; cfa = Failed (Missing 7) }

unfoldable at_the_end : Known
at_the_end = record {
  regs = record { values = Some 0x0 ∷ None ∷ None ∷ None ∷ None ∷ None ∷ None ∷ Some 0xfffffffffffffff8 ∷ None ∷ None ∷ None ∷ None ∷ None ∷ None ∷ None ∷ None ∷ []; rip = Some 0xffffffffffffffff };
  memory = (let run : MemRun = record { start = 0x0; bytes = 9 ∷ 9 ∷ 9 ∷ 9 ∷ 9 ∷ 9 ∷ 9 ∷ [] } in run) ∷ (let run : MemRun = record { start = 0xfffffffffffffff8; bytes = 1 ∷ 2 ∷ 3 ∷ 4 ∷ 5 ∷ 6 ∷ 7 ∷ 8 ∷ [] } in run) ∷ [];
  cfa = Value 0x0;
}

-- What the words give, and what the operations give.
abbrev by_words : Known → Option (List Token) → Outcome
by_words s None = Undefined
by_words s (Some words) = rule_value s.regs s.memory (Some s.cfa) words

unfoldable values : Bool → String → List (Outcome × Outcome)
unfolding expr_postfix_computes known unknown at_the_end
values start text =
    map {B = Outcome × Outcome} (λ s. (by_words s (expr_tokens start (hex text)), expr_value s.regs s.memory s.cfa start (hex text))) (known ∷ unknown ∷ at_the_end ∷ [])

a_constant : values false "35" ≡ (Value 0x5, Value 0x5) ∷ (Value 0x5, Value 0x5) ∷ (Value 0x5, Value 0x5) ∷ []
unfolding expr_postfix_computes known unknown at_the_end values
a_constant = refl

a_constant_words : words false "35" ≡ "5"
unfolding expr_postfix_computes words
a_constant_words = refl

a_register : values false "77 08" ≡ (Value 0x7ffe0008, Value 0x7ffe0008) ∷ (Failed (Missing 7), Failed (Missing 7)) ∷ (Value 0x0, Value 0x0) ∷ []
unfolding expr_postfix_computes known unknown at_the_end values
a_register = refl

a_register_words : words false "77 08" ≡ "$rsp 8 +"
unfolding expr_postfix_computes words
a_register_words = refl

a_word : values false "77 08 06" ≡ (Value 0x807060504030201, Value 0x807060504030201) ∷ (Failed (Missing 7), Failed (Missing 7)) ∷ (Failed (Unreadable 0), Failed (Unreadable 0)) ∷ []
unfolding expr_postfix_computes known unknown at_the_end values
a_word = refl

a_word_words : words false "77 08 06" ≡ "$rsp 8 + ^"
unfolding expr_postfix_computes words
a_word_words = refl

rip_alone : values false "80 00" ≡ (Value 0x103b, Value 0x103b) ∷ (Failed (Missing 16), Failed (Missing 16)) ∷ (Value 0xffffffffffffffff, Value 0xffffffffffffffff) ∷ []
unfolding expr_postfix_computes known unknown at_the_end values
rip_alone = refl

rip_alone_words : words false "80 00" ≡ "$rip 0 +"
unfolding expr_postfix_computes words
rip_alone_words = refl

a_difference_below_zero : values false "31 32 1c" ≡ (Value 0xffffffffffffffff, Value 0xffffffffffffffff) ∷ (Value 0xffffffffffffffff, Value 0xffffffffffffffff) ∷ (Value 0xffffffffffffffff, Value 0xffffffffffffffff) ∷ []
unfolding expr_postfix_computes known unknown at_the_end values
a_difference_below_zero = refl

a_difference_below_zero_words : words false "31 32 1c" ≡ "1 2 -"
unfolding expr_postfix_computes words
a_difference_below_zero_words = refl

a_sum_of_registers : values false "77 00 70 08 22" ≡ (Value 0x7ffe1008, Value 0x7ffe1008) ∷ (Failed (Missing 7), Failed (Missing 7)) ∷ (Value 0x0, Value 0x0) ∷ []
unfolding expr_postfix_computes known unknown at_the_end values
a_sum_of_registers = refl

a_sum_of_registers_words : words false "77 00 70 08 22" ≡ "$rsp 0 + $rax 8 + +"
unfolding expr_postfix_computes words
a_sum_of_registers_words = refl

a_product : values false "77 00 33 1e" ≡ (Value 0x17ffa0000, Value 0x17ffa0000) ∷ (Failed (Missing 7), Failed (Missing 7)) ∷ (Value 0xffffffffffffffe8, Value 0xffffffffffffffe8) ∷ []
unfolding expr_postfix_computes known unknown at_the_end values
a_product = refl

a_product_words : words false "77 00 33 1e" ≡ "$rsp 0 + 3 *"
unfolding expr_postfix_computes words
a_product_words = refl

a_word_below_rbp : values false "76 70 06" ≡ (Value 0x807060504030201, Value 0x807060504030201) ∷ (Failed (Missing 6), Failed (Missing 6)) ∷ (Failed (Missing 6), Failed (Missing 6)) ∷ []
unfolding expr_postfix_computes known unknown at_the_end values
a_word_below_rbp = refl

a_word_below_rbp_words : words false "76 70 06" ≡ "$rbp -16 + ^"
unfolding expr_postfix_computes words
a_word_below_rbp_words = refl

a_constant_added : values false "77 08 23 8001" ≡ (Value 0x7ffe0088, Value 0x7ffe0088) ∷ (Failed (Missing 7), Failed (Missing 7)) ∷ (Value 0x80, Value 0x80) ∷ []
unfolding expr_postfix_computes known unknown at_the_end values
a_constant_added = refl

a_constant_added_words : words false "77 08 23 8001" ≡ "$rsp 8 + 128 +"
unfolding expr_postfix_computes words
a_constant_added_words = refl

the_linkers : values false "77 08 80 00 3f 1a 3b 2a 33 24 22" ≡ (Value 0x7ffe0010, Value 0x7ffe0010) ∷ (Failed (Missing 7), Failed (Missing 7)) ∷ (Value 0x8, Value 0x8) ∷ []
unfolding expr_postfix_computes known unknown at_the_end values
the_linkers = refl

the_linkers_words : words false "77 08 80 00 3f 1a 3b 2a 33 24 22" ≡ "$rsp 8 + $rip 0 + 16 % 5 + 16 / 8 * +"
unfolding expr_postfix_computes words
the_linkers_words = refl

low_bits : values false "77 0b 3f 1a" ≡ (Value 0xb, Value 0xb) ∷ (Failed (Missing 7), Failed (Missing 7)) ∷ (Value 0x3, Value 0x3) ∷ []
unfolding expr_postfix_computes known unknown at_the_end values
low_bits = refl

low_bits_words : words false "77 0b 3f 1a" ≡ "$rsp 11 + 16 %"
unfolding expr_postfix_computes words
low_bits_words = refl

a_far_shift : values false "77 04 10 3e 24" ≡ (Value 0x0, Value 0x0) ∷ (Failed (Missing 7), Failed (Missing 7)) ∷ (Value 0x0, Value 0x0) ∷ []
unfolding expr_postfix_computes known unknown at_the_end values
a_far_shift = refl

a_far_shift_words : words false "77 04 10 3e 24" ≡ "$rsp 4 + 4611686018427387904 *"
unfolding expr_postfix_computes words
a_far_shift_words = refl

no_low_bits : values false "77 07 30 1a" ≡ (Value 0x0, Value 0x0) ∷ (Failed (Missing 7), Failed (Missing 7)) ∷ (Value 0x0, Value 0x0) ∷ []
unfolding expr_postfix_computes known unknown at_the_end values
no_low_bits = refl

no_low_bits_words : words false "77 07 30 1a" ≡ "$rsp 7 + 1 %"
unfolding expr_postfix_computes words
no_low_bits_words = refl

the_most_low_bits : values false "77 07 0e ffffffffffffff3f 1a" ≡ (Value 0x7ffe0007, Value 0x7ffe0007) ∷ (Failed (Missing 7), Failed (Missing 7)) ∷ (Value 0x3fffffffffffffff, Value 0x3fffffffffffffff) ∷ []
unfolding expr_postfix_computes known unknown at_the_end values
the_most_low_bits = refl

the_most_low_bits_words : words false "77 07 0e ffffffffffffff3f 1a" ≡ "$rsp 7 + 4611686018427387904 %"
unfolding expr_postfix_computes words
the_most_low_bits_words = refl

the_cfa : values true "" ≡ (Value 0x7ffe0010, Value 0x7ffe0010) ∷ (Failed (Missing 7), Failed (Missing 7)) ∷ (Value 0x0, Value 0x0) ∷ []
unfolding expr_postfix_computes known unknown at_the_end values
the_cfa = refl

the_cfa_words : words true "" ≡ ".cfa"
unfolding expr_postfix_computes words
the_cfa_words = refl

above_the_cfa : values true "23 10" ≡ (Value 0x7ffe0020, Value 0x7ffe0020) ∷ (Failed (Missing 7), Failed (Missing 7)) ∷ (Value 0x10, Value 0x10) ∷ []
unfolding expr_postfix_computes known unknown at_the_end values
above_the_cfa = refl

above_the_cfa_words : words true "23 10" ≡ ".cfa 16 +"
unfolding expr_postfix_computes words
above_the_cfa_words = refl

the_word_at_the_cfa : values true "06" ≡ (Failed (Unreadable 0x7ffe0010), Failed (Unreadable 0x7ffe0010)) ∷ (Failed (Missing 7), Failed (Missing 7)) ∷ (Failed (Unreadable 0), Failed (Unreadable 0)) ∷ []
unfolding expr_postfix_computes known unknown at_the_end values
the_word_at_the_cfa = refl

the_word_at_the_cfa_words : words true "06" ≡ ".cfa ^"
unfolding expr_postfix_computes words
the_word_at_the_cfa_words = refl

free_of_the_cfa : values true "77 78" ≡ (Value 0x7ffdfff8, Value 0x7ffdfff8) ∷ (Failed (Missing 7), Failed (Missing 7)) ∷ (Value 0xfffffffffffffff0, Value 0xfffffffffffffff0) ∷ []
unfolding expr_postfix_computes known unknown at_the_end values
free_of_the_cfa = refl

free_of_the_cfa_words : words true "77 78" ≡ "$rsp -8 +"
unfolding expr_postfix_computes words
free_of_the_cfa_words = refl

below_the_cfa : values true "38 1c" ≡ (Value 0x7ffe0008, Value 0x7ffe0008) ∷ (Failed (Missing 7), Failed (Missing 7)) ∷ (Value 0xfffffffffffffff8, Value 0xfffffffffffffff8) ∷ []
unfolding expr_postfix_computes known unknown at_the_end values
below_the_cfa = refl

below_the_cfa_words : words true "38 1c" ≡ ".cfa 8 -"
unfolding expr_postfix_computes words
below_the_cfa_words = refl

the_cfa_compared : values true "3f 1a 30 2a" ≡ (Value 0x1, Value 0x1) ∷ (Failed (Missing 7), Failed (Missing 7)) ∷ (Value 0x1, Value 0x1) ∷ []
unfolding expr_postfix_computes known unknown at_the_end values
the_cfa_compared = refl

the_cfa_compared_words : words true "3f 1a 30 2a" ≡ ".cfa 16 % 16 + 16 /"
unfolding expr_postfix_computes words
the_cfa_compared_words = refl

negative_constants : values false "09 ff 11 807f 22" ≡ (Value 0xffffffffffffff7f, Value 0xffffffffffffff7f) ∷ (Value 0xffffffffffffff7f, Value 0xffffffffffffff7f) ∷ (Value 0xffffffffffffff7f, Value 0xffffffffffffff7f) ∷ []
unfolding expr_postfix_computes known unknown at_the_end values
negative_constants = refl

negative_constants_words : words false "09 ff 11 807f 22" ≡ "-1 -128 +"
unfolding expr_postfix_computes words
negative_constants_words = refl

the_greatest_constant : values false "0e ffffffffffffffff 77 00 1e" ≡ (Value 0xffffffff80020000, Value 0xffffffff80020000) ∷ (Failed (Missing 7), Failed (Missing 7)) ∷ (Value 0x8, Value 0x8) ∷ []
unfolding expr_postfix_computes known unknown at_the_end values
the_greatest_constant = refl

the_greatest_constant_words : words false "0e ffffffffffffffff 77 00 1e" ≡ "-1 $rsp 0 + *"
unfolding expr_postfix_computes words
the_greatest_constant_words = refl

the_first_failure : values false "70 00 06 73 00 22" ≡ (Failed (Unreadable 0x1000), Failed (Unreadable 0x1000)) ∷ (Failed (Missing 0), Failed (Missing 0)) ∷ (Failed (Unreadable 0), Failed (Unreadable 0)) ∷ []
unfolding expr_postfix_computes known unknown at_the_end values
the_first_failure = refl

the_first_failure_words : words false "70 00 06 73 00 22" ≡ "$rax 0 + ^ $rbx 0 + +"
unfolding expr_postfix_computes words
the_first_failure_words = refl

the_cfa_first : values true "77 00 06 22" ≡ (Value 0x80000000fffc0050, Value 0x80000000fffc0050) ∷ (Failed (Missing 7), Failed (Missing 7)) ∷ (Value 0x807060504030201, Value 0x807060504030201) ∷ []
unfolding expr_postfix_computes known unknown at_the_end values
the_cfa_first = refl

the_cfa_first_words : words true "77 00 06 22" ≡ ".cfa $rsp 0 + ^ +"
unfolding expr_postfix_computes words
the_cfa_first_words = refl

two_words : values false "77 00 06 06" ≡ (Failed (Unreadable 0x800000007ffe0040), Failed (Unreadable 0x800000007ffe0040)) ∷ (Failed (Missing 7), Failed (Missing 7)) ∷ (Failed (Unreadable 0x807060504030201), Failed (Unreadable 0x807060504030201)) ∷ []
unfolding expr_postfix_computes known unknown at_the_end values
two_words = refl

two_words_words : words false "77 00 06 06" ≡ "$rsp 0 + ^ ^"
unfolding expr_postfix_computes words
two_words_words = refl

-- Expressions that rule text cannot express.
nothing_to_add : words false "22" ≡ "none"
unfolding expr_postfix_computes words
nothing_to_add = refl

two_values : words false "77 08 30" ≡ "none"
unfolding expr_postfix_computes words
two_values = refl

a_nop : words false "96" ≡ "none"
unfolding expr_postfix_computes words
a_nop = refl

nothing : words false "" ≡ "none"
unfolding expr_postfix_computes words
nothing = refl

register_17 : words false "81 00" ≡ "none"
unfolding expr_postfix_computes words
register_17 = refl

-- With the fetch that a rule adds.
a_saved_register : spelling (rule_tokens true true (hex "77 78")) ≡ "$rsp -8 + ^"
unfolding expr_postfix_computes spelling
a_saved_register = refl

a_value : spelling (rule_tokens true false (hex "23 10")) ≡ ".cfa 16 +"
unfolding expr_postfix_computes spelling
a_value = refl

a_word_at_the_cfa : spelling (rule_tokens true true (hex "")) ≡ ".cfa ^"
unfolding expr_postfix_computes spelling
a_word_at_the_cfa = refl

no_rule : spelling (rule_tokens true true (hex "96")) ≡ "none"
unfolding expr_postfix_computes spelling
no_rule = refl

-- The expression that linkers write for the procedure linkage table, evaluated at each address of
-- an entry. The CFA is eight bytes further from the twelfth byte of an entry on, after a push.
abbrev linkers : List ℕ
linkers = hex "77 08 80 00 3f 1a 3b 2a 33 24 22"

abbrev at_rip : ℕ → Regs
at_rip rip = record { values = replicate 7 None ++ Some 0x7ffe0000 ∷ replicate 8 None; rip = Some rip }

unfoldable in_table : ℕ → List (Outcome × Outcome)
unfolding expr_postfix_computes
in_table a = (by_words (record { regs = at_rip a; memory = []; cfa = Undefined }) (expr_tokens false linkers), expr_value (at_rip a) [] Undefined false linkers) ∷ []

before_the_push : flat_map in_table (range_with_len 0x1026 5) ≡ replicate 5 (Value 0x7ffe0008, Value 0x7ffe0008)
unfolding expr_postfix_computes in_table
before_the_push = refl

behind_the_push : flat_map in_table (range_with_len 0x102b 5) ≡ replicate 5 (Value 0x7ffe0010, Value 0x7ffe0010)
unfolding expr_postfix_computes in_table
behind_the_push = refl

before_the_next_push : flat_map in_table (range_with_len 0x1030 11) ≡ replicate 11 (Value 0x7ffe0008, Value 0x7ffe0008)
unfolding expr_postfix_computes in_table
before_the_next_push = refl

behind_the_next_push : flat_map in_table (range_with_len 0x103b 5) ≡ replicate 5 (Value 0x7ffe0010, Value 0x7ffe0010)
unfolding expr_postfix_computes in_table
behind_the_next_push = refl
