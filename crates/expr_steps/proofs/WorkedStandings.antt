-- Worked examples of how expressions use the CFA: with enough values and with too few, over the CFA
-- and without it, and with the most words.
use Rattle.std.proofs.Common.{◌≡◌, true, false, ◌∷◌, replicate, None, Some, refl}
use Rattle.sym_edges.proofs.Hex.{hex}
use Rattle.expr_steps.specs.declared.standing.Standing.TheVariants.{Free, OverCfa}
use Rattle.expr_steps.specs.Standing.{standing}
use Rattle.expr_steps.proofs.Computing.{expr_steps_computes}

-- An expression without an operation leaves the CFA on the stack, if it is there.
nothing : standing false (hex "") ≡ None
unfolding expr_steps_computes
nothing = refl

nothing_with_cfa : standing true (hex "") ≡ Some OverCfa
unfolding expr_steps_computes
nothing_with_cfa = refl

-- Each step alone, with enough values and with too few.
a_constant : standing false (hex "35") ≡ Some Free
unfolding expr_steps_computes
a_constant = refl

a_constant_with_cfa : standing true (hex "35") ≡ Some Free
unfolding expr_steps_computes
a_constant_with_cfa = refl

a_register : standing false (hex "77 08") ≡ Some Free
unfolding expr_steps_computes
a_register = refl

a_register_with_cfa : standing true (hex "77 08") ≡ Some Free
unfolding expr_steps_computes
a_register_with_cfa = refl

a_fetch : standing false (hex "77 08 06") ≡ Some Free
unfolding expr_steps_computes
a_fetch = refl

a_fetch_with_cfa : standing true (hex "77 08 06") ≡ Some Free
unfolding expr_steps_computes
a_fetch_with_cfa = refl

a_fetch_of_nothing : standing false (hex "06") ≡ None
unfolding expr_steps_computes
a_fetch_of_nothing = refl

a_fetch_of_nothing_with_cfa : standing true (hex "06") ≡ Some OverCfa
unfolding expr_steps_computes
a_fetch_of_nothing_with_cfa = refl

a_sum : standing false (hex "31 32 22") ≡ Some Free
unfolding expr_steps_computes
a_sum = refl

a_sum_with_cfa : standing true (hex "31 32 22") ≡ Some Free
unfolding expr_steps_computes
a_sum_with_cfa = refl

a_sum_of_one : standing false (hex "31 22") ≡ None
unfolding expr_steps_computes
a_sum_of_one = refl

a_sum_of_one_with_cfa : standing true (hex "31 22") ≡ Some OverCfa
unfolding expr_steps_computes
a_sum_of_one_with_cfa = refl

a_sum_of_none : standing false (hex "22") ≡ None
unfolding expr_steps_computes
a_sum_of_none = refl

a_sum_of_none_with_cfa : standing true (hex "22") ≡ None
unfolding expr_steps_computes
a_sum_of_none_with_cfa = refl

a_difference : standing false (hex "31 32 1c") ≡ Some Free
unfolding expr_steps_computes
a_difference = refl

a_difference_with_cfa : standing true (hex "31 32 1c") ≡ Some Free
unfolding expr_steps_computes
a_difference_with_cfa = refl

a_difference_of_one : standing false (hex "31 1c") ≡ None
unfolding expr_steps_computes
a_difference_of_one = refl

a_difference_of_one_with_cfa : standing true (hex "31 1c") ≡ Some OverCfa
unfolding expr_steps_computes
a_difference_of_one_with_cfa = refl

a_difference_of_none : standing false (hex "1c") ≡ None
unfolding expr_steps_computes
a_difference_of_none = refl

a_difference_of_none_with_cfa : standing true (hex "1c") ≡ None
unfolding expr_steps_computes
a_difference_of_none_with_cfa = refl

a_product : standing false (hex "31 32 1e") ≡ Some Free
unfolding expr_steps_computes
a_product = refl

a_product_with_cfa : standing true (hex "31 32 1e") ≡ Some Free
unfolding expr_steps_computes
a_product_with_cfa = refl

a_product_of_one : standing false (hex "31 1e") ≡ None
unfolding expr_steps_computes
a_product_of_one = refl

a_product_of_one_with_cfa : standing true (hex "31 1e") ≡ Some OverCfa
unfolding expr_steps_computes
a_product_of_one_with_cfa = refl

a_product_of_none : standing false (hex "1e") ≡ None
unfolding expr_steps_computes
a_product_of_none = refl

a_product_of_none_with_cfa : standing true (hex "1e") ≡ None
unfolding expr_steps_computes
a_product_of_none_with_cfa = refl

a_constant_added : standing false (hex "77 08 23 05") ≡ Some Free
unfolding expr_steps_computes
a_constant_added = refl

a_constant_added_with_cfa : standing true (hex "77 08 23 05") ≡ Some Free
unfolding expr_steps_computes
a_constant_added_with_cfa = refl

a_constant_added_to_nothing : standing false (hex "23 05") ≡ None
unfolding expr_steps_computes
a_constant_added_to_nothing = refl

a_constant_added_to_nothing_with_cfa : standing true (hex "23 05") ≡ Some OverCfa
unfolding expr_steps_computes
a_constant_added_to_nothing_with_cfa = refl

a_mask : standing false (hex "77 08 3f 1a") ≡ Some Free
unfolding expr_steps_computes
a_mask = refl

a_mask_with_cfa : standing true (hex "77 08 3f 1a") ≡ Some Free
unfolding expr_steps_computes
a_mask_with_cfa = refl

a_mask_of_nothing : standing false (hex "3f 1a") ≡ None
unfolding expr_steps_computes
a_mask_of_nothing = refl

a_mask_of_nothing_with_cfa : standing true (hex "3f 1a") ≡ Some OverCfa
unfolding expr_steps_computes
a_mask_of_nothing_with_cfa = refl

a_shift : standing false (hex "77 08 33 24") ≡ Some Free
unfolding expr_steps_computes
a_shift = refl

a_shift_with_cfa : standing true (hex "77 08 33 24") ≡ Some Free
unfolding expr_steps_computes
a_shift_with_cfa = refl

a_shift_of_nothing : standing false (hex "33 24") ≡ None
unfolding expr_steps_computes
a_shift_of_nothing = refl

a_shift_of_nothing_with_cfa : standing true (hex "33 24") ≡ Some OverCfa
unfolding expr_steps_computes
a_shift_of_nothing_with_cfa = refl

a_comparison : standing false (hex "77 08 3f 1a 3b 2a") ≡ Some Free
unfolding expr_steps_computes
a_comparison = refl

a_comparison_with_cfa : standing true (hex "77 08 3f 1a 3b 2a") ≡ Some Free
unfolding expr_steps_computes
a_comparison_with_cfa = refl

a_comparison_of_nothing : standing false (hex "3f 1a 3b 2a") ≡ None
unfolding expr_steps_computes
a_comparison_of_nothing = refl

a_comparison_of_nothing_with_cfa : standing true (hex "3f 1a 3b 2a") ≡ Some OverCfa
unfolding expr_steps_computes
a_comparison_of_nothing_with_cfa = refl

-- Exactly one value has to be left.
two_left : standing false (hex "31 32") ≡ None
unfolding expr_steps_computes
two_left = refl

two_left_with_cfa : standing true (hex "31 32") ≡ None
unfolding expr_steps_computes
two_left_with_cfa = refl

two_left_over_the_cfa : standing false (hex "31 77 00 22 31") ≡ None
unfolding expr_steps_computes
two_left_over_the_cfa = refl

two_left_over_the_cfa_with_cfa : standing true (hex "31 77 00 22 31") ≡ None
unfolding expr_steps_computes
two_left_over_the_cfa_with_cfa = refl

-- A step in the middle finds too few values.
too_few_first : standing false (hex "22 31") ≡ None
unfolding expr_steps_computes
too_few_first = refl

too_few_first_with_cfa : standing true (hex "22 31") ≡ None
unfolding expr_steps_computes
too_few_first_with_cfa = refl

-- The expression that linkers write for the procedure linkage table.
the_linkers : standing false (hex "77 08 80 00 3f 1a 3b 2a 33 24 22") ≡ Some Free
unfolding expr_steps_computes
the_linkers = refl

the_linkers_with_cfa : standing true (hex "77 08 80 00 3f 1a 3b 2a 33 24 22") ≡ Some Free
unfolding expr_steps_computes
the_linkers_with_cfa = refl

-- A step without values, a value too many, and an opcode that is not read.
arithmetic_without_values : standing false (hex "22") ≡ None
unfolding expr_steps_computes
arithmetic_without_values = refl

arithmetic_without_values_with_cfa : standing true (hex "22") ≡ None
unfolding expr_steps_computes
arithmetic_without_values_with_cfa = refl

a_register_and_a_constant : standing false (hex "77 08 30") ≡ None
unfolding expr_steps_computes
a_register_and_a_constant = refl

a_register_and_a_constant_with_cfa : standing true (hex "77 08 30") ≡ None
unfolding expr_steps_computes
a_register_and_a_constant_with_cfa = refl

a_nop : standing false (hex "96") ≡ None
unfolding expr_steps_computes
a_nop = refl

a_nop_with_cfa : standing true (hex "96") ≡ None
unfolding expr_steps_computes
a_nop_with_cfa = refl

-- With 1,024 words, and with one more.
most_words : standing false (0x31 ∷ replicate 1023 0x06) ≡ Some Free
unfolding expr_steps_computes
most_words = refl

a_word_too_many : standing false (0x31 ∷ replicate 1024 0x06) ≡ None
unfolding expr_steps_computes
a_word_too_many = refl

most_words_over_the_cfa : standing true (replicate 1023 0x06) ≡ Some OverCfa
unfolding expr_steps_computes
most_words_over_the_cfa = refl

a_word_too_many_over_the_cfa : standing true (replicate 1024 0x06) ≡ None
unfolding expr_steps_computes
a_word_too_many_over_the_cfa = refl
