-- Worked examples: what a name in Rust's legacy mangling shows, and names that show nothing.
use Rattle.std.proofs.Common.{◌≡◌, Some, None, codes, refl}
use Rattle.std.specs.Option.{option_map}
use Rattle.sym_edges.proofs.Shown.{shown}
use Rattle.rust_names.proofs.Computing.{rust_names_computes}
use Rattle.rust_names.specs.internal.Finding.{shown_of}

-- A path, and one with escapes and dots.
a_path : option_map shown (shown_of (codes "_ZN4core3fmt9Formatter9write_str17h0123456789abcdefE")) ≡ Some "core::fmt::Formatter::write_str"
unfolding rust_names_computes shown
a_path = refl

escapes_and_dots : option_map shown (shown_of (codes "_ZN27_$LT$u8$u20$as$u20$a..B$GT$1f17h0123456789abcdefE")) ≡ Some "<u8 as a::B>::f"
unfolding rust_names_computes shown
escapes_and_dots = refl

-- Names of other forms: another language, a digit of the hash in upper case, and an unknown escape.
another_language : option_map shown (shown_of (codes "_Z1fv")) ≡ None
unfolding rust_names_computes shown
another_language = refl

an_upper_case_digit : option_map shown (shown_of (codes "_ZN1a17h0123456789abcdeFE")) ≡ None
unfolding rust_names_computes shown
an_upper_case_digit = refl

no_escape : option_map shown (shown_of (codes "_ZN4$XX$17h0123456789abcdefE")) ≡ None
unfolding rust_names_computes shown
no_escape = refl

-- Each escape.
sign_sp : option_map shown (shown_of (codes "_ZN6a$SP$b17h0123456789abcdefE")) ≡ Some "a@b"
unfolding rust_names_computes shown
sign_sp = refl

sign_bp : option_map shown (shown_of (codes "_ZN6a$BP$b17h0123456789abcdefE")) ≡ Some "a*b"
unfolding rust_names_computes shown
sign_bp = refl

sign_rf : option_map shown (shown_of (codes "_ZN6a$RF$b17h0123456789abcdefE")) ≡ Some "a&b"
unfolding rust_names_computes shown
sign_rf = refl

sign_lt : option_map shown (shown_of (codes "_ZN6a$LT$b17h0123456789abcdefE")) ≡ Some "a<b"
unfolding rust_names_computes shown
sign_lt = refl

sign_gt : option_map shown (shown_of (codes "_ZN6a$GT$b17h0123456789abcdefE")) ≡ Some "a>b"
unfolding rust_names_computes shown
sign_gt = refl

sign_lp : option_map shown (shown_of (codes "_ZN6a$LP$b17h0123456789abcdefE")) ≡ Some "a(b"
unfolding rust_names_computes shown
sign_lp = refl

sign_rp : option_map shown (shown_of (codes "_ZN6a$RP$b17h0123456789abcdefE")) ≡ Some "a)b"
unfolding rust_names_computes shown
sign_rp = refl

sign_c : option_map shown (shown_of (codes "_ZN5a$C$b17h0123456789abcdefE")) ≡ Some "a,b"
unfolding rust_names_computes shown
sign_c = refl

-- A byte by its code, from 20 to 7e.
code_space : option_map shown (shown_of (codes "_ZN7a$u20$b17h0123456789abcdefE")) ≡ Some "a b"
unfolding rust_names_computes shown
code_space = refl

code_tilde : option_map shown (shown_of (codes "_ZN7a$u7e$b17h0123456789abcdefE")) ≡ Some "a~b"
unfolding rust_names_computes shown
code_tilde = refl

code_control : option_map shown (shown_of (codes "_ZN7a$u7f$b17h0123456789abcdefE")) ≡ None
unfolding rust_names_computes shown
code_control = refl

code_low : option_map shown (shown_of (codes "_ZN7a$u1f$b17h0123456789abcdefE")) ≡ None
unfolding rust_names_computes shown
code_low = refl

-- A code in upper case, and one without its end.
code_upper_case : option_map shown (shown_of (codes "_ZN7a$u2A$b17h0123456789abcdefE")) ≡ None
unfolding rust_names_computes shown
code_upper_case = refl

code_lower_case : option_map shown (shown_of (codes "_ZN7a$u2a$b17h0123456789abcdefE")) ≡ Some "a*b"
unfolding rust_names_computes shown
code_lower_case = refl

code_open : option_map shown (shown_of (codes "_ZN5a$u2017h0123456789abcdefE")) ≡ None
unfolding rust_names_computes shown
code_open = refl

-- A part of length 0, one with a leading zero, and one that is longer than what is left.
part_of_nothing : option_map shown (shown_of (codes "_ZN01a17h0123456789abcdefE")) ≡ None
unfolding rust_names_computes shown
part_of_nothing = refl

leading_zero : option_map shown (shown_of (codes "_ZN01a17h0123456789abcdefE")) ≡ None
unfolding rust_names_computes shown
leading_zero = refl

too_long_a_part : option_map shown (shown_of (codes "_ZN99a17h0123456789abcdefE")) ≡ None
unfolding rust_names_computes shown
too_long_a_part = refl

-- A part whose bytes begin with a digit is not possible, since the digit counts to the length.
a_digit_first : option_map shown (shown_of (codes "_ZN11a17h0123456789abcdefE")) ≡ None
unfolding rust_names_computes shown
a_digit_first = refl

-- Only the hash, and nothing at all.
only_the_hash : option_map shown (shown_of (codes "_ZN17h0123456789abcdefE")) ≡ None
unfolding rust_names_computes shown
only_the_hash = refl

nothing : option_map shown (shown_of (codes "")) ≡ None
unfolding rust_names_computes shown
nothing = refl

-- Dots at the ends of a part, three dots, and four dots.
dots_first : option_map shown (shown_of (codes "_ZN3..a17h0123456789abcdefE")) ≡ Some "::a"
unfolding rust_names_computes shown
dots_first = refl

dots_last : option_map shown (shown_of (codes "_ZN3a..17h0123456789abcdefE")) ≡ Some "a::"
unfolding rust_names_computes shown
dots_last = refl

three_dots : option_map shown (shown_of (codes "_ZN5a...b17h0123456789abcdefE")) ≡ Some "a::.b"
unfolding rust_names_computes shown
three_dots = refl

four_dots : option_map shown (shown_of (codes "_ZN6a....b17h0123456789abcdefE")) ≡ Some "a::::b"
unfolding rust_names_computes shown
four_dots = refl

one_dot : option_map shown (shown_of (codes "_ZN3a.b17h0123456789abcdefE")) ≡ Some "a.b"
unfolding rust_names_computes shown
one_dot = refl

-- `_` before a `$` at the start of a part, and elsewhere.
dash_in_front : option_map shown (shown_of (codes "_ZN6_$LT$a17h0123456789abcdefE")) ≡ Some "<a"
unfolding rust_names_computes shown
dash_in_front = refl

dash_inside : option_map shown (shown_of (codes "_ZN7a_$LT$b17h0123456789abcdefE")) ≡ Some "a_<b"
unfolding rust_names_computes shown
dash_inside = refl

dash_alone : option_map shown (shown_of (codes "_ZN2_a17h0123456789abcdefE")) ≡ Some "_a"
unfolding rust_names_computes shown
dash_alone = refl

two_dashes : option_map shown (shown_of (codes "_ZN6__$LT$17h0123456789abcdefE")) ≡ Some "__<"
unfolding rust_names_computes shown
two_dashes = refl

-- A `$` without its end, text after `E`, no `E`, a short hash, and another letter for the hash.
open_dollar : option_map shown (shown_of (codes "_ZN2a$17h0123456789abcdefE")) ≡ None
unfolding rust_names_computes shown
open_dollar = refl

text_after : option_map shown (shown_of (codes "_ZN1a17h0123456789abcdefEx")) ≡ None
unfolding rust_names_computes shown
text_after = refl

no_end : option_map shown (shown_of (codes "_ZN1a17h0123456789abcdef")) ≡ None
unfolding rust_names_computes shown
no_end = refl

short_hash : option_map shown (shown_of (codes "_ZN1a16h0123456789abcdeE")) ≡ None
unfolding rust_names_computes shown
short_hash = refl

another_letter : option_map shown (shown_of (codes "_ZN1a17g0123456789abcdefE")) ≡ None
unfolding rust_names_computes shown
another_letter = refl

-- A text that would begin with a space, a space in the name, and a byte above ASCII.
space_first : option_map shown (shown_of (codes "_ZN6$u20$a17h0123456789abcdefE")) ≡ None
unfolding rust_names_computes shown
space_first = refl

space_inside : option_map shown (shown_of (codes "_ZN3a b17h0123456789abcdefE")) ≡ None
unfolding rust_names_computes shown
space_inside = refl

above_ascii : option_map shown (shown_of (codes "_ZN3aé17h0123456789abcdefE")) ≡ None
unfolding rust_names_computes shown
above_ascii = refl

-- A name in Rust's current mangling, and a name of C++.
new_form : option_map shown (shown_of (codes "_RNvCs1234_7mycrate3foo")) ≡ Some "mycrate::foo"
unfolding rust_names_computes shown
new_form = refl

cpp : option_map shown (shown_of (codes "_ZNSt6vectorIiSaIiEE9push_backEOi")) ≡ None
unfolding rust_names_computes shown
cpp = refl
