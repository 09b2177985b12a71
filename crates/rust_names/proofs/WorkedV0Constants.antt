-- Worked examples: what constants in Rust's v0 mangling show, and names that show nothing.
use Rattle.std.proofs.Common.{◌≡◌, Some, None, codes, refl}
use Rattle.std.specs.Option.{option_map}
use Rattle.sym_edges.proofs.Shown.{shown}
use Rattle.rust_names.proofs.Computing.{rust_names_computes}
use Rattle.rust_names.specs.V0Names.{v0_text, text_within}

-- Constants.

-- A placeholder.
placeholder : option_map shown (v0_text (codes "_RIC0KpE")) ≡ Some "::<_>"
unfolding rust_names_computes shown
placeholder = refl

-- Integers.
unsigned : option_map shown (v0_text (codes "_RIC0Khb_E")) ≡ Some "::<11>"
unfolding rust_names_computes shown
unsigned = refl

great : option_map shown (v0_text (codes "_RIC0Koff00ff00ff00ff00ff_E")) ≡ Some "::<0xff00ff00ff00ff00ff>"
unfolding rust_names_computes shown
great = refl

signed : option_map shown (v0_text (codes "_RIC0Ks98_E")) ≡ Some "::<152>"
unfolding rust_names_computes shown
signed = refl

negative : option_map shown (v0_text (codes "_RIC0Kanb_E")) ≡ Some "::<-11>"
unfolding rust_names_computes shown
negative = refl

no_digits : option_map shown (v0_text (codes "_RIC0Kj_E")) ≡ Some "::<0>"
unfolding rust_names_computes shown
no_digits = refl

-- Values of `bool`.
is_false : option_map shown (v0_text (codes "_RIC0Kb0_E")) ≡ Some "::<false>"
unfolding rust_names_computes shown
is_false = refl

is_true : option_map shown (v0_text (codes "_RIC0Kb1_E")) ≡ Some "::<true>"
unfolding rust_names_computes shown
is_true = refl

-- Values of `char`, with their escapes.
letter : option_map shown (v0_text (codes "_RIC0Kc76_E")) ≡ Some "::<'v'>"
unfolding rust_names_computes shown
letter = refl

double_quote : option_map shown (v0_text (codes "_RIC0Kc22_E")) ≡ Some "::<'\"'>"
unfolding rust_names_computes shown
double_quote = refl

own_quote : option_map shown (v0_text (codes "_RIC0Kc27_E")) ≡ Some "::<'\\''>"
unfolding rust_names_computes shown
own_quote = refl

line_feed : option_map shown (v0_text (codes "_RIC0Kca_E")) ≡ Some "::<'\\n'>"
unfolding rust_names_computes shown
line_feed = refl

tabulator : option_map shown (v0_text (codes "_RIC0Kc9_E")) ≡ Some "::<'\\t'>"
unfolding rust_names_computes shown
tabulator = refl

carriage_return : option_map shown (v0_text (codes "_RIC0Kcd_E")) ≡ Some "::<'\\r'>"
unfolding rust_names_computes shown
carriage_return = refl

zero : option_map shown (v0_text (codes "_RIC0Kc0_E")) ≡ Some "::<'\\0'>"
unfolding rust_names_computes shown
zero = refl

backslash : option_map shown (v0_text (codes "_RIC0Kc5c_E")) ≡ Some "::<'\\\\'>"
unfolding rust_names_computes shown
backslash = refl

bell : option_map shown (v0_text (codes "_RIC0Kc7_E")) ≡ Some "::<'\\u{7}'>"
unfolding rust_names_computes shown
bell = refl

above_ascii : option_map shown (v0_text (codes "_RIC0Kc2202_E")) ≡ Some "::<'\\u{2202}'>"
unfolding rust_names_computes shown
above_ascii = refl

-- Texts.
text : option_map shown (v0_text (codes "_RIC0Ke616263_E")) ≡ Some "::<{*\"abc\"}>"
unfolding rust_names_computes shown
text = refl

text_quotes : option_map shown (v0_text (codes "_RIC0Ke2722_E")) ≡ Some "::<{*\"'\\\"\"}>"
unfolding rust_names_computes shown
text_quotes = refl

text_spaces : option_map shown (v0_text (codes "_RIC0Ke090a_E")) ≡ Some "::<{*\"\\t\\n\"}>"
unfolding rust_names_computes shown
text_spaces = refl

text_above_ascii : option_map shown (v0_text (codes "_RIC0Kee28882c3bc_E")) ≡ Some "::<{*\"\\u{2202}\\u{fc}\"}>"
unfolding rust_names_computes shown
text_above_ascii = refl

text_reference : option_map shown (v0_text (codes "_RIC0KRe616263_E")) ≡ Some "::<\"abc\">"
unfolding rust_names_computes shown
text_reference = refl

-- References.
reference : option_map shown (v0_text (codes "_RIC0KRh7b_E")) ≡ Some "::<{&123}>"
unfolding rust_names_computes shown
reference = refl

references : option_map shown (v0_text (codes "_RIC0KRRRh0_E")) ≡ Some "::<{&&&0}>"
unfolding rust_names_computes shown
references = refl

reference_to_a_text : option_map shown (v0_text (codes "_RIC0KRRRe_E")) ≡ Some "::<{&&\"\"}>"
unfolding rust_names_computes shown
reference_to_a_text = refl

mutable : option_map shown (v0_text (codes "_RIC0KQAEE")) ≡ Some "::<{&mut []}>"
unfolding rust_names_computes shown
mutable = refl

-- Arrays.
array : option_map shown (v0_text (codes "_RIC0KAEE")) ≡ Some "::<{[]}>"
unfolding rust_names_computes shown
array = refl

array_of_three : option_map shown (v0_text (codes "_RIC0KAh1_h2_h3_EE")) ≡ Some "::<{[1, 2, 3]}>"
unfolding rust_names_computes shown
array_of_three = refl

arrays : option_map shown (v0_text (codes "_RIC0KAAh1_h2_EAh3_h4_EEE")) ≡ Some "::<{[[1, 2], [3, 4]]}>"
unfolding rust_names_computes shown
arrays = refl

-- Tuples.
unit : option_map shown (v0_text (codes "_RIC0KTEE")) ≡ Some "::<{()}>"
unfolding rust_names_computes shown
unit = refl

tuple_of_one : option_map shown (v0_text (codes "_RIC0KTj0_EE")) ≡ Some "::<{(0,)}>"
unfolding rust_names_computes shown
tuple_of_one = refl

tuple : option_map shown (v0_text (codes "_RIC0KTRe616263_c78_RAh1_h2_h3_EEE")) ≡ Some "::<{(\"abc\", 'x', &[1, 2, 3])}>"
unfolding rust_names_computes shown
tuple = refl

-- Values of structs and enums.
variant : option_map shown (v0_text (codes "_RIC0KVNvINtNtC4core6option6OptionjE4NoneUE")) ≡ Some "::<{core::option::Option::<usize>::None}>"
unfolding rust_names_computes shown
variant = refl

variant_of_one : option_map shown (v0_text (codes "_RIC0KVNvINtNtC4core6option6OptionjE4SomeTj0_EE")) ≡ Some "::<{core::option::Option::<usize>::Some(0)}>"
unfolding rust_names_computes shown
variant_of_one = refl

fields : option_map shown (v0_text (codes "_RIC0KVNtC3foo3BarS1sRe616263_2chc78_5sliceRAh1_h2_h3_EEE")) ≡ Some "::<{foo::Bar { s: \"abc\", ch: 'x', slice: &[1, 2, 3] }}>"
unfolding rust_names_computes shown
fields = refl

-- A backreference to a constant.
back_to_a_constant : option_map shown (v0_text (codes "_RINvC1a1fKj1_KB8_E")) ≡ Some "a::f::<1, 1>"
unfolding rust_names_computes shown
back_to_a_constant = refl

-- Names that show nothing.

-- Names of other forms.
another_language : option_map shown (v0_text (codes "_Z1fv")) ≡ None
unfolding rust_names_computes shown
another_language = refl

no_mark : option_map shown (v0_text (codes "RC1a")) ≡ None
unfolding rust_names_computes shown
no_mark = refl

only_the_mark : option_map shown (v0_text (codes "_R")) ≡ None
unfolding rust_names_computes shown
only_the_mark = refl

-- A number after `_R`, and letters that begin no path.
a_version : option_map shown (v0_text (codes "_R1C1a")) ≡ None
unfolding rust_names_computes shown
a_version = refl

no_path : option_map shown (v0_text (codes "_RZ1a")) ≡ None
unfolding rust_names_computes shown
no_path = refl

cut : option_map shown (v0_text (codes "_RNvC1a")) ≡ None
unfolding rust_names_computes shown
cut = refl

-- Text after the name.
text_behind : option_map shown (v0_text (codes "_RC1ab")) ≡ None
unfolding rust_names_computes shown
text_behind = refl

half_an_instance : option_map shown (v0_text (codes "_RC1aN")) ≡ None
unfolding rust_names_computes shown
half_an_instance = refl

-- A name that would show an empty text.
no_text : option_map shown (v0_text (codes "_RC0")) ≡ None
unfolding rust_names_computes shown
no_text = refl

-- Identifiers.
a_leading_zero : option_map shown (v0_text (codes "_RC01a")) ≡ None
unfolding rust_names_computes shown
a_leading_zero = refl

too_long : option_map shown (v0_text (codes "_RC9a")) ≡ None
unfolding rust_names_computes shown
too_long = refl

another_byte : option_map shown (v0_text (codes "_RC2a-")) ≡ None
unfolding rust_names_computes shown
another_byte = refl

no_digit_of_punycode : option_map shown (v0_text (codes "_RCu2a_")) ≡ None
unfolding rust_names_computes shown
no_digit_of_punycode = refl

upper_case_punycode : option_map shown (v0_text (codes "_RCu3a_A")) ≡ None
unfolding rust_names_computes shown
upper_case_punycode = refl

open_punycode : option_map shown (v0_text (codes "_RCu3a_9")) ≡ None
unfolding rust_names_computes shown
open_punycode = refl

-- Numbers.
upper_case_number : option_map shown (v0_text (codes "_RCs-_1a")) ≡ None
unfolding rust_names_computes shown
upper_case_number = refl

too_great : option_map shown (v0_text (codes "_RCszzzzzzzzzzzz_1a")) ≡ None
unfolding rust_names_computes shown
too_great = refl

-- A namespace must be a letter.
no_namespace : option_map shown (v0_text (codes "_RN1C1a1b")) ≡ None
unfolding rust_names_computes shown
no_namespace = refl

-- Backreferences must lead to an earlier place.
to_itself : option_map shown (v0_text (codes "_RB_")) ≡ None
unfolding rust_names_computes shown
to_itself = refl

to_a_later_place : option_map shown (v0_text (codes "_RMC0B2_")) ≡ None
unfolding rust_names_computes shown
to_a_later_place = refl

to_no_type : option_map shown (v0_text (codes "_RMC0B1_")) ≡ None
unfolding rust_names_computes shown
to_no_type = refl

-- A lifetime must be bound.
unbound : option_map shown (v0_text (codes "_RMC0RL0_h")) ≡ None
unfolding rust_names_computes shown
unbound = refl

bound_elsewhere : option_map shown (v0_text (codes "_RMC0TFG_EuRL0_hE")) ≡ None
unfolding rust_names_computes shown
bound_elsewhere = refl

-- Types.
pattern_type : option_map shown (v0_text (codes "_RMC0WhE")) ≡ None
unfolding rust_names_computes shown
pattern_type = refl

no_convention : option_map shown (v0_text (codes "_RMC0FK0Eu")) ≡ None
unfolding rust_names_computes shown
no_convention = refl

dyn_without_lifetime : option_map shown (v0_text (codes "_RMC0DNtC1a1TE")) ≡ None
unfolding rust_names_computes shown
dyn_without_lifetime = refl

-- Constants.
another_boolean : option_map shown (v0_text (codes "_RIC0Kb2_E")) ≡ None
unfolding rust_names_computes shown
another_boolean = refl

a_surrogate : option_map shown (v0_text (codes "_RIC0Kcd800_E")) ≡ None
unfolding rust_names_computes shown
a_surrogate = refl

half_a_byte : option_map shown (v0_text (codes "_RIC0Ke616_E")) ≡ None
unfolding rust_names_computes shown
half_a_byte = refl

no_utf8 : option_map shown (v0_text (codes "_RIC0Keff_E")) ≡ None
unfolding rust_names_computes shown
no_utf8 = refl

upper_case_digit : option_map shown (v0_text (codes "_RIC0KhB_E")) ≡ None
unfolding rust_names_computes shown
upper_case_digit = refl

float : option_map shown (v0_text (codes "_RIC0Kf0_E")) ≡ None
unfolding rust_names_computes shown
float = refl

-- Levels: a path and a constant are one level each, a type that is not basic is one level besides
-- its path, and a backreference is one more.

one_level : option_map shown (text_within 1 (codes "C1a")) ≡ Some "a"
unfolding rust_names_computes shown
one_level = refl

two_levels : option_map shown (text_within 2 (codes "NvC1a1b")) ≡ Some "a::b"
unfolding rust_names_computes shown
two_levels = refl

past_the_levels : option_map shown (text_within 1 (codes "NvC1a1b")) ≡ None
unfolding rust_names_computes shown
past_the_levels = refl

basic_is_no_level : option_map shown (text_within 2 (codes "MC0Rh")) ≡ Some "<&u8>"
unfolding rust_names_computes shown
basic_is_no_level = refl

a_reference_is_a_level : option_map shown (text_within 2 (codes "MC0RRh")) ≡ None
unfolding rust_names_computes shown
a_reference_is_a_level = refl

a_type_and_its_path : option_map shown (text_within 3 (codes "MC0C1a")) ≡ Some "<a>"
unfolding rust_names_computes shown
a_type_and_its_path = refl

the_path_is_one_too : option_map shown (text_within 2 (codes "MC0C1a")) ≡ None
unfolding rust_names_computes shown
the_path_is_one_too = refl

back_is_one_more : option_map shown (text_within 5 (codes "MC0TRhB3_E")) ≡ Some "<(&u8, &u8)>"
unfolding rust_names_computes shown
back_is_one_more = refl

no_level_for_what_is_back : option_map shown (text_within 4 (codes "MC0TRhB3_E")) ≡ None
unfolding rust_names_computes shown
no_level_for_what_is_back = refl

a_constant_is_a_level : option_map shown (text_within 3 (codes "IC0KRh0_E")) ≡ Some "::<{&0}>"
unfolding rust_names_computes shown
a_constant_is_a_level = refl

past_its_level : option_map shown (text_within 2 (codes "IC0KRh0_E")) ≡ None
unfolding rust_names_computes shown
past_its_level = refl
