-- Worked examples: what paths and types in Rust's v0 mangling show.
use Rattle.std.proofs.Common.{◌≡◌, Some, codes, chars, refl}
use Rattle.std.specs.Option.{option_map}
use Rattle.sym_edges.proofs.Shown.{shown}
use Rattle.rust_names.proofs.Computing.{rust_names_computes}
use Rattle.rust_names.specs.V0Names.{v0_text}

-- Paths.

-- A crate, with and without its disambiguator.
a_crate : option_map shown (v0_text (codes "_RC3foo")) ≡ Some "foo"
unfolding rust_names_computes shown
a_crate = refl

disambiguated : option_map shown (v0_text (codes "_RNvCs1234_7mycrate3foo")) ≡ Some "mycrate::foo"
unfolding rust_names_computes shown
disambiguated = refl

-- An identifier that begins with a digit comes after a separator.
a_digit_first : option_map shown (v0_text (codes "_RNvC6_123foo3bar")) ≡ Some "123foo::bar"
unfolding rust_names_computes shown
a_digit_first = refl

a_separator : option_map shown (v0_text (codes "_RC2__a")) ≡ Some "_a"
unfolding rust_names_computes shown
a_separator = refl

-- Punycode.
punycode : option_map shown (option_map chars (v0_text (codes "_RNqCs4fqI2P2rA04_11utf8_identsu30____7hkackfecea1cbdathfdh9hlq6y"))) ≡ Some "utf8_idents::საჭმელად_გემრიელი_სადილი"
unfolding rust_names_computes shown
punycode = refl

-- Closures, and a backreference in the instantiating path.
closures : option_map shown (v0_text (codes "_RNCNCNgCs6DXkGYLi8lr_2cc5spawn00B5_")) ≡ Some "cc::spawn::{closure#0}::{closure#0}"
unfolding rust_names_computes shown
closures = refl

named_closure : option_map shown (v0_text (codes "_RNCC1a3foo")) ≡ Some "a::{closure:foo#0}"
unfolding rust_names_computes shown
named_closure = refl

-- Other namespaces.
shim : option_map shown (v0_text (codes "_RNSC1a6vtable")) ≡ Some "a::{shim:vtable#0}"
unfolding rust_names_computes shown
shim = refl

another_namespace : option_map shown (v0_text (codes "_RNDC1as_3foo")) ≡ Some "a::{D:foo#1}"
unfolding rust_names_computes shown
another_namespace = refl

empty_name : option_map shown (v0_text (codes "_RNvC1a0")) ≡ Some "a"
unfolding rust_names_computes shown
empty_name = refl

-- <T>
inherent : option_map shown (v0_text (codes "_RMC0h")) ≡ Some "<u8>"
unfolding rust_names_computes shown
inherent = refl

-- <T as Trait>
of_an_impl : option_map shown (v0_text (codes "_RXC0hNtC1a1T")) ≡ Some "<u8 as a::T>"
unfolding rust_names_computes shown
of_an_impl = refl

of_a_trait : option_map shown (v0_text (codes "_RYhNtC1a1T")) ≡ Some "<u8 as a::T>"
unfolding rust_names_computes shown
of_a_trait = refl

-- Generic arguments, in a value and in a type.
generic : option_map shown (v0_text (codes "_RINvC1a1fhE")) ≡ Some "a::f::<u8>"
unfolding rust_names_computes shown
generic = refl

generic_type : option_map shown (v0_text (codes "_RMC0INtC1a1ShE")) ≡ Some "<a::S<u8>>"
unfolding rust_names_computes shown
generic_type = refl

lifetime_argument : option_map shown (v0_text (codes "_RMC0INtC1a1SL_E")) ≡ Some "<a::S<'_>>"
unfolding rust_names_computes shown
lifetime_argument = refl

-- A backreference to a path.
back_to_a_path : option_map shown (v0_text (codes "_RINvC1a1fNvB2_1gE")) ≡ Some "a::f::<a::g>"
unfolding rust_names_computes shown
back_to_a_path = refl

-- Paths in paths.
iterators : option_map shown (v0_text (codes "_RNCINkXs25_NgCsbmNqQUJIY6D_4core5sliceINyB9_4IterhENuNgNoBb_4iter8iterator8Iterator9rpositionNCNgNpB9_6memchr7memrchrs_0E0Bb_")) ≡ Some "<core::slice::Iter<u8> as core::iter::iterator::Iterator>::rposition::<core::slice::memchr::memrchr::{closure#1}>::{closure#0}"
unfolding rust_names_computes shown
iterators = refl

-- What is not shown.

-- In the path of an impl, lifetimes are not looked up, and backreferences are not followed.
hidden_lifetime : option_map shown (v0_text (codes "_RMINtC1a1TRL0_hEh")) ≡ Some "<u8>"
unfolding rust_names_computes shown
hidden_lifetime = refl

hidden_back : option_map shown (v0_text (codes "_RMB_h")) ≡ Some "<u8>"
unfolding rust_names_computes shown
hidden_back = refl

-- The instantiating path.
an_instance : option_map shown (v0_text (codes "_RNvC1a1bC1c")) ≡ Some "a::b"
unfolding rust_names_computes shown
an_instance = refl

-- Suffixes.
a_suffix : option_map shown (v0_text (codes "_RNvC9backtrace3foo.llvm.A5310EB9")) ≡ Some "backtrace::foo"
unfolding rust_names_computes shown
a_suffix = refl

another_suffix : option_map shown (v0_text (codes "_RC3foo.llvm.9D1C9369@@16")) ≡ Some "foo"
unfolding rust_names_computes shown
another_suffix = refl

an_instance_and_a_suffix : option_map shown (v0_text (codes "_RNvC1a1bNvC1c1d.llvm.1")) ≡ Some "a::b"
unfolding rust_names_computes shown
an_instance_and_a_suffix = refl

-- Types.

-- Basic types.
basic : option_map shown (v0_text (codes "_RMC0TbceuasxlniE")) ≡ Some "<(bool, char, str, (), i8, i16, i64, i32, i128, isize)>"
unfolding rust_names_computes shown
basic = refl

more_basic : option_map shown (v0_text (codes "_RMC0ThtmyojfdzpvE")) ≡ Some "<(u8, u16, u32, u64, u128, usize, f32, f64, !, _, ...)>"
unfolding rust_names_computes shown
more_basic = refl

-- Arrays and slices.
array : option_map shown (v0_text (codes "_RMC0Ahj3_")) ≡ Some "<[u8; 3]>"
unfolding rust_names_computes shown
array = refl

slice : option_map shown (v0_text (codes "_RMC0Sh")) ≡ Some "<[u8]>"
unfolding rust_names_computes shown
slice = refl

array_vec : option_map shown (v0_text (codes "_RMC0INtC8arrayvec8ArrayVechKj7b_E")) ≡ Some "<arrayvec::ArrayVec<u8, 123>>"
unfolding rust_names_computes shown
array_vec = refl

-- Tuples.
unit : option_map shown (v0_text (codes "_RMC0TE")) ≡ Some "<()>"
unfolding rust_names_computes shown
unit = refl

tuple_of_one : option_map shown (v0_text (codes "_RMC0ThE")) ≡ Some "<(u8,)>"
unfolding rust_names_computes shown
tuple_of_one = refl

tuple : option_map shown (v0_text (codes "_RMC0ThtE")) ≡ Some "<(u8, u16)>"
unfolding rust_names_computes shown
tuple = refl

-- References and pointers.
reference : option_map shown (v0_text (codes "_RMC0Rh")) ≡ Some "<&u8>"
unfolding rust_names_computes shown
reference = refl

without_lifetime : option_map shown (v0_text (codes "_RMC0RL_h")) ≡ Some "<&u8>"
unfolding rust_names_computes shown
without_lifetime = refl

mutable : option_map shown (v0_text (codes "_RMC0Qh")) ≡ Some "<&mut u8>"
unfolding rust_names_computes shown
mutable = refl

pointers : option_map shown (v0_text (codes "_RMC0TPhOhE")) ≡ Some "<(*const u8, *mut u8)>"
unfolding rust_names_computes shown
pointers = refl

-- Functions.
function : option_map shown (v0_text (codes "_RMC0FhtEm")) ≡ Some "<fn(u8, u16) -> u32>"
unfolding rust_names_computes shown
function = refl

function_unit : option_map shown (v0_text (codes "_RMC0FEu")) ≡ Some "<fn()>"
unfolding rust_names_computes shown
function_unit = refl

unsafe_function : option_map shown (v0_text (codes "_RMC0FUEu")) ≡ Some "<unsafe fn()>"
unfolding rust_names_computes shown
unsafe_function = refl

extern_c : option_map shown (v0_text (codes "_RMC0FKCEu")) ≡ Some "<extern \"C\" fn()>"
unfolding rust_names_computes shown
extern_c = refl

extern_other : option_map shown (v0_text (codes "_RMC0FK8rust_abiEu")) ≡ Some "<extern \"rust-abi\" fn()>"
unfolding rust_names_computes shown
extern_other = refl

-- Binders, and lifetimes by their depth.
bound : option_map shown (v0_text (codes "_RMC0FG_RL0_hEu")) ≡ Some "<for<'a> fn(&'a u8)>"
unfolding rust_names_computes shown
bound = refl

two_bound : option_map shown (v0_text (codes "_RMC0FG0_RL1_hRL0_hEu")) ≡ Some "<for<'a, 'b> fn(&'a u8, &'b u8)>"
unfolding rust_names_computes shown
two_bound = refl

nested_bound : option_map shown (v0_text (codes "_RMC0FG_FG_RL1_hRL0_hEuEu")) ≡ Some "<for<'a> fn(for<'b> fn(&'a u8, &'b u8))>"
unfolding rust_names_computes shown
nested_bound = refl

many_bound : option_map shown (v0_text (codes "_RMC0FGq_RL0_hRLq_hEu")) ≡ Some "<for<'a, 'b, 'c, 'd, 'e, 'f, 'g, 'h, 'i, 'j, 'k, 'l, 'm, 'n, 'o, 'p, 'q, 'r, 's, 't, 'u, 'v, 'w, 'x, 'y, 'z, '_26, '_27> fn(&'_27 u8, &'b u8)>"
unfolding rust_names_computes shown
many_bound = refl

-- Types with `dyn`.
dyn : option_map shown (v0_text (codes "_RMC0DNtC1a1TEL_")) ≡ Some "<dyn a::T>"
unfolding rust_names_computes shown
dyn = refl

dyn_two : option_map shown (v0_text (codes "_RMC0DNtC1a1TNtC1a1UEL_")) ≡ Some "<dyn a::T + a::U>"
unfolding rust_names_computes shown
dyn_two = refl

dyn_binding : option_map shown (v0_text (codes "_RMC0DNtC1a1Tp4ItemhEL_")) ≡ Some "<dyn a::T<Item = u8>>"
unfolding rust_names_computes shown
dyn_binding = refl

dyn_bindings : option_map shown (v0_text (codes "_RMC0DINtC1a1TtEp4Itemhp1BmEL_")) ≡ Some "<dyn a::T<u16, Item = u8, B = u32>>"
unfolding rust_names_computes shown
dyn_bindings = refl

dyn_back : option_map shown (v0_text (codes "_RMC0TINtC1a1ThEDB3_p1AtEL_E")) ≡ Some "<(a::T<u8>, dyn a::T<u8, A = u16>)>"
unfolding rust_names_computes shown
dyn_back = refl

dyn_bound : option_map shown (v0_text (codes "_RMC0DG_INtC1a1TRL0_hEEL_")) ≡ Some "<dyn for<'a> a::T<&'a u8>>"
unfolding rust_names_computes shown
dyn_bound = refl

-- The lifetime of a `dyn` type is outside of its binder.
dyn_outlives : option_map shown (v0_text (codes "_RMC0FG_DNtC1a1TEL0_Eu")) ≡ Some "<for<'a> fn(dyn a::T + 'a)>"
unfolding rust_names_computes shown
dyn_outlives = refl

dyn_box : option_map shown (v0_text (codes "_RINbNbCskIICzLVDPPb_5alloc5alloc8box_freeDINbNiB4_5boxed5FnBoxuEp6OutputuEL_ECs1iopQbuBiw2_3std")) ≡ Some "alloc::alloc::box_free::<dyn alloc::boxed::FnBox<(), Output = ()>>"
unfolding rust_names_computes shown
dyn_box = refl

-- A backreference to a type, and six backreferences that each double the text.
back_to_a_type : option_map shown (v0_text (codes "_RMC0TRhB3_E")) ≡ Some "<(&u8, &u8)>"
unfolding rust_names_computes shown
back_to_a_type = refl

doubling : option_map shown (v0_text (codes "_RMC0TTTTTTpB8_EB7_EB6_EB5_EB4_EB3_E")) ≡ Some "<((((((_, _), (_, _)), ((_, _), (_, _))), (((_, _), (_, _)), ((_, _), (_, _)))), ((((_, _), (_, _)), ((_, _), (_, _))), (((_, _), (_, _)), ((_, _), (_, _))))), (((((_, _), (_, _)), ((_, _), (_, _))), (((_, _), (_, _)), ((_, _), (_, _)))), ((((_, _), (_, _)), ((_, _), (_, _))), (((_, _), (_, _)), ((_, _), (_, _))))))>"
unfolding rust_names_computes shown
doubling = refl
