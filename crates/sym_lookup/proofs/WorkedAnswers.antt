-- Worked examples: the answer at an address, and its text.
use Rattle.std.proofs.Common.{◌≡◌, ℕ, List, [], ◌∷◌, Some, None, codes, false, refl}
use Prim.Native.String.{String}
use Rattle.sym_edges.proofs.Shown.{shown}
use Rattle.sym_records.specs.declared.line.SymLine.{SymLine}
use Rattle.sym_records.specs.declared.line.SymLine.TheVariants.{File, Origin, Func, Inline, Line, Public}
use Rattle.sym_lookup.specs.declared.answers.Answer.TheVariants as answer
use Rattle.sym_lookup.specs.Answers.{answer_of}
use Rattle.sym_lookup.specs.AnswerTexts.{answer_text}
use Rattle.sym_lookup.proofs.Computing.{sym_lookup_computes}

unfoldable look : List SymLine → ℕ → String
unfolding shown
look lines x = shown (answer_text lines (answer_of lines x))

-- A function with an inlined copy.
unfoldable called : List SymLine
called =
    File 0 (codes "/s/a.c")
    ∷ Origin 0 (codes "g")
    ∷ Func false 0x1000 0x20 0 (codes "_Z1fv")
    ∷ Inline 0 4 0 0 (record { address = 0x1004; size = 8 } ∷ [])
    ∷ Line 0x1000 4 3 0
    ∷ Line 0x1004 8 9 0
    ∷ Line 0x100c 0x14 4 0
    ∷ []

places : answer_of called 0x1005 ≡ answer.Function 2 (3 ∷ []) (Some 5)
unfolding called sym_lookup_computes
places = refl

two_frames : look called 0x1005 ≡ "g at /s/a.c:9\n_Z1fv at /s/a.c:4\n"
unfolding look called sym_lookup_computes
two_frames = refl

one_frame : look called 0x100c ≡ "_Z1fv at /s/a.c:4\n"
unfolding look called sym_lookup_computes
one_frame = refl

behind_it : look called 0x1020 ≡ "none\n"
unfolding look called sym_lookup_computes
behind_it = refl

-- A program made by gcc: symbols before its function and after it.
unfoldable hello : List SymLine
hello =
    File 0 (codes "/home/u/hello.c")
    ∷ Func false 0x1139 0x17 0 (codes "main")
    ∷ Line 0x1139 4 3 0
    ∷ Line 0x113d 0xf 4 0
    ∷ Line 0x114c 4 5 0
    ∷ Public false 0x1000 0 (codes "_init")
    ∷ Public false 0x1040 0 (codes "_start")
    ∷ []

symbol_below : look hello 0x1045 ≡ "public _start\n"
unfolding look hello sym_lookup_computes
symbol_below = refl

symbol_at : answer_of hello 0x1040 ≡ answer.Public 6
unfolding hello sym_lookup_computes
symbol_at = refl

first_symbol : look hello 0x103f ≡ "public _init\n"
unfolding look hello sym_lookup_computes
first_symbol = refl

below_all : look hello 0xfff ≡ "none\n"
unfolding look hello sym_lookup_computes
below_all = refl

behind_main : look hello 0x1150 ≡ "none\n"
unfolding look hello sym_lookup_computes
behind_main = refl

-- A FUNC after a PUBLIC.
unfoldable parted : List SymLine
parted = Public false 0x1000 0 (codes "p") ∷ Func false 0x1010 4 0 (codes "f") ∷ []

before_the_func : look parted 0x100f ≡ "public p\n"
unfolding look parted sym_lookup_computes
before_the_func = refl

in_the_func : look parted 0x1012 ≡ "f at ?\n"
unfolding look parted sym_lookup_computes
in_the_func = refl

behind_the_func : look parted 0x1014 ≡ "none\n"
unfolding look parted sym_lookup_computes
behind_the_func = refl

-- Two functions that overlap.
unfoldable met : List SymLine
met = Func false 0x1000 0x20 0 (codes "f") ∷ Func false 0x1010 0x20 0 (codes "g") ∷ []

in_both : look met 0x1018 ≡ "f at ?\n"
unfolding look met sym_lookup_computes
in_both = refl

in_the_second : look met 0x1028 ≡ "g at ?\n"
unfolding look met sym_lookup_computes
in_the_second = refl

-- A function at the last address, one that ends beyond it, and an empty one, which covers nothing
-- but begins at an address.
unfoldable ends : List SymLine
ends =
    Public false 0x1000 0 (codes "p")
    ∷ Func false 0x1008 0 0 (codes "empty")
    ∷ Func false 0xffffffffffffffff 1 0 (codes "e")
    ∷ Func false 0xfffffffffffffff0 0x20 0 (codes "past")
    ∷ []

at_the_last : look ends 0xffffffffffffffff ≡ "e at ?\n"
unfolding look ends sym_lookup_computes
at_the_last = refl

past_the_last : look ends 0xfffffffffffffffe ≡ "past at ?\n"
unfolding look ends sym_lookup_computes
past_the_last = refl

empty_function : look ends 0x1008 ≡ "none\n"
unfolding look ends sym_lookup_computes
empty_function = refl

before_the_empty : look ends 0x1007 ≡ "public p\n"
unfolding look ends sym_lookup_computes
before_the_empty = refl

-- Symbols at one address, not in order, and one at which a function begins.
unfoldable symbols : List SymLine
symbols =
    Public false 0x3000 0 (codes "far")
    ∷ Public false 0x2000 0 (codes "first")
    ∷ Public false 0x1000 0 (codes "near")
    ∷ Public false 0x2000 0 (codes "second")
    ∷ Func false 0x3000 0 0 (codes "f")
    ∷ []

first_of_two : answer_of symbols 0x2fff ≡ answer.Public 1
unfolding symbols sym_lookup_computes
first_of_two = refl

at_a_function : look symbols 0x3000 ≡ "none\n"
unfolding look symbols sym_lookup_computes
at_a_function = refl

-- Levels out of order, two copies of one level that overlap, and a level 1 without a level 0; FILE
-- and INLINE_ORIGIN records that are missing, and numbers that are given twice.
unfoldable levels : List SymLine
levels =
    File 0 (codes "a.c")
    ∷ File 1 (codes "b.h")
    ∷ File 1 (codes "twice.h")
    ∷ Origin 0 (codes "in")
    ∷ Origin 1 (codes "deep")
    ∷ Origin 1 (codes "twice")
    ∷ Func false 0x10 0x40 0 (codes "f")
    ∷ Line 0x20 4 3 0
    ∷ Inline 1 7 1 1 (record { address = 0x22; size = 4 } ∷ record { address = 0x30; size = 4 } ∷ [])
    ∷ Inline 0 5 0 0 (record { address = 0x14; size = 4 } ∷ record { address = 0x20; size = 8 } ∷ [])
    ∷ Inline 0 6 2 7 (record { address = 0x24; size = 8 } ∷ [])
    ∷ Line 0x24 4 9 2
    ∷ Line 0x22 4 8 1
    ∷ []

both_levels : answer_of levels 0x22 ≡ answer.Function 6 (9 ∷ 8 ∷ []) (Some 7)
unfolding levels sym_lookup_computes
both_levels = refl

three_frames : look levels 0x22 ≡ "deep at a.c:3\nin at b.h:7\nf at a.c:5\n"
unfolding look levels sym_lookup_computes
three_frames = refl

line_without_a_file : look levels 0x27 ≡ "in at ?\nf at a.c:5\n"
unfolding look levels sym_lookup_computes
line_without_a_file = refl

first_of_a_level : answer_of levels 0x25 ≡ answer.Function 6 (9 ∷ 8 ∷ []) (Some 11)
unfolding levels sym_lookup_computes
first_of_a_level = refl

without_names : look levels 0x2b ≡ "<name omitted> at ?\nf at ?\n"
unfolding look levels sym_lookup_computes
without_names = refl

level_alone : answer_of levels 0x30 ≡ answer.Function 6 [] None
unfolding levels sym_lookup_computes
level_alone = refl
