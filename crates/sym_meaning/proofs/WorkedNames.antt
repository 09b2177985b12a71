-- Worked examples: the function, the inlined copies and the line of an address.
use Rattle.std.proofs.Common.{◌≡◌, List, [], ◌∷◌, Some, None, codes, true, false, refl}
use Rattle.sym_records.specs.declared.line.SymLine.{SymLine}
use Rattle.sym_records.specs.declared.line.SymLine.TheVariants.{File, Origin, Func, Inline, Line, Public}
use Rattle.sym_meaning.specs.TextNames.{text_owner, text_line, Call, text_chain}

-- Two functions that overlap, the first with an INLINE and two line records.
unfoldable text : List SymLine
text =
    File 0 (codes "a.c")
    ∷ File 0 (codes "twice.c")
    ∷ Func false 0x10 0x20 0 (codes "f")
    ∷ Inline 0 4 0 0 []
    ∷ Line 0x10 4 3 0
    ∷ Line 0x14 8 9 1
    ∷ Func true 0x18 0x20 0 (codes "g")
    ∷ Line 0x1c 0x1c 7 0
    ∷ Public false 0x50 0 (codes "p")
    ∷ []

-- The first FUNC that covers the address counts. Its end is not covered.
first_function : text_owner text 0x18 ≡ Some (codes "f")
unfolding text text_owner
first_function = refl

second_function : text_owner text 0x37 ≡ Some (codes "g")
unfolding text text_owner
second_function = refl

behind_both : text_owner text 0x38 ≡ None
unfolding text text_owner
behind_both = refl

-- The first FILE with a number counts.
line_of_the_first : text_line text 0x13 ≡ Some (Some (codes "a.c"), 3)
unfolding text text_line
line_of_the_first = refl

-- A line record whose FILE is missing.
line_without_a_file : text_line text 0x14 ≡ Some (None, 9)
unfolding text text_line
line_without_a_file = refl

-- Only the line records of the first FUNC count, even if another FUNC has one.
line_of_the_second : text_line text 0x1c ≡ None
unfolding text text_line
line_of_the_second = refl

own_line_of_the_second : text_line text 0x30 ≡ Some (Some (codes "a.c"), 7)
unfolding text text_line
own_line_of_the_second = refl

-- A function with inlined copies at two levels: two of level 0 that overlap, and copies of level 1
-- inside and outside of these.
unfoldable inlined : List SymLine
inlined =
    File 0 (codes "a.c")
    ∷ File 1 (codes "b.h")
    ∷ Origin 0 (codes "in")
    ∷ Origin 1 (codes "deep")
    ∷ Func false 0x10 0x40 0 (codes "f")
    ∷ Inline 0 5 0 0 (record { address = 0x14; size = 4 } ∷ record { address = 0x20; size = 8 } ∷ [])
    ∷ Inline 0 6 2 7 (record { address = 0x24; size = 8 } ∷ [])
    ∷ Inline 1 7 1 1 (record { address = 0x22; size = 4 } ∷ record { address = 0x30; size = 4 } ∷ [])
    ∷ Line 0x10 0x40 3 0
    ∷ Func false 0x50 0x10 0 (codes "g")
    ∷ Inline 0 8 0 0 (record { address = 0x10; size = 0x50 } ∷ [])
    ∷ []

abbrev first_call : Call
first_call = record { name = Some (codes "in"); path = Some (codes "a.c"); line = 5 }

abbrev deep_call : Call
deep_call = record { name = Some (codes "deep"); path = Some (codes "b.h"); line = 7 }

-- The end of a range is not covered.
one_level : text_chain inlined 0x17 ≡ first_call ∷ []
unfolding inlined text_chain
one_level = refl

behind_the_range : text_chain inlined 0x18 ≡ []
unfolding inlined text_chain
behind_the_range = refl

-- The outermost call is the first.
two_levels : text_chain inlined 0x22 ≡ first_call ∷ deep_call ∷ []
unfolding inlined text_chain
two_levels = refl

-- Of two INLINE records of one level that cover the address, the first counts.
first_of_two : text_chain inlined 0x25 ≡ first_call ∷ deep_call ∷ []
unfolding inlined text_chain
first_of_two = refl

-- An INLINE whose INLINE_ORIGIN and FILE are missing.
without_names : text_chain inlined 0x2b ≡ record { name = None; path = None; line = 6 } ∷ []
unfolding inlined text_chain
without_names = refl

-- Level 1 covers the address, but level 0 does not.
level_without_its_outer : text_chain inlined 0x30 ≡ []
unfolding inlined text_chain
level_without_its_outer = refl

-- Only the INLINE records of the first FUNC count.
inlined_in_another : text_chain inlined 0x11 ≡ []
unfolding inlined text_chain
inlined_in_another = refl

behind_all : text_chain inlined 0x60 ≡ []
unfolding inlined text_chain
behind_all = refl
