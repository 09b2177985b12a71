-- Worked examples: a list of records in which a checker finds nothing, and lists with each of the
-- findings C1 to C7.
use Rattle.std.proofs.Common.{◌≡◌, List, [], ◌∷◌, codes, true, false, refl, rules}
use Rattle.std.specs.List.{list_all, flat_map}
use Rattle.sym_records.specs.declared.line.SymLine.{SymLine}
use Rattle.sym_records.specs.declared.line.SymLine.TheVariants.{File, Origin, Func, Inline, Line, Public}
use Rattle.sym_meaning.specs.Findings.{run_of, func_run, AreGivenOnce, has_file, has_origin, are_sized, AreApart, EachFunc, LieInside, HaveLinesApart, HasNoFuncFindings}

-- Two functions that touch, with inlined copies and lines up to their ends.
abbrev clean : List SymLine
clean =
    File 0 (codes "a.c")
    ∷ File 1 (codes "b.h")
    ∷ Origin 0 (codes "in")
    ∷ Func false 0x10 0x10 0 (codes "f")
    ∷ Inline 0 4 0 0 (run_of 0x10 4 ∷ run_of 0x18 8 ∷ [])
    ∷ Line 0x10 8 3 0
    ∷ Line 0x18 8 9 1
    ∷ Func true 0x20 0x10 0 (codes "g")
    ∷ Line 0x28 8 7 0
    ∷ Public false 0x50 0 (codes "p")
    ∷ []

nothing_found : HasNoFuncFindings clean
nothing_found = record {
  given_once = search rules;
  files = refl;
  origins = refl;
  sized = refl;
  functions_apart = search rules;
  inside = search rules;
  lines_apart = search rules;
}

-- C1: a number is given twice with one keyword. FILE and INLINE_ORIGIN are numbered separately.
file_again : AreGivenOnce (File 0 (codes "a.c") ∷ Origin 1 (codes "in") ∷ File 0 (codes "b.c") ∷ []) → ⊥
file_again given = absurd (cc given.0)

origin_again : AreGivenOnce (Origin 1 (codes "in") ∷ Origin 1 (codes "on") ∷ []) → ⊥
origin_again given = absurd (cc given.0)

-- C2 and C3: a number that is not given.
line_without_file : list_all (has_file (File 0 (codes "a.c") ∷ [])) (Line 0x10 4 3 1 ∷ []) ≡ false
line_without_file = refl

inline_without_file : list_all (has_file (Origin 1 (codes "in") ∷ [])) (Inline 0 4 1 1 [] ∷ []) ≡ false
inline_without_file = refl

inline_without_origin : list_all (has_origin (File 1 (codes "a.c") ∷ [])) (Inline 0 4 1 1 [] ∷ []) ≡ false
inline_without_origin = refl

-- C4: an empty range, and one whose end is 2^64.
empty_function : are_sized (Func false 0x10 0 0 (codes "f")) ≡ false
empty_function = refl

last_address : are_sized (Line 0xfffffffffffffff0 0xf 3 0) ≡ true
last_address = refl

behind_last : are_sized (Inline 0 4 0 0 (run_of 0x10 4 ∷ run_of 0xfffffffffffffff0 0x10 ∷ [])) ≡ false
behind_last = refl

-- C5: the FUNCs that overlap need not be neighbours. An empty FUNC overlaps none.
functions_meet : AreApart (flat_map func_run (Func false 0x10 0x10 0 (codes "f") ∷ Func false 0x40 0x10 0 (codes "g") ∷ Func false 0x18 0x10 0 (codes "h") ∷ [])) → ⊥
functions_meet apart = absurd (cc apart.0)

empty_inside : AreApart (flat_map func_run (Func false 0x10 0x10 0 (codes "f") ∷ Func false 0x18 0 0 (codes "g") ∷ []))
empty_inside = search rules

-- C6: a line record that begins before its FUNC, and a range of an INLINE that ends after it.
line_before : EachFunc LieInside (Func false 0x10 0x10 0 (codes "f") ∷ Line 0xc 8 3 0 ∷ []) → ⊥
line_before inside = absurd (cc inside.0)

range_behind : EachFunc LieInside (Func false 0x10 0x10 0 (codes "f") ∷ Inline 0 4 0 0 (run_of 0x18 9 ∷ []) ∷ []) → ⊥
range_behind inside = absurd (cc inside.0)

-- C7: line records of one FUNC overlap; those of two FUNCs may.
lines_meet : EachFunc HaveLinesApart (Func false 0x10 0x10 0 (codes "f") ∷ Line 0x10 8 3 0 ∷ Line 0x14 4 9 0 ∷ []) → ⊥
lines_meet apart = absurd (cc apart.0.0)

lines_of_two : EachFunc HaveLinesApart (Func false 0x10 0x10 0 (codes "f") ∷ Line 0x10 8 3 0 ∷ Func false 0x18 0x10 0 (codes "g") ∷ Line 0x10 8 9 0 ∷ [])
lines_of_two = search rules
