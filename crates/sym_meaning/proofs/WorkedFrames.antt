-- Worked examples: a list of records in which a checker finds nothing, and lists with each finding
-- about frames.
use Rattle.std.proofs.Common.{◌≡◌, ◌+◌, ◌<◌, ◌≤◌, ◌&&◌, nat_le, nat_lt, Bool, true, false, cond, List, [], ◌∷◌, codes, refl, arith, rules}
use Rattle.sym_records.specs.declared.line.SymLine.{SymLine}
use Rattle.sym_records.specs.declared.line.SymLine.TheVariants.{File, Func, Line, Init, Change}
use Rattle.sym_meaning.specs.Findings.{are_sized, HasNoFindings}
use Rattle.sym_meaning.specs.Inits.{inits_at, AreNested}

-- A function with a line, and its frame records, here without rules.
abbrev clean : List SymLine
clean =
    File 0 (codes "a.c")
    ∷ Func false 0x10 0x10 0 (codes "f")
    ∷ Line 0x10 0x10 3 0
    ∷ Init 0x10 0x10 []
    ∷ Change 0x11 []
    ∷ Change 0x1f []
    ∷ []

at_most_one : (b : Bool) → 0 + cond b 1 0 + 0 + 0 ≤ 1
at_most_one true = omega arith
at_most_one false = omega arith

nothing_found : HasNoFindings clean
unfolding inits_at
nothing_found = record {
  functions = record {
    given_once = search rules;
    files = refl;
    origins = refl;
    sized = refl;
    functions_apart = search rules;
    inside = search rules;
    lines_apart = search rules;
  };
  inits_apart = λ x. at_most_one (nat_le 0x10 x && nat_lt x 0x20);
  changes_rise = search rules;
}

-- C4: an empty INIT, and one whose end is 2^64.
empty_init : are_sized (Init 0x10 0 []) ≡ false
empty_init = refl

behind_last : are_sized (Init 0xfffffffffffffff0 0x10 []) ≡ false
behind_last = refl

-- C8: INITs that overlap need not be neighbours. Two that touch do not overlap.
inits_meet : HasNoFindings (Init 0x10 0x10 [] ∷ Init 0x40 0x10 [] ∷ Init 0x1f 8 [] ∷ []) → ⊥
unfolding inits_at
inits_meet none = let two : 2 ≤ 1 = none.inits_apart 0x1f in absurd (omega arith)

inits_touch : inits_at (Init 0x10 0x10 [] ∷ Init 0x20 8 [] ∷ []) 0x20 ≡ 1
unfolding inits_at
inits_touch = refl

-- C9: a STACK CFI at the address of its INIT, at that of the STACK CFI before it, after the INIT's
-- end, and without an INIT.
change_at_init : AreNested 0 0 (Init 0x10 0x10 [] ∷ Change 0x10 [] ∷ []) → ⊥
change_at_init nested = let above : 0x10 < 0x10 = nested.1.0 in absurd (omega arith)

change_again : AreNested 0 0 (Init 0x10 0x10 [] ∷ Change 0x18 [] ∷ Change 0x18 [] ∷ []) → ⊥
change_again nested = let above : 0x18 < 0x18 = nested.1.1.1.0 in absurd (omega arith)

change_behind : AreNested 0 0 (Init 0x10 0x10 [] ∷ Change 0x20 [] ∷ []) → ⊥
change_behind nested = let inside : 0x20 < 0x20 = nested.1.1.0 in absurd (omega arith)

change_alone : AreNested 0 0 (Func false 0x10 0x10 0 (codes "f") ∷ Change 0x18 [] ∷ []) → ⊥
change_alone nested = let inside : 0x18 < 0 = nested.1.0 in absurd (omega arith)
