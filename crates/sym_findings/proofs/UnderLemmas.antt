-- The records under a FUNC: C6 and C7 are found at none of them exactly if a checker finds nothing
-- (for the law `nothing_found`).
use Rattle.std.proofs.Common.{◌≡◌, ◌&&◌, true, false, List, [], ◌∷◌, Option, None, Some, refl, ap, sym, ◌∙◌}
use Rattle.std.specs.List.{list_all, flat_map}
use Rattle.std.specs.Option.{option_map, option_map_or}
use Rattle.std.proofs.lemmas.Bool.{and_parts}
use Rattle.sym_records.specs.declared.line.Extent.{Extent}
use Rattle.sym_records.specs.declared.line.SymLine.{SymLine}
use Rattle.sym_records.specs.declared.line.SymLine.TheVariants.{Func, Inline, Line}
use Rattle.sym_meaning.specs.TextNames.{under}
use Rattle.sym_meaning.specs.Findings.{run_of, line_run, runs_of, meet, holds_run, EachFunc, LieInside, HaveLinesApart}
use Rattle.sym_findings.specs.Findings.{meets_any, OpenFunc, with_line, open_func, leave, leaves_func, meets_line}
use Rattle.sym_findings.proofs.PairLemmas.{NoneOf, NoneBefore, apart_all, all_apart, not_false, true_not}

-- The later line records under the open FUNC do not overlap each other or earlier ones.
abbrev OpenApart : Option OpenFunc → List Extent → Type 0
OpenApart None runs = Unit {0}
OpenApart (Some f) runs = NoneBefore meet f.lines runs

open_apart_none : (o : Option OpenFunc) → OpenApart o []
open_apart_none None = tt
open_apart_none (Some f) = tt

line_apart : (o : Option OpenFunc) (e : Extent) (runs : List Extent) → option_map_or (λ f. meets_any f.lines e) o false ≡ false → OpenApart (option_map (with_line e) o) runs → OpenApart o (e ∷ runs)
line_apart None e runs none later = tt
line_apart (Some f) e runs none later = (none, later)

apart_line : (o : Option OpenFunc) (e : Extent) (runs : List Extent) → OpenApart o (e ∷ runs) → (option_map_or (λ f. meets_any f.lines e) o false ≡ false) × OpenApart (option_map (with_line e) o) runs
apart_line None e runs apart = (refl, tt)
apart_line (Some f) e runs apart = apart

-- The later records under the open FUNC do not reach outside of it.
abbrev OpenInside : Option OpenFunc → List SymLine → Type 0
OpenInside None records = Unit {0}
OpenInside (Some f) records = list_all (λ s. list_all (holds_run f.func) (runs_of s)) records ≡ true

open_inside_none : (o : Option OpenFunc) → OpenInside o []
open_inside_none None = tt
open_inside_none (Some f) = refl

one_inside : (o : Option OpenFunc) (runs : List Extent) (s : SymLine) (records : List SymLine) → runs_of s ≡ runs → option_map_or (leave runs) o false ≡ false → OpenInside o records → OpenInside o (s ∷ records)
one_inside None runs s records is none later = tt
one_inside (Some f) runs s records is none later =
    ap (λ r. list_all (holds_run f.func) r && list_all (λ t. list_all (holds_run f.func) (runs_of t)) records) is
    ∙ ap (λ t. t && list_all (λ t. list_all (holds_run f.func) (runs_of t)) records) (not_false (list_all (holds_run f.func) runs) none)
    ∙ later

inside_one : (o : Option OpenFunc) (runs : List Extent) (s : SymLine) (records : List SymLine) → runs_of s ≡ runs → OpenInside o (s ∷ records) → (option_map_or (leave runs) o false ≡ false) × OpenInside o records
inside_one None runs s records is inside = (refl, tt)
inside_one (Some f) runs s records is inside =
    let parts = and_parts (list_all (holds_run f.func) (runs_of s)) (list_all (λ t. list_all (holds_run f.func) (runs_of t)) records) inside in
    (true_not (list_all (holds_run f.func) runs) (ap (list_all (holds_run f.func)) (sym is) ∙ parts.0), parts.1)

with_inside : (o : Option OpenFunc) (e : Extent) (records : List SymLine) → OpenInside (option_map (with_line e) o) records → OpenInside o records
with_inside None e records inside = tt
with_inside (Some f) e records inside = inside

inside_with : (o : Option OpenFunc) (e : Extent) (records : List SymLine) → OpenInside o records → OpenInside (option_map (with_line e) o) records
inside_with None e records inside = tt
inside_with (Some f) e records inside = inside

-- C7.
lines_of : (before lines : List SymLine) → NoneOf meets_line before lines → OpenApart (open_func before) (flat_map line_run (under lines)) × EachFunc HaveLinesApart lines
lines_of before [] none = (open_apart_none (open_func before), tt)
lines_of before (Func many address size params name ∷ lines) none = let later = lines_of (Func many address size params name ∷ before) lines none.1 in (open_apart_none (open_func before), (apart_all (flat_map line_run (under lines)) later.0, later.1))
lines_of before (Inline level line file origin ranges ∷ lines) none = lines_of (Inline level line file origin ranges ∷ before) lines none.1
lines_of before (Line address size line file ∷ lines) none = let later = lines_of (Line address size line file ∷ before) lines none.1 in (line_apart (open_func before) (run_of address size) (flat_map line_run (under lines)) none.0 later.0, later.1)
lines_of before (s ∷ lines) none = let later = lines_of (s ∷ before) lines none.1 in (open_apart_none (open_func before), later.1)

of_lines : (before lines : List SymLine) → OpenApart (open_func before) (flat_map line_run (under lines)) → EachFunc HaveLinesApart lines → NoneOf meets_line before lines
of_lines before [] now each = tt
of_lines before (Func many address size params name ∷ lines) now each = (refl, of_lines (Func many address size params name ∷ before) lines (all_apart (flat_map line_run (under lines)) each.0) each.1)
of_lines before (Inline level line file origin ranges ∷ lines) now each = (refl, of_lines (Inline level line file origin ranges ∷ before) lines now each)
of_lines before (Line address size line file ∷ lines) now each = let parts = apart_line (open_func before) (run_of address size) (flat_map line_run (under lines)) now in (parts.0, of_lines (Line address size line file ∷ before) lines parts.1 each)
of_lines before (s ∷ lines) now each = (refl, of_lines (s ∷ before) lines tt each)

-- C6.
inside_of : (before lines : List SymLine) → NoneOf leaves_func before lines → OpenInside (open_func before) (under lines) × EachFunc LieInside lines
inside_of before [] none = (open_inside_none (open_func before), tt)
inside_of before (Func many address size params name ∷ lines) none = let later = inside_of (Func many address size params name ∷ before) lines none.1 in (open_inside_none (open_func before), (later.0, later.1))
inside_of before (Inline level line file origin ranges ∷ lines) none = let later = inside_of (Inline level line file origin ranges ∷ before) lines none.1 in (one_inside (open_func before) ranges (Inline level line file origin ranges) (under lines) refl none.0 later.0, later.1)
inside_of before (Line address size line file ∷ lines) none = let later = inside_of (Line address size line file ∷ before) lines none.1 in (one_inside (open_func before) (run_of address size ∷ []) (Line address size line file) (under lines) refl none.0 (with_inside (open_func before) (run_of address size) (under lines) later.0), later.1)
inside_of before (s ∷ lines) none = let later = inside_of (s ∷ before) lines none.1 in (open_inside_none (open_func before), later.1)

of_inside : (before lines : List SymLine) → OpenInside (open_func before) (under lines) → EachFunc LieInside lines → NoneOf leaves_func before lines
of_inside before [] now each = tt
of_inside before (Func many address size params name ∷ lines) now each = (refl, of_inside (Func many address size params name ∷ before) lines each.0 each.1)
of_inside before (Inline level line file origin ranges ∷ lines) now each = let parts = inside_one (open_func before) ranges (Inline level line file origin ranges) (under lines) refl now in (parts.0, of_inside (Inline level line file origin ranges ∷ before) lines parts.1 each)
of_inside before (Line address size line file ∷ lines) now each = let parts = inside_one (open_func before) (run_of address size ∷ []) (Line address size line file) (under lines) refl now in (parts.0, of_inside (Line address size line file ∷ before) lines (inside_with (open_func before) (run_of address size) (under lines) parts.1) each)
of_inside before (s ∷ lines) now each = (refl, of_inside (s ∷ before) lines tt each)

pub lines_apart : (lines : List SymLine) → NoneOf meets_line [] lines → EachFunc HaveLinesApart lines
lines_apart lines none = (lines_of [] lines none).1

pub apart_lines : (lines : List SymLine) → EachFunc HaveLinesApart lines → NoneOf meets_line [] lines
apart_lines lines each = of_lines [] lines tt each

pub inside : (lines : List SymLine) → NoneOf leaves_func [] lines → EachFunc LieInside lines
inside lines none = (inside_of [] lines none).1

pub none_outside : (lines : List SymLine) → EachFunc LieInside lines → NoneOf leaves_func [] lines
none_outside lines each = of_inside [] lines tt each
