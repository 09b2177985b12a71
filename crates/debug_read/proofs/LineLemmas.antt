-- The line table of a unit, kept or not.
use Rattle.std.proofs.Common.{◌≡◌, ℕ, ◌+◌, ◌≤◌, ◌||◌, Bool, true, false, if◌then◌else◌, List, [], length, drop, arith, None, Some, unwrap_or, Result, Ok, Err, refl, sym, ap, ◌∙◌}
use Rattle.sym_edges.specs.Addresses.{Range}
use Rattle.sym_edges.specs.Results.{◌>>=◌}
use Rattle.sym_edges.specs.declared.located.Located.{Located}
use Rattle.abbrev_units.specs.declared.fault.DwarfKind.{DwarfKind}
use Rattle.abbrev_units.specs.DebugSections.{DebugSections}
use Rattle.range_set.specs.Enclosing.{encloses}
use Rattle.std.proofs.Math.ListN.{drop_of_length-le}
use Rattle.std.proofs.lemmas.Bool.Decides.{nat_tests}
use Rattle.std.proofs.lemmas.List.{drop_more}
use Rattle.std.proofs.lemmas.Option.{gets, slice_get_within, get_or_from_slice_get}
use Rattle.std.specs.List.{slice_get, list_any}
use Rattle.die_walk.specs.EntryKinds.{is_function}
use Rattle.die_walk.specs.EntryTable.{DieFields, RootFields}
use Rattle.line_program.specs.LineAt.{Lines}
use Rattle.line_program.specs.LineMaps.{LineMap}
use Rattle.line_program.specs.LineTables.{unit_lines, Says as SaysTable}
use Rattle.debug_read.specs.Each.{Says}
use Rattle.debug_read.specs.UnitSays.{lines_by, root_lines}
use Rattle.debug_read.specs.UnitsRead.{KeepsLines, has_function}
use Rattle.line_program.specs.LineMaps.{no_lines}

kept_by : (spans : List Range) (asked : Bool) (read : Result Lines (Located DwarfKind)) (table : LineMap) → SaysTable (encloses spans) read table → Says (KeepsLines spans asked) (read >>= λ lines. Ok (Some lines)) (if asked then table else no_lines)
kept_by spans asked (Ok lines) table says = grind (arith, nat_tests, says)
kept_by spans asked (Err fault) table says = absurd says

none_by : (spans : List Range) (asked : Bool) → KeepsLines spans asked None no_lines
none_by spans true = refl
none_by spans false = refl

pub no_table : (sections : DebugSections) (root : RootFields) (spans : List Range) (asked : Bool) (kept : LineMap) → root.stmt_list ≡ None → kept ≡ no_lines → Says (KeepsLines spans asked) (root_lines sections root) kept
unfolding root_lines
no_table sections root spans asked kept none is =
    rw (none, is) (none_by spans asked)

pub table_kept : (sections : DebugSections) (root : RootFields) (offset : ℕ) (spans : List Range) (asked : Bool) (table kept : LineMap) → root.stmt_list ≡ Some offset → SaysTable (encloses spans) (unit_lines sections offset root.at (unwrap_or root.comp_dir [])) table → kept ≡ (if asked then table else no_lines) → Says (KeepsLines spans asked) (root_lines sections root) kept
unfolding root_lines
table_kept sections root offset spans asked table kept there says is =
    rw (there, is) (kept_by spans asked (unit_lines sections offset root.at (unwrap_or root.comp_dir [])) table says)

pub table_refused : (sections : DebugSections) (root : RootFields) (offset : ℕ) (fault : Located DwarfKind) → root.stmt_list ≡ Some offset → unit_lines sections offset root.at (unwrap_or root.comp_dir []) ≡ Err fault → root_lines sections root ≡ Err fault
unfolding root_lines
table_refused sections root offset fault there is =
    ap (lines_by sections root) there ∙ ap (λ (r : Result Lines (Located DwarfKind)). r >>= λ lines. Ok (Some lines)) is

-- Whether there is a function, entry by entry.
function_step : (dies : List DieFields) (i : ℕ) (d : DieFields) → Some d ≡ slice_get dies i → list_any is_function (drop i dies) ≡ (is_function d || list_any is_function (drop (i + 1) dies))
function_step dies i d is = grind (arith, drop_more dies i d (slice_get_within dies i d (sym is)), get_or_from_slice_get dies i d d (sym is))

pub function_here : (dies : List DieFields) (i : ℕ) (d : DieFields) (whole : Bool) → Some d ≡ slice_get dies i → is_function d ≡ true → has_function (drop i dies) ≡ whole → true ≡ whole
unfolding has_function
function_here dies i d whole is told so_far = grind (arith, nat_tests, function_step dies i d is, told, so_far)

pub function_later : (dies : List DieFields) (i : ℕ) (d : DieFields) (whole : Bool) → Some d ≡ slice_get dies i → is_function d ≡ false → has_function (drop i dies) ≡ whole → has_function (drop (i + 1) dies) ≡ whole
unfolding has_function
function_later dies i d whole is told so_far = grind (arith, nat_tests, function_step dies i d is, told, so_far)

pub no_function : (dies : List DieFields) (i : ℕ) (whole : Bool) → length dies ≤ i → has_function (drop i dies) ≡ whole → false ≡ whole
unfolding has_function
no_function dies i whole past so_far = ap (λ (ds : List DieFields). list_any is_function ds) (sym (drop_of_length-le dies past)) ∙ so_far

pub function_lost : (dies : List DieFields) (i : ℕ) (whole : Bool) → None ≡ slice_get dies i → has_function (drop i dies) ≡ whole → false ≡ whole
function_lost dies i whole lost so_far = no_function dies i whole (grind (arith, gets, lost)) so_far
