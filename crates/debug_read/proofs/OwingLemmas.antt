-- A line table has the same faults, whichever unit names it; for src/named_tables.rt and
-- src/unit_tables.rt.
use Rattle.std.proofs.Common.{◌≡◌, ◌≤◌, ℕ, nat_lt, Bool, true, false, cond, if◌then◌else◌, List, [], drop, length, Some, unwrap_or, Result, Ok, Err, refl, sym, ap, subst, ◌∙◌, arith}
use Rattle.std.proofs.lemmas.Bool.{cond-false, le-ltb}
use Rattle.sym_edges.specs.Addresses.{Range}
use Rattle.sym_edges.specs.Results.{◌>>=◌}
use Rattle.sym_edges.specs.declared.located.Located.{Located}
use Rattle.sym_edges.specs.declared.fault.Stop.{Stop}
use Rattle.sym_edges.specs.declared.fault.Stop.TheVariants.{Fault}
use Rattle.sym_edges.specs.Outside.{MatchStop}
use Rattle.sym_edges.specs.declared.part.Sect.TheVariants.{Info, Line}
use Rattle.leb_cursor.specs.Ahead.{Ahead}
use Rattle.abbrev_units.specs.declared.fault.DwarfKind.{DwarfKind}
use Rattle.abbrev_units.specs.declared.fault.DwarfKind.TheVariants.{OffsetOutside}
use Rattle.abbrev_units.specs.DebugSections.{DebugSections}
use Rattle.abbrev_units.specs.Faults.{as_header}
use Rattle.die_walk.specs.EntryTable.{RootFields}
use Rattle.line_program.specs.HeaderFields.{HeaderFields}
use Rattle.line_program.specs.FileTables.{Tables, tables_at}
use Rattle.line_program.specs.Headers.{table_at}
use Rattle.line_program.specs.LineAt.{Lines}
use Rattle.range_set.specs.Enclosing.{encloses}
use Rattle.line_program.specs.LineMaps.{LineMap, EncloseAlike, no_lines}
use Rattle.line_program.specs.LineRows.{State, line_rows}
use Rattle.line_program.specs.LineTables.{lines_of, lines_at, unit_lines, Says as SaysTable}
use Rattle.debug_read.specs.Each.{Says}
use Rattle.debug_read.specs.UnitSays.{root_lines}
use Rattle.debug_read.specs.UnitsRead.{KeepsLines}
use Rattle.debug_read.specs.declared.named_tables.NamedTable.{NamedTable}
use Rattle.debug_read.specs.declared.named_tables.TableName.{TableName}
use Rattle.debug_read.specs.declared.named_tables.TableRead.TheVariants.{Sound, Whole, Refused}
use Rattle.debug_read.specs.internal.Owing.{IsOk, IsSound, IsRefused, WholeBy, IsTable, IsFor}
use Rattle.debug_read.proofs.LineLemmas.{table_kept, table_refused}

abbrev LineFault : Type 0
LineFault = Located DwarfKind

-- What a table says, apart from the compilation directory.
record TableParts : Type 0 where
  header : HeaderFields
  tables : Tables
  state : State

abbrev with_state : HeaderFields → Tables → State → Result TableParts LineFault
with_state header tables state = Ok (record { header = header; tables = tables; state = state })

abbrev with_tables : HeaderFields → Tables → Result TableParts LineFault
with_tables header tables = line_rows header.program header.opcodes >>= with_state header tables

abbrev with_header : DebugSections → ℕ → HeaderFields → Result TableParts LineFault
with_header sections at header = tables_at sections at header >>= with_tables header

parts_at : DebugSections → Ahead → Result TableParts LineFault
parts_at sections c = as_header Line c.at (table_at c) >>= with_header sections c.at

abbrev named : List ℕ → TableParts → Result Lines LineFault
named comp_dir parts = Ok (lines_of comp_dir parts.header.program.version parts.tables parts.state)

-- The last steps of reading a table.
abbrev end_rows : List ℕ → HeaderFields → Tables → State → Result Lines LineFault
end_rows comp_dir header tables state = Ok (lines_of comp_dir header.program.version tables state)

abbrev end_tables : List ℕ → HeaderFields → Tables → Result Lines LineFault
end_tables comp_dir header tables = line_rows header.program header.opcodes >>= end_rows comp_dir header tables

abbrev end_header : DebugSections → List ℕ → ℕ → HeaderFields → Result Lines LineFault
end_header sections comp_dir at header = tables_at sections at header >>= end_tables comp_dir header

rows_by : (comp_dir : List ℕ) (header : HeaderFields) (tables : Tables) (read : Result State LineFault) → (read >>= end_rows comp_dir header tables) ≡ ((read >>= with_state header tables) >>= named comp_dir)
rows_by comp_dir header tables (Ok state) = refl
rows_by comp_dir header tables (Err fault) = refl

tables_by : (comp_dir : List ℕ) (header : HeaderFields) (read : Result Tables LineFault) → (read >>= end_tables comp_dir header) ≡ ((read >>= with_tables header) >>= named comp_dir)
tables_by comp_dir header (Ok tables) = rows_by comp_dir header tables (line_rows header.program header.opcodes)
tables_by comp_dir header (Err fault) = refl

header_by : (sections : DebugSections) (comp_dir : List ℕ) (at : ℕ) (read : Result HeaderFields LineFault) → (read >>= end_header sections comp_dir at) ≡ ((read >>= with_header sections at) >>= named comp_dir)
header_by sections comp_dir at (Ok header) = tables_by comp_dir header (tables_at sections at header)
header_by sections comp_dir at (Err fault) = refl

lines_are : (sections : DebugSections) (comp_dir : List ℕ) (c : Ahead) → lines_at sections comp_dir c ≡ (parts_at sections c >>= named comp_dir)
unfolding lines_at parts_at
lines_are sections comp_dir c = header_by sections comp_dir c.at (as_header Line c.at (table_at c))

abbrev ahead_at : DebugSections → ℕ → Ahead
ahead_at sections offset = record { bytes = drop offset sections.line; at = offset }

abbrev outside_at : ℕ → Result Lines LineFault
outside_at at = Err (record { kind = OffsetOutside; section = Info; at = at })

unit_are : (sections : DebugSections) (offset at : ℕ) (comp_dir : List ℕ) → unit_lines sections offset at comp_dir ≡ cond (nat_lt (length sections.line) offset) (outside_at at) (parts_at sections (ahead_at sections offset) >>= named comp_dir)
unfolding unit_lines
unit_are sections offset at comp_dir = ap (λ (r : Result Lines LineFault). cond (nat_lt (length sections.line) offset) (outside_at at) r) (lines_are sections comp_dir (ahead_at sections offset))

sound_by : (outside : Bool) (parts : Result TableParts LineFault) (at other : ℕ) (comp_dir dir : List ℕ) → IsOk (cond outside (outside_at at) (parts >>= named comp_dir)) → IsOk (cond outside (outside_at other) (parts >>= named dir))
sound_by true parts at other comp_dir dir ok = absurd ok
sound_by false (Ok parts) at other comp_dir dir ok = tt
sound_by false (Err fault) at other comp_dir dir ok = absurd ok

pub sound_of : (sections : DebugSections) (offset at : ℕ) (comp_dir : List ℕ) → IsOk (unit_lines sections offset at comp_dir) → IsSound sections offset
sound_of sections offset at comp_dir ok other dir =
    rw (unit_are sections offset other dir)
    (sound_by (nat_lt (length sections.line) offset) (parts_at sections (ahead_at sections offset)) at other comp_dir dir (rw (unit_are sections offset at comp_dir) at ok))

abbrev fault_or : {A F : Type 0} → F → Result A F → F
fault_or old (Ok x) = old
fault_or old (Err f) = f

faults_by : (parts : Result TableParts LineFault) (comp_dir dir : List ℕ) (fault : LineFault) → (parts >>= named comp_dir) ≡ Err fault → (parts >>= named dir) ≡ Err fault
faults_by (Ok parts) comp_dir dir fault is = absurd (grind (arith, is))
faults_by (Err other) comp_dir dir fault is = ap Err (ap (fault_or fault) is)

inside_is : (sections : DebugSections) (offset at : ℕ) (comp_dir : List ℕ) → offset ≤ length sections.line → unit_lines sections offset at comp_dir ≡ (parts_at sections (ahead_at sections offset) >>= named comp_dir)
inside_is sections offset at comp_dir inside = unit_are sections offset at comp_dir ∙ cond-false _ _ _ (le-ltb (length sections.line) offset inside)

pub fault_refused : (sections : DebugSections) (offset at : ℕ) (comp_dir : List ℕ) (fault : LineFault) → offset ≤ length sections.line → unit_lines sections offset at comp_dir ≡ Err fault → IsRefused sections offset fault
fault_refused sections offset at comp_dir fault inside is other dir =
    inside_is sections offset other dir inside
    ∙ faults_by (parts_at sections (ahead_at sections offset)) comp_dir dir fault (sym (inside_is sections offset at comp_dir inside) ∙ is)

-- The fault of a call that ended with a fault.
pub stop_fault : {A F : Type 0} (P : A → Type 0) (Q : F → Type 0) (R : Type 0) (stop : Stop F) (fault : F) → stop ≡ Fault fault → MatchStop {A = A} (Err stop) P Q R → Q fault
stop_fault {A} {F} P Q R stop fault is holds = subst (λ (s : Stop F). MatchStop {A = A} (Err s) P Q R) is holds

says_ok : (code : ℕ → ℕ → Bool) (read : Result Lines LineFault) (table : LineMap) → SaysTable code read table → IsOk read
says_ok code (Ok lines) table says = tt
says_ok code (Err fault) table says = absurd says

-- A table inside the section is the same for all units with that compilation directory that name
-- it.
pub whole_by : (spans : List Range) (sections : DebugSections) (offset at other : ℕ) (comp_dir : List ℕ) (table : LineMap) → offset ≤ length sections.line → SaysTable (encloses spans) (unit_lines sections offset at comp_dir) table → SaysTable (encloses spans) (unit_lines sections offset other comp_dir) table
whole_by spans sections offset at other comp_dir table inside says =
    subst (λ (r : Result Lines LineFault). SaysTable (encloses spans) r table) (inside_is sections offset at comp_dir inside ∙ sym (inside_is sections offset other comp_dir inside)) says

pub whole_sound : (code : List Range) (sections : DebugSections) (offset : ℕ) (comp_dir : List ℕ) (table : LineMap) → WholeBy code sections offset comp_dir table → IsSound sections offset
whole_sound code sections offset comp_dir table whole =
    sound_of sections offset 0 comp_dir (says_ok (encloses code) (unit_lines sections offset 0 comp_dir) table (whole code 0 (λ start end. refl)))

-- A unit without a function keeps nothing of a table without a fault.
unasked_by : (spans : List Range) (read : Result Lines LineFault) → IsOk read → Says (KeepsLines spans false) (read >>= λ ls. Ok (Some ls)) no_lines
unasked_by spans (Ok ls) ok = refl
unasked_by spans (Err fault) ok = absurd ok

sound_by_root : (sections : DebugSections) (root : RootFields) (offset : ℕ) (spans : List Range) (kept : LineMap) → root.stmt_list ≡ Some offset → IsSound sections offset → kept ≡ no_lines → Says (KeepsLines spans false) (root_lines sections root) kept
unfolding root_lines
sound_by_root sections root offset spans kept there sound is =
    rw (there, is) (unasked_by spans (unit_lines sections offset root.at (unwrap_or root.comp_dir [])) (sound root.at (unwrap_or root.comp_dir [])))

-- A table that was read for the name that a root gives.
pub record IsNamed (code : List Range) (sections : DebugSections) (root : RootFields) (asked : Bool) (one : NamedTable) : Type 0 where
  pub table : IsTable code sections one
  pub offset : root.stmt_list ≡ Some one.name.offset
  pub comp_dir : asked ≡ true → one.name.comp_dir.now ≡ unwrap_or root.comp_dir []

pub named_by : (code : List Range) (sections : DebugSections) (root : RootFields) (offset : ℕ) (asked : Bool) (name : TableName) (one : NamedTable) → root.stmt_list ≡ Some offset → name.offset ≡ offset → name.kept ≡ asked → name.comp_dir.now ≡ unwrap_or root.comp_dir [] → IsTable code sections one → IsFor one.name name → IsNamed code sections root asked one
named_by code sections root offset asked name one there same kept dir table for = record {
  table = table;
  offset = there ∙ ap Some (sym (for.0 ∙ same));
  comp_dir = λ is. for.1 (kept ∙ is) ∙ dir;
}

pub named_sound : (code : List Range) (sections : DebugSections) (root : RootFields) (spans : List Range) (asked : Bool) (one : NamedTable) (kept : LineMap) → IsNamed code sections root asked one → one.read ≡ Sound → asked ≡ false → kept ≡ no_lines → Says (KeepsLines spans asked) (root_lines sections root) kept
named_sound code sections root spans asked one kept found is none same =
    rw none (sound_by_root sections root one.name.offset spans kept found.offset (rw is at found.table) same)

whole_by_root : (code : List Range) (sections : DebugSections) (root : RootFields) (offset : ℕ) (comp_dir : List ℕ) (spans : List Range) (asked : Bool) (table kept : LineMap) → root.stmt_list ≡ Some offset → (asked ≡ true → comp_dir ≡ unwrap_or root.comp_dir []) → WholeBy code sections offset comp_dir table → EncloseAlike code spans → kept ≡ (if asked then table else no_lines) → Says (KeepsLines spans asked) (root_lines sections root) kept
whole_by_root code sections root offset comp_dir spans true table kept there same whole alike is =
    table_kept sections root offset spans true table kept there (subst (λ (dir : List ℕ). SaysTable (encloses spans) (unit_lines sections offset root.at dir) table) (same refl) (whole spans root.at alike)) is
whole_by_root code sections root offset comp_dir spans false table kept there same whole alike is =
    sound_by_root sections root offset spans kept there (whole_sound code sections offset comp_dir table whole) is

pub named_whole : (code : List Range) (sections : DebugSections) (root : RootFields) (spans : List Range) (asked : Bool) (one : NamedTable) (table kept : LineMap) → IsNamed code sections root asked one → one.read ≡ Whole table → EncloseAlike code spans → kept ≡ (if asked then table else no_lines) → Says (KeepsLines spans asked) (root_lines sections root) kept
named_whole code sections root spans asked one table kept found is alike same =
    whole_by_root code sections root one.name.offset one.name.comp_dir.now spans asked table kept found.offset found.comp_dir (rw is at found.table) alike same

pub named_refused : (code : List Range) (sections : DebugSections) (root : RootFields) (asked : Bool) (one : NamedTable) (fault : LineFault) → IsNamed code sections root asked one → one.read ≡ Refused fault → root_lines sections root ≡ Err fault
named_refused code sections root asked one fault found is =
    let refused = rw is at found.table in
    table_refused sections root one.name.offset fault found.offset (refused root.at (unwrap_or root.comp_dir []))
