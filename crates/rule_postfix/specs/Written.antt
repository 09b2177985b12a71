-- Which frame entries are written, and for which reason each other entry is left out (Breakpad's symbol_files.md, "STACK CFI INIT": the records of a
-- range are those of one entry).
use Rattle.std.specs.Prelude.{ℕ, ◌+◌, ◌^◌, ◌&&◌, not, nat_lt, Bool, if◌then◌else◌, List, [], ◌∷◌, ◌++◌, map, Option, None, Some}
use Rattle.std.specs.List.{flat_map}
use Rattle.sym_edges.specs.declared.reason.Reason.{Reason}
use Rattle.sym_edges.specs.declared.reason.Reason.TheVariants as reason
use Rattle.sym_edges.specs.Addresses.{Range}
use Rattle.range_set.specs.Enclosing.{encloses}
use Rattle.frame_entries.specs.declared.description.Body.{Body}
use Rattle.frame_entries.specs.declared.description.Body.TheVariants.{Good, Bad}
use Rattle.frame_entries.specs.declared.description.Entry.{Entry}
use Rattle.frame_entries.specs.FdeFields.{FdeFields}
use Rattle.sym_edges.specs.Results.{unless}
use Rattle.std.specs.Option.{option_or}
use Rattle.frame_rows.specs.Rows.{row_at, rows_fault, instruction_fault}
use Rattle.sym_records.specs.declared.line.SymLine.{SymLine}
use Rattle.rule_postfix.specs.declared.omission.Omission.{Omission}
use Rattle.rule_postfix.specs.FrameLines.{frame_lines}
use Rattle.range_union.specs.Ranges.{any_overlap}

-- the range of an entry; it is a range of addresses if it is not empty and ends below 2^64
abbrev pub range_of : FdeFields → Range
range_of e = record { start = e.start; end = e.start + e.size }

unfoldable pub has_range : FdeFields → Bool
has_range e = nat_lt 0 e.size && nat_lt (e.start + e.size) (2 ^ 64)

-- the reason of the first bad instruction. If there is none and the range is one of addresses: `Cfa`, if some address has no CFA rule
unfoldable pub rows_reason : FdeFields → Option Reason
rows_reason e = if has_range e then rows_fault e else instruction_fault e

-- the range of an entry is a range of addresses, and wholly in one range of code
unfoldable pub is_code : List Range → FdeFields → Bool
is_code code e = has_range e && encloses code e.start (e.start + e.size)

-- the first reason to leave out an entry whose fields can be read: its rows are bad, its range is not code, or it overlaps a taken range
unfoldable pub reason_among : List Range → List Range → FdeFields → Option Reason
reason_among code taken e =
    option_or (rows_reason e)
    (option_or (unless (is_code code e) reason.Outside)
    (unless (not (any_overlap (range_of e) taken)) reason.Overlap))

-- the reason to leave out an entry, if the taken ranges are those of the entries `written`
unfoldable pub reason_behind : List Range → List FdeFields → FdeFields → Option Reason
reason_behind code written e = reason_among code (map range_of written) e

-- the reason to leave out an entry, given the entries written before it; if several apply, the first
abbrev pub body_reason : List Range → List FdeFields → Body → Option Reason
body_reason code before (Good e) = reason_behind code before e
body_reason code before (Bad why) = Some why

unfoldable pub reason_of : List Range → List FdeFields → Entry → Option Reason
reason_of code before entry = body_reason code before entry.body

-- what was decided so far: the entries that are written, and those that are left out with their reasons
pub record Decided : Type 0 where
  pub written : List FdeFields
  pub omitted : List Omission

-- what was decided, after one more entry was left out with a reason, or written
abbrev pub left_out : Entry → Reason → Decided → Decided
left_out entry why d = record { written = d.written; omitted = d.omitted ++ record { section = entry.section; at = entry.at; reason = why } ∷ [] }

abbrev pub with_written : FdeFields → Decided → Decided
with_written e d = record { written = d.written ++ e ∷ []; omitted = d.omitted }

abbrev pub with_fields : Body → Decided → Decided
with_fields (Good e) d = with_written e d
with_fields (Bad why) d = d

abbrev pub with_decision : Entry → Option Reason → Decided → Decided
with_decision entry None d = with_fields entry.body d
with_decision entry (Some why) d = left_out entry why d

unfoldable pub with_entry : List Range → Entry → Decided → Decided
with_entry code entry d = with_decision entry (reason_of code d.written entry) d

unfoldable pub with_entries : List Range → List Entry → Decided → Decided
with_entries code [] d = d
with_entries code (entry ∷ entries) d = with_entries code entries (with_entry code entry d)

-- what is decided about entries, given the entries written before them
unfoldable pub decided_behind : List Range → List FdeFields → List Entry → Decided
decided_behind code before entries = with_entries code entries (record { written = before; omitted = [] })

-- what is decided about entries in their order
unfoldable pub decided_of : List Range → List Entry → Decided
decided_of code entries = decided_behind code [] entries

-- the entries of `.eh_frame` come before those of `.debug_frame`
unfoldable pub decided : List Range → List Entry → List Entry → Decided
decided code first second = decided_of code (first ++ second)

-- the written entries, and the omissions with their reasons
unfoldable pub written : List Range → List Entry → List Entry → List FdeFields
written code first second = (decided code first second).written

unfoldable pub omitted : List Range → List Entry → List Entry → List Omission
omitted code first second = (decided code first second).omitted

-- the records of an entry, and those of several entries
unfoldable pub entry_lines : ℕ → FdeFields → List SymLine
entry_lines base e = frame_lines e (row_at e) e.start e.size base

unfoldable pub written_lines : ℕ → List FdeFields → List SymLine
written_lines base entries = flat_map (entry_lines base) entries
