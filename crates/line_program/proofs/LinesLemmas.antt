-- The line table at an offset of the section.
use Rattle.std.proofs.Common.{◌≡◌, ◌<◌, ◌≤◌, ℕ, ◌+◌, ◌^◌, cond, List, length, take, drop, Result, Ok, Err, refl, sym, ◌∙◌, ap, subst, arith}
use Rattle.std.proofs.lemmas.Bool.{lt-ltb, le-ltb}
use Rattle.std.proofs.lemmas.List.{take_all}
use Rattle.sym_edges.specs.Addresses.{Range}
use Rattle.sym_edges.specs.declared.part.Sect.TheVariants.{Info}
use Rattle.leb_cursor.specs.Ahead.{Ahead}
use Rattle.range_set.specs.Enclosing.{encloses}
use Rattle.abbrev_units.specs.declared.fault.DwarfKind.TheVariants.{OffsetOutside}
use Rattle.abbrev_units.specs.DebugSections.{DebugSections}
use Rattle.line_program.specs.Faults.{Fault}
use Rattle.line_program.specs.LineAt.{Lines}
use Rattle.line_program.specs.LineMaps.{LineMap, EncloseAlike, SaysLines}
use Rattle.line_program.specs.LineTables.{lines_at, unit_lines, Says}
use Rattle.line_program.specs.internal.KeptRows.{kept_lines, or_kept_lines}
use Rattle.line_program.proofs.KeptLemmas.{says_kept}
use Rattle.line_program.proofs.SaysLemmas.{says_read}

pub offset_outside : (sections : DebugSections) (offset place : ℕ) (comp_dir : List ℕ) → length sections.line < offset → unit_lines sections offset place comp_dir ≡ Err (record { kind = OffsetOutside; section = Info; at = place })
unfolding unit_lines
offset_outside sections offset place comp_dir out =
    ap (λ t. cond t (Err (record { kind = OffsetOutside; section = Info; at = place })) (lines_at sections comp_dir (record { bytes = drop offset sections.line; at = offset }))) (lt-ltb (length sections.line) offset out)

-- The table that a cursor at the offset reads.
pub offset_inside : (sections : DebugSections) (offset place : ℕ) (comp_dir : List ℕ) (c : Ahead) → offset ≤ length sections.line → c ≡ record { bytes = drop offset (take (length sections.line) sections.line); at = offset } → unit_lines sections offset place comp_dir ≡ lines_at sections comp_dir c
unfolding unit_lines
offset_inside sections offset place comp_dir c inside at =
    ap (λ t. cond t (Err (record { kind = OffsetOutside; section = Info; at = place })) (lines_at sections comp_dir (record { bytes = drop offset sections.line; at = offset }))) (le-ltb (length sections.line) offset inside)
    ∙ sym (ap (lines_at sections comp_dir) (at ∙ ap (λ (l : List ℕ). (let from : Ahead = record { bytes = drop offset l; at = offset } in from)) (take_all (length sections.line) sections.line (omega arith))))

refused_kept : (read : Result Lines Fault) (fault : Fault) → Err fault ≡ or_kept_lines read → read ≡ Err fault
refused_kept (Ok lines) fault is = cc
refused_kept (Err other) fault is = cc

pub inside_refused : (sections : DebugSections) (offset place : ℕ) (comp_dir : List ℕ) (c : Ahead) (fault : Fault) → offset ≤ length sections.line → c ≡ record { bytes = drop offset (take (length sections.line) sections.line); at = offset }
    → Err fault ≡ or_kept_lines (lines_at sections comp_dir c) → unit_lines sections offset place comp_dir ≡ Err fault
inside_refused sections offset place comp_dir c fault inside at is = offset_inside sections offset place comp_dir c inside at ∙ refused_kept (lines_at sections comp_dir c) fault is

-- A model of the lines of the stored rows is a model of what was read.
pub says_of : (code : List Range) (read : Result Lines Fault) (lines : Lines) (table : LineMap) → Ok lines ≡ or_kept_lines read → SaysLines (encloses code) lines table → lines.first + length lines.files < 2 ^ 32 → (spans : List Range) → EncloseAlike code spans → Says (encloses spans) read table
says_of code (Ok whole) lines table is says few =
    let kept : lines ≡ kept_lines whole = cc in
    says_read code (Ok whole) whole table refl
    (says_kept (encloses code) whole table (subst (λ (l : Lines). l.first + length l.files < 2 ^ 32) kept few) (subst (λ (l : Lines). SaysLines (encloses code) l table) kept says))
says_of code (Err fault) lines table is says few = cc
