-- The records of pieces, as they are spelled.
use Rattle.std.proofs.Common.{◌≡◌, ℕ, ◌+◌, ◌<◌, ◌^◌, true, map, length, take, get_or, List, [], ◌∷◌, ◌++◌, None, Some, arith, refl, sym, ap, ◌∙◌, Bor, append_assoc, append-nil}
use Rattle.std.specs.List.{list_all}
use Rattle.std.specs.Option.{option_copied}
use Rattle.sym_records.specs.Canon.{canon, canon_text}
use Rattle.clean_names.specs.Cleaning.{cleaned}
use Rattle.sym_records.specs.Validity.{fields_fit, first_bad_from}
use Rattle.sym_records.specs.declared.place.Place.TheVariants.{Inside, Function}
use Rattle.sym_records.specs.declared.line.SymLine.{SymLine}
use Rattle.sym_records.proofs.JoiningLemmas.{from_here, join_behind}
use Rattle.sym_rules.proofs.BoolLemmas.{and_true}
use Rattle.debug_units.specs.declared.unit_read.UnitRead.{UnitRead}
use Rattle.die_names.specs.Names.{entry_name}
use Rattle.die_names.specs.NameRefs.{name_bytes, name_slice}
use Rattle.die_names.specs.declared.name_source.NameRef.{NameRef}
use Rattle.die_names.proofs.TextLemmas.{slice_bytes}
use Rattle.func_flatten.specs.declared.piece.Piece.{Piece}
use Rattle.func_flatten.specs.declared.line_run.LineRun.{LineRun}
use Rattle.func_flatten.specs.LineRuns.{AreLineRuns}
use Rattle.inline_chain.specs.InlineRuns.{InlineParts}
use Rattle.func_records.specs.declared.numbers.Numbers.{Numbers}
use Rattle.func_records.specs.FuncRecords.{Part, func_record, EndBelow}
use Rattle.func_records.specs.internal.Spelling.{line_by, row_of}
use Rattle.func_records.specs.internal.Parts.{inline_by, part_by, parts_by, AddsPart, AddsParts}
use Rattle.clean_names.proofs.CleanLemmas.{cleaned_again}
use Rattle.func_records.proofs.ListLemmas.{take_next}
use Rattle.func_records.proofs.PartLemmas.{lined_push, pieces_push, copies_push}
use Rattle.func_records.proofs.CanonLemmas.{canon_none, canon_join, canon_more, none_here}

-- A name that the file has as it is.
pub sliced_name : (units : List UnitRead) (name : NameRef) (unit entry : ℕ) (bytes : Bor (List ℕ)) → option_copied (Some bytes) ≡ name_slice units name → cleaned (name_bytes units name) ≡ entry_name units unit entry → cleaned bytes.now ≡ entry_name units unit entry
sliced_name units name unit entry bytes is same = ap cleaned (sym (slice_bytes units name bytes.now (sym is))) ∙ same

pub name_made : (units : List UnitRead) (name : NameRef) (unit entry : ℕ) (made : List ℕ) → made ≡ cleaned (name_bytes units name) → cleaned (name_bytes units name) ≡ entry_name units unit entry → cleaned made ≡ entry_name units unit entry
name_made units name unit entry made is same = ap cleaned is ∙ cleaned_again (name_bytes units name) ∙ same

-- The records of a piece, one after the other.
lines_fit : (base : ℕ) (row : List ℕ) (i : ℕ) (runs : List LineRun) → list_all fields_fit (map (line_by base row) runs) ≡ true → first_bad_from i Function (map (line_by base row) runs) ≡ None
lines_fit base row i [] fit = none_here i Function
lines_fit base row i (r ∷ runs) fit =
    let halves = and_true fit in
    from_here i Function (line_by base row r) (map (line_by base row) runs) refl halves.0 (lines_fit base row (i + 1) runs halves.1)

copies_fit : (base : ℕ) (numbers : Numbers) (units : List UnitRead) (unit i : ℕ) (copies : List InlineParts) (row : List ℕ) (runs : List LineRun) → list_all fields_fit (map (inline_by base numbers units unit) copies) ≡ true → list_all fields_fit (map (line_by base row) runs) ≡ true → first_bad_from i Function (map (inline_by base numbers units unit) copies ++ map (line_by base row) runs) ≡ None
copies_fit base numbers units unit i [] row runs fit lines = lines_fit base row i runs lines
copies_fit base numbers units unit i (r ∷ copies) row runs fit lines =
    let halves = and_true fit in
    from_here i Function (inline_by base numbers units unit r) (map (inline_by base numbers units unit) copies ++ map (line_by base row) runs) refl halves.0 (copies_fit base numbers units unit (i + 1) copies row runs halves.1 lines)

-- The text of a piece: its own record, those of its inlined copies, and those of its lines.
pub part_added : (base : ℕ) (numbers : Numbers) (units : List UnitRead) (piece : Piece) (copies : List InlineParts) (lines : List LineRun) (full old owned copied last new : List ℕ) → owned ≡ old ++ canon (func_record base units piece) → copied ≡ owned ++ canon_text (map (inline_by base numbers units piece.unit) copies) → last ≡ copied ++ canon_text (map (line_by base (row_of numbers.rows.now piece.unit)) lines) → new ≡ full ++ last
    → fields_fit (func_record base units piece) ≡ true → list_all fields_fit (map (inline_by base numbers units piece.unit) copies) ≡ true → list_all fields_fit (map (line_by base (row_of numbers.rows.now piece.unit)) lines) ≡ true → AreLineRuns units piece lines → piece.end < 2 ^ 64 → AddsPart base numbers units piece copies (full ++ old) new
part_added base numbers units piece copies lines full old owned copied last new owner inlined runs all fit copies_good lines_good are ends =
    let first : List SymLine = map (inline_by base numbers units piece.unit) copies in
    let second : List SymLine = map (line_by base (row_of numbers.rows.now piece.unit)) lines in
    let below : last ≡ owned ++ canon_text (first ++ second)
    = runs ∙ ap (λ t. t ++ canon_text second) inlined ∙ append_assoc owned (canon_text first) (canon_text second) ∙ ap (λ t. owned ++ t) (sym (canon_join first second)) in
    record {
      lines = lines;
      runs = are;
      text = all ∙ ap (λ t. full ++ t) (below ∙ ap (λ t. t ++ canon_text (first ++ second)) owner ∙ append_assoc old (canon (func_record base units piece)) (canon_text (first ++ second)) ∙ ap (λ t. old ++ t) (sym (canon_more (func_record base units piece) (first ++ second))))
          ∙ sym (append_assoc full old (canon_text (func_record base units piece ∷ (first ++ second))));
      fit = from_here 0 Inside (func_record base units piece) (first ++ second) refl fit (copies_fit base numbers units piece.unit 1 copies (row_of numbers.rows.now piece.unit) lines copies_good lines_good);
      below = ends;
    }

-- One piece more.
text_part : (base : ℕ) (numbers : Numbers) (units : List UnitRead) (parts : List Part) (p : Part) → parts_by base numbers units (parts ++ p ∷ []) ≡ parts_by base numbers units parts ++ part_by base numbers units p
text_part base numbers units [] p = append-nil (part_by base numbers units p)
text_part base numbers units (q ∷ parts) p =
    ap (λ l. part_by base numbers units q ++ l) (text_part base numbers units parts p)
    ∙ sym (append_assoc (part_by base numbers units q) (parts_by base numbers units parts) (part_by base numbers units p))

below_push : (limit : ℕ) (pieces : List Piece) (piece : Piece) → EndBelow limit pieces → piece.end < limit → EndBelow limit (pieces ++ piece ∷ [])
below_push limit [] piece below ends = (ends, tt)
below_push limit (p ∷ pieces) piece below ends = (below.0, below_push limit pieces piece below.1 ends)

parts_push : (base : ℕ) (numbers : Numbers) (units : List UnitRead) (pieces : List Piece) (held : List (List InlineParts)) (piece : Piece) (copies : List InlineParts) (old mid new : List ℕ) → AddsParts base numbers units pieces held old mid → AddsPart base numbers units piece copies mid new → AddsParts base numbers units (pieces ++ piece ∷ []) (held ++ copies ∷ []) old new
parts_push base numbers units pieces held piece copies old mid new so adds =
    let part : Part = record { piece = piece; copies = copies; lines = adds.lines } in
    record {
      parts = so.parts ++ part ∷ [];
      pieces_are = pieces_push so.parts part ∙ ap (λ ps. ps ++ piece ∷ []) so.pieces_are;
      copies_are = copies_push so.parts part ∙ ap (λ cs. cs ++ copies ∷ []) so.copies_are;
      lines_are = lined_push units so.parts part so.lines_are adds.runs;
      text = adds.text ∙ ap (λ t. t ++ canon_text (part_by base numbers units part)) so.text
          ∙ append_assoc old (canon_text (parts_by base numbers units so.parts)) (canon_text (part_by base numbers units part))
          ∙ ap (λ t. old ++ t) (sym (ap canon_text (text_part base numbers units so.parts part) ∙ canon_join (parts_by base numbers units so.parts) (part_by base numbers units part)));
      fit = ap (first_bad_from 0 Inside) (text_part base numbers units so.parts part) ∙ join_behind (parts_by base numbers units so.parts) (part_by base numbers units part) so.fit adds.fit;
      below = below_push (2 ^ 64) pieces piece so.below adds.below;
    }

pub parts_next : (base : ℕ) (numbers : Numbers) (units : List UnitRead) (pieces : List Piece) (held : List (List InlineParts)) (n : ℕ) (d : Piece) (e copies : List InlineParts) (old mid new : List ℕ) → n < length pieces → length held ≡ length pieces → copies ≡ get_or held n e → AddsParts base numbers units (take n pieces) (take n held) old mid → AddsPart base numbers units (get_or pieces n d) copies mid new → AddsParts base numbers units (take (n + 1) pieces) (take (n + 1) held) old new
parts_next base numbers units pieces held n d e copies old mid new below count is so adds =
    let first : take (n + 1) pieces ≡ take n pieces ++ get_or pieces n d ∷ [] = take_next pieces n d below in
    let second : take (n + 1) held ≡ take n held ++ copies ∷ [] = take_next held n e (omega (arith, below, count)) ∙ ap (λ cs. take n held ++ cs ∷ []) (sym is) in
    rw first (rw second (parts_push base numbers units (take n pieces) (take n held) (get_or pieces n d) copies old mid new so adds))

pub parts_none : (base : ℕ) (numbers : Numbers) (units : List UnitRead) (old : List ℕ) → AddsParts base numbers units [] [] old old
parts_none base numbers units old = record { parts = []; pieces_are = refl; copies_are = refl; lines_are = tt; text = sym (ap (λ t. old ++ t) canon_none ∙ append-nil old); fit = none_here 0 Inside; below = tt }
