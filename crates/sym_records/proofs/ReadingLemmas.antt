-- The canonical text of a valid list reads back as the list.
use Rattle.std.proofs.Common.{◌≡◌, ℕ, ◌^◌, ◌&&◌, cond, Bool, true, false, not, List, [], ◌∷◌, ◌++◌, length, drop, codes, Ok, Err, refl, sym, ◌∙◌, ap, append_assoc, append-nil}
use Rattle.std.specs.List.{list_all}
use Rattle.std.specs.Str.{bytes_eq}
use Rattle.std.proofs.lemmas.Bool.{le-ltb}
use Rattle.sym_rules.proofs.BoolLemmas.{and_true, not_true}
use Rattle.sym_rules.proofs.EndLemmas.{trim_kept}
use Rattle.sym_records.proofs.RecordLemmas.{line_parts}
use Rattle.sym_records.proofs.RecordSoundLemmas.{valid_fits}
use Rattle.sym_edges.specs.Results.{◌>>=◌}
use Rattle.sym_rules.specs.Cuts.{is_space, is_cr, is_within_line, before, skip, onto, split_lines}
use Rattle.sym_records.specs.Canon.{body, canon, canon_text}
use Rattle.sym_records.specs.Fields.{spelled}
use Rattle.sym_records.specs.Records.{layout, headed, values}
use Rattle.sym_records.specs.Text.{is_blank, key_of, line_read}
use Rattle.sym_records.specs.Reading.{fits, leads, Seen, next_number, start, is_start, lacks_module, with_record, with_text, numbered, with_lines, some_records, reading_within, reading}
use Rattle.sym_records.specs.Validity.{Stands, AreValidFrom, AreValid, has_fields, fields_fit}
use Rattle.sym_records.specs.declared.line.SymLine.{SymLine}
use Rattle.sym_records.specs.declared.line.Binary.{Binary}
use Rattle.sym_records.specs.declared.line.SymLine.TheVariants as line
use Rattle.sym_records.specs.declared.keyword.Keyword.TheVariants as key
use Rattle.sym_records.specs.declared.place.Place.{Place}
use Rattle.sym_records.specs.declared.place.Place.TheVariants.{Start, Inside, Function, Frame}
use Rattle.sym_rules.specs.declared.text_fault.TextKind.TheVariants.{LongLine, NoModule, Misplaced}

-- Bytes without LF that are followed by LF are the first line.
split_first : (xs ys : List ℕ) → list_all is_within_line xs ≡ true → split_lines (xs ++ 10 ∷ ys) ≡ xs ∷ split_lines ys
unfolding split_lines
split_first [] ys all = refl
split_first (x ∷ xs) ys all =
    ap (λ t. cond t ([] ∷ split_lines (xs ++ 10 ∷ ys)) (onto x (split_lines (xs ++ 10 ∷ ys)))) (not_true (and_true all).0)
    ∙ ap (onto x) (split_first xs ys (and_true all).1)

canon_first : (s : SymLine) (lines : List SymLine) → canon_text (s ∷ lines) ≡ body s ++ (10 ∷ canon_text lines)
unfolding canon_text canon
canon_first s lines = append_assoc (body s) (10 ∷ []) (canon_text lines)

-- The state of reading with one more record.
added : Seen → SymLine → Seen
added seen s = record { records = seen.records ++ s ∷ []; place = leads seen.place s; number = next_number seen.number }

-- The state of reading with more records; the bytes after the last LF count as a line.
all_added : Seen → List SymLine → Seen
all_added seen [] = record seen { number = next_number seen.number }
all_added seen (s ∷ lines) = all_added (added seen s) lines

records_added : (seen : Seen) (lines : List SymLine) → (all_added seen lines).records ≡ seen.records ++ lines
unfolding all_added added
records_added seen [] = sym (append-nil seen.records)
records_added seen (s ∷ lines) = records_added (added seen s) lines ∙ append_assoc seen.records (s ∷ []) lines

key_module : (binary : Binary) → has_fields (line.Module binary) ≡ true → key_of (body (line.Module binary)) ≡ codes "MODULE"
unfolding key_of body before skip
key_module binary fit =
    ap (λ l. before 32 (skip is_space l)) (trim_kept is_cr (drop 1 (headed key.Module ++ spelled (layout key.Module) (values (line.Module binary)))) (line_parts key.Module (values (line.Module binary)) fit).ends)

and_none : (b : Bool) → (b && false) ≡ false
and_none true = refl
and_none false = refl

-- A record that may be first is MODULE.
has_module : (place : Place) (s : SymLine) → has_fields s ≡ true → fits place s ≡ true → lacks_module place (body s) ≡ false
unfolding lacks_module
has_module Start (line.Module binary) fit stands =
    ap (λ k. is_start Start && not (is_blank (body (line.Module binary))) && not (bytes_eq k (codes "MODULE"))) (key_module binary fit)
    ∙ and_none (is_start Start && not (is_blank (body (line.Module binary))))
has_module Start s fit stands = cc
has_module place s fit stands = refl

text_added : (seen : Seen) (s : SymLine) → Stands seen.place s → with_text (2 ^ 20) seen (body s) ≡ Ok (added seen s)
unfolding with_text added fields_fit
text_added seen s stands =
    ap (λ t. cond t (Err LongLine) (cond (lacks_module seen.place (body s)) (Err NoModule) (line_read (body s) >>= with_record seen))) (le-ltb (2 ^ 20) (length (body s)) stands.0.short)
    ∙ ap (λ t. cond t (Err NoModule) (line_read (body s) >>= with_record seen)) (has_module seen.place s (and_true (valid_fits s stands.0)).0 stands.1)
    ∙ ap (λ r. r >>= with_record seen) stands.0.reads
    ∙ ap (λ t. cond t (Ok (added seen s)) (Err Misplaced)) stands.1

blank_place : (place : Place) → lacks_module place [] ≡ false
unfolding lacks_module
blank_place Start = refl
blank_place Inside = refl
blank_place Function = refl
blank_place Frame = refl

text_ended : (seen : Seen) → with_text (2 ^ 20) seen [] ≡ Ok (record seen { number = next_number seen.number })
unfolding with_text line_read
text_ended seen = ap (λ t. cond t (Err NoModule) (line_read [] >>= with_record seen)) (blank_place seen.place)

split_nothing : split_lines (canon_text []) ≡ [] ∷ []
unfolding split_lines canon_text
split_nothing = refl

all_read : (seen : Seen) (lines : List SymLine) → AreValidFrom seen.place lines → with_lines (2 ^ 20) seen (split_lines (canon_text lines)) ≡ Ok (all_added seen lines)
unfolding with_lines all_added added
all_read seen [] valid = ap (λ l. with_lines (2 ^ 20) seen l) split_nothing ∙ ap (λ r. numbered (next_number seen.number) r >>= λ after. Ok after) (text_ended seen)
all_read seen (s ∷ lines) valid =
    ap (λ l. with_lines (2 ^ 20) seen (split_lines l)) (canon_first s lines)
    ∙ ap (with_lines (2 ^ 20) seen) (split_first (body s) (canon_text lines) valid.0.0.one_line)
    ∙ ap (λ r. numbered (next_number seen.number) r >>= λ after. with_lines (2 ^ 20) after (split_lines (canon_text lines))) (text_added seen s valid.0)
    ∙ all_read (added seen s) lines valid.1

pub reads_back : (lines : List SymLine) → AreValid lines → reading (canon_text lines) ≡ Ok lines
unfolding reading reading_within
reads_back [] valid = absurd valid
reads_back (s ∷ lines) valid =
    ap (λ r. r >>= λ after. some_records after.records) (all_read start (s ∷ lines) valid)
    ∙ ap some_records (records_added start (s ∷ lines))
