-- A text has no more records than bytes.
use Rattle.std.proofs.Common.{◌≡◌, ℕ, ◌+◌, ◌^◌, ◌<◌, ◌≤◌, ◌==◌, cond, List, [], ◌∷◌, ◌++◌, length, Option, Some, None, Result, Ok, Err, nat_lt, refl, sym, ◌∙◌, ap, arith, ⊎_elim, length-append}
use Rattle.std.specs.List.{flat_map}
use Rattle.sym_edges.specs.Results.{◌>>=◌}
use Rattle.sym_rules.proofs.BoolLemmas.{elim_bool, chosen, bind_ok}
use Rattle.sym_rules.specs.Cuts.{onto, split_lines}
use Rattle.sym_records.specs.Text.{line_read}
use Rattle.sym_records.specs.Reading.{Seen, start, fits, leads, next_number, lacks_module, with_record, with_text, numbered, with_lines, some_records, reading_within, reading}
use Rattle.sym_records.specs.declared.line.SymLine.{SymLine}
use Rattle.sym_rules.specs.declared.text_fault.TextFault.{TextFault}
use Rattle.sym_rules.specs.declared.text_fault.TextKind.{TextKind}
use Rattle.sym_rules.specs.declared.text_fault.TextKind.TheVariants.{LongLine, NoModule, Misplaced}
use Rattle.sym_grammar.proofs.PieceLemmas.{split_none, split_byte, with_cons, with_none}

abbrev seen_by : {F : Type 0} → Seen → Result Seen F
seen_by seen = Ok seen

seen_is : {F : Type 0} (x y : Seen) → seen_by {F = F} x ≡ seen_by y → x ≡ y
seen_is {F = F} x y is = cc

abbrev read_as : Option SymLine → Result (Option SymLine) TextKind
read_as o = Ok o

-- A line with a record has at least one byte.
record_some : (line : List ℕ) (s : SymLine) → line_read line ≡ read_as (Some s) → 0 < length line
unfolding line_read
record_some [] s is = cc
record_some (b ∷ line) s is = omega arith

record_more : (seen after : Seen) (line : List ℕ) (o : Option SymLine) → line_read line ≡ read_as o → with_record seen o ≡ Ok after → length after.records ≤ length seen.records + length line
record_more seen after line None read is = omega (arith, ap (λ (x : Seen). length x.records) (seen_is {F = TextKind} (record seen { number = next_number seen.number }) after is))
record_more seen after line (Some s) read is = ⊎_elim
    (λ h. omega (
      arith,
      record_some line s read,
      length-append seen.records (s ∷ []),
      ap (λ (x : Seen). length x.records) (seen_is {F = TextKind} (record { records = seen.records ++ s ∷ []; place = leads seen.place s; number = next_number seen.number }) after h.1),
    ))
    (λ h. cc)
    (chosen (fits seen.place s) (Ok (record { records = seen.records ++ s ∷ []; place = leads seen.place s; number = next_number seen.number })) (Err Misplaced) (Ok after) is)

text_more : (limit : ℕ) (seen after : Seen) (line : List ℕ) → with_text limit seen line ≡ Ok after → length after.records ≤ length seen.records + length line
unfolding with_text
text_more limit seen after line is = ⊎_elim
    (λ h. cc)
    (λ h. ⊎_elim (λ g. cc) (λ g. (let read = bind_ok (line_read line) (with_record seen) after g.1 in record_more seen after line read.0 read.1 read.2))
    (chosen (lacks_module seen.place line) (Err NoModule) (line_read line >>= with_record seen) (Ok after) h.1))
    (chosen (nat_lt limit (length line)) (Err LongLine) (cond (lacks_module seen.place line) (Err NoModule) (line_read line >>= with_record seen)) (Ok after) is)

numbered_ok : (number : ℕ) (r : Result Seen TextKind) (after : Seen) → numbered number r ≡ Ok after → r ≡ Ok after
numbered_ok number (Ok x) after is = ap Ok (seen_is {F = TextFault} x after is)
numbered_ok number (Err kind) after is = cc

abbrev bytes_in : List (List ℕ) → List ℕ
bytes_in lines = flat_map (λ l. l) lines

lines_more : (limit : ℕ) (seen after : Seen) (lines : List (List ℕ)) → with_lines limit seen lines ≡ Ok after → length after.records ≤ length seen.records + length (bytes_in lines)
lines_more limit seen after [] is = omega (arith, ap (λ (x : Seen). length x.records) (seen_is {F = TextFault} seen after (sym (with_none limit seen) ∙ is)))
lines_more limit seen after (line ∷ lines) is =
    let step = bind_ok (numbered (next_number seen.number) (with_text limit seen line)) (λ x. with_lines limit x lines) after (sym (with_cons limit seen line lines) ∙ is) in
    omega (arith, text_more limit seen step.0 line (numbered_ok (next_number seen.number) (with_text limit seen line) step.0 step.1), lines_more limit step.0 after lines step.2, length-append line (bytes_in lines))

onto_bytes : (b : ℕ) (lines : List (List ℕ)) → length (bytes_in (onto b lines)) ≡ length (bytes_in lines) + 1
onto_bytes b [] = omega arith
onto_bytes b (line ∷ lines) = omega (arith, length-append (b ∷ line) (bytes_in lines), length-append line (bytes_in lines))

split_within : (bytes : List ℕ) → length (bytes_in (split_lines bytes)) ≤ length bytes
split_within [] = omega (arith, ap (λ l. length (bytes_in l)) split_none)
split_within (b ∷ bytes) =
    elim_bool (b == 10) (λ t. (b == 10) ≡ t → length (bytes_in (split_lines (b ∷ bytes))) ≤ length (b ∷ bytes))
    (λ _ is. omega (arith, split_within bytes, ap (λ l. length (bytes_in l)) (split_byte b bytes ∙ ap (λ t. cond t ([] ∷ split_lines bytes) (onto b (split_lines bytes))) is)))
    (λ _ is. omega (arith, split_within bytes, onto_bytes b (split_lines bytes), ap (λ l. length (bytes_in l)) (split_byte b bytes ∙ ap (λ t. cond t ([] ∷ split_lines bytes) (onto b (split_lines bytes))) is))) refl

some_are : (records lines : List SymLine) → some_records records ≡ Ok lines → lines ≡ records
some_are [] lines is = cc
some_are (s ∷ records) lines is = cc

pub records_within : (bytes : List ℕ) (lines : List SymLine) → reading bytes ≡ Ok lines → length lines ≤ length bytes
unfolding reading reading_within
records_within bytes lines is =
    let read = bind_ok (with_lines (2 ^ 20) start (split_lines bytes)) (λ after. some_records after.records) lines is in
    omega (arith, ap length (some_are read.0.records lines read.2), lines_more (2 ^ 20) start read.0 (split_lines bytes) read.1, split_within bytes)
