-- A record is valid exactly if its fields are good and its line is short.
use Rattle.std.proofs.Common.{◌≡◌, ℕ, ◌^◌, ◌↔◌, cond, Bool, true, false, List, [], ◌∷◌, ◌++◌, length, drop, codes, Option, Some, None, Result, Ok, Err, nat_lt, IsTrue, refl, sym, ◌∙◌, ap, subst, ⊎_elim}
use Rattle.std.specs.List.{list_all, flat_map}
use Rattle.std.specs.Fmt.{decimal}
use Rattle.std.specs.Str.{bytes_eq}
use Rattle.std.proofs.lemmas.List.Folds.{list_all-append}
use Rattle.std.proofs.lemmas.Bool.{leb-true, le-leb}
use Rattle.sym_rules.proofs.BoolLemmas.{and_true, both, chosen, bind_ok, false_true}
use Rattle.sym_rules.proofs.EndLemmas.{from_ends, trim_ends, all_skip, all_from, all_trim}
use Rattle.sym_records.proofs.TextLemmas.{name_parts, hex_field, below}
use Rattle.sym_rules.proofs.WordLemmas.{parted, is_word}
use Rattle.sym_rules.proofs.RuleListLemmas.{rules_parts}
use Rattle.sym_rules.proofs.LengthLemmas.{rules_spelled}
use Rattle.sym_edges.specs.Results.{◌>>=◌}
use Rattle.sym_records.specs.Canon.{body}
use Rattle.sym_records.specs.FieldReading.{is_end, fields_at}
use Rattle.sym_records.specs.Fields.{hex, is_field, Middle, Word, Hex, Marked, Decimal, Shape, Name, Rules, Ranges, Last, Then, Held, Values, mark, spelled_middle, spelled_range, spelled, fits_middle, is_range, are_ranges, fit}
use Rattle.sym_records.specs.Records.{layout, headed, keyword, values, made}
use Rattle.sym_records.specs.Text.{next_word, is_blank, trimmed, is_hex_digit, cfi_key, stack_key, worded_key, keyed, key_at, record_of, record_at, line_read}
use Rattle.sym_records.specs.Validity.{IsValid, has_fields, fields_fit}
use Rattle.sym_rules.specs.Cuts.{is_space, is_cr, is_within_line, is_within_field, before, from, skip, trim_end}
use Rattle.sym_rules.specs.RuleValidity.{are_rules}
use Rattle.sym_rules.specs.Rules.{rule_words, spelled_rules}
use Rattle.sym_rules.specs.declared.rules.RuleText.{RuleText}
use Rattle.sym_rules.specs.declared.text_fault.TextKind.{TextKind}
use Rattle.sym_rules.specs.declared.text_fault.TextKind.TheVariants as fault
use Rattle.sym_records.proofs.FieldLemmas.{decimal_field}
use Rattle.sym_records.proofs.FieldSoundLemmas.{ok_is, Behind, behind_same, behind_word, behind_both, values_good}
use Rattle.sym_records.proofs.RecordLemmas.{line_back}
use Rattle.sym_records.specs.declared.line.Extent.{Extent}
use Rattle.sym_records.specs.declared.line.SymLine.{SymLine}
use Rattle.sym_records.specs.declared.keyword.Keyword.{Keyword}
use Rattle.sym_records.specs.declared.keyword.Keyword.TheVariants as key

-- A record has the fields from which it was made.
made_fits : (k : Keyword) (v : Values (layout k)) → has_fields (made k v) ≡ fit (layout k) v
made_fits key.Module v = refl
made_fits k v = refl

fields_good : (shape : Shape) (bytes : List ℕ) (v : Values shape) → list_all is_within_line bytes ≡ true → fields_at shape bytes ≡ Ok v → fit shape v ≡ true
unfolding fields_at
fields_good shape bytes v line is = values_good shape (trim_end (is_end shape) bytes) v (all_trim is_within_line (is_end shape) bytes line) (trim_ends (is_end shape) bytes) is

record_good : (k : Keyword) (bytes : List ℕ) (s : SymLine) → list_all is_within_line bytes ≡ true → record_of k bytes ≡ Ok s → has_fields s ≡ true
record_good k bytes s line is =
    let read = bind_ok (fields_at (layout k) bytes) _ s is in
    ap has_fields (sym (ok_is (made k read.0) s read.2)) ∙ made_fits k read.0 ∙ fields_good (layout k) bytes read.0 line read.1

-- The bytes after a keyword are the rest of the line.
abbrev IfFound : List ℕ → Result (Keyword × List ℕ) TextKind → Type 0
IfFound line (Ok found) = Behind line found.1
IfFound line (Err kind) = Unit {0}

if_found : (line : List ℕ) (b : Bool) (r q : Result (Keyword × List ℕ) TextKind) → IfFound line r → IfFound line q → IfFound line (cond b r q)
if_found line true r q first second = first
if_found line false r q first second = second

abbrev next_rest : List ℕ → List ℕ
next_rest bytes = from 32 (skip is_space bytes)

cfi_either : (b : Bool) (bytes : List ℕ) → Behind bytes (cond {A = Keyword × List ℕ} b (key.Init, next_rest bytes) (key.Change, bytes)).1
cfi_either true bytes = behind_word bytes
cfi_either false bytes = behind_same bytes

cfi_found : (bytes : List ℕ) → Behind bytes (cfi_key bytes).1
unfolding cfi_key
cfi_found bytes = cfi_either (bytes_eq (next_word bytes) (codes "INIT")) bytes

stack_found : (line bytes : List ℕ) → Behind line bytes → IfFound line (stack_key bytes)
unfolding stack_key
stack_found line bytes left =
    if_found line (bytes_eq (next_word bytes) (codes "CFI")) _ _ (behind_both line bytes _ left (behind_both bytes (next_rest bytes) _ (behind_word bytes) (cfi_found (next_rest bytes))))
    (if_found line (bytes_eq (next_word bytes) (codes "WIN")) (Err fault.Windows) (Err fault.Unknown) tt tt)

worded_found : (line word rest : List ℕ) → Behind line rest → IfFound line (worded_key word rest)
unfolding worded_key
worded_found line word rest left = search (if_found line, stack_found line rest left) depth 40

behind_from : (bytes : List ℕ) → Behind bytes (from 32 bytes)
behind_from bytes = record { all = λ p all. all_from p 32 bytes all; ends = λ p ends. from_ends p 32 bytes ends }

key_found : (line : List ℕ) → IfFound line (key_at line)
unfolding key_at keyed
key_found line =
    if_found line (list_all is_hex_digit (before 32 line)) _ _ (behind_same line) (worded_found line (before 32 line) (from 32 line) (behind_from line))

was_found : (line : List ℕ) (r : Result (Keyword × List ℕ) TextKind) (found : Keyword × List ℕ) → IfFound line r → r ≡ Ok found → Behind line found.1
was_found line r found given is = subst (λ (x : Result (Keyword × List ℕ) TextKind). IfFound line x) is given

abbrev nothing_read : Result (Option SymLine) TextKind
nothing_read = Ok None

abbrev some_read : SymLine → Result (Option SymLine) TextKind
some_read s = Ok (Some s)

abbrev found_of : Keyword × List ℕ → Result SymLine TextKind
found_of found = record_of found.0 found.1

none_some : {P : Type 0} (s : SymLine) → nothing_read ≡ some_read s → P
none_some s is = cc

-- A line can carry the fields of the record that was read from it.
pub line_good : (line : List ℕ) (s : SymLine) → list_all is_within_line line ≡ true → line_read line ≡ Ok (Some s) → has_fields s ≡ true
unfolding line_read record_at
line_good line s whole is =
    ⊎_elim (λ h. none_some s h.1) (λ h.
    let read = bind_ok (key_at (trimmed line) >>= found_of) _ (Some s) h.1 in
    let same : read.0 ≡ s = (let last = read.2 in cc) in
    let found = bind_ok (key_at (trimmed line)) found_of read.0 read.1 in
    let kept = all_skip is_within_line is_space (trim_end is_cr line) (all_trim is_within_line is_cr line whole) in
    ap has_fields (sym same)
    ∙ record_good found.0.0 found.0.1 read.0 ((was_found (trimmed line) (key_at (trimmed line)) found.0 (key_found (trimmed line)) found.1).all is_within_line kept) found.2)
    (chosen (is_blank line) nothing_read ((key_at (trimmed line) >>= found_of) >>= λ x. Ok (Some x)) (Ok (Some s)) is)

-- The spelling is one line.

within_line : (w : List ℕ) → list_all is_within_field w ≡ true → list_all is_within_line w ≡ true
within_line [] all = refl
within_line (x ∷ w) all = both (and_true (and_true all).0).1 (within_line w (and_true all).1)

field_line : (w : List ℕ) → is_field w ≡ true → list_all is_within_line w ≡ true
unfolding is_field
field_line w is = within_line w (and_true is).1

hex_line : (n : ℕ) → nat_lt n (2 ^ 64) ≡ true → list_all is_within_line (hex n) ≡ true
hex_line n is = field_line (hex n) (hex_field n (below is))

lines_both : (xs ys : List ℕ) → list_all is_within_line xs ≡ true → list_all is_within_line ys ≡ true → list_all is_within_line (xs ++ ys) ≡ true
lines_both xs ys first second = list_all-append is_within_line xs ys ∙ both first second

mark_line : (many : Bool) → list_all is_within_line (mark many) ≡ true
mark_line true = refl
mark_line false = refl

middle_line : (m : Middle) (x : Held m) → fits_middle m x ≡ true → list_all is_within_line (spelled_middle m x) ≡ true
middle_line Word w fits = field_line w fits
middle_line Hex n fits = hex_line n fits
middle_line Marked x fits = lines_both (mark x.0) (32 ∷ hex x.1) (mark_line x.0) (hex_line x.1 fits)
middle_line Decimal n fits = field_line (decimal n) (decimal_field n fits)

ranges_line : (ranges : List Extent) → list_all is_range ranges ≡ true → list_all is_within_line (flat_map spelled_range ranges) ≡ true
unfolding spelled_range
ranges_line [] all = refl
ranges_line (r ∷ ranges) all =
    let parts = and_true {a = is_range r} {b = list_all is_range ranges} all in
    let sizes = and_true {a = nat_lt r.address (2 ^ 64)} {b = nat_lt r.size (2 ^ 64)} parts.0 in
    lines_both ((32 ∷ hex r.address) ++ 32 ∷ hex r.size) (flat_map spelled_range ranges)
    (lines_both (32 ∷ hex r.address) (32 ∷ hex r.size) (hex_line r.address sizes.0) (hex_line r.size sizes.1)) (ranges_line ranges parts.1)

all_ranges_line : (ranges : List Extent) → are_ranges ranges ≡ true → list_all is_within_line (flat_map spelled_range ranges) ≡ true
unfolding are_ranges
all_ranges_line ranges good = ranges_line ranges (and_true good).1

words_line : (ws : List (List ℕ)) → list_all is_word ws ≡ true → list_all is_within_line (parted ws) ≡ true
words_line [] all = refl
words_line ([] ∷ ws) all = cc
words_line ((x ∷ w) ∷ ws) all = lines_both (32 ∷ x ∷ w) (parted ws) (within_line (x ∷ w) (and_true all).0) (words_line ws (and_true {a = is_word (x ∷ w)} {b = list_all is_word ws} all).1)

rules_line : (rules : List RuleText) → are_rules rules ≡ true → list_all is_within_line (spelled_rules rules) ≡ true
rules_line rules good = ap (list_all is_within_line) (sym (rules_spelled rules)) ∙ words_line (flat_map rule_words rules) (rules_parts rules good).words

spelled_line : (shape : Shape) (v : Values shape) → fit shape v ≡ true → list_all is_within_line (spelled shape v) ≡ true
spelled_line Name name fits = (name_parts name fits).one_line
spelled_line Rules rules fits = rules_line rules fits
spelled_line Ranges ranges fits = all_ranges_line ranges fits
spelled_line Last n fits = field_line (decimal n) (decimal_field n fits)
spelled_line (Then m rest) v fits =
    let parts = and_true {a = fits_middle m v.0} fits in
    lines_both (spelled_middle m v.0) (spelled rest v.1) (middle_line m v.0 parts.0) (spelled_line rest v.1 parts.1)

headed_line : (k : Keyword) → list_all is_within_line (headed k) ≡ true
headed_line key.Module = refl
headed_line k = refl

dropped_line : (xs : List ℕ) → list_all is_within_line xs ≡ true → list_all is_within_line (drop 1 xs) ≡ true
dropped_line [] all = refl
dropped_line (x ∷ xs) all = (and_true {a = is_within_line x} all).1

pub body_line : (s : SymLine) → has_fields s ≡ true → list_all is_within_line (body s) ≡ true
unfolding body
body_line s fits = dropped_line (headed (keyword s) ++ spelled (layout (keyword s)) (values s))
    (lines_both (headed (keyword s)) (spelled (layout (keyword s)) (values s)) (headed_line (keyword s)) (spelled_line (layout (keyword s)) (values s) fits))

pub fits_valid : (s : SymLine) → fields_fit s ≡ true → IsValid s
unfolding fields_fit
fits_valid s fits =
    let parts = and_true {a = has_fields s} fits in
    record { reads = line_back s parts.0; one_line = body_line s parts.0; short = leb-true (length (body s)) (2 ^ 20) parts.1 }

pub valid_fits : (s : SymLine) → IsValid s → fields_fit s ≡ true
unfolding fields_fit
valid_fits s valid = both (line_good (body s) s valid.one_line valid.reads) (le-leb (length (body s)) (2 ^ 20) valid.short)

pub valid_iff : (s : SymLine) (b : Bool) → b ≡ fields_fit s → IsTrue b ↔ IsValid s
valid_iff s true is = (λ _. fits_valid s (sym is), λ _. refl)
valid_iff s false is = (λ h. cc, λ valid. false_true (sym is) (valid_fits s valid))

abbrev gives_some : SymLine → Result (Option SymLine) TextKind
gives_some s = Ok (Some s)

some_is : (s t : SymLine) → gives_some s ≡ gives_some t → s ≡ t
some_is s t is = cc
