-- A record with good fields is read from its canonical spelling.
use Rattle.std.proofs.Common.{◌≡◌, ℕ, ◌^◌, ◌<◌, ◌==◌, ◌&&◌, ◌||◌, cond, Bool, true, false, List, [], ◌∷◌, ◌++◌, drop, codes, Some, None, Ok, Result, nat_lt, refl, sym, ◌∙◌, ap, subst}
use Rattle.std.specs.List.{list_all}
use Rattle.std.specs.Str.{bytes_eq}
use Rattle.sym_rules.proofs.BoolLemmas.{and_true, elim_bool, eq_32}
use Rattle.sym_rules.proofs.EndLemmas.{ends_in_cr, trim_kept, last_later}
use Rattle.sym_records.proofs.TextLemmas.{below, skip_field, hex_field}
use Rattle.sym_edges.specs.Results.{◌>>=◌}
use Rattle.sym_records.specs.Canon.{body}
use Rattle.sym_records.specs.FieldReading.{word_at, hex_at, values_at, is_end, fields_at}
use Rattle.sym_records.specs.Fields.{hex, is_field, Rules, Last, Then, Hex, Decimal, Values, spelled, fit}
use Rattle.sym_records.specs.Records.{layout, headed, keyword, values, made}
use Rattle.sym_records.specs.Text.{behind_word, trimmed, is_hex_digit, cfi_key, stack_key, worded_key, keyed, key_at, record_of, record_at, line_read}
use Rattle.sym_records.specs.Validity.{has_fields}
use Rattle.sym_rules.specs.Cuts.{is_space, is_cr, is_margin, before, from, skip, last_is}
use Rattle.sym_rules.specs.declared.text_fault.TextKind.{TextKind}
use Rattle.sym_records.proofs.FieldLemmas.{Opened, opened_parted, before_parted, opened, behind, shape_ends, ends_cr, fields_back, values_back, hex_digits, hex_not, next_hex, digit_inner}
use Rattle.sym_records.specs.declared.line.SymLine.{SymLine}
use Rattle.sym_records.specs.declared.line.SymLine.TheVariants as line
use Rattle.sym_records.specs.declared.keyword.Keyword.{Keyword}
use Rattle.sym_records.specs.declared.keyword.Keyword.TheVariants as key

-- A record is made from its own keyword and fields.
pub made_back : (s : SymLine) → made (keyword s) (values s) ≡ s
made_back (line.Module binary) = refl
made_back s = refl

-- The first byte of a line is not ignored.
abbrev pub Starts : List ℕ → Type 0
Starts [] = ⊥
Starts (c ∷ rest) = is_margin c ≡ false

abbrev pub found_record : Keyword × List ℕ → Result SymLine TextKind
found_record found = record_of found.0 found.1

-- Facts about the line of a record.
pub record LineParts (s : SymLine) (line : List ℕ) : Type 0 where
  pub starts : Starts line
  pub ends : ends_in_cr line ≡ false
  pub reads : (key_at line >>= found_record) ≡ Ok s

no_margin : (c : ℕ) → is_margin c ≡ false → (c == 32) ≡ false
no_margin c is = elim_bool (c == 32) (λ t. (t || (c == 13)) ≡ false → t ≡ false) (λ _ h. h) (λ _ _. refl) is

line_kept : (s : SymLine) (line : List ℕ) → LineParts s line → line_read line ≡ Ok (Some s)
unfolding line_read record_at
line_kept s [] parts = absurd parts.starts
line_kept s (c ∷ rest) parts =
    ap (λ t. cond (t && list_all is_margin rest) (Ok None) ((key_at (trimmed (c ∷ rest)) >>= found_record) >>= λ x. Ok (Some x))) parts.starts
    ∙ ap (λ l. (key_at l >>= found_record) >>= λ x. Ok (Some x)) (ap (skip is_space) (trim_kept is_cr (c ∷ rest) parts.ends) ∙ skip_field c rest (no_margin c parts.starts))
    ∙ ap (λ r. r >>= λ x. Ok (Some x)) parts.reads

-- The record with a keyword is read from its fields.
found_back : (k : Keyword) (v : Values (layout k)) → fit (layout k) v ≡ true → record_of k (spelled (layout k) v) ≡ Ok (made k v)
found_back k v fits = ap (λ r. r >>= λ x. Ok (made k x)) (fields_back (layout k) v fits)

abbrev pub Line : (k : Keyword) → Values (layout k) → Type 0
Line k v = LineParts (made k v) (drop 1 (headed k ++ spelled (layout k) v))

opened_is : (P : List ℕ → Type 0) (xs : List ℕ) → Opened xs → ((rest : List ℕ) → P (32 ∷ rest)) → P xs
opened_is P [] is all = absurd is
opened_is P (x ∷ xs) is all = subst (λ (y : ℕ). P (y ∷ xs)) (sym (eq_32 x is)) (all xs)

-- A line with a keyword.
worded : (k : Keyword) (c : ℕ) (word : List ℕ) (v : Values (layout k)) → headed k ≡ 32 ∷ c ∷ word → is_margin c ≡ false
    → key_at (c ∷ (word ++ spelled (layout k) v)) ≡ Ok (k, spelled (layout k) v) → fit (layout k) v ≡ true → Line k v
worded k c word v head first found fits =
    subst (λ (h : List ℕ). LineParts (made k v) (drop 1 (h ++ spelled (layout k) v))) (sym head) (record {
      starts = first;
      ends = behind is_cr (c ∷ word) (spelled (layout k) v) (opened (layout k) v fits) ∙ ends_cr (layout k) (spelled (layout k) v) (shape_ends (layout k) v fits);
      reads = ap (λ r. r >>= found_record) found ∙ found_back k v fits;
    })

plain : (k : Keyword) (c : ℕ) (word : List ℕ) (v : Values (layout k)) → headed k ≡ 32 ∷ c ∷ word → is_margin c ≡ false
    → ((rest : List ℕ) → key_at (c ∷ (word ++ 32 ∷ rest)) ≡ Ok (k, 32 ∷ rest)) → fit (layout k) v ≡ true → Line k v
plain k c word v head first found fits =
    worded k c word v head first (opened_is (λ l. key_at (c ∷ (word ++ l)) ≡ Ok (k, l)) (spelled (layout k) v) (opened (layout k) v fits) found) fits

-- A number after STACK CFI is not INIT.
change_key : (n : ℕ) (rest : List ℕ) → n < 2 ^ 64 → Opened rest → key_at (codes "STACK CFI" ++ (32 ∷ (hex n ++ rest))) ≡ Ok (key.Change, 32 ∷ (hex n ++ rest))
unfolding key_at keyed worded_key stack_key cfi_key before from skip
change_key n rest small parted =
    let given : List ℕ = 32 ∷ (hex n ++ rest) in
    ap (λ w. Ok (cond (bytes_eq w (codes "INIT")) (key.Init, behind_word given) (key.Change, given))) (next_hex n rest small (opened_parted rest parted))
    ∙ ap (λ t. Ok (cond t (key.Init, behind_word given) (key.Change, given))) (hex_not n (codes "INIT") small refl)

-- A line record.
unspaced : (n : ℕ) (rest : List ℕ) → values_at (layout key.Line) (32 ∷ rest) ≡ values_at (layout key.Line) rest
unfolding hex_at word_at skip
unspaced n rest = refl

digits_start : (ds rest : List ℕ) → is_field ds ≡ true → list_all is_hex_digit ds ≡ true → Starts (ds ++ rest)
unfolding is_field
digits_start [] rest is all = cc
digits_start (d ∷ ds) rest is all = digit_inner d (and_true all).0

digits_end : (p : ℕ → Bool) (ds rest : List ℕ) → is_field ds ≡ true → last_is p (32 ∷ (ds ++ rest)) ≡ last_is p (ds ++ rest)
unfolding is_field
digits_end p [] rest is = cc
digits_end p (d ∷ ds) rest is = last_later p 32 d (ds ++ rest)

line_key : (n : ℕ) (rest : List ℕ) → n < 2 ^ 64 → Opened rest → key_at (hex n ++ rest) ≡ Ok (key.Line, hex n ++ rest)
unfolding key_at keyed is_field
line_key n rest small parted =
    let within = (and_true (hex_field n small)).1 in
    ap (λ w. keyed w (from 32 (hex n ++ rest)) (hex n ++ rest)) (before_parted (hex n) rest within (opened_parted rest parted))
    ∙ ap (λ t. cond t (Ok (key.Line, hex n ++ rest)) (worded_key (hex n) (from 32 (hex n ++ rest)))) (hex_digits n small)

line_line : (v : Values (layout key.Line)) → fit (layout key.Line) v ≡ true → Line key.Line v
unfolding fields_at
line_line v fits =
    let small = below {n = v.0} (and_true fits).0 in
    let later = (and_true {a = nat_lt v.0 (2 ^ 64)} fits).1 in
    let rest : List ℕ = spelled (Then Hex (Then Decimal Last)) v.1 in
    let ends : last_is (is_end (layout key.Line)) (hex v.0 ++ rest) ≡ false
    = sym (digits_end (is_end (layout key.Line)) (hex v.0) rest (hex_field v.0 small)) ∙ shape_ends (layout key.Line) v fits in
    record {
      starts = digits_start (hex v.0) rest (hex_field v.0 small) (hex_digits v.0 small);
      ends = ends_cr (layout key.Line) (hex v.0 ++ rest) ends;
      reads = ap (λ r. r >>= found_record) (line_key v.0 rest small (opened (Then Hex (Then Decimal Last)) v.1 later))
          ∙ ap (λ r. r >>= λ x. Ok (made key.Line x))
          (ap (values_at (layout key.Line)) (trim_kept (is_end (layout key.Line)) (hex v.0 ++ rest) ends)
          ∙ sym (unspaced v.0 (hex v.0 ++ rest)) ∙ values_back (layout key.Line) v fits);
    }

change_line : (v : Values (layout key.Change)) → fit (layout key.Change) v ≡ true → Line key.Change v
change_line v fits =
    let small = below {n = v.0} (and_true fits).0 in
    let later = (and_true {a = nat_lt v.0 (2 ^ 64)} fits).1 in
    worded key.Change 83 (codes "TACK CFI") v refl refl (change_key v.0 (spelled Rules v.1) small (opened Rules v.1 later)) fits

-- Each keyword is found in its line.
pub line_parts : (k : Keyword) (v : Values (layout k)) → fit (layout k) v ≡ true → Line k v
unfolding key_at keyed worded_key stack_key cfi_key before from skip
line_parts key.Line v fits = line_line v fits
line_parts key.Change v fits = change_line v fits
line_parts k v fits = plain k _ _ v refl refl (λ rest. refl) fits

-- A record with good fields is read from its line.
pub line_back : (s : SymLine) → has_fields s ≡ true → line_read (body s) ≡ Ok (Some s)
unfolding body
line_back s fits =
    line_kept s (drop 1 (headed (keyword s) ++ spelled (layout (keyword s)) (values s)))
    (subst (λ (x : SymLine). LineParts x (drop 1 (headed (keyword s) ++ spelled (layout (keyword s)) (values s)))) (made_back s) (line_parts (keyword s) (values s) fits))
