-- What the records of all entries say about frames, and that a checker finds nothing in them; for
-- the laws of this crate.
use Rattle.std.proofs.Common.{◌≡◌, ℕ, ◌+◌, ◌-◌, ◌<◌, ◌≤◌, ◌^◌, Bool, true, false, ◌&&◌, ◌||◌, nat_le, nat_lt, cond, map, List, [], ◌∷◌, ◌++◌, arith, refl, sym, ap, subst, ◌∙◌, append_assoc, append-nil}
use Rattle.std.proofs.lemmas.Bool.Decides.{nat_tests}
use Rattle.std.proofs.lemmas.List.Sums.{sum_by-append}
use Rattle.std.specs.List.{list_any, list_all, flat_map, range_with_len}
use Rattle.sym_edges.specs.Addresses.{Range}
use Rattle.range_set.specs.Starts.{AllFrom}
use Rattle.frame_entries.specs.declared.description.Entry.{Entry}
use Rattle.frame_entries.specs.FdeFields.{FdeFields}
use Rattle.frame_rows.specs.Rows.{row_at}
use Rattle.frame_rows.specs.declared.row.Row.{Row}
use Rattle.sym_rules.specs.declared.rules.RuleText.{RuleText}
use Rattle.sym_records.specs.declared.line.SymLine.{SymLine}
use Rattle.sym_records.specs.declared.line.SymLine.TheVariants.{Init, Change}
use Rattle.sym_meaning.specs.Plain.{ArePlain, HaveNoFile, HaveNoOrigin}
use Rattle.sym_meaning.specs.Findings.{are_sized}
use Rattle.sym_meaning.specs.Inits.{inits_at, is_frameless, AreNested}
use Rattle.sym_meaning.proofs.InitLemmas.{counted, covers_after, nested_after, lines_sized}
use Rattle.rule_postfix.specs.RowRules.{row_rules, changed_rules}
use Rattle.rule_postfix.specs.FrameLines.{is_cut, change, records_at, frame_lines as lines_of_rows}
use Rattle.range_union.specs.Ranges.{overlap, any_overlap}
use Rattle.rule_postfix.specs.Written.{range_of, written, entry_lines, written_lines}
use Rattle.rule_postfix.specs.Covering.{holds_address, entries_at, AreDisjoint, SaysFrames}
use Rattle.rule_postfix.proofs.WrittenLemmas.{AreWritten, written_are}
use Rattle.rule_postfix.proofs.KeptLemmas.{written_apart, written_cover, written_changes}

-- The records of the written entries, after records that are not about frames.
pub frames_said : (base : ℕ) (code : List Range) (first second : List Entry) (front : List SymLine) → AllFrom base code → list_all is_frameless front ≡ true → SaysFrames base (written code first second) (front ++ written_lines base (written code first second))
frames_said base code first second front above plain = record {
  front = front;
  frameless = plain;
  whole = refl;
  disjoint = written_apart base code first second above;
  covered = λ x. covers_after x front (written_lines base (written code first second)) plain ∙ written_cover base code first second (written_lines base (written code first second)) above refl x;
  nested = nested_after front (written_lines base (written code first second)) plain (written_changes base code first second (written_lines base (written code first second)) above refl);
}

-- All entries, and one of them.
pub entries_more : (e : FdeFields) (entries : List FdeFields) (a : ℕ) → entries_at (e ∷ entries) a ≡ cond (holds_address a e) 1 0 + entries_at entries a
unfolding entries_at
entries_more e entries a = sum_by-append (λ w. cond (holds_address a w) 1 0) (e ∷ []) entries ∙ ap (λ k. k + entries_at entries a) (counted (holds_address a e))

-- At most one entry has an address.
both_meet : (a : ℕ) (e f : FdeFields) → holds_address a e ≡ true → holds_address a f ≡ true → overlap (range_of e) (range_of f) ≡ true
both_meet a e f first second = go (nat_le e.start a) refl (nat_lt a (e.start + e.size)) refl first (nat_le f.start a) refl (nat_lt a (f.start + f.size)) refl second
  where
    go : (b : Bool) → nat_le e.start a ≡ b → (c : Bool) → nat_lt a (e.start + e.size) ≡ c → (b && c) ≡ true → (d : Bool) → nat_le f.start a ≡ d → (g : Bool) → nat_lt a (f.start + f.size) ≡ g → (d && g) ≡ true → overlap (range_of e) (range_of f) ≡ true
    go true low true high both true from true to all = grind (arith, nat_tests)
    go false low c high both d from g to all = absurd (cc)
    go true low false high both d from g to all = absurd (cc)
    go true low true high both false from g to all = absurd (cc)
    go true low true high both true from false to all = absurd (cc)

no_other : (a : ℕ) (e : FdeFields) (entries : List FdeFields) → holds_address a e ≡ true → list_any (overlap (range_of e)) (map range_of entries) ≡ false → entries_at entries a ≡ 0
unfolding entries_at
no_other a e [] held none = refl
no_other a e (f ∷ entries) held none = entries_more f entries a ∙ go (holds_address a f) refl (overlap (range_of e) (range_of f)) refl none (λ rest. no_other a e entries held rest)
  where
    go : (b : Bool) → holds_address a f ≡ b → (m : Bool) → overlap (range_of e) (range_of f) ≡ m → (m || list_any (overlap (range_of e)) (map range_of entries)) ≡ false → (list_any (overlap (range_of e)) (map range_of entries) ≡ false → entries_at entries a ≡ 0) → cond b 1 0 + entries_at entries a ≡ 0
    go b has true meets all later = absurd (cc)
    go true has false meets all later = let both : overlap (range_of e) (range_of f) ≡ true = both_meet a e f held has in absurd (cc)
    go false has false meets all later = let rest : entries_at entries a ≡ 0 = later all in omega (arith, rest)

pub one_entry : (a : ℕ) (entries : List FdeFields) → AreDisjoint entries → entries_at entries a ≤ 1
unfolding entries_at any_overlap
one_entry a [] apart = omega arith
one_entry a (e ∷ entries) apart =
    let more : entries_at (e ∷ entries) a ≡ cond (holds_address a e) 1 0 + entries_at entries a = entries_more e entries a in
    subst (λ (n : ℕ). n ≤ 1) (sym more) (go (holds_address a e) refl (one_entry a entries apart.1))
  where
    go : (b : Bool) → holds_address a e ≡ b → entries_at entries a ≤ 1 → cond b 1 0 + entries_at entries a ≤ 1
    go true held few = let none : entries_at entries a ≡ 0 = no_other a e entries held apart.0 in omega (arith, none)
    go false held few = omega (arith, few)

-- An address of an entry is below its end.
entry_below : (a : ℕ) (entries : List FdeFields) → AreWritten entries → 0 < entries_at entries a → a + 1 < 2 ^ 64
unfolding entries_at
entry_below a [] are some = absurd (omega arith)
entry_below a (e ∷ entries) are some =
    go (nat_le e.start a) (nat_lt a (e.start + e.size)) refl (subst (λ (n : ℕ). 0 < n) (entries_more e entries a) some) (entry_below a entries are.1)
  where
    go : (b c : Bool) → nat_lt a (e.start + e.size) ≡ c → 0 < cond (b && c) 1 0 + entries_at entries a → (0 < entries_at entries a → a + 1 < 2 ^ 64) → a + 1 < 2 ^ 64
    go true true high many later = let first : a < e.start + e.size = grind (arith, nat_tests) in omega (arith, first, are.0.fits)
    go true false high many later = later (omega (arith, many))
    go false c high many later = later (omega (arith, many))

-- What still holds after one frame record was put in front holds for the records of entries.
flat_over : {X : Type 0} (P : List SymLine → Type 0) (f : X → List SymLine) (xs : List X) (rest : List SymLine) → ((x : X) (later : List SymLine) → P later → P (f x ++ later)) → P rest → P (flat_map f xs ++ rest)
flat_over P f [] rest more is = is
flat_over P f (x ∷ xs) rest more is = subst P (sym (append_assoc (f x) (flat_map f xs) rest)) (more x (flat_map f xs ++ rest) (flat_over P f xs rest more is))

-- It still holds after frame records were put in front.
pub record GrowsByFrames (P : List SymLine → Type 0) : Type 0 where
  pub init : (address size : ℕ) (rules : List RuleText) (later : List SymLine) → P later → P (Init address size rules ∷ later)
  pub change : (address : ℕ) (rules : List RuleText) (later : List SymLine) → P later → P (Change address rules ∷ later)

change_over : (P : List SymLine → Type 0) → GrowsByFrames P → (address : ℕ) (rules : List RuleText) (rest : List SymLine) → P rest → P (change address rules ++ rest)
change_over P grows address [] rest is = is
change_over P grows address (r ∷ rules) rest is = grows.change address (r ∷ rules) rest is

record_over : (P : List SymLine → Type 0) → GrowsByFrames P → (cut : Bool) (address size : ℕ) (rules changed : List RuleText) (rest : List SymLine) → P rest → P (cond cut (Init address size rules ∷ []) (change address changed) ++ rest)
record_over P grows true address size rules changed rest is = grows.init address size rules rest is
record_over P grows false address size rules changed rest is = change_over P grows address changed rest is

records_over : (fde : FdeFields) (P : List SymLine → Type 0) → GrowsByFrames P → (row : ℕ → Row) (start end base b : ℕ) (rest : List SymLine) → P rest → P (records_at fde row start end base b ++ rest)
unfolding records_at
records_over fde P grows row start end base b rest is = record_over P grows (is_cut row start b) (b - base) _ (row_rules fde (row b)) (changed_rules fde (row (b - 1)) (row b)) rest is

entry_over : (P : List SymLine → Type 0) → GrowsByFrames P → (base : ℕ) (e : FdeFields) (rest : List SymLine) → P rest → P (entry_lines base e ++ rest)
unfolding entry_lines lines_of_rows
entry_over P grows base e rest is =
    flat_over P (records_at e (row_at e) e.start (e.start + e.size) base) (range_with_len e.start e.size) rest (λ b later so. records_over e P grows (row_at e) e.start (e.start + e.size) base b later so) is

pub written_over : (P : List SymLine → Type 0) → GrowsByFrames P → P [] → (base : ℕ) (entries : List FdeFields) → P (written_lines base entries)
unfolding written_lines
written_over P grows none base entries = subst P (append-nil (written_lines base entries)) (flat_over P (entry_lines base) entries [] (entry_over P grows base) none)

-- The records are plain, and none is a FILE or an INLINE_ORIGIN.
pub written_plain : (base : ℕ) (entries : List FdeFields) → ArePlain (written_lines base entries)
written_plain base entries = written_over (λ (l : List SymLine). ArePlain l) (record { init = λ address size rules later is. (tt, is); change = λ address rules later is. (tt, is) }) tt base entries

pub written_no_file : (base : ℕ) (entries : List FdeFields) → HaveNoFile (written_lines base entries)
written_no_file base entries = written_over (λ (l : List SymLine). HaveNoFile l) (record { init = λ address size rules later is. (tt, is); change = λ address rules later is. (tt, is) }) tt base entries

pub written_no_origin : (base : ℕ) (entries : List FdeFields) → HaveNoOrigin (written_lines base entries)
written_no_origin base entries = written_over (λ (l : List SymLine). HaveNoOrigin l) (record { init = λ address size rules later is. (tt, is); change = λ address rules later is. (tt, is) }) tt base entries

-- The INITs of written entries are not empty and end below 2^64.
frames_sized : (base : ℕ) (entries : List FdeFields) (framed : List SymLine) → ArePlain framed → AreNested 0 0 framed → ((x : ℕ) → inits_at framed x ≡ entries_at entries (x + base)) → AreWritten entries → list_all are_sized framed ≡ true
frames_sized base entries framed plain nested cover are =
    lines_sized 0 0 framed plain nested (λ x some. less x base (2 ^ 64) (entry_below (x + base) entries are (subst (λ (n : ℕ). 0 < n) (cover x) some)))
  where
    less : (x b limit : ℕ) → (x + b) + 1 < limit → x + 1 < limit
    less x b limit below = omega arith

pub written_sized : (base : ℕ) (code : List Range) (first second : List Entry) → AllFrom base code → list_all are_sized (written_lines base (written code first second)) ≡ true
written_sized base code first second above =
    frames_sized base (written code first second) (written_lines base (written code first second)) (written_plain base (written code first second))
    (written_changes base code first second (written_lines base (written code first second)) above refl)
    (written_cover base code first second (written_lines base (written code first second)) above refl)
    (written_are code first second)

-- At most one INIT covers an address.
pub written_once : (base : ℕ) (entries : List FdeFields) (lines : List SymLine) → SaysFrames base entries lines → (x : ℕ) → inits_at lines x ≤ 1
written_once base entries lines says x = subst (λ (n : ℕ). n ≤ 1) (sym (says.covered x)) (one_entry (x + base) entries says.disjoint)
