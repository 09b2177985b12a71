-- The rules that the records of written entries have at an address show the row there; for the
-- lemmas of MeaningLemmas.
use Rattle.std.proofs.Common.{◌≡◌, ℕ, zero, suc, ◌+◌, ◌-◌, ◌<◌, ◌≤◌, ◌==◌, Bool, true, false, cond, List, [], ◌∷◌, ◌++◌, Some, None, refl, ap, sym, ◌∙◌, subst, inl, inr, arith, append_assoc, append-nil}
use Rattle.std.specs.List.{flat_map, range_with_len}
use Rattle.std.proofs.lemmas.Bool.{cases_lt, or_parts, le-leb, lt-leb}
use Rattle.std.proofs.lemmas.Bool.Decides.{nat_tests}
use Rattle.std.proofs.lemmas.Grind.{flat_map-append}
use Rattle.frame_rows.specs.declared.row.Row.{Row}
use Rattle.frame_rows.specs.Steps.{has_cfa}
use Rattle.frame_rows.specs.Rows.{IsSound, row_at}
use Rattle.frame_entries.specs.FdeFields.{FdeFields}
use Rattle.sym_records.specs.declared.line.SymLine.{SymLine}
use Rattle.sym_records.specs.declared.line.SymLine.TheVariants.{Init}
use Rattle.sym_rules.specs.declared.rules.Target.{Target}
use Rattle.sym_rules.specs.declared.rules.RuleText.{RuleText}
use Rattle.sym_meaning.specs.Inits.{init_covers, inits_at}
use Rattle.cfi_eval.specs.TextRules.{changes_until, covers, text_rules}
use Rattle.rule_postfix.specs.RowRules.{row_rules, changed_rules, some_becomes_unspecified}
use Rattle.rule_postfix.specs.FrameLines.{is_cut, first_cut, change, records_at, frame_lines}
use Rattle.rule_postfix.specs.Written.{entry_lines, written_lines}
use Rattle.rule_postfix.specs.Covering.{entries_at}
use Rattle.rule_postfix.proofs.LinesLemmas.{line_of}
use Rattle.rule_postfix.proofs.CoveringLemmas.{AreAbove, cut_above, inits_append, written_inits, first_by, first_is_start, counts_one}
use Rattle.rule_postfix.proofs.NestingLemmas.{starts_cut}
use Rattle.rule_postfix.proofs.ShownLemmas.{IsTarget, Shows, row_shows, next_shows}

-- The next record is no record of changes.
pub record IsQuiet (lines : List SymLine) : Type 0 where
  pub at : (x : ℕ) → changes_until x lines ≡ []

-- The rules at an address show a row.
pub record HasRules (fde : FdeFields) (lines : List SymLine) (x : ℕ) (row : Row) : Type 0 where
  pub rules : List RuleText
  pub found : text_rules lines x ≡ Some rules
  pub shows : (t : Target) → IsTarget t → Shows fde rules row t

-- A record of changes above the address, and one at or below it.
quiet_change : (address x : ℕ) (rules : List RuleText) (rest : List SymLine) → x < address → changes_until x rest ≡ [] → changes_until x (change address rules ++ rest) ≡ []
unfolding changes_until
quiet_change address x [] rest above none = none
quiet_change address x (r ∷ rules) rest above none = ap (λ t. cond t (r ∷ rules) [] ++ changes_until x rest) (lt-leb address x above) ∙ none

heard_change : (address x : ℕ) (rules : List RuleText) (rest : List SymLine) → address ≤ x → changes_until x (change address rules ++ rest) ≡ rules ++ changes_until x rest
unfolding changes_until
heard_change address x [] rest low = refl
heard_change address x (r ∷ rules) rest low = ap (λ t. cond t (r ∷ rules) [] ++ changes_until x rest) (le-leb address x low)

-- The records of a range from an address on, followed by later records.
RestOf : FdeFields → (ℕ → Row) → ℕ → ℕ → ℕ → ℕ → ℕ → List SymLine → List SymLine
RestOf fde row start end base b n later = flat_map (records_at fde row start end base) (range_with_len b n) ++ later

rest_more : (fde : FdeFields) (row : ℕ → Row) (start end base b n : ℕ) (later : List SymLine) (cut : Bool) → end ≡ b + 1 + n → is_cut row start b ≡ cut →
    RestOf fde row start end base b (suc n) later ≡ cond cut (Init (b - base) (first_cut row start (b + 1) n - b) (row_rules fde (row b)) ∷ []) (change (b - base) (changed_rules fde (row (b - 1)) (row b))) ++ RestOf fde row start end base (b + 1) n later
unfolding RestOf
rest_more fde row start end base b n later cut size is =
    append_assoc (records_at fde row start end base b) (flat_map (records_at fde row start end base) (range_with_len (b + 1) n)) later
    ∙ ap (λ xs. xs ++ (flat_map (records_at fde row start end base) (range_with_len (b + 1) n) ++ later)) (line_of fde row start end base b n (row (b - 1)) (row b) cut size refl refl is)

-- Records of changes above the address do not count.
quiet_by : (cut : Bool) (b c base x : ℕ) (row rules : List RuleText) (rest : List SymLine) → base ≤ b → x + base < b → changes_until x rest ≡ [] → changes_until x (cond cut (Init (b - base) (c - b) row ∷ []) (change (b - base) rules) ++ rest) ≡ []
unfolding changes_until
quiet_by true b c base x row rules rest le above none = refl
quiet_by false b c base x row rules rest le above none = quiet_change (b - base) x rules rest (omega arith) none

quiet : (fde : FdeFields) (row : ℕ → Row) (start end base b n x : ℕ) (later : List SymLine) → end ≡ b + n → base ≤ b → x + base < b → IsQuiet later → changes_until x (RestOf fde row start end base b n later) ≡ []
unfolding RestOf
quiet fde row start end base b zero x later size le above after = after.at x
quiet fde row start end base b (suc n) x later size le above after =
    ap (changes_until x) (rest_more fde row start end base b n later (is_cut row start b) (omega (arith, size)) refl)
    ∙ quiet_by (is_cut row start b) b (first_cut row start (b + 1) n) base x (row_rules fde (row b)) (changed_rules fde (row (b - 1)) (row b)) (RestOf fde row start end base (b + 1) n later) le above
    (quiet fde row start end base (b + 1) n x later (omega (arith, size)) (omega (arith, le)) (omega (arith, above)) after)

-- Rows whose rules can be written.
pub record AreSaid (fde : FdeFields) (row : ℕ → Row) (start end : ℕ) : Type 0 where
  pub sound : (a : ℕ) → IsSound fde (row a)
  pub cfa : (a : ℕ) → start ≤ a → a < end → has_cfa (row a) ≡ true

no_cut : (row : ℕ → Row) (start b a n : ℕ) (cut : Bool) → is_cut row start b ≡ cut → b ≤ a → a < first_cut row start b (suc n) → cut ≡ false
no_cut row start b a n true is low below =
    let here : first_cut row start b (suc n) ≡ b = first_by row start b n ∙ ap (λ t. cond t b (first_cut row start (b + 1) n)) is in
    absurd (omega (arith, here, low, below))
no_cut row start b a n false is low below = refl

later_cut : (row : ℕ → Row) (start b n : ℕ) → is_cut row start b ≡ false → first_cut row start b (suc n) ≡ first_cut row start (b + 1) n
later_cut row start b n is = first_by row start b n ∙ ap (λ t. cond t b (first_cut row start (b + 1) n)) is

stays : (row : ℕ → Row) (start b : ℕ) → is_cut row start b ≡ false → some_becomes_unspecified (row (b - 1)) (row b) ≡ false
unfolding is_cut
stays row start b none = (or_parts (b == start) (some_becomes_unspecified (row (b - 1)) (row b)) none).1

shows_at : (fde : FdeFields) (rules : List RuleText) (row : ℕ → Row) (a b : ℕ) (t : Target) → a ≡ b → Shows fde rules (row a) t → Shows fde rules (row b) t
shows_at fde rules row a b t same shows = let P : ℕ → Type 0 = λ k. Shows fde rules (row k) t in subst P same shows

-- If rules show the row before an address, the changes up to another address lead to rules that
-- show the row there.
follows : (fde : FdeFields) (row : ℕ → Row) (start end base b n x : ℕ) (rules : List RuleText) (later : List SymLine) (t : Target) → end ≡ b + n → base ≤ b → start < b → b ≤ x + base + 1 → x + base < first_cut row start b n →
    AreSaid fde row start end → IsQuiet later → IsTarget t → Shows fde rules (row (b - 1)) t → Shows fde (rules ++ changes_until x (RestOf fde row start end base b n later)) (row (x + base)) t
unfolding first_cut RestOf
follows fde row start end base b zero x rules later t size le above near below said after is shows =
    let P : List RuleText → Type 0 = λ rs. Shows fde rs (row (x + base)) t in
    subst P (sym (ap (λ cs. rules ++ cs) (after.at x) ∙ append-nil rules)) (shows_at fde rules row (b - 1) (x + base) t (omega (arith, near, below)) shows)
follows fde row start end base b (suc n) x rules later t size le above near below said after is shows =
    elim (cases_lt (x + base) b) [
      | inl under ↦
          let P : List RuleText → Type 0 = λ rs. Shows fde rs (row (x + base)) t in
          subst P (sym (ap (λ cs. rules ++ cs) (quiet fde row start end base b (suc n) x later size le under after) ∙ append-nil rules)) (shows_at fde rules row (b - 1) (x + base) t (omega (arith, near, under)) shows)
      | inr past ↦
          let none : is_cut row start b ≡ false = no_cut row start b (x + base) n (is_cut row start b) refl past below in
          let more : List RuleText = changed_rules fde (row (b - 1)) (row b) in
          let rest : List SymLine = RestOf fde row start end base (b + 1) n later in
          let heard : changes_until x (RestOf fde row start end base b (suc n) later) ≡ more ++ changes_until x rest =
          ap (changes_until x) (rest_more fde row start end base b n later false (omega (arith, size)) none) ∙ heard_change (b - base) x more rest (omega (arith, past)) in
          let P : List RuleText → Type 0 = λ rs. Shows fde rs (row (x + base)) t in
          let inside : b < end = omega (arith, size) in
          subst P (append_assoc rules more (changes_until x rest) ∙ ap (λ cs. rules ++ cs) (sym heard))
          (follows fde row start end base (b + 1) n x (rules ++ more) later t (omega (arith, size)) (omega (arith, le)) (omega (arith, above)) (omega (arith, past)) (let c : first_cut row start b (suc n) ≡ first_cut row start (b + 1) n = later_cut row start b n none in omega (arith, c, below)) said after is
          (shows_at fde (rules ++ more) row b (b + 1 - 1) t (omega arith) (next_shows fde rules (row (b - 1)) (row b) t (said.sound b) (said.cfa b (omega (arith, above)) inside) (stays row start b none) is shows)))
    ]

-- Records of changes are passed when an INIT is looked for.
pass_change : (address x : ℕ) (rules : List RuleText) (rest : List SymLine) → text_rules (change address rules ++ rest) x ≡ text_rules rest x
unfolding text_rules
pass_change address x [] rest = refl
pass_change address x (r ∷ rules) rest = refl

init_found : (b c base x : ℕ) (rules : List RuleText) (rest : List SymLine) → base ≤ b → b ≤ x + base → x + base < c → text_rules (Init (b - base) (c - b) rules ∷ rest) x ≡ Some (rules ++ changes_until x rest)
unfolding text_rules
init_found b c base x rules rest le low high =
    let yes : covers x (b - base) (c - b) ≡ true = grind (arith, nat_tests) in
    ap (λ t. cond t (Some (rules ++ changes_until x rest)) (text_rules rest x)) yes

init_past : (b c base x : ℕ) (rules : List RuleText) (rest : List SymLine) → base ≤ b → b ≤ c → c ≤ x + base → text_rules (Init (b - base) (c - b) rules ∷ rest) x ≡ text_rules rest x
unfolding text_rules
init_past b c base x rules rest le up past =
    let no : covers x (b - base) (c - b) ≡ false = grind (arith, nat_tests) in
    ap (λ t. cond t (Some (rules ++ changes_until x rest)) (text_rules rest x)) no

found_as : (fde : FdeFields) (lines more : List SymLine) (x : ℕ) (row : Row) → text_rules lines x ≡ text_rules more x → HasRules fde more x row → HasRules fde lines x row
found_as fde lines more x row same has = record { rules = has.rules; found = same ∙ has.found; shows = has.shows }

-- For an address at or above the first cut, the INIT there covers it, or a later one does.
FoundFrom : (fde : FdeFields) → (ℕ → Row) → ℕ → ℕ → ℕ → ℕ → ℕ → ℕ → List SymLine → Type 0
FoundFrom fde row start end base b n x later = HasRules fde (RestOf fde row start end base b n later) x (row (x + base))

found_more : (fde : FdeFields) (row : ℕ → Row) (start end base b n x : ℕ) (later : List SymLine) (cut : Bool) → is_cut row start b ≡ cut → end ≡ b + 1 + n → base ≤ b → start ≤ b → first_cut row start b (suc n) ≤ x + base → AreSaid fde row start end → IsQuiet later →
    (first_cut row start (b + 1) n ≤ x + base → FoundFrom fde row start end base (b + 1) n x later) → FoundFrom fde row start end base b (suc n) x later
unfolding FoundFrom
found_more fde row start end base b n x later true is size le from low said after rest_found =
    let rest : List SymLine = RestOf fde row start end base (b + 1) n later in
    let c : ℕ = first_cut row start (b + 1) n in
    let lines : RestOf fde row start end base b (suc n) later ≡ Init (b - base) (c - b) (row_rules fde (row b)) ∷ rest = rest_more fde row start end base b n later true size is in
    let here : first_cut row start b (suc n) ≡ b = first_by row start b n ∙ ap (λ t. cond t b c) is in
    let above : b + 1 ≤ c = cut_above row start (b + 1) n in
    elim (cases_lt (x + base) c) [
      | inl inside ↦ record {
        rules = row_rules fde (row b) ++ changes_until x rest;
        found = ap (λ ls. text_rules ls x) lines ∙ init_found b c base x (row_rules fde (row b)) rest le (omega (arith, here, low)) inside;
        shows = λ t of. follows fde row start end base (b + 1) n x (row_rules fde (row b)) later t size (omega (arith, le)) (omega (arith, from)) (omega (arith, here, low)) inside said after of
            (shows_at fde (row_rules fde (row b)) row b (b + 1 - 1) t (omega arith) (row_shows fde (row b) t (said.sound b) of));
      }
      | inr past ↦ found_as fde (RestOf fde row start end base b (suc n) later) rest x (row (x + base)) (ap (λ ls. text_rules ls x) lines ∙ init_past b c base x (row_rules fde (row b)) rest le (omega (arith, above)) past) (rest_found past)
    ]
found_more fde row start end base b n x later false is size le from low said after rest_found =
    let rest : List SymLine = RestOf fde row start end base (b + 1) n later in
    let lines : RestOf fde row start end base b (suc n) later ≡ change (b - base) (changed_rules fde (row (b - 1)) (row b)) ++ rest = rest_more fde row start end base b n later false size is in
    let same : first_cut row start b (suc n) ≡ first_cut row start (b + 1) n = later_cut row start b n is in
    found_as fde (RestOf fde row start end base b (suc n) later) rest x (row (x + base)) (ap (λ ls. text_rules ls x) lines ∙ pass_change (b - base) x (changed_rules fde (row (b - 1)) (row b)) rest) (rest_found (omega (arith, same, low)))

found_from : (fde : FdeFields) (row : ℕ → Row) (start end base b n x : ℕ) (later : List SymLine) → end ≡ b + n → base ≤ b → start ≤ b → first_cut row start b n ≤ x + base → x + base < end → AreSaid fde row start end → IsQuiet later → FoundFrom fde row start end base b n x later
unfolding first_cut
found_from fde row start end base b zero x later size le from low high said after = absurd (omega (arith, size, low, high))
found_from fde row start end base b (suc n) x later size le from low high said after =
    found_more fde row start end base b n x later (is_cut row start b) refl (omega (arith, size)) le from low said after
    (λ past. found_from fde row start end base (b + 1) n x later (omega (arith, size)) (omega (arith, le)) (omega (arith, from)) past high said after)

-- The records of an entry.
entry_found : (fde : FdeFields) (row : ℕ → Row) (start size base x : ℕ) (later : List SymLine) → base ≤ start → start ≤ x + base → x + base < start + size → AreSaid fde row start (start + size) → IsQuiet later → HasRules fde (frame_lines fde row start size base ++ later) x (row (x + base))
unfolding frame_lines RestOf FoundFrom
entry_found fde row start size base x later le low high said after =
    found_from fde row start (start + size) base start size x later refl le (omega arith) (let at : first_cut row start start size ≡ start = first_is_start row start size in omega (arith, at, low)) high said after

-- Records whose INITs do not cover the address are passed.
skip_one : (s : SymLine) (rest : List SymLine) (x : ℕ) → init_covers x s ≡ false → text_rules (s ∷ rest) x ≡ text_rules rest x
unfolding text_rules
skip_one (Init address size rules) rest x none = ap (λ t. cond t (Some (rules ++ changes_until x rest)) (text_rules rest x)) none
skip_one s rest x none = refl

one_none : (s : SymLine) (x : ℕ) → inits_at (s ∷ []) x ≡ 0 → init_covers x s ≡ false
unfolding inits_at
one_none s x none = go (init_covers x s) refl
  where
    go : (b : Bool) → init_covers x s ≡ b → init_covers x s ≡ false
    go true is = let one : 0 + cond (init_covers x s) 1 0 ≡ 1 = counts_one (init_covers x s) ∙ ap (λ t. cond t 1 0) is in absurd (omega (arith, one, none))
    go false is = is

pub skipped : (front rest : List SymLine) (x : ℕ) → inits_at front x ≡ 0 → text_rules (front ++ rest) x ≡ text_rules rest x
skipped [] rest x none = refl
skipped (s ∷ front) rest x none =
    let both : inits_at (s ∷ front) x ≡ inits_at (s ∷ []) x + inits_at front x = inits_append (s ∷ []) front x in
    skip_one s (front ++ rest) x (one_none s x (omega (arith, both, none))) ∙ skipped front rest x (omega (arith, both, none))

pub nothing_found : (lines : List SymLine) (x : ℕ) → inits_at lines x ≡ 0 → text_rules lines x ≡ None
unfolding text_rules
nothing_found lines x none = ap (λ ls. text_rules ls x) (sym (append-nil lines)) ∙ skipped lines [] x none

-- The records of written entries begin with an INIT, or there are none.
quiet_entry : (fde : FdeFields) (row : ℕ → Row) (start n base : ℕ) (later : List SymLine) → IsQuiet later → IsQuiet (frame_lines fde row start n base ++ later)
unfolding frame_lines changes_until records_at RestOf
quiet_entry fde row start zero base later after = after
quiet_entry fde row start (suc n) base later after = record {
  at = λ x. ap (changes_until x) (rest_more fde row start (start + suc n) base start n later true (omega arith) (starts_cut row start));
}

pub written_quiet : (base : ℕ) (entries : List FdeFields) → IsQuiet (written_lines base entries)
unfolding written_lines entry_lines changes_until
written_quiet base [] = record { at = λ x. refl }
written_quiet base (e ∷ entries) = quiet_entry e (row_at e) e.start e.size base (written_lines base entries) (written_quiet base entries)

-- Among the records of all entries, if no earlier entry has the address.
pub written_found : (base x : ℕ) (xs : List FdeFields) (e : FdeFields) (ys : List FdeFields) → AreAbove base xs → base ≤ e.start → entries_at xs (x + base) ≡ 0 → e.start ≤ x + base → x + base < e.start + e.size → AreSaid e (row_at e) e.start (e.start + e.size) →
    HasRules e (written_lines base (xs ++ e ∷ ys)) x (row_at e (x + base))
unfolding written_lines entry_lines
written_found base x xs e ys above le none low high said =
    let lines : written_lines base (xs ++ e ∷ ys) ≡ written_lines base xs ++ written_lines base (e ∷ ys) = flat_map-append (entry_lines base) xs (e ∷ ys) in
    found_as e (written_lines base (xs ++ e ∷ ys)) (written_lines base (e ∷ ys)) x (row_at e (x + base))
    (ap (λ ls. text_rules ls x) lines ∙ skipped (written_lines base xs) (written_lines base (e ∷ ys)) x (written_inits base x xs above ∙ none))
    (entry_found e (row_at e) e.start e.size base x (written_lines base ys) le low high said (written_quiet base ys))

pub after_found : (fde : FdeFields) (front lines : List SymLine) (x : ℕ) (row : Row) → inits_at front x ≡ 0 → HasRules fde lines x row → HasRules fde (front ++ lines) x row
after_found fde front lines x row none has = found_as fde (front ++ lines) lines x row (skipped front lines x none) has
