-- Between two stops nothing changes: at two addresses between which no record begins or ends, two
-- files agree in the same aspects.
use Rattle.std.proofs.Common.{◌≡◌, ℕ, zero, suc, ◌+◌, ◌^◌, ◌<◌, ◌≤◌, ltb, leb, Bool, true, false, ◌&&◌, ◌||◌, ◌==◌, not, cond, List, [], ◌∷◌, ◌++◌, map, Option, None, Some, refl, sym, ap, ◌∙◌, arith, inl, inr}
use Rattle.std.proofs.lemmas.Bool.{lt-leb, le-leb, lt-ltb, le-ltb, cases_lt}
use Rattle.std.proofs.lemmas.Bool.Decides.{nat_tests}
use Rattle.std.specs.List.{find, list_any, flat_map, range_with_len}
use Rattle.std.specs.Option.{option_map, option_map_or, option_and_then}
use Rattle.sym_records.specs.declared.line.Extent.{Extent}
use Rattle.sym_records.specs.declared.line.SymLine.{SymLine}
use Rattle.sym_records.specs.declared.line.SymLine.TheVariants as record_line
use Rattle.sym_rules.specs.declared.rules.Target.TheVariants as target
use Rattle.sym_meaning.specs.TextNames.{is_within, is_func_at, is_line_at, is_inline_at, under, Found, text_func, line_under, inlines_under, inlines_from, level_count, text_owner, text_chain, text_line, func_name, call_of, path_and_line}
use Rattle.cfi_eval.specs.TextRules.{covers, changes_until, text_rules}
use Rattle.sym_rules.specs.declared.rules.RuleText.{RuleText}
use Rattle.std.specs.Str.{bytes_eq}
use Rattle.sym_judge.specs.Alike.{same_option, same_list, same_line, same_call, same_rules, both, agrees, differs, frame_aspects, rule_aspects}
use Rattle.sym_judge.proofs.NameLemmas.{same_both}
use Rattle.sym_judge.proofs.FrameLemmas.{IsOfFrames, AreOfFrames, registers_of_frames}
use Rattle.sym_judge.specs.declared.ruling.Aspect.{Aspect}
use Rattle.sym_judge.specs.declared.ruling.Aspect.TheVariants.{Func, Chain, Line, Init, Cfa, Ra, Reg}
use Rattle.sym_judge.specs.declared.ruling.Half.{Half}
use Rattle.sym_judge.specs.declared.ruling.Half.TheVariants.{Names, Frames}
use Rattle.sym_judge.specs.internal.Stops.{run_stops, extent_stops, line_stops, stops_of, first_in}

-- No stop is above the first address and at or below the second.
abbrev pub AreOutside : ℕ → ℕ → List ℕ → Type 0
AreOutside s x [] = Unit {0}
AreOutside s x (b ∷ stops) = (s < b → x < b) × AreOutside s x stops

outside_front : (s x : ℕ) (front back : List ℕ) → AreOutside s x (front ++ back) → AreOutside s x front
outside_front s x [] back all = tt
outside_front s x (b ∷ front) back all = (all.0, outside_front s x front back all.1)

outside_back : (s x : ℕ) (front back : List ℕ) → AreOutside s x (front ++ back) → AreOutside s x back
outside_back s x [] back all = all
outside_back s x (b ∷ front) back all = outside_back s x front back all.1

-- One range of addresses.
same_le : (a s x : ℕ) → s ≤ x → (s < a → x < a) → leb a s ≡ leb a x
same_le a s x up out = elim (cases_lt s a) [ inl l ↦ lt-leb a s l ∙ sym (lt-leb a x (out l)) | inr m ↦ le-leb a s m ∙ sym (le-leb a x (omega arith)) ]

same_lt : (e s x : ℕ) → s ≤ x → (s < e → x < e) → ltb s e ≡ ltb x e
same_lt e s x up out = elim (cases_lt s e) [ inl l ↦ lt-ltb s e l ∙ sym (lt-ltb x e (out l)) | inr m ↦ le-ltb s e m ∙ sym (le-ltb x e (omega arith)) ]

within_by : (address size s x : ℕ) → s ≤ x → (s < address → x < address) → (s < address + size → x < address + size) → is_within address size s ≡ is_within address size x
within_by address size s x up low high = ap (λ b. b && ltb s (address + size)) (same_le address s x up low) ∙ ap (λ b. leb address x && b) (same_lt (address + size) s x up high)

both_ends : (address size s x : ℕ) (b : Bool) → x < 2 ^ 64 → ltb (address + size) (2 ^ 64) ≡ b → AreOutside s x (cond b (address ∷ (address + size) ∷ []) (address ∷ [])) → (s < address → x < address) × (s < address + size → x < address + size)
both_ends address size s x true fits e out = (out.0, out.1.0)
both_ends address size s x false fits e out = let high : 2 ^ 64 ≤ address + size = grind (arith, nat_tests) in (out.0, λ l. omega arith)

same_within : (address size s x : ℕ) → s ≤ x → x < 2 ^ 64 → AreOutside s x (run_stops address size) → is_within address size s ≡ is_within address size x
unfolding run_stops
same_within address size s x up fits out = let ends = both_ends address size s x (ltb (address + size) (2 ^ 64)) fits refl out in within_by address size s x up ends.0 ends.1

-- The records of functions.
func_same : (s x : ℕ) → s ≤ x → x < 2 ^ 64 → (line : SymLine) → AreOutside s x (line_stops Names line) → is_func_at s line ≡ is_func_at x line
func_same s x up fits (record_line.Func many address size params name) out = same_within address size s x up fits out
func_same s x up fits _ out = refl

line_same : (s x : ℕ) → s ≤ x → x < 2 ^ 64 → (line : SymLine) → AreOutside s x (line_stops Names line) → is_line_at s line ≡ is_line_at x line
line_same s x up fits (record_line.Line address size line file) out = same_within address size s x up fits out
line_same s x up fits _ out = refl

abbrev covers_any : ℕ → List Extent → Bool
covers_any x ranges = list_any (λ (r : Extent). is_within r.address r.size x) ranges

ranges_same : (s x : ℕ) → s ≤ x → x < 2 ^ 64 → (ranges : List Extent) → AreOutside s x (flat_map extent_stops ranges) → covers_any s ranges ≡ covers_any x ranges
ranges_same s x up fits [] out = refl
ranges_same s x up fits (r ∷ ranges) out =
    let first : is_within r.address r.size s ≡ is_within r.address r.size x = same_within r.address r.size s x up fits (outside_front s x (extent_stops r) (flat_map extent_stops ranges) out) in
    let later : covers_any s ranges ≡ covers_any x ranges = ranges_same s x up fits ranges (outside_back s x (extent_stops r) (flat_map extent_stops ranges) out) in
    ap (λ b. b || covers_any s ranges) first ∙ ap (λ b. is_within r.address r.size x || b) later

inline_same : (s x level : ℕ) → s ≤ x → x < 2 ^ 64 → (line : SymLine) → AreOutside s x (line_stops Names line) → is_inline_at level s line ≡ is_inline_at level x line
inline_same s x level up fits (record_line.Inline own line file origin ranges) out = ap (λ b. (own == level) && b) (ranges_same s x up fits ranges out)
inline_same s x level up fits _ out = refl

-- The first of several records.
find_same : (p q : SymLine → Bool) (half : Half) (s x : ℕ) → ((line : SymLine) → AreOutside s x (line_stops half line) → p line ≡ q line) → (lines : List SymLine) → AreOutside s x (stops_of half lines) → find p lines ≡ find q lines
find_same p q half s x same [] out = refl
find_same p q half s x same (line ∷ lines) out =
    let first : p line ≡ q line = same line (outside_front s x (line_stops half line) (stops_of half lines) out) in
    let later : find p lines ≡ find q lines = find_same p q half s x same lines (outside_back s x (line_stops half line) (stops_of half lines) out) in
    ap (λ b. cond b (Some line) (find p lines)) first ∙ ap (cond (q line) (Some line)) later

-- The FUNC, and the records under it.
func_found : (s x : ℕ) → s ≤ x → x < 2 ^ 64 → (lines : List SymLine) → AreOutside s x (stops_of Names lines) → text_func lines s ≡ text_func lines x
func_found s x up fits [] out = refl
func_found s x up fits (line ∷ lines) out =
    let first : is_func_at s line ≡ is_func_at x line = func_same s x up fits line (outside_front s x (line_stops Names line) (stops_of Names lines) out) in
    let later : text_func lines s ≡ text_func lines x = func_found s x up fits lines (outside_back s x (line_stops Names line) (stops_of Names lines) out) in
    ap (λ b. cond b (Some (record { func = line; behind = lines })) (text_func lines s)) first ∙ ap (cond (is_func_at x line) (Some (record { func = line; behind = lines }))) later

abbrev OnFound : Option Found → (Found → Type 0) → Type 0
OnFound None P = Unit {0}
OnFound (Some f) P = P f

found_step : (line : SymLine) (lines : List SymLine) (b : Bool) (later : Option Found) (P : Found → Type 0) → P (record { func = line; behind = lines }) → OnFound later P → OnFound (cond b (Some (record { func = line; behind = lines })) later) P
found_step line lines true later P here there = here
found_step line lines false later P here there = there

found_outside : (s x a : ℕ) (lines : List SymLine) → AreOutside s x (stops_of Names lines) → OnFound (text_func lines a) (λ f. AreOutside s x (stops_of Names f.behind))
found_outside s x a [] out = tt
found_outside s x a (line ∷ lines) out =
    let back : AreOutside s x (stops_of Names lines) = outside_back s x (line_stops Names line) (stops_of Names lines) out in
    found_step line lines (is_func_at a line) (text_func lines a) (λ f. AreOutside s x (stops_of Names f.behind)) back (found_outside s x a lines back)

joined_outside : (s x : ℕ) (front back : List ℕ) → AreOutside s x front → AreOutside s x back → AreOutside s x (front ++ back)
joined_outside s x [] back p q = q
joined_outside s x (b ∷ front) back p q = (p.0, joined_outside s x front back p.1 q)

under_outside : (s x : ℕ) (lines : List SymLine) → AreOutside s x (stops_of Names lines) → AreOutside s x (stops_of Names (under lines))
under_outside s x [] out = tt
under_outside s x (record_line.Inline level line file origin ranges ∷ lines) out =
    joined_outside s x (flat_map extent_stops ranges) (stops_of Names (under lines)) (outside_front s x (flat_map extent_stops ranges) (stops_of Names lines) out) (under_outside s x lines (outside_back s x (flat_map extent_stops ranges) (stops_of Names lines) out))
under_outside s x (record_line.Line address size line file ∷ lines) out =
    joined_outside s x (run_stops address size) (stops_of Names (under lines)) (outside_front s x (run_stops address size) (stops_of Names lines) out) (under_outside s x lines (outside_back s x (run_stops address size) (stops_of Names lines) out))
under_outside s x (_ ∷ lines) out = tt

chain_same : (s x : ℕ) → s ≤ x → x < 2 ^ 64 → (level levels : ℕ) (records : List SymLine) → AreOutside s x (stops_of Names records) → inlines_from s level levels records ≡ inlines_from x level levels records
chain_same s x up fits level zero records out = refl
chain_same s x up fits level (suc levels) records out =
    let first : find (is_inline_at level s) records ≡ find (is_inline_at level x) records = find_same (is_inline_at level s) (is_inline_at level x) Names s x (inline_same s x level up fits) records out in
    let later : inlines_from s (level + 1) levels records ≡ inlines_from x (level + 1) levels records = chain_same s x up fits (level + 1) levels records out in
    ap (λ o. option_map_or (λ r. r ∷ inlines_from s (level + 1) levels records) o []) first ∙ ap (λ rest. option_map_or (λ r. r ∷ rest) (find (is_inline_at level x) records) []) later

-- What the records name.
owner_steady : (s x : ℕ) → s ≤ x → x < 2 ^ 64 → (lines : List SymLine) → AreOutside s x (stops_of Names lines) → text_owner lines s ≡ text_owner lines x
unfolding text_owner
owner_steady s x up fits lines out = ap (option_map (λ f. func_name f.func)) (func_found s x up fits lines out)

line_in : (s x : ℕ) → s ≤ x → x < 2 ^ 64 → (found : Option Found) → OnFound found (λ f. AreOutside s x (stops_of Names f.behind)) → option_and_then (line_under s) found ≡ option_and_then (line_under x) found
line_in s x up fits None out = refl
line_in s x up fits (Some f) out = find_same (is_line_at s) (is_line_at x) Names s x (line_same s x up fits) (under f.behind) (under_outside s x f.behind out)

line_steady : (s x : ℕ) → s ≤ x → x < 2 ^ 64 → (lines : List SymLine) → AreOutside s x (stops_of Names lines) → text_line lines s ≡ text_line lines x
unfolding text_line
line_steady s x up fits lines out =
    ap (option_map (path_and_line lines)) (line_in s x up fits (text_func lines s) (found_outside s x s lines out) ∙ ap (option_and_then (line_under x)) (func_found s x up fits lines out))

chain_in : (s x : ℕ) → s ≤ x → x < 2 ^ 64 → (found : Option Found) → OnFound found (λ f. AreOutside s x (stops_of Names f.behind)) → option_map_or (inlines_under s) found [] ≡ option_map_or (inlines_under x) found []
chain_in s x up fits None out = refl
chain_in s x up fits (Some f) out = chain_same s x up fits 0 (level_count (under f.behind)) (under f.behind) (under_outside s x f.behind out)

chain_steady : (s x : ℕ) → s ≤ x → x < 2 ^ 64 → (lines : List SymLine) → AreOutside s x (stops_of Names lines) → text_chain lines s ≡ text_chain lines x
unfolding text_chain
chain_steady s x up fits lines out =
    ap (map (call_of lines)) (chain_in s x up fits (text_func lines s) (found_outside s x s lines out) ∙ ap (λ found. option_map_or (inlines_under x) found []) (func_found s x up fits lines out))

-- The frame rules.
changes_same : (s x : ℕ) → s ≤ x → (lines : List SymLine) → AreOutside s x (stops_of Frames lines) → changes_until s lines ≡ changes_until x lines
unfolding changes_until
changes_same s x up [] out = refl
changes_same s x up (record_line.Change address rules ∷ lines) out = ap (λ b. cond b rules [] ++ changes_until s lines) (same_le address s x up out.0) ∙ ap (λ rest. cond (leb address x) rules [] ++ rest) (changes_same s x up lines out.1)
changes_same s x up (_ ∷ lines) out = refl

rules_steady : (s x : ℕ) → s ≤ x → x < 2 ^ 64 → (lines : List SymLine) → AreOutside s x (stops_of Frames lines) → text_rules lines s ≡ text_rules lines x
unfolding text_rules
rules_steady s x up fits [] out = refl
rules_steady s x up fits (record_line.Init address size rules ∷ lines) out =
    let back : AreOutside s x (stops_of Frames lines) = outside_back s x (run_stops address size) (stops_of Frames lines) out in
    let here : covers s address size ≡ covers x address size = same_within address size s x up fits (outside_front s x (run_stops address size) (stops_of Frames lines) out) in
    ap (λ b. cond b (Some (rules ++ changes_until s lines)) (text_rules lines s)) here ∙ ap (λ changes. cond (covers x address size) (Some (rules ++ changes)) (text_rules lines s)) (changes_same s x up lines back)
    ∙ ap (cond (covers x address size) (Some (rules ++ changes_until x lines))) (rules_steady s x up fits lines back)
rules_steady s x up fits (record_line.Change address rules ∷ lines) out = rules_steady s x up fits lines out.1
rules_steady s x up fits (_ ∷ lines) out = rules_steady s x up fits lines out

-- The aspects.
names_steady : (own other : List SymLine) (s x : ℕ) → s ≤ x → x < 2 ^ 64 → AreOutside s x (stops_of Names own) → AreOutside s x (stops_of Names other) → first_in Names own other s ≡ first_in Names own other x
unfolding first_in agrees
names_steady own other s x up fits p q =
    let owner = same_both (same_option bytes_eq) (text_owner own s) (text_owner other s) (text_owner own x) (text_owner other x) (owner_steady s x up fits own p) (owner_steady s x up fits other q) in
    let chain = same_both (same_list same_call) (text_chain own s) (text_chain other s) (text_chain own x) (text_chain other x) (chain_steady s x up fits own p) (chain_steady s x up fits other q) in
    let line = same_both (same_option same_line) (text_line own s) (text_line other s) (text_line own x) (text_line other x) (line_steady s x up fits own p) (line_steady s x up fits other q) in
    rw (owner, chain, line) refl

rules_of_both : (own other : List SymLine) (s x : ℕ) → s ≤ x → x < 2 ^ 64 → AreOutside s x (stops_of Frames own) → AreOutside s x (stops_of Frames other) → (same : List RuleText → List RuleText → Bool)
    → same_option same (text_rules own s) (text_rules other s) ≡ same_option same (text_rules own x) (text_rules other x)
rules_of_both own other s x up fits p q same = same_both (same_option same) (text_rules own s) (text_rules other s) (text_rules own x) (text_rules other x) (rules_steady s x up fits own p) (rules_steady s x up fits other q)

aspect_steady : (own other : List SymLine) (s x : ℕ) → s ≤ x → x < 2 ^ 64 → AreOutside s x (stops_of Frames own) → AreOutside s x (stops_of Frames other) → (aspect : Aspect) → IsOfFrames aspect → differs own other s aspect ≡ differs own other x aspect
unfolding agrees
aspect_steady own other s x up fits p q Func is = absurd is
aspect_steady own other s x up fits p q Chain is = absurd is
aspect_steady own other s x up fits p q Line is = absurd is
aspect_steady own other s x up fits p q Init is = ap not (rules_of_both own other s x up fits p q both)
aspect_steady own other s x up fits p q Cfa is = ap not (rules_of_both own other s x up fits p q (same_rules target.Cfa))
aspect_steady own other s x up fits p q Ra is = ap not (rules_of_both own other s x up fits p q (same_rules target.Ra))
aspect_steady own other s x up fits p q (Reg k) is = ap not (rules_of_both own other s x up fits p q (same_rules (target.Reg k)))

aspects_steady : (own other : List SymLine) (s x : ℕ) → s ≤ x → x < 2 ^ 64 → AreOutside s x (stops_of Frames own) → AreOutside s x (stops_of Frames other) → (aspects : List Aspect) → AreOfFrames aspects
    → find (differs own other s) aspects ≡ find (differs own other x) aspects
aspects_steady own other s x up fits p q [] all = refl
aspects_steady own other s x up fits p q (aspect ∷ aspects) all =
    ap (λ b. cond b (Some aspect) (find (differs own other s) aspects)) (aspect_steady own other s x up fits p q aspect all.0) ∙ ap (cond (differs own other x aspect) (Some aspect)) (aspects_steady own other s x up fits p q aspects all.1)

frames_steady : (own other : List SymLine) (s x : ℕ) → s ≤ x → x < 2 ^ 64 → AreOutside s x (stops_of Frames own) → AreOutside s x (stops_of Frames other) → first_in Frames own other s ≡ first_in Frames own other x
unfolding first_in frame_aspects rule_aspects
frames_steady own other s x up fits p q = aspects_steady own other s x up fits p q (Init ∷ Cfa ∷ Ra ∷ map Reg (range_with_len 0 16)) (tt, (tt, (tt, registers_of_frames 0 16)))

pub steady : (half : Half) (own other : List SymLine) (s x : ℕ) → s ≤ x → x < 2 ^ 64 → AreOutside s x (stops_of half own) → AreOutside s x (stops_of half other) → first_in half own other s ≡ first_in half own other x
steady Names own other s x up fits p q = names_steady own other s x up fits p q
steady Frames own other s x up fits p q = frames_steady own other s x up fits p q

pub outside_both : (s x : ℕ) (front back : List ℕ) → AreOutside s x (front ++ back) → AreOutside s x front × AreOutside s x back
outside_both s x front back all = (outside_front s x front back all, outside_back s x front back all)
