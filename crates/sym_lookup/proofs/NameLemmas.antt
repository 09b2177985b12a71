-- The records of an answer give the names that `sym_meaning` defines.
use Rattle.std.proofs.Common.{◌≡◌, ◌+◌, ℕ, zero, suc, Bool, true, false, cond, List, [], ◌∷◌, drop, map, Option, None, Some, refl, sym, ap, subst, ◌∙◌, arith}
use Rattle.std.specs.List.{find, position_from, slice_get}
use Rattle.std.specs.Option.{option_map, option_map_or, option_and_then}
use Rattle.std.proofs.lemmas.Iterator.Adapters.{position_from-zero}
use Rattle.sym_records.specs.declared.line.SymLine.{SymLine}
use Rattle.sym_records.specs.declared.line.SymLine.TheVariants.{Inline, Line}
use Rattle.sym_meaning.specs.TextNames.{under, is_func_at, is_line_at, is_inline_at, Found, text_func, func_name, text_owner, text_line, text_chain, line_under, inlines_under, inlines_from, level_count, call_of, path_and_line}
use Rattle.sym_lookup.specs.declared.answers.Answer.TheVariants as answer
use Rattle.sym_lookup.specs.Answers.{chain_from, chain_places, line_place, func_place, public_place, answer_of}
use Rattle.sym_lookup.specs.AnswerTexts.{call_at, owner_of, calls_of, line_of}

-- The records are those of a list from a place on.
abbrev pub IsPart : List SymLine → ℕ → List SymLine → Type 0
IsPart lines first [] = Unit {0}
IsPart lines first (s ∷ records) = (slice_get lines first ≡ Some s) × IsPart lines (first + 1) records

-- The record is that of a list at a place.
abbrev pub IsPlaceOf : List SymLine → Option SymLine → Option ℕ → Type 0
IsPlaceOf lines None None = Unit {0}
IsPlaceOf lines None (Some place) = ⊥
IsPlaceOf lines (Some s) None = ⊥
IsPlaceOf lines (Some s) (Some place) = slice_get lines place ≡ Some s

place_found : (p : SymLine → Bool) (lines records : List SymLine) (first : ℕ) → IsPart lines first records → IsPlaceOf lines (find p records) (position_from p first records)
place_found p lines [] first part = tt
place_found p lines (s ∷ records) first part = go (p s) (place_found p lines records (first + 1) part.1)
  where
    go : (b : Bool) → IsPlaceOf lines (find p records) (position_from p (first + 1) records) → IsPlaceOf lines (cond b (Some s) (find p records)) (cond b (Some first) (position_from p (first + 1) records))
    go true later = part.0
    go false later = later

-- The record at a place, and the records after it.
drop_step : (lines : List SymLine) (n : ℕ) (s : SymLine) (rest : List SymLine) → drop n lines ≡ s ∷ rest → (slice_get lines n ≡ Some s) × (drop (suc n) lines ≡ rest)
drop_step [] zero s rest e = cc
drop_step [] (suc n) s rest e = cc
drop_step (t ∷ lines) zero s rest e = (ap head_of e, ap tail_of e)
  where
    head_of : List SymLine → Option SymLine
    head_of [] = None
    head_of (u ∷ us) = Some u

    tail_of : List SymLine → List SymLine
    tail_of [] = []
    tail_of (u ∷ us) = us
drop_step (t ∷ lines) (suc n) s rest e = drop_step lines n s rest e

part_from : (lines rest : List SymLine) (n : ℕ) → drop n lines ≡ rest → IsPart lines n rest
part_from lines [] n e = tt
part_from lines (s ∷ rest) n e =
    let step = drop_step lines n s rest e in
    let one : n + 1 ≡ suc n = omega arith in
    (step.0, part_from lines rest (n + 1) (ap (λ m. drop m lines) one ∙ step.1))

part_under : (lines rest : List SymLine) (n : ℕ) → IsPart lines n rest → IsPart lines n (under rest)
part_under lines [] n part = tt
part_under lines (Inline level line file origin ranges ∷ rest) n part = (part.0, part_under lines rest (n + 1) part.1)
part_under lines (Line address size line file ∷ rest) n part = (part.0, part_under lines rest (n + 1) part.1)
part_under lines (s ∷ rest) n part = tt

under_part : (lines : List SymLine) (n : ℕ) → IsPart lines n (under (drop n lines))
under_part lines n = part_under lines (drop n lines) n (part_from lines (drop n lines) n refl)

-- The function that `sym_meaning` defines is that at the place.
abbrev pub IsFuncOf : List SymLine → Option Found → Option ℕ → Type 0
IsFuncOf lines None None = Unit {0}
IsFuncOf lines None (Some place) = ⊥
IsFuncOf lines (Some f) None = ⊥
IsFuncOf lines (Some f) (Some place) = (slice_get lines place ≡ Some f.func) × (f.behind ≡ drop (place + 1) lines)

func_found : (lines : List SymLine) (x : ℕ) (rest : List SymLine) (n : ℕ) → drop n lines ≡ rest → IsFuncOf lines (text_func rest x) (position_from (is_func_at x) n rest)
func_found lines x [] n e = tt
func_found lines x (s ∷ rest) n e =
    let step = drop_step lines n s rest e in
    let one : n + 1 ≡ suc n = omega arith in
    let behind : drop (n + 1) lines ≡ rest = ap (λ m. drop m lines) one ∙ step.1 in
    go (is_func_at x s) step.0 behind (func_found lines x rest (n + 1) behind)
  where
    go : (b : Bool) → slice_get lines n ≡ Some s → drop (n + 1) lines ≡ rest → IsFuncOf lines (text_func rest x) (position_from (is_func_at x) (n + 1) rest)
        → IsFuncOf lines (cond b (Some (record { func = s; behind = rest })) (text_func rest x)) (cond b (Some n) (position_from (is_func_at x) (n + 1) rest))
    go true at behind later = (at, sym behind)
    go false at behind later = later

pub func_at : (lines : List SymLine) (x : ℕ) → IsFuncOf lines (text_func lines x) (func_place lines x)
unfolding func_place
func_at lines x = let P : Option ℕ → Type 0 = IsFuncOf lines (text_func lines x) in subst P (sym (position_from-zero (is_func_at x) lines)) (func_found lines x lines 0 refl)

-- An answer without a function has no names.
no_owner : (lines : List SymLine) (place : Option ℕ) → owner_of lines (option_map_or answer.Public place answer.Nothing) ≡ None
unfolding owner_of
no_owner lines None = refl
no_owner lines (Some place) = refl

no_calls : (lines : List SymLine) (place : Option ℕ) → calls_of lines (option_map_or answer.Public place answer.Nothing) ≡ []
unfolding calls_of
no_calls lines None = refl
no_calls lines (Some place) = refl

no_line : (lines : List SymLine) (place : Option ℕ) → line_of lines (option_map_or answer.Public place answer.Nothing) ≡ None
unfolding line_of
no_line lines None = refl
no_line lines (Some place) = refl

-- The name of the function.
owner_at : (lines : List SymLine) (x : ℕ) (f : Option Found) (place : Option ℕ) → IsFuncOf lines f place
    → option_map (λ (g : Found). func_name g.func) f ≡ owner_of lines (option_map_or (λ func. answer.Function func (chain_places lines func x) (line_place lines func x)) place (option_map_or answer.Public (public_place lines x) answer.Nothing))
unfolding owner_of
owner_at lines x None None h = sym (no_owner lines (public_place lines x))
owner_at lines x None (Some place) h = absurd h
owner_at lines x (Some f) None h = absurd h
owner_at lines x (Some f) (Some place) h = ap (λ s. Some (option_map_or func_name s [])) (sym h.0)

pub owner_named : (lines : List SymLine) (x : ℕ) → text_owner lines x ≡ owner_of lines (answer_of lines x)
unfolding text_owner answer_of
owner_named lines x = owner_at lines x (text_func lines x) (func_place lines x) (func_at lines x)

-- The path and the line.
place_got : (lines : List SymLine) (s : Option SymLine) (place : Option ℕ) → IsPlaceOf lines s place → s ≡ option_and_then (slice_get lines) place
place_got lines None None h = refl
place_got lines None (Some place) h = absurd h
place_got lines (Some s) None h = absurd h
place_got lines (Some s) (Some place) h = sym h

line_in : (lines : List SymLine) (x : ℕ) (f : Found) (place : ℕ) → f.behind ≡ drop (place + 1) lines → line_under x f ≡ option_and_then (slice_get lines) (line_place lines place x)
unfolding line_place
line_in lines x f place e =
    let records : List SymLine = under (drop (place + 1) lines) in
    ap (λ behind. find (is_line_at x) (under behind)) e
    ∙ place_got lines (find (is_line_at x) records) (position_from (is_line_at x) (place + 1) records) (place_found (is_line_at x) lines records (place + 1) (under_part lines (place + 1)))

line_where : (lines : List SymLine) (x : ℕ) (f : Option Found) (place : Option ℕ) → IsFuncOf lines f place
    → option_map (path_and_line lines) (option_and_then (line_under x) f) ≡ line_of lines (option_map_or (λ func. answer.Function func (chain_places lines func x) (line_place lines func x)) place (option_map_or answer.Public (public_place lines x) answer.Nothing))
unfolding line_of
line_where lines x None None h = sym (no_line lines (public_place lines x))
line_where lines x None (Some place) h = absurd h
line_where lines x (Some f) None h = absurd h
line_where lines x (Some f) (Some place) h = ap (option_map (path_and_line lines)) (line_in lines x f place h.1)

pub line_named : (lines : List SymLine) (x : ℕ) → text_line lines x ≡ line_of lines (answer_of lines x)
unfolding text_line answer_of
line_named lines x = line_where lines x (text_func lines x) (func_place lines x) (func_at lines x)

-- The inlined calls.
calls_step : (lines : List SymLine) (s : Option SymLine) (place : Option ℕ) (later : List SymLine) (places : List ℕ) → IsPlaceOf lines s place → map (call_of lines) later ≡ map (call_at lines) places
    → map (call_of lines) (option_map_or (λ t. t ∷ later) s []) ≡ map (call_at lines) (option_map_or (λ p. p ∷ places) place [])
calls_step lines None None later places h e = refl
calls_step lines None (Some place) later places h e = absurd h
calls_step lines (Some s) None later places h e = absurd h
calls_step lines (Some s) (Some place) later places h e =
    ap (λ t. option_map_or (call_of lines) t (record { name = None; path = None; line = 0 }) ∷ map (call_of lines) later) (sym h) ∙ ap (λ calls. call_at lines place ∷ calls) e

calls_in : (lines : List SymLine) (first x level levels : ℕ) (records : List SymLine) → IsPart lines first records → map (call_of lines) (inlines_from x level levels records) ≡ map (call_at lines) (chain_from first x level levels records)
calls_in lines first x level zero records part = refl
calls_in lines first x level (suc levels) records part =
    calls_step lines (find (is_inline_at level x) records) (position_from (is_inline_at level x) first records) (inlines_from x (level + 1) levels records) (chain_from first x (level + 1) levels records)
    (place_found (is_inline_at level x) lines records first part) (calls_in lines first x (level + 1) levels records part)

chain_in : (lines : List SymLine) (x : ℕ) (f : Found) (place : ℕ) → f.behind ≡ drop (place + 1) lines → map (call_of lines) (inlines_under x f) ≡ map (call_at lines) (chain_places lines place x)
unfolding chain_places
chain_in lines x f place e =
    let records : List SymLine = under (drop (place + 1) lines) in
    ap (λ behind. map (call_of lines) (inlines_from x 0 (level_count (under behind)) (under behind))) e ∙ calls_in lines (place + 1) x 0 (level_count records) records (under_part lines (place + 1))

chain_where : (lines : List SymLine) (x : ℕ) (f : Option Found) (place : Option ℕ) → IsFuncOf lines f place
    → map (call_of lines) (option_map_or (inlines_under x) f []) ≡ calls_of lines (option_map_or (λ func. answer.Function func (chain_places lines func x) (line_place lines func x)) place (option_map_or answer.Public (public_place lines x) answer.Nothing))
unfolding calls_of
chain_where lines x None None h = sym (no_calls lines (public_place lines x))
chain_where lines x None (Some place) h = absurd h
chain_where lines x (Some f) None h = absurd h
chain_where lines x (Some f) (Some place) h = chain_in lines x f place h.1

pub chain_named : (lines : List SymLine) (x : ℕ) → text_chain lines x ≡ calls_of lines (answer_of lines x)
unfolding text_chain answer_of
chain_named lines x = chain_where lines x (text_func lines x) (func_place lines x) (func_at lines x)
