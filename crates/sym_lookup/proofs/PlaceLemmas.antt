-- The places of the records that a scan finds.
use Rattle.std.proofs.Common.{◌≡◌, ◌+◌, ◌-◌, ◌<◌, ◌≤◌, ◌++◌, ℕ, zero, suc, Bool, true, false, cond, List, [], ◌∷◌, length, get_or, drop, None, Some, refl, sym, ap, ◌∙◌, arith, drop-cons, append_assoc, append-nil}
use Rattle.std.specs.List.{position_from}
use Rattle.sym_records.specs.declared.line.SymLine.{SymLine}
use Rattle.sym_meaning.specs.TextNames.{is_inline_at}
use Rattle.sym_lookup.specs.Answers.{chain_from}

first_at : (p : SymLine → Bool) (records : List SymLine) (first at : ℕ) (d : SymLine) → at < length records → position_from p (first + at) (drop at records) ≡ cond (p (get_or records at d)) (Some (first + at)) (position_from p (first + at + 1) (drop (suc at) records))
first_at p records first at d l = rw (drop-cons records at d l) refl

pub placed_more : (p : SymLine → Bool) (records : List SymLine) (first at : ℕ) (line : SymLine) → position_from p (first + at) (drop at records) ≡ position_from p first records → line ≡ get_or records at line → at < length records → p line ≡ false
    → position_from p (first + (at + 1)) (drop (at + 1) records) ≡ position_from p first records
placed_more p records first at line e is l h =
    let test : p (get_or records at line) ≡ false = ap p (sym is) ∙ h in
    let step : position_from p (first + at) (drop at records) ≡ position_from p (first + at + 1) (drop (suc at) records) = first_at p records first at line l ∙ ap (λ b. cond b (Some (first + at)) (position_from p (first + at + 1) (drop (suc at) records))) test in
    let one : first + (at + 1) ≡ first + at + 1 = omega arith in
    let next : at + 1 ≡ suc at = omega arith in
    ap (λ n. position_from p n (drop (at + 1) records)) one ∙ ap (λ n. position_from p (first + at + 1) (drop n records)) next ∙ sym step ∙ e

pub placed_found : (p : SymLine → Bool) (records : List SymLine) (first at : ℕ) (line : SymLine) → position_from p (first + at) (drop at records) ≡ position_from p first records → line ≡ get_or records at line → at < length records → p line ≡ true
    → position_from p first records ≡ Some (first + at)
placed_found p records first at line e is l h =
    let test : p (get_or records at line) ≡ true = ap p (sym is) ∙ h in
    sym e ∙ first_at p records first at line l ∙ ap (λ b. cond b (Some (first + at)) (position_from p (first + at + 1) (drop (suc at) records))) test

none_left : (p : SymLine → Bool) (records : List SymLine) (first at : ℕ) → length records ≤ at → position_from p first (drop at records) ≡ None
none_left p [] first zero l = refl
none_left p [] first (suc at) l = refl
none_left p (s ∷ records) first zero l = absurd (omega arith)
none_left p (s ∷ records) first (suc at) l = none_left p records first at (omega arith)

pub placed_none : (p : SymLine → Bool) (records : List SymLine) (first at : ℕ) → position_from p (first + at) (drop at records) ≡ position_from p first records → length records ≤ at → position_from p first records ≡ None
placed_none p records first at e l = sym e ∙ none_left p records (first + at) at l

-- A level that has a record at the address, and one that has none.
chain_at : (first x level levels place : ℕ) (records : List SymLine) → position_from (is_inline_at level x) first records ≡ Some place → chain_from first x level (suc levels) records ≡ place ∷ chain_from first x (level + 1) levels records
chain_at first x level levels place records h = rw h refl

next_level : (first x level count place : ℕ) (records : List SymLine) → position_from (is_inline_at level x) first records ≡ Some place → level < count
    → chain_from first x level (count - level) records ≡ place ∷ chain_from first x (level + 1) (count - (level + 1)) records
next_level first x level count place records h l =
    let one : count - level ≡ suc (count - (level + 1)) = omega arith in
    ap (λ n. chain_from first x level n records) one ∙ chain_at first x level (count - (level + 1)) place records h

pub stops_at : (first x level levels : ℕ) (records : List SymLine) → position_from (is_inline_at level x) first records ≡ None → chain_from first x level levels records ≡ []
stops_at first x level zero records h = refl
stops_at first x level (suc levels) records h = rw h refl

pub chain_more : (first x level count place : ℕ) (records : List SymLine) (done chain all : List ℕ) → done ++ chain_from first x level (count - level) records ≡ all → position_from (is_inline_at level x) first records ≡ Some place → level < count → chain ≡ done ++ place ∷ []
    → chain ++ chain_from first x (level + 1) (count - (level + 1)) records ≡ all
chain_more first x level count place records done chain all e h l c =
    let rest : List ℕ = chain_from first x (level + 1) (count - (level + 1)) records in
    ap (λ ps. ps ++ rest) c ∙ append_assoc done (place ∷ []) rest ∙ ap (λ ps. done ++ ps) (sym (next_level first x level count place records h l)) ∙ e

pub chain_stops : (first x level count : ℕ) (records : List SymLine) (done all : List ℕ) → done ++ chain_from first x level (count - level) records ≡ all → position_from (is_inline_at level x) first records ≡ None → done ≡ all
chain_stops first x level count records done all e h = sym (append-nil done) ∙ ap (λ ps. done ++ ps) (sym (stops_at first x level (count - level) records h)) ∙ e
