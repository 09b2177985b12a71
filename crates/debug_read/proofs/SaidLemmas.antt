-- What is kept of units gives the same owners, chains and lines as what the units say; for the law.
use Rattle.std.proofs.Common.{◌≡◌, ℕ, zero, suc, ◌+◌, ◌^◌, ◌<◌, ◌≤◌, ◌&&◌, Bool, true, false, List, [], ◌∷◌, ◌++◌, map, Option, None, Some, option_map, arith, refl, sym, ap, ◌∙◌}
use Rattle.std.specs.Prelude.{◌==◌, option_and_then}
use Rattle.std.specs.List.{find, slice_get, list_any}
use Rattle.std.specs.Option.{option_map_or, option_or}
use Rattle.std.proofs.lemmas.Bool.Decides.{nat_tests}
use Rattle.std.proofs.lemmas.List.Folds.{find-append}
use Rattle.sym_edges.specs.Addresses.{Range}
use Rattle.range_set.specs.Enclosing.{encloses}
use Rattle.range_set.specs.Members.{holds_any}
use Rattle.die_walk.specs.EntryTable.{DieFields}
use Rattle.die_walk.specs.EntryKinds.{is_function, is_inlined}
use Rattle.range_lists.specs.EntryRanges.{in_pairs}
use Rattle.line_program.specs.LineAt.{Lines, line_at}
use Rattle.line_program.specs.LineMaps.{LineMap, named_line, numbered_line}
use Rattle.debug_units.specs.declared.unit_read.UnitRead.{UnitRead}
use Rattle.debug_units.specs.Owners.{Covering, unit_covering, covering_from, owner, inside_of, chain_from, chain_by, chain_under, entry_chain, chain, line_in, line_under, line}
use Rattle.debug_read.specs.Each.{Match}
use Rattle.debug_read.specs.UnitSays.{UnitSays}
use Rattle.debug_read.specs.UnitsRead.{IsSet, IsUnitRead, KeepsLines, has_function}
use Rattle.line_program.specs.LineMaps.{no_lines}
use Rattle.debug_read.specs.SaidOwners.{SaidEntry, numbered_entries, said_entries, is_at, said_owner, said_inside, said_by, said_under, said_chain, said_line_in, said_line_under, said_line, said_place, kept_place}

-- An entry of what the units say and one of what is kept are alike at an address.
pub record IsAlike (code : List Range) (a : ℕ) (e : SaidEntry) (c : Covering) : Type 0 where
  pub place : said_place e ≡ kept_place c
  pub held : holds_any c.spans a ≡ in_pairs code e.pairs a

pub match_append : {A B : Type 0} (R : A → B → Type 0) (xs us : List A) (ys vs : List B) → Match R xs ys → Match R us vs → Match R (xs ++ us) (ys ++ vs)
match_append R [] us [] vs first later = later
match_append R [] us (y ∷ ys) vs first later = absurd first
match_append R (x ∷ xs) us [] vs first later = absurd first
match_append R (x ∷ xs) us (y ∷ ys) vs first later = (first.0, match_append R xs us ys vs first.1 later)

unit_alike : (code : List Range) (a unit entry : ℕ) (dies : List DieFields) (pairs sets : List (List Range)) → Match (IsSet code) pairs sets → Match (IsAlike code a) (numbered_entries unit entry dies pairs) (unit_covering unit entry dies sets)
unit_alike code a unit entry [] pairs sets are = tt
unit_alike code a unit entry (die ∷ dies) [] [] are = tt
unit_alike code a unit entry (die ∷ dies) [] (set ∷ sets) are = absurd are
unit_alike code a unit entry (die ∷ dies) (own ∷ pairs) [] are = absurd are
unit_alike code a unit entry (die ∷ dies) (own ∷ pairs) (set ∷ sets) are =
    (record { place = refl; held = are.0.each a }, unit_alike code a unit (entry + 1) dies pairs sets are.1)

read_alike : (code : List Range) (a unit : ℕ) (says : UnitSays) (part : UnitRead) → IsUnitRead code says part → Match (IsAlike code a) (numbered_entries unit 0 says.table.dies says.pairs) (unit_covering unit 0 part.die.dies part.spans)
read_alike code a unit says part is =
    rw is.die (unit_alike code a unit 0 says.table.dies says.pairs part.spans is.spans)

all_alike : (code : List Range) (a unit : ℕ) (says : List UnitSays) (units : List UnitRead) → Match (IsUnitRead code) says units → Match (IsAlike code a) (said_entries unit says) (covering_from unit units)
all_alike code a unit [] [] are = tt
all_alike code a unit [] (part ∷ units) are = absurd are
all_alike code a unit (said ∷ says) [] are = absurd are
all_alike code a unit (said ∷ says) (part ∷ units) are =
    match_append (IsAlike code a) (numbered_entries unit 0 said.table.dies said.pairs) (said_entries (unit + 1) says) (unit_covering unit 0 part.die.dies part.spans) (covering_from (unit + 1) units)
    (read_alike code a unit said part are.0) (all_alike code a (unit + 1) says units are.1)

-- The owner.
abbrev pub said_owns : List Range → ℕ → SaidEntry → Bool
said_owns code a e = is_function e.die && is_at code a e

abbrev owns : ℕ → Covering → Bool
owns a c = is_function c.die && holds_any c.spans a

abbrev die_in : ℕ × ℕ × DieFields → DieFields
die_in place = place.2

owns_alike : (code : List Range) (a : ℕ) (e : SaidEntry) (c : Covering) → IsAlike code a e c → said_owns code a e ≡ owns a c
owns_alike code a e c is =
    let die : e.die ≡ c.die = ap die_in is.place in
    let held = is.held in
    cc

-- A search finds entries that are alike in both lists, or none in both.
abbrev pub BothAlike : List Range → ℕ → Option SaidEntry → Option Covering → Type 0
BothAlike code a None None = Prim.Unit {0}
BothAlike code a (Some e) (Some c) = IsAlike code a e c
BothAlike code a _ _ = ⊥

find_alike : (code : List Range) (a : ℕ) (es : List SaidEntry) (cs : List Covering) → Match (IsAlike code a) es cs → BothAlike code a (find (said_owns code a) es) (find (owns a) cs)
find_alike code a [] [] are = tt
find_alike code a [] (c ∷ cs) are = absurd are
find_alike code a (e ∷ es) [] are = absurd are
find_alike code a (e ∷ es) (c ∷ cs) are = grind (arith, nat_tests, owns_alike code a e c are.0, are.0, find_alike code a es cs are.1)

pub owners_alike : (code : List Range) (says : List UnitSays) (units : List UnitRead) (a : ℕ) → Match (IsUnitRead code) says units → BothAlike code a (said_owner code says a) (owner units a)
unfolding said_owner owner
owners_alike code says units a are = find_alike code a (said_entries 0 says) (covering_from 0 units) (all_alike code a 0 says units are)

same_place : (code : List Range) (a : ℕ) (e : Option SaidEntry) (c : Option Covering) → BothAlike code a e c → option_map said_place e ≡ option_map kept_place c
same_place code a None None is = refl
same_place code a (Some e) (Some c) is = ap (λ p. Some p) is.place
same_place code a None (Some c) is = absurd is
same_place code a (Some e) None is = absurd is

pub owners_same : (code : List Range) (says : List UnitSays) (units : List UnitRead) (a : ℕ) → Match (IsUnitRead code) says units → option_map said_place (said_owner code says a) ≡ option_map kept_place (owner units a)
owners_same code says units a are = same_place code a (said_owner code says a) (owner units a) (owners_alike code says units a are)

-- The unit with a number.
abbrev pub BothRead : List Range → Option UnitSays → Option UnitRead → Type 0
BothRead code None None = Prim.Unit {0}
BothRead code (Some says) (Some part) = IsUnitRead code says part
BothRead code _ _ = ⊥

pub both_read : (code : List Range) (says : List UnitSays) (units : List UnitRead) (n : ℕ) → Match (IsUnitRead code) says units → BothRead code (slice_get says n) (slice_get units n)
both_read code [] [] n are = tt
both_read code [] (part ∷ units) n are = absurd are
both_read code (said ∷ says) [] n are = absurd are
both_read code (said ∷ says) (part ∷ units) zero are = are.0
both_read code (said ∷ says) (part ∷ units) (suc n) are = both_read code says units n are.1

-- The chain.
abbrev said_goes : List Range → List DieFields → ℕ → ℕ → SaidEntry → Bool
said_goes code dies a entry e = is_inlined e.die && (is_at code a e && option_map_or (λ o. o == entry) (inside_of dies e.entry e.die.parent) false)

abbrev goes : List DieFields → ℕ → ℕ → Covering → Bool
goes dies a entry c = is_inlined c.die && (holds_any c.spans a && option_map_or (λ e. e == entry) (inside_of dies c.entry c.die.parent) false)

goes_alike : (code : List Range) (dies : List DieFields) (a entry : ℕ) (e : SaidEntry) (c : Covering) → IsAlike code a e c → said_goes code dies a entry e ≡ goes dies a entry c
goes_alike code dies a entry e c is =
    let die : e.die ≡ c.die = ap die_in is.place in
    let number : e.entry ≡ c.entry = ap (λ (p : ℕ × ℕ × DieFields). p.1) is.place in
    let held = is.held in
    cc

chain_alike : (code : List Range) (dies : List DieFields) (a entry : ℕ) (es : List SaidEntry) (cs : List Covering) → Match (IsAlike code a) es cs → map said_place (said_inside code dies a entry es) ≡ map kept_place (chain_from dies a entry cs)
chain_alike code dies a entry [] [] are = refl
chain_alike code dies a entry [] (c ∷ cs) are = absurd are
chain_alike code dies a entry (e ∷ es) [] are = absurd are
chain_alike code dies a entry (e ∷ es) (c ∷ cs) are =
    grind (arith, nat_tests, goes_alike code dies a entry e c are.0, are.0.place, ap (λ (p : ℕ × ℕ × DieFields). p.1) are.0.place, chain_alike code dies a c.entry es cs are.1, chain_alike code dies a entry es cs are.1)

by_alike : (code : List Range) (unit entry a : ℕ) (said : Option UnitSays) (part : Option UnitRead) → BothRead code said part → map said_place (said_by code unit entry a said) ≡ map kept_place (chain_by unit entry a part)
by_alike code unit entry a None None are = refl
by_alike code unit entry a None (Some part) are = absurd are
by_alike code unit entry a (Some said) None are = absurd are
by_alike code unit entry a (Some said) (Some part) are =
    rw are.die (chain_alike code said.table.dies a entry (numbered_entries unit 0 said.table.dies said.pairs) (unit_covering unit 0 said.table.dies part.spans) (unit_alike code a unit 0 said.table.dies said.pairs part.spans are.spans))

pub under_alike : (code : List Range) (says : List UnitSays) (units : List UnitRead) (a : ℕ) (e : Option SaidEntry) (c : Option Covering) → Match (IsUnitRead code) says units → BothAlike code a e c → map said_place (said_under code says a e) ≡ map kept_place (chain_under units a c)
unfolding entry_chain
under_alike code says units a None None are is = refl
under_alike code says units a None (Some c) are is = absurd is
under_alike code says units a (Some e) None are is = absurd is
under_alike code says units a (Some e) (Some c) are is =
    rw (ap (λ (p : ℕ × ℕ × DieFields). p.0) is.place, ap (λ (p : ℕ × ℕ × DieFields). p.1) is.place)
    (by_alike code c.unit c.entry a (slice_get says c.unit) (slice_get units c.unit) (both_read code says units c.unit are))

pub chains_same : (code : List Range) (says : List UnitSays) (units : List UnitRead) (a : ℕ) → Match (IsUnitRead code) says units → map said_place (said_chain code says a) ≡ map kept_place (chain units a)
unfolding said_chain chain
chains_same code says units a are = under_alike code says units a (said_owner code says a) (owner units a) are (owners_alike code says units a are)

-- The line: the unit of an owner has a function, so its line table is kept.
function_there : (code : List Range) (a unit entry : ℕ) (dies : List DieFields) (pairs : List (List Range)) (e : SaidEntry) → find (said_owns code a) (numbered_entries unit entry dies pairs) ≡ Some e → (e.unit ≡ unit) × (list_any is_function dies ≡ true)
function_there code a unit entry [] pairs e is = absurd (cc)
function_there code a unit entry (die ∷ dies) [] e is = absurd (cc)
function_there code a unit entry (die ∷ dies) (own ∷ pairs) e is = grind (arith, nat_tests, is, function_there code a unit (entry + 1) dies pairs e)

abbrev pub HasFunction : List UnitSays → ℕ → Type 0
HasFunction says n = (said : UnitSays) → slice_get says n ≡ Some said → has_function said.table.dies ≡ true

pub owner_function : (code : List Range) (a unit : ℕ) (says : List UnitSays) (e : SaidEntry) → find (said_owns code a) (said_entries unit says) ≡ Some e → (k : ℕ) → (unit ≤ e.unit) × (e.unit ≡ unit + k → HasFunction says k)
unfolding has_function
owner_function code a unit [] e is k = absurd (cc)
owner_function code a unit (said ∷ says) e is k =
    go (find (said_owns code a) (numbered_entries unit 0 said.table.dies said.pairs)) refl
    (sym (find-append (said_owns code a) (numbered_entries unit 0 said.table.dies said.pairs) (said_entries (unit + 1) says)) ∙ is)
    (λ later n. owner_function code a (unit + 1) says e later n) k
  where
    go : (first : Option SaidEntry) → find (said_owns code a) (numbered_entries unit 0 said.table.dies said.pairs) ≡ first → option_or first (find (said_owns code a) (said_entries (unit + 1) says)) ≡ Some e
        → (find (said_owns code a) (said_entries (unit + 1) says) ≡ Some e → (n : ℕ) → (unit + 1 ≤ e.unit) × (e.unit ≡ unit + 1 + n → HasFunction says n)) → (k : ℕ) → (unit ≤ e.unit) × (e.unit ≡ unit + k → HasFunction (said ∷ says) k)
    go (Some x) found is later zero =
        let there = function_there code a unit 0 said.table.dies said.pairs e (found ∙ is) in
        (omega (arith, there.0), λ _ other same. ap (λ (s : UnitSays). list_any is_function s.table.dies) (sym (first_same other same)) ∙ there.1)
      where
        first_same : (other : UnitSays) → Some said ≡ Some other → said ≡ other
        first_same other same = cc
    go (Some x) found is later (suc n) =
        let there = function_there code a unit 0 said.table.dies said.pairs e (found ∙ is) in
        (omega (arith, there.0), λ far. absurd (omega (arith, there.0, far)))
    go None found is later zero =
        let rest = later is 0 in
        (omega (arith, rest.0), λ near. absurd (omega (arith, rest.0, near)))
    go None found is later (suc n) =
        let rest = later is n in
        (omega (arith, rest.0), λ far. rest.1 (omega (arith, far)))

-- A table without paths gives no line a path.
no_path : (at : Option (ℕ × ℕ)) → None ≡ named_line [] at
no_path None = refl
no_path (Some at) = refl

kept_line : (code : List Range) (a : ℕ) (some : Bool) (lines : Option Lines) (kept : LineMap) → a < 2 ^ 64 → some ≡ true → KeepsLines code some lines kept → option_and_then (λ l. line_at (encloses code) l a) lines ≡ named_line kept.paths (numbered_line kept a)
kept_line code a true (Some lines) kept small is keeps = sym (keeps.line a small)
kept_line code a true None kept small is keeps = no_path (numbered_line no_lines a) ∙ ap (λ (t : LineMap). named_line t.paths (numbered_line t a)) (sym keeps)
kept_line code a false lines kept small is keeps = absurd (cc)

line_by : (code : List Range) (a : ℕ) (said : Option UnitSays) (part : Option UnitRead) → a < 2 ^ 64 → ((s : UnitSays) → said ≡ Some s → has_function s.table.dies ≡ true) → BothRead code said part → said_line_in code a said ≡ line_in a part
line_by code a None None small some are = refl
line_by code a None (Some part) small some are = absurd are
line_by code a (Some said) None small some are = absurd are
line_by code a (Some said) (Some part) small some are = kept_line code a (has_function said.table.dies) said.lines part.lines small (some said refl) are.lines

line_alike : (code : List Range) (says : List UnitSays) (units : List UnitRead) (a : ℕ) (e : Option SaidEntry) (c : Option Covering) → a < 2 ^ 64 → find (said_owns code a) (said_entries 0 says) ≡ e → Match (IsUnitRead code) says units → BothAlike code a e c → said_line_under code says a e ≡ line_under units a c
line_alike code says units a None None small found are is = refl
line_alike code says units a None (Some c) small found are is = absurd is
line_alike code says units a (Some e) None small found are is = absurd is
line_alike code says units a (Some e) (Some c) small found are is =
    let unit : e.unit ≡ c.unit = ap (λ (p : ℕ × ℕ × DieFields). p.0) is.place in
    ap (λ n. said_line_in code a (slice_get says n)) unit
    ∙ line_by code a (slice_get says c.unit) (slice_get units c.unit) small ((owner_function code a 0 says e found c.unit).1 (omega (arith, unit))) (both_read code says units c.unit are)

pub lines_same : (code : List Range) (says : List UnitSays) (units : List UnitRead) (a : ℕ) → a < 2 ^ 64 → Match (IsUnitRead code) says units → said_line code says a ≡ line units a
unfolding said_line line said_owner
lines_same code says units a small are =
    line_alike code says units a (find (said_owns code a) (said_entries 0 says)) (owner units a) small refl are (owners_alike code says units a are)
