-- The entries of a unit are in the order of their places; for the laws.
use Rattle.std.proofs.Common.{◌≡◌, ◌≤◌, ◌+◌, ◌-◌, ℕ, zero, suc, Bool, true, false, nat_eq, cond, List, [], ◌∷◌, ◌++◌, map, length, take, Option, None, Some, Result, Ok, Err, IfOk, refl, ap, subst, ◌∙◌, arith, length-drop, length-take-le}
use Rattle.std.proofs.lemmas.Result.{IfOk-at_ok}
use Rattle.sym_edges.specs.Results.{◌>>=◌}
use Rattle.sym_edges.specs.declared.part.Sect.TheVariants.{Info}
use Rattle.leb_cursor.specs.Ahead.{Ahead}
use Rattle.leb_cursor.specs.Readings.{uleb_at}
use Rattle.leb_cursor.specs.Lists.{list_by, list_in, list_at, list_cases, GoesOn}
use Rattle.leb_cursor.proofs.ListLemmas.{list_follows}
use Rattle.abbrev_units.specs.SpecFields.{Abbrev}
use Rattle.abbrev_units.specs.declared.unit.Unit.{Unit}
use Rattle.abbrev_units.specs.DebugSections.{DebugSections, first_place}
use Rattle.abbrev_units.specs.Abbreviations.{abbrev_of}
use Rattle.abbrev_units.specs.Faults.{read_in}
use Rattle.die_walk.specs.Marks.{Mark, read_values_at, entry_by, mark_by, mark_at, next_mark, marks_at}
use Rattle.die_walk.specs.Marks.Mark.{Close, Entry}
use Rattle.die_walk.specs.EntryTree.{Item, Kept, items_from, is_kept, kept_from, ancestor, rooted}
use Rattle.die_walk.specs.EntryTable.{DieFields, EntryTable, base_of, die_of, table_by, table_of, entries_ahead, entry_table}
use Rattle.abbrev_units.proofs.OkLemmas.{then_ok, then_any, either_ok}
use Rattle.die_walk.proofs.WalkLemmas.{next_goes}
use Rattle.die_walk.specs.EntryPlaces.{RisesTo, table_places}

-- Marks whose entries have ascending places, from `low` to `high`.
abbrev MarksRise : ℕ → ℕ → List Mark → Type 0
MarksRise low high [] = Prim.Unit {0}
MarksRise low high (Close ∷ marks) = MarksRise low high marks
MarksRise low high (Entry at tag children values ∷ marks) = (low ≤ at) × (at ≤ high) × MarksRise (at + 1) high marks

marks_lower : (low other high : ℕ) (marks : List Mark) → low ≤ other → MarksRise other high marks → MarksRise low high marks
marks_lower low other high [] below rise = tt
marks_lower low other high (Close ∷ marks) below rise = marks_lower low other high marks below rise
marks_lower low other high (Entry at tag children values ∷ marks) below rise =
    let first : other ≤ at = rise.0 in
    (omega arith, rise.1, rise.2)

-- The mark of an entry has the entry's place.
abbrev IsMarkAt : ℕ → Mark → Type 0
IsMarkAt place Close = Prim.Unit {0}
IsMarkAt place (Entry at tag children values) = at ≡ place

abbrev MarkedAt : ℕ → Mark × Ahead → Type 0
MarkedAt place x = IsMarkAt place x.0

abbrev MemberAt : ℕ → Option Mark × Ahead → Type 0
MemberAt place (None, d) = Prim.Unit {0}
MemberAt place (Some mark, d) = IsMarkAt place mark

entry_place : (found : Option Abbrev) (at : ℕ) (c : Ahead) → IfOk (entry_by found at c) (MarkedAt at)
entry_place None at c = tt
entry_place (Some found) at c = then_any (MarkedAt at) (read_values_at found.specs c) _ (λ values. refl)

mark_place : (abbrevs : List Abbrev) (c : Ahead) → IfOk (mark_at abbrevs c) (MarkedAt c.at)
unfolding mark_at mark_by
mark_place abbrevs c =
    then_any (MarkedAt c.at) (read_in Info (uleb_at c)) _
    (λ code. either_ok (MarkedAt c.at) (nat_eq code.0 0) (Ok (Close, code.1)) _ tt (entry_place (abbrev_of code.0 abbrevs) c.at code.1))

next_place : (abbrevs : List Abbrev) (c : Ahead) → IfOk (next_mark abbrevs c) (MemberAt c.at)
unfolding next_mark
next_place abbrevs c =
    either_ok (MemberAt c.at) (nat_eq (length c.bytes) 0) (Ok (None, c)) _ tt
    (then_ok (MarkedAt c.at) (MemberAt c.at) (mark_at abbrevs c) _ (mark_place abbrevs c) (λ mark marked. marked))

-- The place after the last byte ahead.
abbrev end_of : Ahead → ℕ
end_of c = c.at + length c.bytes

abbrev ListRises : ℕ → ℕ → List Mark × Ahead → Type 0
ListRises low high x = MarksRise low high x.0

first_rises : (mark : Mark) (c d : Ahead) (rest : List Mark) → IsMarkAt c.at mark → length d.bytes + 1 ≤ length c.bytes → end_of d ≡ end_of c → MarksRise d.at (end_of d) rest → MarksRise c.at (end_of c) (mark ∷ rest)
first_rises Close c d rest place shorter same rises =
    marks_lower c.at d.at (end_of c) rest (omega (arith, shorter, same)) (subst (λ high. MarksRise d.at high rest) same rises)
first_rises (Entry at tag children values) c d rest place shorter same rises =
    let here : at ≡ c.at = place in
    (omega (arith, here), omega (arith, here), marks_lower (at + 1) d.at (end_of c) rest (omega (arith, shorter, same, here)) (subst (λ high. MarksRise d.at high rest) same rises))

list_rises : {E : Type 0} (first : Result (Option Mark × Ahead) E) (later : Ahead → Result (List Mark × Ahead) E) (c : Ahead) → GoesOn c first → IfOk first (MemberAt c.at) → ((d : Ahead) → IfOk (later d) (ListRises d.at (end_of d))) → IfOk (first >>= λ x. list_by x.0 x.1 (later x.1)) (ListRises c.at (end_of c))
list_rises (Ok (None, d)) later c goes place rises = tt
list_rises (Ok (Some mark, d)) later c goes place rises =
    then_ok (ListRises d.at (end_of d)) (ListRises c.at (end_of c)) (later d) _ (rises d) (λ rest after. first_rises mark c d rest.0 place goes.0 goes.1 after)
list_rises (Err fault) later c goes place rises = tt

marks_rise_in : (abbrevs : List Abbrev) (n : ℕ) (c : Ahead) → IfOk (list_in (next_mark abbrevs) n c) (ListRises c.at (end_of c))
unfolding list_in
marks_rise_in abbrevs zero c = tt
marks_rise_in abbrevs (suc n) c =
    list_rises (next_mark abbrevs c) (list_in (next_mark abbrevs) n) c (next_goes abbrevs c) (next_place abbrevs c) (λ d. marks_rise_in abbrevs n d)

-- Entries with ascending places, from `low` to `high`.
abbrev ItemsRise : ℕ → ℕ → List Item → Type 0
ItemsRise low high [] = Prim.Unit {0}
ItemsRise low high (item ∷ items) = (low ≤ item.at) × (item.at ≤ high) × ItemsRise (item.at + 1) high items

items_rise : (depth low high : ℕ) (marks : List Mark) → MarksRise low high marks → ItemsRise low high (items_from depth marks)
unfolding items_from
items_rise depth low high [] rise = tt
items_rise depth low high (Close ∷ marks) rise = items_rise (depth - 1) low high marks rise
items_rise depth low high (Entry at tag children values ∷ marks) rise =
    (rise.0, rise.1, items_rise (cond children (depth + 1) depth) (at + 1) high marks rise.2)

rooted_rise : (body high : ℕ) (items : List Item) → body ≤ high → ItemsRise body high items → ItemsRise body high (rooted body items)
rooted_rise body high [] inside rise = (omega arith, inside, tt)
rooted_rise body high (item ∷ items) inside rise = rise

-- The kept ones among these entries.
pub rises_lower : (low other high : ℕ) (xs : List ℕ) → low ≤ other → RisesTo other high xs → RisesTo low high xs
rises_lower low other high [] below rise = tt
rises_lower low other high (x ∷ xs) below rise =
    let first : other ≤ x = rise.0 in
    (omega arith, rise.1, rise.2)

abbrev kept_places : DebugSections → Unit → Option ℕ → List Kept → List ℕ
kept_places sections unit base kepts = map (λ (d : DieFields). d.at) (map (die_of sections unit base) kepts)

one_rises : (sections : DebugSections) (unit : Unit) (base : Option ℕ) (kept : Kept) (later : List Kept) (low high : ℕ) (keeps : Bool) → low ≤ kept.item.at → kept.item.at ≤ high → RisesTo (first_place sections.is_sup + kept.item.at + 1) (first_place sections.is_sup + high) (kept_places sections unit base later) → RisesTo (first_place sections.is_sup + low) (first_place sections.is_sup + high) (kept_places sections unit base (cond keeps (kept ∷ []) [] ++ later))
unfolding die_of
one_rises sections unit base kept later low high true above below rise = (omega (arith, above), omega (arith, below), rise)
one_rises sections unit base kept later low high false above below rise =
    rises_lower (first_place sections.is_sup + low) (first_place sections.is_sup + kept.item.at + 1) (first_place sections.is_sup + high) (kept_places sections unit base later) (omega (arith, above)) rise

kept_rise : (sections : DebugSections) (unit : Unit) (base : Option ℕ) (earlier items : List Item) (low high : ℕ) → ItemsRise low high items → RisesTo (first_place sections.is_sup + low) (first_place sections.is_sup + high) (kept_places sections unit base (kept_from earlier items))
unfolding kept_from
kept_rise sections unit base earlier [] low high rise = tt
kept_rise sections unit base earlier (item ∷ items) low high rise =
    one_rises sections unit base (record { item = item; parent = ancestor item.depth earlier }) (kept_from (item ∷ earlier) items) low high (is_kept item earlier) rise.0 rise.1
    (rises_lower (first_place sections.is_sup + item.at + 1) (first_place sections.is_sup + (item.at + 1)) (first_place sections.is_sup + high) (kept_places sections unit base (kept_from (item ∷ earlier) items)) (omega arith)
    (kept_rise sections unit base (item ∷ earlier) items (item.at + 1) high rise.2))

by_rises : (sections : DebugSections) (unit : Unit) (items : List Item) (low high : ℕ) → ItemsRise low high items → RisesTo (first_place sections.is_sup + low) (first_place sections.is_sup + high) (table_places (table_by sections unit items))
by_rises sections unit [] low high rise = tt
by_rises sections unit (first ∷ items) low high rise = kept_rise sections unit (base_of first.values) [] (first ∷ items) low high rise

-- The places of a unit's kept entries ascend from the end of its header up to its end.
table_rises : (sections : DebugSections) (unit : Unit) (high : ℕ) (marks : List Mark) → unit.body ≤ high → MarksRise unit.body high marks → RisesTo (first_place sections.is_sup + unit.body) (first_place sections.is_sup + high) (table_places (table_of sections unit marks))
unfolding table_of
table_rises sections unit high marks inside rise =
    by_rises sections unit (rooted unit.body (items_from 0 marks)) unit.body high (rooted_rise unit.body high (items_from 0 marks) inside (items_rise 0 unit.body high marks rise))

pub places_rise : (sections : DebugSections) (unit : Unit) (abbrevs : List Abbrev) (table : EntryTable) → unit.body ≤ unit.end → unit.end ≤ length sections.info → entry_table sections unit abbrevs ≡ Ok table → RisesTo (first_place sections.is_sup + unit.body) (first_place sections.is_sup + unit.end) (table_places table)
unfolding entry_table marks_at list_at
places_rise sections unit abbrevs table ordered inside is =
    let c : Ahead = entries_ahead sections unit in
    let all : length c.bytes ≡ unit.end - unit.body = length-drop unit.body (take unit.end sections.info) ∙ ap (λ n. n - unit.body) (length-take-le unit.end sections.info inside) in
    let last : end_of c ≡ unit.end = omega (arith, all, ordered) in
    let Rises : EntryTable → Type 0 = λ t. RisesTo (first_place sections.is_sup + unit.body) (first_place sections.is_sup + unit.end) (table_places t) in
    IfOk-at_ok Rises is
    (then_ok (MarksRise unit.body unit.end) Rises (list_at (next_mark abbrevs) c >>= λ marks. Ok marks.0) (λ marks. Ok (table_of sections unit marks))
    (then_ok (ListRises unit.body unit.end) (MarksRise unit.body unit.end) (list_at (next_mark abbrevs) c) (λ marks. Ok marks.0)
    (subst (λ high. IfOk (list_at (next_mark abbrevs) c) (ListRises unit.body high)) last (marks_rise_in abbrevs (suc (length c.bytes)) c)) (λ marks rise. rise))
    (λ marks rise. table_rises sections unit unit.end marks ordered rise))

-- The marks ahead are the first one and then the marks after it.
pub marks_follow : (abbrevs : List Abbrev) (c : Ahead) → list_at (next_mark abbrevs) c ≡ list_cases (next_mark abbrevs) c
marks_follow abbrevs c = list_follows (next_mark abbrevs) (next_goes abbrevs) c
