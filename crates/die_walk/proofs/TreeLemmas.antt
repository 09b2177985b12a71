-- The table that the walk makes is the table that the tree defines.
use Rattle.std.proofs.Common.{◌≡◌, ◌<◌, ◌≤◌, ◌+◌, ◌-◌, ℕ, zero, suc, Bool, true, false, nat_eq, cond, List, [], ◌∷◌, ◌++◌, length, take, map, get_or, Option, None, Some, refl, sym, ap, subst, ◌∙◌, arith, append_assoc, append-nil, get_or-take, length-take-le, length-append}
use Rattle.std.proofs.lemmas.List.{get_or_append_left}
use Rattle.std.proofs.Math.Seq.{get_or-append_seam}
use Rattle.std.proofs.lemmas.Bool.Decides.{nat_tests}
use Rattle.abbrev_units.specs.declared.unit.Unit.{Unit}
use Rattle.abbrev_units.specs.declared.value.Given.{Given}
use Rattle.abbrev_units.specs.DebugSections.{DebugSections}
use Rattle.die_walk.specs.Marks.{Mark}
use Rattle.die_walk.specs.Marks.Mark.{Close, Entry}
use Rattle.abbrev_units.specs.KeptTags.{is_kept_tag}
use Rattle.die_walk.specs.EntryTree.{Item, items_from, kept_count, ancestor, kept_from}
use Rattle.die_walk.specs.EntryTable.{DieFields, RootFields, EntryTable, base_of, die_of, root_of, table_by, table_of}
use Rattle.die_walk.specs.Steps.{Owned, Walked, kept_at, innermost, begun, added, entered, opened, own_number, moved, all_moved, rounded, table_in}

-- A state has the kept ones among the earlier entries, and as many open lists as the depth of the
-- next entry.
pub record Holds (w : Walked) (earlier : List Item) (depth : ℕ) : Type 0 where
  pub count : length w.dies ≡ kept_count earlier
  pub levels : length w.open_levels ≡ depth
  pub each : (k : ℕ) → k < depth → get_or w.open_levels k None ≡ ancestor (k + 1) earlier

-- An entry at the outermost level has no ancestor.
ancestor_none : (earlier : List Item) → ancestor 0 earlier ≡ None
unfolding ancestor
ancestor_none [] = refl
ancestor_none (item ∷ earlier) = grind (arith, nat_tests, ancestor_none earlier)

inner_by : (levels : List (Option ℕ)) (depth : ℕ) (earlier : List Item) → length levels ≡ depth → ((k : ℕ) → k < depth → get_or levels k None ≡ ancestor (k + 1) earlier) → innermost levels ≡ ancestor depth earlier
inner_by [] zero earlier same each = sym (ancestor_none earlier)
inner_by [] (suc d) earlier same each = absurd (omega (arith, same))
inner_by (x ∷ levels) zero earlier same each = absurd (omega (arith, same))
inner_by (x ∷ levels) (suc d) earlier same each = grind (arith, same, each d (omega arith))

-- The first entry is always kept.
kept_some : (item : Item) (earlier : List Item) → 1 ≤ kept_count (item ∷ earlier)
unfolding kept_count
kept_some item [] = omega arith
kept_some item (before ∷ earlier) = omega (arith, kept_some before earlier)

-- The end of a list of children.
close_holds : (w x : Walked) (earlier : List Item) (depth : ℕ) → Holds w earlier depth → x ≡ record w { open_levels = take (length w.open_levels - 1) w.open_levels } → Holds x earlier (depth - 1)
close_holds w x earlier depth holds is =
    subst (λ (y : Walked). Holds y earlier (depth - 1)) (sym is) (record {
      count = holds.count;
      levels = length-take-le (length w.open_levels - 1) w.open_levels (omega arith) ∙ ap (λ n. n - 1) holds.levels;
      each = λ k below. get_or-take (length w.open_levels - 1) w.open_levels k None (omega (arith, below, holds.levels)) ∙ holds.each k (omega (arith, below));
    })

-- An entry that is added, kept or not, with children or without.
levels_kept : (w : Walked) (item : Item) (earlier : List Item) (depth : ℕ) → Holds w earlier depth → item.depth ≡ depth → (k : ℕ) → k < depth → get_or w.open_levels k None ≡ ancestor (k + 1) (item ∷ earlier)
unfolding ancestor
levels_kept w item earlier depth holds same k below = grind (arith, nat_tests, same, holds.each k below)

own_is : (w : Walked) (item before : Item) (earlier : List Item) (depth : ℕ) (kept : Bool) → Holds w (before ∷ earlier) depth → item.depth ≡ depth → is_kept_tag item.tag ≡ kept → cond kept (Some (length w.dies)) (innermost w.open_levels) ≡ ancestor (depth + 1) (item ∷ before ∷ earlier)
unfolding ancestor
own_is w item before earlier depth kept holds same is =
    grind (arith, nat_tests, holds.count, same, is, inner_by w.open_levels depth (before ∷ earlier) holds.levels holds.each)

-- The open lists of children, after one more was opened.
opened_each : (w v : Walked) (item before : Item) (earlier : List Item) (depth : ℕ) (own : Option ℕ) → Holds w (before ∷ earlier) depth → item.depth ≡ depth → v.open_levels ≡ w.open_levels → own ≡ ancestor (depth + 1) (item ∷ before ∷ earlier) → (k : ℕ) → k ≤ depth → (last : Bool) → nat_eq k depth ≡ last → get_or (v.open_levels ++ own ∷ []) k None ≡ ancestor (k + 1) (item ∷ before ∷ earlier)
opened_each w v item before earlier depth own holds same levels number k below last is =
    grind (arith, nat_tests, is, below, levels, ap length levels, holds.levels, number, get_or-append_seam v.open_levels own [] None, get_or_append_left v.open_levels (own ∷ []) None k, levels_kept w item (before ∷ earlier) depth holds same k)

-- The state after one more list of children was opened.
opened_holds : (w v : Walked) (item before : Item) (earlier : List Item) (depth : ℕ) (own : Option ℕ) → Holds w (before ∷ earlier) depth → item.depth ≡ depth → v.open_levels ≡ w.open_levels → length v.dies ≡ kept_count (item ∷ before ∷ earlier) → own ≡ ancestor (depth + 1) (item ∷ before ∷ earlier) → Holds (record v { open_levels = v.open_levels ++ own ∷ [] }) (item ∷ before ∷ earlier) (depth + 1)
opened_holds w v item before earlier depth own holds same levels count number =
    let long : length v.open_levels ≡ depth = ap length levels ∙ holds.levels in
    record {
      count = count;
      levels = length-append v.open_levels (own ∷ []) ∙ ap (λ n. n + 1) long;
      each = λ k below. opened_each w v item before earlier depth own holds same levels number k (omega (arith, below)) (nat_eq k depth) refl;
    }

plain_holds : (w v : Walked) (item before : Item) (earlier : List Item) (depth : ℕ) → Holds w (before ∷ earlier) depth → item.depth ≡ depth → v.open_levels ≡ w.open_levels → length v.dies ≡ kept_count (item ∷ before ∷ earlier) → Holds v (item ∷ before ∷ earlier) depth
plain_holds w v item before earlier depth holds same levels count = record {
  count = count;
  levels = ap length levels ∙ holds.levels;
  each = λ k below. ap (λ l. get_or l k None) levels ∙ levels_kept w item (before ∷ earlier) depth holds same k below;
}

either_holds : (w v : Walked) (item before : Item) (earlier : List Item) (depth : ℕ) (own : Option ℕ) (children : Bool) → Holds w (before ∷ earlier) depth → item.depth ≡ depth → v.open_levels ≡ w.open_levels → length v.dies ≡ kept_count (item ∷ before ∷ earlier) → own ≡ ancestor (depth + 1) (item ∷ before ∷ earlier) → Holds (opened v children own) (item ∷ before ∷ earlier) (cond children (depth + 1) depth)
either_holds w v item before earlier depth own true holds same levels count number = opened_holds w v item before earlier depth own holds same levels count number
either_holds w v item before earlier depth own false holds same levels count number = plain_holds w v item before earlier depth holds same levels count

-- A kept entry, whose parent is the innermost kept entry around it.
die_is : (sections : DebugSections) (unit : Unit) (base : Option ℕ) (at depth tag : ℕ) (values : List Given) (inner around : Option ℕ) → inner ≡ around → die_of sections unit base (kept_at at inner tag values) ≡ die_of sections unit base (record { item = record { at = at; depth = depth; tag = tag; values = values }; parent = around })
unfolding die_of
die_is sections unit base at depth tag values inner around same = ap (λ p. die_of sections unit base (kept_at at p tag values)) same

-- One entry more, after the first.
entered_is : (sections : DebugSections) (unit : Unit) (w : Walked) (at tag : ℕ) (values : List Given) (kept : Bool) → 1 ≤ length w.dies → is_kept_tag tag ≡ kept → entered sections unit w at tag values ≡ cond kept (added sections unit w at tag values) w
unfolding entered
entered_is sections unit w at tag values kept some is = grind (arith, nat_tests, some, is)

number_is : (w : Walked) (tag : ℕ) (kept : Bool) → 1 ≤ length w.dies → is_kept_tag tag ≡ kept → own_number w tag ≡ cond kept (Some (length w.dies)) (innermost w.open_levels)
number_is w tag kept some is = grind (arith, nat_tests, is, some)

-- The table that a state gives, with the kept ones among the entries that follow.
abbrev pub behind_state : DebugSections → Unit → Walked → List Item → List Item → EntryTable
behind_state sections unit w earlier items = record {
  root = w.root;
  dies = w.dies ++ map (die_of sections unit w.root.str_offsets_base) (kept_from earlier items);
}

-- One entry more in a state is one entry more in the tree.
taken_is : (sections : DebugSections) (unit : Unit) (w : Walked) (item before : Item) (earlier items : List Item) (kept : Bool) → is_kept_tag item.tag ≡ kept → innermost w.open_levels ≡ ancestor item.depth (before ∷ earlier) → behind_state sections unit (cond kept (added sections unit w item.at item.tag item.values) w) (item ∷ before ∷ earlier) items ≡ behind_state sections unit w (before ∷ earlier) (item ∷ items)
unfolding kept_from die_of
taken_is sections unit w item before earlier items true is inner =
    let one : List DieFields = die_of sections unit w.root.str_offsets_base (record { item = item; parent = ancestor item.depth (before ∷ earlier) }) ∷ [] in
    let later : List DieFields = map (die_of sections unit w.root.str_offsets_base) (kept_from (item ∷ before ∷ earlier) items) in
    ap (λ (d : DieFields). record { root = w.root; dies = (w.dies ++ d ∷ []) ++ later }) (die_is sections unit w.root.str_offsets_base item.at item.depth item.tag item.values (innermost w.open_levels) (ancestor item.depth (before ∷ earlier)) inner)
    ∙ ap (λ (dies : List DieFields). record { root = w.root; dies = dies }) (append_assoc w.dies one later)
    ∙ ap (λ b. record { root = w.root; dies = w.dies ++ map (die_of sections unit w.root.str_offsets_base) (cond b (record { item = item; parent = ancestor item.depth (before ∷ earlier) } ∷ []) [] ++ kept_from (item ∷ before ∷ earlier) items) }) (sym is)
taken_is sections unit w item before earlier items false is inner =
    ap (λ b. record { root = w.root; dies = w.dies ++ map (die_of sections unit w.root.str_offsets_base) (cond b (record { item = item; parent = ancestor item.depth (before ∷ earlier) } ∷ []) [] ++ kept_from (item ∷ before ∷ earlier) items) }) (sym is)

abbrev count_of : Bool → ℕ
count_of kept = cond kept 1 0

taken_count : (sections : DebugSections) (unit : Unit) (w : Walked) (item before : Item) (earlier : List Item) (kept : Bool) → is_kept_tag item.tag ≡ kept → length w.dies ≡ kept_count (before ∷ earlier) → length (cond kept (added sections unit w item.at item.tag item.values) w).dies ≡ kept_count (item ∷ before ∷ earlier)
unfolding kept_count
taken_count sections unit w item before earlier kept is count =
    grind (arith, nat_tests, is, count, length-append w.dies (die_of sections unit w.root.str_offsets_base (kept_at item.at (innermost w.open_levels) item.tag item.values) ∷ []))

taken_levels : (sections : DebugSections) (unit : Unit) (w : Walked) (item : Item) (kept : Bool) → (cond kept (added sections unit w item.at item.tag item.values) w).open_levels ≡ w.open_levels
taken_levels sections unit w item true = refl
taken_levels sections unit w item false = refl

opened_table : (sections : DebugSections) (unit : Unit) (v : Walked) (children : Bool) (own : Option ℕ) (earlier items : List Item) → behind_state sections unit (opened v children own) earlier items ≡ behind_state sections unit v earlier items
opened_table sections unit v true own earlier items = refl
opened_table sections unit v false own earlier items = refl

-- The whole walk after the first entry.
pub run_is : (sections : DebugSections) (unit : Unit) (marks : List Mark) (w : Walked) (before : Item) (earlier : List Item) (depth : ℕ) → Holds w (before ∷ earlier) depth → table_in (all_moved sections unit w marks) ≡ behind_state sections unit w (before ∷ earlier) (items_from depth marks)
unfolding all_moved moved items_from kept_from
run_is sections unit [] w before earlier depth holds = ap (λ (dies : List DieFields). record { root = w.root; dies = dies }) (sym (append-nil w.dies))
run_is sections unit (Close ∷ marks) w before earlier depth holds =
    run_is sections unit marks (record w { open_levels = take (length w.open_levels - 1) w.open_levels }) before earlier (depth - 1) (close_holds w (record w { open_levels = take (length w.open_levels - 1) w.open_levels }) (before ∷ earlier) depth holds refl)
run_is sections unit (Entry at tag children values ∷ marks) w before earlier depth holds =
    let item : Item = record { at = at; depth = depth; tag = tag; values = values } in
    let v : Walked = cond (is_kept_tag tag) (added sections unit w at tag values) w in
    let some : 1 ≤ length w.dies = omega (arith, holds.count, kept_some before earlier) in
    let own : own_number w tag ≡ ancestor (depth + 1) (item ∷ before ∷ earlier) = number_is w tag (is_kept_tag tag) some refl ∙ own_is w item before earlier depth (is_kept_tag tag) holds refl refl in
    let inner : innermost w.open_levels ≡ ancestor depth (before ∷ earlier) = inner_by w.open_levels depth (before ∷ earlier) holds.levels holds.each in
    ap (λ (y : Walked). table_in (all_moved sections unit (opened y children (own_number w tag)) marks)) (entered_is sections unit w at tag values (is_kept_tag tag) some refl)
    ∙ run_is sections unit marks (opened v children (own_number w tag)) item (before ∷ earlier) (cond children (depth + 1) depth)
    (either_holds w v item before earlier depth (own_number w tag) children holds refl (taken_levels sections unit w item (is_kept_tag tag)) (taken_count sections unit w item before earlier (is_kept_tag tag) refl holds.count) own)
    ∙ opened_table sections unit v children (own_number w tag) (item ∷ before ∷ earlier) (items_from (cond children (depth + 1) depth) marks)
    ∙ taken_is sections unit w item before earlier (items_from (cond children (depth + 1) depth) marks) (is_kept_tag tag) refl inner

-- The state in which a walk begins.
abbrev pub started : RootFields → Owned → Walked
started root own = record { dies = []; root = root; open_levels = []; own = own }

rounded_is : (sections : DebugSections) (unit : Unit) (w : Walked) (die : DieFields) (dies : List DieFields) → w.dies ≡ die ∷ dies → rounded sections unit w ≡ w
unfolding rounded
rounded_is sections unit w die dies is = grind (arith, nat_tests, ap length is)

first_level : (at tag : ℕ) (values : List Given) (k : ℕ) → k < 1 → get_or (Some 0 ∷ []) k None ≡ ancestor (k + 1) (record { at = at; depth = 0; tag = tag; values = values } ∷ [])
unfolding kept_count ancestor
first_level at tag values zero below = refl
first_level at tag values (suc k) below = absurd (omega (arith, below))

first_holds : (sections : DebugSections) (unit : Unit) (root : RootFields) (own : Owned) (at tag : ℕ) (values : List Given) (children : Bool) → Holds (opened (begun sections unit (started root own) at tag values) children (Some 0)) (record { at = at; depth = 0; tag = tag; values = values } ∷ []) (cond children (0 + 1) 0)
unfolding kept_count ancestor
first_holds sections unit root own at tag values true = record { count = refl; levels = refl; each = first_level at tag values }
first_holds sections unit root own at tag values false = record { count = refl; levels = refl; each = λ k below. absurd (omega (arith, below)) }

first_dies : (sections : DebugSections) (unit : Unit) (root : RootFields) (own : Owned) (at tag : ℕ) (values : List Given) (children : Bool) (later : List DieFields) → (opened (begun sections unit (started root own) at tag values) children (Some 0)).dies ++ later ≡ die_of sections unit (base_of values) (kept_at at None tag values) ∷ later
first_dies sections unit root own at tag values true later = refl
first_dies sections unit root own at tag values false later = refl

first_table : (sections : DebugSections) (unit : Unit) (root : RootFields) (own : Owned) (at tag : ℕ) (values : List Given) (children : Bool) (items : List Item) → behind_state sections unit (opened (begun sections unit (started root own) at tag values) children (Some 0)) (record { at = at; depth = 0; tag = tag; values = values } ∷ []) items ≡ table_by sections unit (record { at = at; depth = 0; tag = tag; values = values } ∷ items)
unfolding kept_from ancestor die_of root_of
first_table sections unit root own at tag values true items = refl
first_table sections unit root own at tag values false items = refl

-- The whole walk.
pub start_is : (sections : DebugSections) (unit : Unit) (marks : List Mark) (root : RootFields) (own : Owned) → table_in (rounded sections unit (all_moved sections unit (started root own) marks)) ≡ table_of sections unit marks
unfolding all_moved moved entered rounded items_from kept_from ancestor die_of root_of table_of
start_is sections unit [] root own = refl
start_is sections unit (Close ∷ marks) root own = start_is sections unit marks root own
start_is sections unit (Entry at tag children values ∷ marks) root own =
    let item : Item = record { at = at; depth = 0; tag = tag; values = values } in
    let w : Walked = opened (begun sections unit (started root own) at tag values) children (Some 0) in
    let items : List Item = items_from (cond children (0 + 1) 0) marks in
    let whole : table_in (all_moved sections unit w marks) ≡ behind_state sections unit w (item ∷ []) items = run_is sections unit marks w item [] (cond children (0 + 1) 0) (first_holds sections unit root own at tag values children) in
    let later : List DieFields = map (die_of sections unit w.root.str_offsets_base) (kept_from (item ∷ []) items) in
    let some : (all_moved sections unit w marks).dies ≡ die_of sections unit (base_of values) (kept_at at None tag values) ∷ later = ap (λ (table : EntryTable). table.dies) whole ∙ first_dies sections unit root own at tag values children later in
    ap table_in (rounded_is sections unit (all_moved sections unit w marks) (die_of sections unit (base_of values) (kept_at at None tag values)) later some)
    ∙ whole
    ∙ first_table sections unit root own at tag values children items

-- A mark adds at most one kept entry.
pub moved_few : (sections : DebugSections) (unit : Unit) (w : Walked) (mark : Mark) → length (moved sections unit w mark).dies ≤ length w.dies + 1
unfolding moved entered
moved_few sections unit w Close = omega arith
moved_few sections unit w (Entry at tag children values) =
    grind (arith, nat_tests, length-append w.dies (die_of sections unit w.root.str_offsets_base (kept_at at (innermost w.open_levels) tag values) ∷ []))
