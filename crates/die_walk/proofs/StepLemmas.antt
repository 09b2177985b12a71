-- The steps of the walk.
use Rattle.std.proofs.Common.{◌≡◌, ◌+◌, ◌-◌, ◌<◌, ◌≤◌, ◌^◌, Some, ℕ, Option, Bool, true, false, ◌||◌, nat_eq, cond, List, [], ◌∷◌, ◌++◌, length, length-append, Result, Ok, Err, OnOk, refl, sym, ap, ◌∙◌, arith}
use Rattle.std.proofs.lemmas.Bool.{cond-true, cond-false}
use Rattle.std.proofs.lemmas.Bool.Decides.{nat_tests}
use Rattle.sym_edges.specs.Results.{◌>>=◌}
use Rattle.sym_edges.specs.declared.fault.Stop.{Stop}
use Rattle.sym_edges.specs.declared.fault.Stop.TheVariants.{Fault, NoMemory}
use Rattle.sym_edges.specs.declared.located.Located.{Located}
use Rattle.leb_cursor.specs.Ahead.{Ahead}
use Rattle.abbrev_units.specs.SpecFields.{Abbrev}
use Rattle.abbrev_units.specs.declared.fault.DwarfKind.{DwarfKind}
use Rattle.abbrev_units.specs.declared.fault.FormFault.{FormFault}
use Rattle.abbrev_units.specs.declared.unit.Unit.{Unit}
use Rattle.abbrev_units.specs.declared.value.Given.{Given}
use Rattle.abbrev_units.specs.DebugSections.{DebugSections, first_place}
use Rattle.abbrev_units.specs.Values.{values_at, behind_values, only_ahead}
use Rattle.die_walk.specs.Marks.{value_fault, in_entry, read_values_at}
use Rattle.abbrev_units.specs.KeptTags.{is_kept_tag}
use Rattle.abbrev_units.specs.Picks.{PickFields, no_picks, picks_of, picks_at, with_picks}
use Rattle.abbrev_units.specs.Attributes.{first_of, text_in_entry}
use Rattle.die_walk.specs.EntryTable.{DieFields, RootFields, base_of, die_of, root_of}
use Rattle.die_walk.specs.Picking.{base_by, die_by, root_by}
use Rattle.abbrev_units.proofs.OkLemmas.{value_or, ahead_or}
use Rattle.die_walk.proofs.SameLemmas.{base_same, die_same, root_same}
use Rattle.die_walk.specs.Steps.{Walked, innermost, kept_at, keeps, begun, begun_by, added, added_by, entered, entered_by, opened, own_number, moved, entering, entered_at, moving, moved_at, Moves}

-- A member that is added to an empty list.
pub first_alone : {X : Type 0} (xs : List X) (x : X) → length xs ≡ 0 → xs ++ x ∷ [] ≡ x ∷ []
first_alone [] x none = refl
first_alone (y ∷ xs) x none = absurd (grind (arith, none))

-- An entry that is not kept does not change the state.
unkept : (sections : DebugSections) (unit : Unit) (w : Walked) (at tag : ℕ) (values : List Given) (first kept : Bool) → nat_eq (length w.dies) 0 ≡ first → is_kept_tag tag ≡ kept → (first || kept) ≡ false → entered sections unit w at tag values ≡ w
unfolding entered
unkept sections unit w at tag values first kept one two none = grind (arith, nat_tests, one, two, none)

over_by : (sections : DebugSections) (unit : Unit) (w : Walked) (at tag : ℕ) (reading : Result (List Given × Ahead) FormFault) (d : Ahead) → ((values : List Given) → entered sections unit w at tag values ≡ w) → Ok d ≡ only_ahead reading → (in_entry reading >>= entering sections unit w at tag) ≡ Ok (w, d)
over_by sections unit w at tag (Ok x) d same is =
    let there : d ≡ x.1 = cc in
    ap (λ (v : Walked). Ok (v, x.1)) (same x.0) ∙ ap (λ (c : Ahead). Ok (w, c)) (sym there)
over_by sections unit w at tag (Err fault) d same is = absurd (grind (arith, is))

pub passed_over : (sections : DebugSections) (unit : Unit) (w : Walked) (at : ℕ) (found : Abbrev) (c d : Ahead) → keeps w found.tag ≡ false → Ok d ≡ behind_values found.specs c → entered_at sections unit w at found c ≡ Ok (w, d)
unfolding entered_at read_values_at behind_values
passed_over sections unit w at found c d none is =
    over_by sections unit w at found.tag (values_at found.specs c) d (λ values. unkept sections unit w at found.tag values (nat_eq (length w.dies) 0) (is_kept_tag found.tag) refl refl none) is

refused_by : (sections : DebugSections) (unit : Unit) (w : Walked) (at tag : ℕ) (reading : Result (List Given × Ahead) FormFault) (fault : FormFault) → Err fault ≡ only_ahead reading → (in_entry reading >>= entering sections unit w at tag) ≡ Err (value_fault fault)
refused_by sections unit w at tag (Ok x) fault is = absurd (grind (arith, is))
refused_by sections unit w at tag (Err other) fault is = let same : fault ≡ other = cc in ap (λ f. Err (value_fault f)) (sym same)

pub passed_refused : (sections : DebugSections) (unit : Unit) (w : Walked) (at : ℕ) (found : Abbrev) (c : Ahead) (fault : FormFault) → Err fault ≡ behind_values found.specs c → entered_at sections unit w at found c ≡ Err (value_fault fault)
unfolding entered_at read_values_at behind_values
passed_refused sections unit w at found c fault is = refused_by sections unit w at found.tag (values_at found.specs c) fault is

pub passed_by : (sections : DebugSections) (unit : Unit) (w : Walked) (at : ℕ) (found : Abbrev) (c d : Ahead) → nat_eq (length w.dies) 0 ≡ false → is_kept_tag found.tag ≡ false → behind_values found.specs c ≡ Ok d → entered_at sections unit w at found c ≡ Ok (w, d)
passed_by sections unit w at found c d later unkept_tag is =
    passed_over sections unit w at found c d (ap (λ b. b || is_kept_tag found.tag) later ∙ unkept_tag) (sym is)

-- The state that the picks give is the state that the list of values gives.
entered_same : (sections : DebugSections) (unit : Unit) (w : Walked) (at tag : ℕ) (values : List Given) → entered_by sections unit w at tag (picks_of values) ≡ entered sections unit w at tag values
unfolding entered_by entered
entered_same sections unit w at tag values =
    let base = base_same sections unit values in
    let first = die_same sections unit (base_of values) at (innermost w.open_levels) tag values in
    let root = root_same sections unit at values in
    let later = die_same sections unit w.root.str_offsets_base at (innermost w.open_levels) tag values in
    cc

-- The first entry, after the root was made.
pub begun_is : {E : Type 0} (answer : Result (Prim.Unit {0}) E) (sections : DebugSections) (unit : Unit) (w v : Walked) (root : RootFields) (at tag : ℕ) (picks : PickFields) → length w.dies ≡ 0 → root ≡ root_by sections unit at picks → OnOk answer (v ≡ added_by sections unit (record w { root = root }) at tag picks) → OnOk answer (v ≡ begun_by sections unit w at tag picks)
unfolding root_by
begun_is (Err fault) sections unit w v root at tag picks none is added = tt
begun_is (Ok done) sections unit w v root at tag picks none is added =
    added ∙ ap (λ (r : RootFields). added_by sections unit (record w { root = r }) at tag picks) is
    ∙ ap (λ (dies : List DieFields). record w { dies = dies; root = root_by sections unit at picks }) (first_alone w.dies (die_by sections unit (base_by picks) (first_place sections.is_sup + at) (innermost w.open_levels) tag picks) none)

pub begun_none : (sections : DebugSections) (unit : Unit) (w : Walked) (at tag : ℕ) → begun_by sections unit w at tag no_picks ≡ begun sections unit w at tag []
unfolding die_by root_by die_of root_of text_in_entry first_of
begun_none sections unit w at tag = refl

taken_by : (sections : DebugSections) (unit : Unit) (w v : Walked) (at : ℕ) (found : Abbrev) (picks : PickFields) (reading : Result (List Given × Ahead) FormFault) (d : Ahead) → with_picks reading ≡ Ok (picks, d) → v ≡ entered_by sections unit w at found.tag picks → (in_entry reading >>= entering sections unit w at found.tag) ≡ Ok (v, d)
taken_by sections unit w v at found picks (Ok values) d is after =
    let there : values.1 ≡ d = ap (ahead_or d) is in
    let same : picks_of values.0 ≡ picks = ap (value_or picks) is in
    ap (λ (y : Walked). Ok (y, values.1)) (sym (entered_same sections unit w at found.tag values.0) ∙ ap (entered_by sections unit w at found.tag) same ∙ sym after)
    ∙ ap (λ (c : Ahead). Ok (v, c)) there
taken_by sections unit w v at found picks (Err fault) d is after = absurd (grind (arith, is))

pub taken : (sections : DebugSections) (unit : Unit) (w v : Walked) (at tag : ℕ) (found : Abbrev) (picks : PickFields) (c d : Ahead) → picks_at found.specs c ≡ Ok (picks, d) → v ≡ entered_by sections unit w at tag picks → tag ≡ found.tag → entered_at sections unit w at found c ≡ Ok (v, d)
unfolding entered_at read_values_at picks_at
taken sections unit w v at tag found picks c d read is same =
    taken_by sections unit w v at found picks (values_at found.specs c) d read (is ∙ ap (λ (t : ℕ). entered_by sections unit w at t picks) same)

taken_refused_by : (sections : DebugSections) (unit : Unit) (w : Walked) (at : ℕ) (found : Abbrev) (reading : Result (List Given × Ahead) FormFault) (fault : FormFault) → with_picks reading ≡ Err fault → (in_entry reading >>= entering sections unit w at found.tag) ≡ Err (value_fault fault)
taken_refused_by sections unit w at found (Ok values) fault is = absurd (grind (arith, is))
taken_refused_by sections unit w at found (Err other) fault is = let same : other ≡ fault = cc in ap (λ f. Err (value_fault f)) same

pub taken_refused : (sections : DebugSections) (unit : Unit) (w : Walked) (at : ℕ) (found : Abbrev) (c : Ahead) (fault : FormFault) → Err fault ≡ picks_at found.specs c → entered_at sections unit w at found c ≡ Err (value_fault fault)
unfolding entered_at read_values_at picks_at
taken_refused sections unit w at found c fault read =
    taken_refused_by sections unit w at found (values_at found.specs c) fault (sym read)

-- An entry, after the list of its children was opened.
moved_by : (sections : DebugSections) (unit : Unit) (w v x : Walked) (at : ℕ) (found : Abbrev) (own : Option ℕ) (reading : Result (List Given × Ahead) (Located DwarfKind)) (d : Ahead) → (reading >>= entering sections unit w at found.tag) ≡ Ok (v, d) → own ≡ own_number w found.tag → x ≡ opened v found.children own → (reading >>= moving sections unit w at found) ≡ Ok (x, d)
unfolding moved
moved_by sections unit w v x at found own (Ok values) d is number after =
    let both : entering sections unit w at found.tag values ≡ Ok (v, d) = is in
    let here : entered sections unit w at found.tag values.0 ≡ v = ap (value_or v) both in
    let there : values.1 ≡ d = ap (ahead_or d) both in
    cc
moved_by sections unit w v x at found own (Err fault) d is number after = absurd (grind (arith, is))

pub moved_plain : (sections : DebugSections) (unit : Unit) (w v : Walked) (at : ℕ) (found : Abbrev) (c d : Ahead) → entered_at sections unit w at found c ≡ Ok (v, d) → found.children ≡ false → moved_at sections unit w at found c ≡ Ok (v, d)
unfolding entered_at moved_at
moved_plain sections unit w v at found c d is none =
    moved_by sections unit w v v at found (own_number w found.tag) (read_values_at found.specs c) d is refl (sym (cond-false _ _ _ none))

pub moved_opened : (sections : DebugSections) (unit : Unit) (w v x : Walked) (at : ℕ) (found : Abbrev) (own : Option ℕ) (c d : Ahead) → entered_at sections unit w at found c ≡ Ok (v, d) → found.children ≡ true → own ≡ own_number w found.tag → x ≡ record v { open_levels = v.open_levels ++ own ∷ [] } → moved_at sections unit w at found c ≡ Ok (x, d)
unfolding entered_at moved_at
moved_opened sections unit w v x at found own c d is some number after =
    moved_by sections unit w v x at found own (read_values_at found.specs c) d is number (after ∙ sym (cond-true _ _ _ some))

moved_refused_by : (sections : DebugSections) (unit : Unit) (w : Walked) (at : ℕ) (found : Abbrev) (reading : Result (List Given × Ahead) (Located DwarfKind)) (fault : Located DwarfKind) → (reading >>= entering sections unit w at found.tag) ≡ Err fault → (reading >>= moving sections unit w at found) ≡ Err fault
moved_refused_by sections unit w at found (Ok values) fault is = absurd (grind (arith, is))
moved_refused_by sections unit w at found (Err other) fault is = let same : other ≡ fault = cc in ap Err same

pub moved_refused : (sections : DebugSections) (unit : Unit) (w v : Walked) (at : ℕ) (found : Abbrev) (stop : Stop (Located DwarfKind)) (c d : Ahead) → Moves {U = Prim.Unit {0}} (Err stop) v d (entered_at sections unit w at found c) → Moves {U = Prim.Unit {0}} (Err stop) v d (moved_at sections unit w at found c)
unfolding entered_at moved_at
moved_refused sections unit w v at found (Fault fault) c d is = moved_refused_by sections unit w at found (read_values_at found.specs c) fault is
moved_refused sections unit w v at found NoMemory c d is = tt

-- How many kept entries an entry adds.
pub record Grows (w v : Walked) (tag : ℕ) : Type 0 where
  pub dies : length v.dies ≡ length w.dies + cond (keeps w tag) 1 0
  pub levels : v.open_levels ≡ w.open_levels

grows_by : (sections : DebugSections) (unit : Unit) (w : Walked) (at tag : ℕ) (values : List Given) (first kept : Bool) → nat_eq (length w.dies) 0 ≡ first
    → (length (cond first (begun sections unit w at tag values) (cond kept (added sections unit w at tag values) w)).dies ≡ length w.dies + cond (first || kept) 1 0)
    × ((cond first (begun sections unit w at tag values) (cond kept (added sections unit w at tag values) w)).open_levels ≡ w.open_levels)
grows_by sections unit w at tag values first kept one =
    (grind (arith, nat_tests, one, length-append w.dies (die_of sections unit w.root.str_offsets_base (kept_at at (innermost w.open_levels) tag values) ∷ [])), grind (arith, nat_tests))

entry_grows : (sections : DebugSections) (unit : Unit) (w v : Walked) (at tag : ℕ) (reading : Result (List Given × Ahead) (Located DwarfKind)) (d : Ahead) → (reading >>= entering sections unit w at tag) ≡ Ok (v, d) → Grows w v tag
unfolding entered
entry_grows sections unit w v at tag (Ok values) d is =
    let same : entered sections unit w at tag values.0 ≡ v = ap (value_or v) is in
    let both = grows_by sections unit w at tag values.0 (nat_eq (length w.dies) 0) (is_kept_tag tag) refl in
    record { dies = ap (λ (x : Walked). length x.dies) (sym same) ∙ both.0; levels = ap (λ (x : Walked). x.open_levels) (sym same) ∙ both.1 }
entry_grows sections unit w v at tag (Err fault) d is = absurd (grind (arith, is))

pub taken_grows : (sections : DebugSections) (unit : Unit) (w v : Walked) (at : ℕ) (found : Abbrev) (c d : Ahead) → entered_at sections unit w at found c ≡ Ok (v, d) → Grows w v found.tag
unfolding entered_at
taken_grows sections unit w v at found c d is = entry_grows sections unit w v at found.tag (read_values_at found.specs c) d is

few_by : (kept : Bool) (w v : Walked) → length v.dies ≡ length w.dies + cond kept 1 0 → kept ≡ true → length w.dies < 2 ^ 32 → (1 ≤ length v.dies) × (length v.dies ≤ 2 ^ 32)
few_by true w v is so few = (omega (arith, is), omega (arith, is, few))
few_by false w v is so few = absurd (grind (arith, so))

pub kept_few : (sections : DebugSections) (unit : Unit) (w v : Walked) (at : ℕ) (found : Abbrev) (c d : Ahead) (kept : Bool) → entered_at sections unit w at found c ≡ Ok (v, d) → kept ≡ keeps w found.tag → length w.dies < 2 ^ 32 → kept ≡ true → (1 ≤ length v.dies) × (length v.dies ≤ 2 ^ 32)
kept_few sections unit w v at found c d kept is says few so =
    few_by kept w v ((taken_grows sections unit w v at found c d is).dies ∙ ap (λ b. length w.dies + cond b 1 0) (sym says)) so few

own_by : (kept : Bool) (w v : Walked) → length v.dies ≡ length w.dies + cond kept 1 0 → v.open_levels ≡ w.open_levels → cond kept (Some (length v.dies - 1)) (innermost v.open_levels) ≡ cond kept (Some (length w.dies)) (innermost w.open_levels)
own_by kept w v dies levels = grind (arith, nat_tests, dies, levels)

pub own_is : (sections : DebugSections) (unit : Unit) (w v : Walked) (at : ℕ) (found : Abbrev) (c d : Ahead) (kept : Bool) → entered_at sections unit w at found c ≡ Ok (v, d) → kept ≡ keeps w found.tag → cond kept (Some (length v.dies - 1)) (innermost v.open_levels) ≡ own_number w found.tag
own_is sections unit w v at found c d kept is says =
    let grows = taken_grows sections unit w v at found c d is in
    own_by kept w v (grows.dies ∙ ap (λ b. length w.dies + cond b 1 0) (sym says)) grows.levels
    ∙ ap (λ b. cond b (Some (length w.dies)) (innermost w.open_levels)) says
