-- Lists at the same place give the same pairs to all entries; only a fault names the entry.
use Rattle.std.proofs.Common.{◌≡◌, ℕ, zero, suc, ◌+◌, ◌*◌, nat_lt, Bool, true, false, cond, List, [], ◌∷◌, length, Option, None, Some, Result, Ok, Err, refl, sym, ap, subst, ◌∙◌}
use Rattle.std.specs.List.{slice_get}
use Rattle.std.proofs.lemmas.Bool.{cond-false}
use Rattle.sym_edges.specs.Addresses.{Range}
use Rattle.sym_edges.specs.Results.{◌>>=◌}
use Rattle.sym_edges.specs.declared.located.Located.{Located}
use Rattle.sym_edges.specs.declared.part.Sect.{Sect}
use Rattle.sym_edges.specs.declared.part.Sect.TheVariants as section
use Rattle.leb_cursor.specs.Ahead.{Ahead}
use Rattle.leb_cursor.specs.Lists.{list_by, list_in, list_at}
use Rattle.leb_cursor.specs.Readings.{fixed_at}
use Rattle.abbrev_units.specs.declared.fault.DwarfKind.{DwarfKind}
use Rattle.abbrev_units.specs.declared.fault.DwarfKind.TheVariants as is
use Rattle.abbrev_units.specs.declared.unit.Unit.{Unit}
use Rattle.abbrev_units.specs.DebugSections.{DebugSections}
use Rattle.abbrev_units.specs.Faults.{read_in}
use Rattle.abbrev_units.specs.Texts.{ahead_from}
use Rattle.die_walk.specs.EntryKinds.{counts}
use Rattle.die_walk.specs.EntryTable.{DieFields, RootFields}
use Rattle.range_lists.specs.declared.item.RangeItem.{RangeItem}
use Rattle.range_lists.specs.declared.item.RangeItem.TheVariants as item
use Rattle.range_lists.specs.declared.effect.Effect.TheVariants as effect
use Rattle.range_lists.specs.AddressTable.{AddressTable}
use Rattle.range_lists.specs.Places.{entry_fault, ahead_in, number_there, address_at}
use Rattle.range_lists.specs.ListItems.{item_at}
use Rattle.range_lists.specs.ListPairs.{moved, effect_of, list_section, in_list, effect_by, effect_at, pairs_from, list_pairs}
use Rattle.range_lists.specs.EntryRanges.{addresses_for, list_bytes, list_place, list_from, list_of, pairs_by, pairs_of, pairs_at, told_place, place_of_list, listed_at}

-- The second result is equal to the first, if the first is no fault.
abbrev Alike : {A F : Type 0} → Result A F → Result A F → Type 0
Alike (Ok x) other = other ≡ Ok x
Alike (Err fault) other = Prim.Unit {0}

same_alike : {A F : Type 0} (one : Result A F) → Alike one one
same_alike (Ok x) = refl
same_alike (Err fault) = tt

then_alike : {A B F : Type 0} (one other : Result A F) (next after : A → Result B F) → Alike one other → ((x : A) → Alike (next x) (after x)) → Alike (one >>= next) (other >>= after)
then_alike (Ok x) other next after same later = subst (λ (r : Result _ _). Alike (next x) (r >>= after)) (sym same) (later x)
then_alike (Err fault) other next after same later = tt

read_alike : {A F : Type 0} (one other : Result A F) (x : A) → Alike one other → one ≡ Ok x → other ≡ Ok x
read_alike one other x same is = subst (λ (r : Result _ _). Alike r other) is same

-- A place, and the number at it.
past_alike : (past : Bool) (fault later : Located DwarfKind) (c : Ahead) → Alike {A = Ahead} (cond past (Err fault) (Ok c)) (cond past (Err later) (Ok c))
past_alike true fault later c = tt
past_alike false fault later c = refl

ahead_alike : (bytes : List ℕ) (at other place : ℕ) → Alike (ahead_in bytes at place) (ahead_in bytes other place)
unfolding ahead_in
ahead_alike bytes at other place = past_alike (nat_lt (length bytes) place) (entry_fault is.OffsetOutside at) (entry_fault is.OffsetOutside other) (ahead_from place bytes)

number_alike : (section : Sect) (width : ℕ) (bytes : List ℕ) (at other place : ℕ) → Alike (number_there section width bytes at place) (number_there section width bytes other place)
unfolding number_there
number_alike section width bytes at other place =
    then_alike (ahead_in bytes at place) (ahead_in bytes other place)
    (λ c. read_in section (fixed_at width c) >>= λ number. Ok number.0) (λ c. read_in section (fixed_at width c) >>= λ number. Ok number.0)
    (ahead_alike bytes at other place) (λ c. same_alike (read_in section (fixed_at width c) >>= λ number. Ok number.0))

-- The table in which the entry at a place finds addresses by index.
abbrev asked : List ℕ → Option ℕ → ℕ → AddressTable
asked bytes base at = record { bytes = bytes; base = base; at = at }

address_alike : (bytes : List ℕ) (base : Option ℕ) (at other index : ℕ) → Alike (address_at (asked bytes base at) index) (address_at (asked bytes base other) index)
unfolding address_at
address_alike bytes None at other index = tt
address_alike bytes (Some base) at other index = number_alike section.Addr 8 bytes at other (base + 8 * index)

-- What an item does.
effect_alike : (bytes : List ℕ) (base : Option ℕ) (at other : ℕ) (found : RangeItem) → Alike (effect_of (asked bytes base at) found) (effect_of (asked bytes base other) found)
unfolding effect_of
effect_alike bytes base at other (item.BaseAddressx index) =
    then_alike (address_at (asked bytes base at) index) (address_at (asked bytes base other) index) (λ address. Ok (effect.SetBase address)) (λ address. Ok (effect.SetBase address))
    (address_alike bytes base at other index) (λ address. refl)
effect_alike bytes base at other (item.StartxEndx first last) =
    then_alike (address_at (asked bytes base at) first) (address_at (asked bytes base other) first)
    (λ start. address_at (asked bytes base at) last >>= λ end. Ok (effect.Absolute start end)) (λ start. address_at (asked bytes base other) last >>= λ end. Ok (effect.Absolute start end))
    (address_alike bytes base at other first)
    (λ start. then_alike (address_at (asked bytes base at) last) (address_at (asked bytes base other) last) (λ end. Ok (effect.Absolute start end)) (λ end. Ok (effect.Absolute start end))
    (address_alike bytes base at other last) (λ end. refl))
effect_alike bytes base at other (item.StartxLength index len) =
    then_alike (address_at (asked bytes base at) index) (address_at (asked bytes base other) index) (λ start. Ok (effect.Absolute start (moved start len))) (λ start. Ok (effect.Absolute start (moved start len)))
    (address_alike bytes base at other index) (λ start. refl)
effect_alike bytes base at other (item.OffsetPair start end) = refl
effect_alike bytes base at other (item.BaseAddress address) = refl
effect_alike bytes base at other (item.StartEnd start end) = refl
effect_alike bytes base at other (item.StartLength start len) = refl

by_alike : (bytes : List ℕ) (base : Option ℕ) (at other : ℕ) (found : Option RangeItem) (c : Ahead) → Alike (effect_by (asked bytes base at) found c) (effect_by (asked bytes base other) found c)
by_alike bytes base at other None c = refl
by_alike bytes base at other (Some found) c =
    then_alike (effect_of (asked bytes base at) found) (effect_of (asked bytes base other) found) (λ does. Ok (Some does, c)) (λ does. Ok (Some does, c))
    (effect_alike bytes base at other found) (λ does. refl)

ahead_does_alike : (version : ℕ) (bytes : List ℕ) (base : Option ℕ) (at other : ℕ) (c : Ahead) → Alike (effect_at version (asked bytes base at) c) (effect_at version (asked bytes base other) c)
unfolding effect_at
ahead_does_alike version bytes base at other c =
    then_alike (in_list (list_section version) (item_at version c)) (in_list (list_section version) (item_at version c))
    (λ found. effect_by (asked bytes base at) found.0 found.1) (λ found. effect_by (asked bytes base other) found.0 found.1)
    (same_alike (in_list (list_section version) (item_at version c))) (λ found. by_alike bytes base at other found.0 found.1)

-- Two lists whose readings are alike are alike.
first_alike : {A E : Type 0} (first : Option A) (c : Ahead) (one other : Result (List A × Ahead) E) → Alike one other → Alike (list_by first c one) (list_by first c other)
first_alike None c one other same = refl
first_alike (Some member) c one other same =
    then_alike one other (λ rest. Ok (member ∷ rest.0, rest.1)) (λ rest. Ok (member ∷ rest.0, rest.1)) same (λ rest. refl)

in_alike : {A E : Type 0} (read again : Ahead → Result (Option A × Ahead) E) → ((c : Ahead) → Alike (read c) (again c)) → (n : ℕ) (c : Ahead) → Alike (list_in read n c) (list_in again n c)
unfolding list_in
in_alike read again same zero c = refl
in_alike read again same (suc n) c =
    then_alike (read c) (again c) (λ first. list_by first.0 first.1 (list_in read n first.1)) (λ first. list_by first.0 first.1 (list_in again n first.1))
    (same c) (λ first. first_alike first.0 first.1 (list_in read n first.1) (list_in again n first.1) (in_alike read again same n first.1))

lists_alike : {A E : Type 0} (read again : Ahead → Result (Option A × Ahead) E) → ((c : Ahead) → Alike (read c) (again c)) → (c : Ahead) → Alike (list_at read c) (list_at again c)
unfolding list_at
lists_alike read again same c = in_alike read again same (suc (length c.bytes)) c

pairs_alike : (version : ℕ) (bytes : List ℕ) (base : Option ℕ) (at other from : ℕ) (c : Ahead) → Alike (list_pairs version (asked bytes base at) from c) (list_pairs version (asked bytes base other) from c)
unfolding list_pairs
pairs_alike version bytes base at other from c =
    then_alike (list_at (effect_at version (asked bytes base at)) c) (list_at (effect_at version (asked bytes base other)) c)
    (λ effects. Ok (pairs_from from effects.0)) (λ effects. Ok (pairs_from from effects.0))
    (lists_alike (effect_at version (asked bytes base at)) (effect_at version (asked bytes base other)) (ahead_does_alike version bytes base at other) c) (λ effects. refl)

-- The pairs of an entry, given the place of its list.
told_is : (told : Result (Option ℕ) (Located DwarfKind)) (place : ℕ) → told_place told ≡ Some place → told ≡ Ok (Some place)
told_is (Ok found) place is = ap Ok is
told_is (Err fault) place is = absurd (cc)

counted : (test : Bool) (told : Option ℕ) (place : ℕ) → cond test told None ≡ Some place → (test ≡ true) × (told ≡ Some place)
counted true told place is = (refl, is)
counted false told place is = absurd (cc)

some_then : {A B F : Type 0} (r : Result A F) (next : Option A → Result B F) → ((r >>= λ x. Ok (Some x)) >>= next) ≡ (r >>= λ x. next (Some x))
some_then (Ok x) next = refl
some_then (Err fault) next = refl

abbrev pairs_there : DebugSections → Unit → RootFields → ℕ → ℕ → ℕ → Result (List Range) (Located DwarfKind)
pairs_there sections unit root base place at =
    ahead_in (list_bytes sections unit) at place >>= λ list. list_pairs unit.version (addresses_for sections root at) base list

pairs_listed : (sections : DebugSections) (unit : Unit) (root : RootFields) (base place : ℕ) (die : DieFields) → place_of_list sections unit root die ≡ Some place → pairs_of sections unit root base die ≡ pairs_there sections unit root base place die.at
unfolding place_of_list pairs_of list_of
pairs_listed sections unit root base place die is =
    let both = counted (counts die) (told_place (list_place sections unit root die.at die.ranges)) place is in
    let next : Option Ahead → Result (List Range) (Located DwarfKind) = λ list. pairs_by (addresses_for sections root die.at) unit.version base die list in
    ap (λ test. cond test ((list_place sections unit root die.at die.ranges >>= λ found. list_from (list_bytes sections unit) die.at found) >>= next) (Ok [])) both.0
    ∙ ap (λ told. (told >>= λ found. list_from (list_bytes sections unit) die.at found) >>= next) (told_is (list_place sections unit root die.at die.ranges) place both.1)
    ∙ some_then (ahead_in (list_bytes sections unit) die.at place) next

there_alike : (sections : DebugSections) (unit : Unit) (root : RootFields) (base place at other : ℕ) → Alike (pairs_there sections unit root base place at) (pairs_there sections unit root base place other)
there_alike sections unit root base place at other =
    then_alike (ahead_in (list_bytes sections unit) at place) (ahead_in (list_bytes sections unit) other place)
    (λ list. list_pairs unit.version (addresses_for sections root at) base list) (λ list. list_pairs unit.version (addresses_for sections root other) base list)
    (ahead_alike (list_bytes sections unit) at other place) (λ list. pairs_alike unit.version sections.addr root.addr_base at other base list)

pub one_place : (sections : DebugSections) (unit : Unit) (root : RootFields) (base place : ℕ) (one other : Option DieFields) (pairs : List Range)
    → listed_at sections unit root one ≡ Some place → listed_at sections unit root other ≡ Some place
    → pairs_at sections unit root base one ≡ Ok pairs → pairs_at sections unit root base other ≡ Ok pairs
one_place sections unit root base place None other pairs first second gives = absurd (cc)
one_place sections unit root base place (Some one) None pairs first second gives = absurd (cc)
one_place sections unit root base place (Some one) (Some other) pairs first second gives =
    pairs_listed sections unit root base place other second
    ∙ read_alike (pairs_there sections unit root base place one.at) (pairs_there sections unit root base place other.at) pairs
    (there_alike sections unit root base place one.at other.at) (sym (pairs_listed sections unit root base place one first) ∙ gives)

-- An entry that does not count gives no pairs.
not_counted : (sections : DebugSections) (unit : Unit) (root : RootFields) (base : ℕ) (die : DieFields) → counts die ≡ false → pairs_of sections unit root base die ≡ Ok []
unfolding pairs_of
not_counted sections unit root base die none = cond-false _ _ _ none

pub none_counted : (root : RootFields) (dies : List DieFields) (entry : ℕ) (die : DieFields) (b : Bool) → Some die ≡ slice_get dies entry → b ≡ counts die → b ≡ false → (sections : DebugSections) (unit : Unit) (base : ℕ) → pairs_at sections unit root base (slice_get dies entry) ≡ Ok []
none_counted root dies entry die b there is none sections unit base =
    subst (λ (o : Option DieFields). pairs_at sections unit root base o ≡ Ok []) there (not_counted sections unit root base die (sym is ∙ none))

pub none_there : (root : RootFields) (dies : List DieFields) (entry : ℕ) → None ≡ slice_get dies entry → (sections : DebugSections) (unit : Unit) (base : ℕ) → pairs_at sections unit root base (slice_get dies entry) ≡ Ok []
none_there root dies entry there sections unit base = subst (λ (o : Option DieFields). pairs_at sections unit root base o ≡ Ok []) there refl
