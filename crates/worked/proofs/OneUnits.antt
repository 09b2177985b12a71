-- The addresses of code, of entries and of owners are below 2^64.
use Rattle.std.proofs.Common.{◌≡◌, ℕ, ◌+◌, ◌<◌, ◌≤◌, ◌^◌, ◌&&◌, ◌||◌, cond, Bool, true, false, nat_le, nat_lt, List, [], ◌∷◌, ◌++◌, Option, None, Some, arith, refl, sym, ◌∙◌}
use Rattle.std.specs.List.{list_any, filter_map, cons_option, find}
use Rattle.std.specs.Option.{option_map}
use Rattle.std.proofs.lemmas.Bool.{and_parts, leb-true, ltb-true}
use Rattle.sym_edges.specs.Addresses.{Range}
use Rattle.range_set.specs.Enclosing.{encloses}
use Rattle.range_set.specs.Members.{holds, holds_any}
use Rattle.elf_sections.specs.declared.section.SectionHeader.{SectionHeader}
use Rattle.elf_sections.specs.Sections.{has_flag}
use Rattle.elf_sections.specs.ElfNumbers.{shf_alloc, shf_execinstr}
use Rattle.elf_sections.specs.Programs.{code_range}
use Rattle.elf_sections.specs.Programs as elf
use Rattle.range_lists.specs.EntryRanges.{is_code, in_pairs}
use Rattle.die_walk.specs.EntryTable.{DieFields}
use Rattle.debug_units.specs.declared.unit_read.EntryRef.{EntryRef}
use Rattle.debug_units.specs.declared.unit_read.UnitRead.{UnitRead}
use Rattle.die_walk.specs.EntryKinds.{is_function}
use Rattle.debug_units.specs.Owners.{Covering, unit_covering, covering_from, owner}
use Rattle.func_flatten.specs.Pieces.{place_of, owner_place}
use Rattle.debug_read.specs.Each.{Match}
use Rattle.debug_read.specs.UnitSays.{UnitSays}
use Rattle.debug_read.specs.UnitsRead.{IsSet, IsUnitRead}

-- Code ends below 2^64.
abbrev pub EndBelow : List Range → Type 0
EndBelow [] = Prim.Unit {0}
EndBelow (r ∷ code) = (r.end < 2 ^ 64) × EndBelow code

section_ends : (base : ℕ) (s : SectionHeader) → elf.is_code base s ≡ true → s.address + s.size < 2 ^ 64
unfolding elf.is_code
section_ends base s is =
    let placed = and_parts (has_flag shf_alloc s && has_flag shf_execinstr s) _ is in
    let above = and_parts (nat_lt 0 s.size) _ placed.1 in
    ltb-true (s.address + s.size) (2 ^ 64) (and_parts (nat_le base s.address) _ above.1).1

onto_below : (b : Bool) (range : Range) (ranges : List Range) → (b ≡ true → range.end < 2 ^ 64) → EndBelow ranges → EndBelow (cons_option (cond b (Some range) None) ranges)
onto_below true range ranges here all = (here refl, all)
onto_below false range ranges here all = all

pub code_below : (base : ℕ) (sections : List SectionHeader) → EndBelow (filter_map (code_range base) sections)
unfolding code_range
code_below base [] = tt
code_below base (s ∷ sections) = onto_below (elf.is_code base s) (record { start = s.address; end = s.address + s.size }) (filter_map (code_range base) sections) (section_ends base s) (code_below base sections)

-- The addresses of entries are below 2^64.
or_either : (b c : Bool) (P : Type 0) → (b || c) ≡ true → (b ≡ true → P) → (c ≡ true → P) → P
or_either true c P is first second = first refl
or_either false c P is first second = second is

enclosed_below : (code : List Range) (start end : ℕ) → EndBelow code → encloses code start end ≡ true → end < 2 ^ 64
unfolding encloses
enclosed_below [] start end below is = absurd (cc)
enclosed_below (r ∷ code) start end below is =
    or_either (nat_le r.start start && nat_le end r.end) (list_any (λ (s : Range). nat_le s.start start && nat_le end s.end) code) (end < 2 ^ 64) is
    (λ here. let high : end ≤ r.end = leb-true end r.end (and_parts (nat_le r.start start) _ here).1 in omega (arith, high, below.0))
    (λ later. enclosed_below code start end below.1 later)

pair_below : (code : List Range) (pair : Range) (a : ℕ) → EndBelow code → (is_code code pair && holds pair a) ≡ true → a < 2 ^ 64
pair_below code pair a below is =
    let both = and_parts (is_code code pair) (holds pair a) is in
    let end : pair.end < 2 ^ 64 = enclosed_below code pair.start pair.end below (and_parts (nat_lt pair.start pair.end) _ both.0).1 in
    let high : a < pair.end = ltb-true a pair.end (and_parts (nat_le pair.start a) _ both.1).1 in
    omega (arith, end, high)

pairs_below : (code pairs : List Range) (a : ℕ) → EndBelow code → in_pairs code pairs a ≡ true → a < 2 ^ 64
pairs_below code [] a below is = absurd (cc)
pairs_below code (pair ∷ pairs) a below is =
    or_either (is_code code pair && holds pair a) (in_pairs code pairs a) (a < 2 ^ 64) is (λ here. pair_below code pair a below here) (λ later. pairs_below code pairs a below later)

abbrev pub AreSmallSets : List (List Range) → Type 0
AreSmallSets [] = Prim.Unit {0}
AreSmallSets (spans ∷ sets) = ((a : ℕ) → holds_any spans a ≡ true → a < 2 ^ 64) × AreSmallSets sets

-- All addresses of entries are below 2^64.
abbrev pub AreSmall : List UnitRead → Type 0
AreSmall [] = Prim.Unit {0}
AreSmall (u ∷ us) = AreSmallSets u.spans × AreSmall us

small_sets : (code : List Range) (pairs sets : List (List Range)) → EndBelow code → Match (IsSet code) pairs sets → AreSmallSets sets
small_sets code [] [] below are = tt
small_sets code [] (s ∷ sets) below are = absurd are
small_sets code (p ∷ pairs) [] below are = absurd are
small_sets code (p ∷ pairs) (s ∷ sets) below are = (λ a held. pairs_below code p a below (sym (are.0.each a) ∙ held), small_sets code pairs sets below are.1)

pub small_units : (code : List Range) (says : List UnitSays) (us : List UnitRead) → EndBelow code → Match (IsUnitRead code) says us → AreSmall us
small_units code [] [] below are = tt
small_units code [] (u ∷ us) below are = absurd are
small_units code (s ∷ says) [] below are = absurd are
small_units code (s ∷ says) (u ∷ us) below are = (small_sets code s.pairs u.spans below are.0.spans, small_units code says us below are.1)

-- An address that has an owner is below 2^64.
abbrev AreSmallEntries : List Covering → Type 0
AreSmallEntries [] = Prim.Unit {0}
AreSmallEntries (c ∷ later) = ((a : ℕ) → holds_any c.spans a ≡ true → a < 2 ^ 64) × AreSmallEntries later

small_joined : (cs ds : List Covering) → AreSmallEntries cs → AreSmallEntries ds → AreSmallEntries (cs ++ ds)
small_joined [] ds p q = q
small_joined (c ∷ cs) ds p q = (p.0, small_joined cs ds p.1 q)

small_covering : (unit entry : ℕ) (dies : List DieFields) (sets : List (List Range)) → AreSmallSets sets → AreSmallEntries (unit_covering unit entry dies sets)
small_covering unit entry [] sets small = tt
small_covering unit entry (die ∷ dies) [] small = tt
small_covering unit entry (die ∷ dies) (spans ∷ sets) small = (small.0, small_covering unit (entry + 1) dies sets small.1)

small_from : (unit : ℕ) (us : List UnitRead) → AreSmall us → AreSmallEntries (covering_from unit us)
small_from unit [] small = tt
small_from unit (u ∷ us) small = small_joined (unit_covering unit 0 u.die.dies u.spans) (covering_from (unit + 1) us) (small_covering unit 0 u.die.dies u.spans small.0) (small_from (unit + 1) us small.1)

small_found : (cs : List Covering) (a : ℕ) (c : Covering) → AreSmallEntries cs → find (λ (d : Covering). is_function d.die && holds_any d.spans a) cs ≡ Some c → a < 2 ^ 64
small_found [] a c small is = absurd (cc)
small_found (d ∷ cs) a c small is = go (is_function d.die && holds_any d.spans a) refl (λ found. small_found cs a c small.1 found) is
  where
    go : (b : Bool) → (is_function d.die && holds_any d.spans a) ≡ b → (find (λ (e : Covering). is_function e.die && holds_any e.spans a) cs ≡ Some c → a < 2 ^ 64) → cond b (Some d) (find (λ (e : Covering). is_function e.die && holds_any e.spans a) cs) ≡ Some c → a < 2 ^ 64
    go true here later found = small.0 a (and_parts (is_function d.die) (holds_any d.spans a) here).1
    go false here later found = later found

some_placed : (o : Option Covering) (place : EntryRef) (a : ℕ) → ((c : Covering) → o ≡ Some c → a < 2 ^ 64) → option_map place_of o ≡ Some place → a < 2 ^ 64
some_placed None place a small is = absurd (cc)
some_placed (Some c) place a small is = small c refl

pub owned_small : (us : List UnitRead) (a : ℕ) (place : EntryRef) → AreSmall us → owner_place us a ≡ Some place → a < 2 ^ 64
unfolding owner_place owner
owned_small us a place small is = some_placed (owner us a) place a (λ c. small_found (covering_from 0 us) a c (small_from 0 us small)) is
