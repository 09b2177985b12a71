-- The tables of the units of a file, and of its supplementary file, are units that `Units` accepts.
use Rattle.std.proofs.Common.{◌≡◌, ◌<◌, ◌≤◌, ◌+◌, ◌^◌, ℕ, true, false, List, [], ◌∷◌, ◌++◌, map, length, length-append, Ok, refl, sym, ap, subst, ◌∙◌, arith}
use Rattle.std.proofs.lemmas.List.{append_assoc}
use Rattle.abbrev_units.specs.declared.unit.Unit.{Unit}
use Rattle.abbrev_units.specs.declared.unit.UnitPart.{UnitPart}
use Rattle.abbrev_units.specs.declared.unit.UnitPart.TheVariants.{Read, Passed, Skipped}
use Rattle.abbrev_units.specs.DebugSections.{DebugSections, first_place}
use Rattle.abbrev_units.specs.Units.{units_in}
use Rattle.die_walk.specs.EntryTable.{DieFields}
use Rattle.sym_edges.specs.Rising.{RisesFrom}
use Rattle.debug_units.specs.declared.unit_read.UnitRead.{UnitRead}
use Rattle.debug_units.specs.UnitEntries.{places, ArePairs, AreRead}
use Rattle.abbrev_units.specs.UnitPlaces.{BodyInside, Follow, with_read, read_units}
use Rattle.die_walk.specs.EntryPlaces.{RisesTo}
use Rattle.debug_units.specs.UnitTables.{AreTables}
use Rattle.die_walk.proofs.EntryPlaceLemmas.{places_rise, rises_lower}
use Rattle.abbrev_units.proofs.UnitPlaceLemmas.{units_follow}

rises_append : (low mid high : ℕ) (xs ys : List ℕ) → low ≤ mid + 1 → mid ≤ high → RisesTo low mid xs → RisesTo (mid + 1) high ys → RisesTo low high (xs ++ ys)
rises_append low mid high [] ys below inside first later = rises_lower low (mid + 1) high ys below later
rises_append low mid high (x ∷ xs) ys below inside first later =
    (first.0, omega (arith, first.1), rises_append (x + 1) mid high xs ys (omega (arith, first.1)) inside first.2 later)

rises_from : (low high : ℕ) (xs : List ℕ) → RisesTo low high xs → RisesFrom low xs
rises_from low high [] rise = tt
rises_from low high (x ∷ xs) rise = (rise.0, rises_from (x + 1) high xs rise.2)

rises_count : (low high : ℕ) (xs : List ℕ) → low ≤ high + 1 → RisesTo low high xs → length xs + low ≤ high + 1
rises_count low high [] below rise = omega arith
rises_count low high (x ∷ xs) below rise = omega (arith, rise.0, rise.1, rises_count (x + 1) high xs (omega (arith, rise.1)) rise.2)

-- The entries of all units are after a place, and ascend.
unit_rises : (s : ℕ) (sections : DebugSections) (unit : Unit) (which : UnitPart) (later : List Unit) (parts : List UnitRead) (low high : ℕ) → s ≡ first_place sections.is_sup → low ≤ unit.start → unit.end ≤ high → high ≤ length sections.info → BodyInside unit which → AreTables sections (with_read unit which later) parts → ((rest : List UnitRead) → AreTables sections later rest → RisesTo (s + unit.end + 1) (s + high) (places rest)) → unit.start < unit.end → RisesTo (s + low + 1) (s + high) (places parts)
unit_rises s sections unit Read later [] low high is start last small body tables rise some = absurd tables
unit_rises s sections unit Read later (part ∷ parts) low high is start last small body tables rise some =
    let own = places_rise sections unit tables.0.abbrevs part.die body.1 (omega arith) tables.0.table in
    rises_append (s + low + 1) (s + unit.end) (s + high) (map (λ (d : DieFields). d.at) part.die.dies) (places parts) (omega arith) (omega arith)
    (rises_lower (s + low + 1) (s + unit.body) (s + unit.end) (map (λ (d : DieFields). d.at) part.die.dies) (omega (arith, body.0)) (rw is own)) (rise parts tables.1)
unit_rises s sections unit Passed later parts low high is start last small body tables rise some = rises_lower (s + low + 1) (s + unit.end + 1) (s + high) (places parts) (omega arith) (rise parts tables)
unit_rises s sections unit Skipped later parts low high is start last small body tables rise some = rises_lower (s + low + 1) (s + unit.end + 1) (s + high) (places parts) (omega arith) (rise parts tables)

parts_rise : (s : ℕ) (sections : DebugSections) (units : List Unit) (parts : List UnitRead) (low high : ℕ) → s ≡ first_place sections.is_sup → high ≤ length sections.info → Follow low high units → AreTables sections (read_units units) parts → RisesTo (s + low + 1) (s + high) (places parts)
parts_rise s sections [] [] low high is small follow tables = tt
parts_rise s sections [] (part ∷ parts) low high is small follow tables = absurd tables
parts_rise s sections (unit ∷ units) parts low high is small follow tables =
    unit_rises s sections unit unit.part (read_units units) parts low high is follow.0 follow.2 small follow.3 tables (λ rest later. parts_rise s sections units rest unit.end high is small follow.4 later) follow.1

-- There are no more units than bytes.
unit_few : (sections : DebugSections) (unit : Unit) (which : UnitPart) (later : List Unit) (parts : List UnitRead) (low high : ℕ) → low ≤ unit.start → unit.start < unit.end → AreTables sections (with_read unit which later) parts → ((rest : List UnitRead) → AreTables sections later rest → length rest + unit.end ≤ high) → length parts + low ≤ high
unit_few sections unit Read later [] low high start some tables few = absurd tables
unit_few sections unit Read later (part ∷ parts) low high start some tables few =
    omega (arith, few parts tables.1)
unit_few sections unit Passed later parts low high start some tables few = omega (arith, few parts tables)
unit_few sections unit Skipped later parts low high start some tables few = omega (arith, few parts tables)

parts_few : (sections : DebugSections) (units : List Unit) (parts : List UnitRead) (low high : ℕ) → low ≤ high → Follow low high units → AreTables sections (read_units units) parts → length parts + low ≤ high
parts_few sections [] [] low high inside follow tables = omega arith
parts_few sections [] (part ∷ parts) low high inside follow tables = absurd tables
parts_few sections (unit ∷ units) parts low high inside follow tables =
    unit_few sections unit unit.part (read_units units) parts low high follow.0 follow.1 tables (λ rest later. parts_few sections units rest unit.end high follow.2 follow.4 later)

-- The units of one file. The places of their entries ascend between these limits, and there are no
-- more units and entries than bytes.
record RiseIn (low high : ℕ) (parts : List UnitRead) : Type 0 where
  few : length parts ≤ high
  rise : RisesTo (low + 1) (low + high) (places parts)

rise_in : (s : ℕ) (sections : DebugSections) (units : List Unit) (parts : List UnitRead) → s ≡ first_place sections.is_sup → units_in sections.info ≡ Ok units → AreTables sections (read_units units) parts → RiseIn s (length sections.info) parts
rise_in s sections units parts first is tables =
    let follow = units_follow sections.info units is in
    record {
      few = omega (arith, parts_few sections units parts 0 (length sections.info) (omega arith) follow tables);
      rise = rises_lower (s + 1) (s + 0 + 1) (s + length sections.info) (places parts) (omega arith) (parts_rise s sections units parts 0 (length sections.info) first (omega arith) follow tables);
    }

rises_higher : (low high more : ℕ) (xs : List ℕ) → high ≤ more → RisesTo low high xs → RisesTo low more xs
rises_higher low high more [] above rise = tt
rises_higher low high more (x ∷ xs) above rise = (rise.0, omega (arith, rise.1), rises_higher (x + 1) high more xs above rise.2)

both_places : (parts more : List UnitRead) → places (parts ++ more) ≡ places parts ++ places more
both_places [] more = refl
both_places (part ∷ parts) more =
    ap (λ (later : List ℕ). map (λ (d : DieFields). d.at) part.die.dies ++ later) (both_places parts more)
    ∙ sym (append_assoc (map (λ (d : DieFields). d.at) part.die.dies) (places parts) (places more))

-- The units of a file, followed by those of its supplementary file, given how many bytes each file
-- may have.
both_rise : (most own other : ℕ) (parts more : List UnitRead) → own ≤ most → other ≤ most → RiseIn 0 own parts → RiseIn most other more → RisesTo 1 (most + other) (places (parts ++ more))
both_rise most own other parts more small others first second =
    subst (RisesTo 1 (most + other)) (sym (both_places parts more))
    (rises_append 1 most (most + other) (places parts) (places more) (omega arith) (omega arith)
    (rises_lower 1 (0 + 1) most (places parts) (omega arith) (rises_higher (0 + 1) (0 + own) most (places parts) (omega (arith, small)) first.rise)) second.rise)

read_by : (most own other : ℕ) (parts more : List UnitRead) → most ≡ 2 ^ 29 → own ≤ most → other ≤ most → RiseIn 0 own parts → RiseIn most other more → ArePairs (parts ++ more) → AreRead (parts ++ more)
read_by most own other parts more is small others first second pairs =
    let rise = both_rise most own other parts more small others first second in
    let count = rises_count 1 (most + other) (places (parts ++ more)) (omega arith) rise in
    record {
      few = omega (arith, length-append parts more, first.few, second.few, is, small, others);
      few_entries = omega (arith, count, is, others);
      paired = pairs;
      rising = rises_from 0 (most + other) (places (parts ++ more)) (rises_lower 0 1 (most + other) (places (parts ++ more)) (omega arith) rise);
    }

pub are_read : (own sup : DebugSections) (units others : List Unit) (parts more : List UnitRead) → own.is_sup ≡ false → sup.is_sup ≡ true → length own.info ≤ 2 ^ 29 → length sup.info ≤ 2 ^ 29 → units_in own.info ≡ Ok units → units_in sup.info ≡ Ok others
    → AreTables own (read_units units) parts → AreTables sup (read_units others) more → ArePairs (parts ++ more) → AreRead (parts ++ more)
are_read own sup units others parts more here there small other_small is other_is tables other_tables pairs =
    read_by (2 ^ 29) (length own.info) (length sup.info) parts more refl small other_small
    (rise_in 0 own units parts (ap first_place (sym here)) is tables) (rise_in (2 ^ 29) sup others more (ap first_place (sym there)) other_is other_tables) pairs
