-- What is kept of a unit, and what follows from it.
use Rattle.std.proofs.Common.{◌≡◌, ◌<◌, ◌≤◌, ◌+◌, ◌^◌, ℕ, Bool, true, false, cond, List, [], ◌∷◌, map, length, Option, Result, Ok, Err, refl, sym, ap, ◌∙◌, arith}
use Rattle.sym_edges.specs.Addresses.{Range}
use Rattle.sym_edges.specs.Results.{◌>>=◌}
use Rattle.sym_edges.specs.declared.located.Located.{Located}
use Rattle.abbrev_units.specs.SpecFields.{Abbrev}
use Rattle.abbrev_units.specs.declared.fault.DwarfKind.{DwarfKind}
use Rattle.abbrev_units.specs.declared.unit.Unit.{Unit}
use Rattle.abbrev_units.specs.DebugSections.{DebugSections, first_place}
use Rattle.abbrev_units.specs.Abbreviations.{abbrevs_of}
use Rattle.die_walk.specs.EntryTable.{DieFields, RootFields, EntryTable, entry_table}
use Rattle.range_lists.specs.EntryRanges.{unit_base, pairs_of, in_ranges}
use Rattle.line_program.specs.LineAt.{Lines}
use Rattle.line_program.specs.LineMaps.{LineMap}
use Rattle.debug_units.specs.declared.unit_read.UnitRead.{UnitRead}
use Rattle.die_walk.specs.EntryKinds.{counts}
use Rattle.debug_units.specs.UnitEntries.{ArePaired, ArePairs}
use Rattle.die_walk.specs.EntryPlaces.{RisesTo}
use Rattle.debug_units.specs.UnitTables.{IsTable, AreTables}
use Rattle.die_walk.proofs.EntryPlaceLemmas.{places_rise}
use Rattle.debug_read.specs.Each.{each_of, Match, Says}
use Rattle.debug_read.specs.UnitSays.{UnitSays, no_pairs, own_pairs, unit_pairs, root_lines, unit_says}
use Rattle.debug_read.specs.UnitsRead.{IsSet, has_function, KeepsLines, IsUnitRead}
use Rattle.debug_read.specs.internal.Owing.{HoldsUnit}
use Rattle.debug_read.proofs.EachLemmas.{says_first}
use Rattle.debug_read.proofs.SetLemmas.{sets_alike, no_address}

abbrev Fault : Type 0
Fault = Located DwarfKind

-- A unit has no more entries than bytes.
few_between : (low high : ℕ) (dies : List DieFields) → low ≤ high + 1 → RisesTo low high (map (λ (d : DieFields). d.at) dies) → length dies + low ≤ high + 1
few_between low high [] below rise = omega arith
few_between low high (die ∷ dies) below rise =
    omega (arith, rise.0, rise.1, few_between (die.at + 1) high dies (omega (arith, rise.1)) rise.2)

few_from : (first body last : ℕ) (dies : List DieFields) → body ≤ last → last ≤ 2 ^ 29 → RisesTo (first + body) (first + last) (map (λ (d : DieFields). d.at) dies) → length dies < 2 ^ 32
few_from first body last dies ordered small rise = omega (arith, few_between (first + body) (first + last) dies (omega arith) rise)

pub few_dies : (sections : DebugSections) (unit : Unit) (abbrevs : List Abbrev) (table : EntryTable) → unit.body ≤ unit.end → unit.end ≤ length sections.info → length sections.info ≤ 2 ^ 29 → entry_table sections unit abbrevs ≡ Ok table → length table.dies < 2 ^ 32
few_dies sections unit abbrevs table ordered inside small is =
    few_from (first_place sections.is_sup) unit.body unit.end table.dies ordered (omega (arith, inside, small)) (places_rise sections unit abbrevs table ordered inside is)

-- The steps of reading a unit.
abbrev with_lines : EntryTable → List (List Range) → Option Lines → Result UnitSays Fault
with_lines table pairs lines = Ok (record { table = table; pairs = pairs; lines = lines })

abbrev with_pairs : DebugSections → EntryTable → List (List Range) → Result UnitSays Fault
with_pairs sections table pairs = root_lines sections table.root >>= with_lines table pairs

abbrev with_table : DebugSections → Unit → EntryTable → Result UnitSays Fault
with_table sections unit table = unit_pairs sections unit table >>= with_pairs sections table

abbrev with_abbrevs : DebugSections → Unit → List Abbrev → Result UnitSays Fault
with_abbrevs sections unit abbrevs = entry_table sections unit abbrevs >>= with_table sections unit

says_lines : (spans : List Range) (table : EntryTable) (pairs sets : List (List Range)) (read : Result (Option Lines) Fault) (lines : LineMap) → Match (IsSet spans) pairs sets → Says (KeepsLines spans (has_function table.dies)) read lines → Says (IsUnitRead spans) (read >>= with_lines table pairs) (record { die = table; spans = sets; lines = lines })
says_lines spans table pairs sets (Ok found) lines same keeps = record { die = refl; spans = same; lines = keeps }
says_lines spans table pairs sets (Err fault) lines same keeps = absurd keeps

says_pairs : (sections : DebugSections) (code spans : List Range) (table : EntryTable) (read : Result (List (List Range)) Fault) (sets : List (List Range)) (lines : LineMap) → ((given : Result (List Range) Fault) (a : ℕ) → in_ranges code given a ≡ in_ranges spans given a) → Says (Match (IsSet code)) read sets → Says (KeepsLines spans (has_function table.dies)) (root_lines sections table.root) lines → Says (IsUnitRead spans) (read >>= with_pairs sections table) (record { die = table; spans = sets; lines = lines })
says_pairs sections code spans table (Ok pairs) sets lines same match keeps = says_lines spans table pairs sets (root_lines sections table.root) lines (sets_alike code spans same pairs sets match) keeps
says_pairs sections code spans table (Err fault) sets lines same match keeps = absurd match

pub unit_kept : (sections : DebugSections) (unit : Unit) (code spans : List Range) (abbrevs : List Abbrev) (table : EntryTable) (sets : List (List Range)) (lines : LineMap) → abbrevs_of sections unit ≡ Ok abbrevs → entry_table sections unit abbrevs ≡ Ok table
    → ((given : Result (List Range) Fault) (a : ℕ) → in_ranges code given a ≡ in_ranges spans given a)
    → Says (Match (IsSet code)) (unit_pairs sections unit table) sets → Says (KeepsLines spans (has_function table.dies)) (root_lines sections table.root) lines → Says (IsUnitRead spans) (unit_says sections unit) (record { die = table; spans = sets; lines = lines })
unfolding unit_says
unit_kept sections unit code spans abbrevs table sets lines abbrevs_is table_is same match keeps =
    rw (abbrevs_is, table_is) (says_pairs sections code spans table (unit_pairs sections unit table) sets lines same match keeps)

-- A unit whose line table is still to be read.
pairs_fault : (sections : DebugSections) (code : List Range) (table : EntryTable) (read : Result (List (List Range)) Fault) (sets : List (List Range)) (fault : Fault) → Says (Match (IsSet code)) read sets → root_lines sections table.root ≡ Err fault → (read >>= with_pairs sections table) ≡ Err fault
pairs_fault sections code table (Ok pairs) sets fault match is = ap (λ (r : Result (Option Lines) Fault). r >>= with_lines table pairs) is
pairs_fault sections code table (Err other) sets fault match is = absurd match

unit_fault : (sections : DebugSections) (unit : Unit) (code : List Range) (abbrevs : List Abbrev) (table : EntryTable) (sets : List (List Range)) (fault : Fault) → abbrevs_of sections unit ≡ Ok abbrevs → entry_table sections unit abbrevs ≡ Ok table
    → Says (Match (IsSet code)) (unit_pairs sections unit table) sets → root_lines sections table.root ≡ Err fault → unit_says sections unit ≡ Err fault
unfolding unit_says
unit_fault sections unit code abbrevs table sets fault abbrevs_is table_is match is =
    ap (λ (r : Result (List Abbrev) Fault). r >>= with_abbrevs sections unit) abbrevs_is
    ∙ ap (λ (r : Result EntryTable Fault). r >>= with_table sections unit) table_is
    ∙ pairs_fault sections code table (unit_pairs sections unit table) sets fault match is

pub unit_held : (sections : DebugSections) (unit : Unit) (code spans : List Range) (abbrevs : List Abbrev) (table : EntryTable) (sets : List (List Range)) (function : Bool) → abbrevs_of sections unit ≡ Ok abbrevs → entry_table sections unit abbrevs ≡ Ok table
    → ((given : Result (List Range) Fault) (a : ℕ) → in_ranges code given a ≡ in_ranges spans given a)
    → Says (Match (IsSet code)) (unit_pairs sections unit table) sets → function ≡ has_function table.dies → HoldsUnit spans sections unit (record { die = table; spans = sets; function = function })
unit_held sections unit code spans abbrevs table sets function abbrevs_is table_is same match told = record {
  kept = λ lines keeps. unit_kept sections unit code spans abbrevs table sets lines abbrevs_is table_is same match (rw told at keeps);
  fault = λ fault is. unit_fault sections unit code abbrevs table sets fault abbrevs_is table_is match is;
}

-- Entries that do not count have no addresses.
plain_by : (spans set : List Range) (counted : Bool) (given : Result (List Range) Fault) → counted ≡ false → Says (IsSet spans) (cond counted given (Ok [])) set → set ≡ []
plain_by spans set true given plain says = absurd (grind (arith, plain))
plain_by spans set false given plain says = no_address set says.canonical says.each

plain_entry : (sections : DebugSections) (unit : Unit) (root : RootFields) (base : ℕ) (spans set : List Range) (die : DieFields) → Says (IsSet spans) (pairs_of sections unit root base die) set → counts die ≡ false → set ≡ []
unfolding pairs_of
plain_entry sections unit root base spans set die says plain = plain_by spans set (counts die) _ plain says

paired : (sections : DebugSections) (unit : Unit) (root : RootFields) (base : ℕ) (spans : List Range) (dies : List DieFields) (sets : List (List Range)) → Says (Match (IsSet spans)) (each_of (pairs_of sections unit root base) dies) sets → ArePaired dies sets
unfolding each_of
paired sections unit root base spans [] [] says = tt
paired sections unit root base spans [] (set ∷ sets) says = absurd says
paired sections unit root base spans (die ∷ dies) [] says = absurd (says_first (IsSet spans) (pairs_of sections unit root base die) (each_of (pairs_of sections unit root base) dies) [] says)
paired sections unit root base spans (die ∷ dies) (set ∷ sets) says =
    let both = says_first (IsSet spans) (pairs_of sections unit root base die) (each_of (pairs_of sections unit root base) dies) (set ∷ sets) says in
    (plain_entry sections unit root base spans set die both.0, paired sections unit root base spans dies sets both.1)

base_paired : (sections : DebugSections) (unit : Unit) (table : EntryTable) (spans : List Range) (sets : List (List Range)) (base : Result ℕ Fault) → Says (Match (IsSet spans)) (base >>= λ n. each_of (pairs_of sections unit table.root n) table.dies) sets → ArePaired table.dies sets
base_paired sections unit table spans sets (Ok base) says = paired sections unit table.root base spans table.dies sets says
base_paired sections unit table spans sets (Err fault) says = absurd says

-- The entries of a supplementary file have no addresses.
none_paired : (spans : List Range) (dies : List DieFields) (sets : List (List Range)) → Match (IsSet spans) (no_pairs dies) sets → ArePaired dies sets
none_paired spans [] [] match = tt
none_paired spans [] (set ∷ sets) match = absurd match
none_paired spans (die ∷ dies) [] match = absurd match
none_paired spans (die ∷ dies) (set ∷ sets) match = ((λ plain. no_address set match.0.canonical match.0.each), none_paired spans dies sets match.1)

pairs_paired : (sections : DebugSections) (unit : Unit) (table : EntryTable) (spans : List Range) (sets : List (List Range)) (sup : Bool) → Says (Match (IsSet spans)) (cond sup (Ok (no_pairs table.dies)) (own_pairs sections unit table)) sets → ArePaired table.dies sets
pairs_paired sections unit table spans sets true says = none_paired spans table.dies sets says
pairs_paired sections unit table spans sets false says = base_paired sections unit table spans sets (unit_base sections table.root) says

unit_paired : (sections : DebugSections) (unit : Unit) (table : EntryTable) (spans : List Range) (sets : List (List Range)) → Says (Match (IsSet spans)) (unit_pairs sections unit table) sets → ArePaired table.dies sets
unfolding unit_pairs
unit_paired sections unit table spans sets says = pairs_paired sections unit table spans sets sections.is_sup says

-- A unit that was read has its entry table, and a set for each entry.
pub record IsPart (sections : DebugSections) (unit : Unit) (part : UnitRead) : Type 0 where
  pub table : IsTable sections unit part.die
  pub paired : ArePaired part.die.dies part.spans

part_lines : (sections : DebugSections) (unit : Unit) (spans : List Range) (part : UnitRead) (abbrevs : List Abbrev) (table : EntryTable) (pairs : List (List Range)) (read : Result (Option Lines) Fault) → entry_table sections unit abbrevs ≡ Ok table → unit_pairs sections unit table ≡ Ok pairs → Says (IsUnitRead spans) (read >>= with_lines table pairs) part → IsPart sections unit part
part_lines sections unit spans part abbrevs table pairs (Err fault) table_is pairs_are says = absurd says
part_lines sections unit spans part abbrevs table pairs (Ok lines) table_is pairs_are says =
    let match = unit_paired sections unit table spans part.spans (rw pairs_are says.spans) in
    record { table = record { abbrevs = abbrevs; table = table_is ∙ ap Ok (sym says.die) }; paired = rw says.die match }

part_pairs : (sections : DebugSections) (unit : Unit) (spans : List Range) (part : UnitRead) (abbrevs : List Abbrev) (table : EntryTable) (read : Result (List (List Range)) Fault) → entry_table sections unit abbrevs ≡ Ok table → unit_pairs sections unit table ≡ read → Says (IsUnitRead spans) (read >>= with_pairs sections table) part → IsPart sections unit part
part_pairs sections unit spans part abbrevs table (Ok pairs) table_is pairs_are says = part_lines sections unit spans part abbrevs table pairs (root_lines sections table.root) table_is pairs_are says
part_pairs sections unit spans part abbrevs table (Err fault) table_is pairs_are says = absurd says

part_table : (sections : DebugSections) (unit : Unit) (spans : List Range) (part : UnitRead) (abbrevs : List Abbrev) (read : Result EntryTable Fault) → entry_table sections unit abbrevs ≡ read → Says (IsUnitRead spans) (read >>= with_table sections unit) part → IsPart sections unit part
part_table sections unit spans part abbrevs (Ok table) table_is says = part_pairs sections unit spans part abbrevs table (unit_pairs sections unit table) table_is refl says
part_table sections unit spans part abbrevs (Err fault) table_is says = absurd says

part_abbrevs : (sections : DebugSections) (unit : Unit) (spans : List Range) (part : UnitRead) (read : Result (List Abbrev) Fault) → Says (IsUnitRead spans) (read >>= with_abbrevs sections unit) part → IsPart sections unit part
part_abbrevs sections unit spans part (Ok abbrevs) says = part_table sections unit spans part abbrevs (entry_table sections unit abbrevs) refl says
part_abbrevs sections unit spans part (Err fault) says = absurd says

pub is_part : (sections : DebugSections) (unit : Unit) (spans : List Range) (part : UnitRead) → Says (IsUnitRead spans) (unit_says sections unit) part → IsPart sections unit part
unfolding unit_says
is_part sections unit spans part says = part_abbrevs sections unit spans part (abbrevs_of sections unit) says

-- The same for all units.
pub parts_are : (sections : DebugSections) (units : List Unit) (spans : List Range) (parts : List UnitRead) → Says (Match (IsUnitRead spans)) (each_of (unit_says sections) units) parts → AreTables sections units parts × ArePairs parts
unfolding each_of
parts_are sections [] spans [] says = (tt, tt)
parts_are sections [] spans (part ∷ parts) says = absurd says
parts_are sections (unit ∷ units) spans [] says = absurd (says_first (IsUnitRead spans) (unit_says sections unit) (each_of (unit_says sections) units) [] says)
parts_are sections (unit ∷ units) spans (part ∷ parts) says =
    let both = says_first (IsUnitRead spans) (unit_says sections unit) (each_of (unit_says sections) units) (part ∷ parts) says in
    let one = is_part sections unit spans part both.0 in
    let later = parts_are sections units spans parts both.1 in
    ((one.table, later.0), (one.paired, later.1))
