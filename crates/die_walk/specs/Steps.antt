-- The table of a unit's entries, as a walk makes it mark by mark. No public clause cites this
-- module.
use Rattle.std.specs.Prelude.{◌≡◌, ℕ, ◌+◌, ◌-◌, ◌≤◌, ◌==◌, ◌||◌, ◌^◌, Bool, if◌then◌else◌, List, [], ◌∷◌, ◌++◌, length, take, get_or, Option, None, Some, Result, Ok, Err}
use Rattle.std.specs.Option.{option_map}
use Rattle.sym_edges.specs.Results.{◌>>=◌}
use Rattle.sym_edges.specs.declared.fault.Stop.{Stop}
use Rattle.sym_edges.specs.declared.fault.Stop.TheVariants.{Fault, NoMemory}
use Rattle.sym_edges.specs.declared.located.Located.{Located}
use Rattle.leb_cursor.specs.Ahead.{Ahead}
use Rattle.abbrev_units.specs.SpecFields.{Abbrev}
use Rattle.abbrev_units.specs.declared.fault.DwarfKind.{DwarfKind}
use Rattle.abbrev_units.specs.declared.unit.Unit.{Unit}
use Rattle.abbrev_units.specs.declared.value.Given.{Given}
use Rattle.abbrev_units.specs.DebugSections.{DebugSections, first_place}
use Rattle.abbrev_units.specs.KeptTags.{is_kept_tag}
use Rattle.die_walk.specs.Marks.{Mark, read_values_at, next_mark, marks_at}
use Rattle.die_walk.specs.Marks.Mark.{Close, Entry}
use Rattle.die_walk.specs.EntryTree.{Item, Kept}
use Rattle.abbrev_units.specs.Picks.{PickFields}
use Rattle.die_walk.specs.Picking.{base_by, die_by, root_by}
use Rattle.die_walk.specs.EntryTable.{DieFields, RootFields, EntryTable, base_of, die_of, root_of}

-- a kept entry and a root, with the depth 0, which is not used
abbrev pub kept_at : ℕ → Option ℕ → ℕ → List Given → Kept
kept_at at parent tag values = record { item = record { at = at; depth = 0; tag = tag; values = values }; parent = parent }

abbrev pub root_at : ℕ → List Given → Item
root_at at values = record { at = at; depth = 0; tag = 0; values = values }

-- what a walk reads: the sections and the unit
pub record Owned : Type 0 where
  pub sections : DebugSections
  pub unit : Unit

-- a walk's state: the kept entries so far, the root's attributes, for each open list of children
-- the nearest kept entry around it, and what the walk reads
pub record Walked : Type 0 where
  pub dies : List DieFields
  pub root : RootFields
  pub open_levels : List (Option ℕ)
  pub own : Owned

-- the nearest kept entry around the innermost open list
abbrev pub innermost : List (Option ℕ) → Option ℕ
innermost levels = get_or levels (length levels - 1) None

-- whether an entry is kept: because it is the first one, or by its tag
abbrev pub keeps : Walked → ℕ → Bool
keeps w tag = length w.dies == 0 || is_kept_tag tag

-- the first entry is the root, which uses its own str_offsets_base; later entries use that of the root
abbrev pub begun : DebugSections → Unit → Walked → ℕ → ℕ → List Given → Walked
begun sections unit w at tag values = record w {
  dies = die_of sections unit (base_of values) (kept_at at (innermost w.open_levels) tag values) ∷ [];
  root = root_of sections unit (root_at at values);
}

abbrev pub added : DebugSections → Unit → Walked → ℕ → ℕ → List Given → Walked
added sections unit w at tag values = record w {
  dies = w.dies ++ die_of sections unit w.root.str_offsets_base (kept_at at (innermost w.open_levels) tag values) ∷ [];
}

-- the state after an entry was read, before the list of its children is opened
unfoldable pub entered : DebugSections → Unit → Walked → ℕ → ℕ → List Given → Walked
entered sections unit w at tag values =
    if length w.dies == 0 then begun sections unit w at tag values else
    if is_kept_tag tag then added sections unit w at tag values else w

-- the same as `begun`, `added` and `entered`, but made from the picks of an entry
abbrev pub begun_by : DebugSections → Unit → Walked → ℕ → ℕ → PickFields → Walked
begun_by sections unit w at tag picks = record w {
  dies = die_by sections unit (base_by picks) (first_place sections.is_sup + at) (innermost w.open_levels) tag picks ∷ [];
  root = root_by sections unit at picks;
}

abbrev pub added_by : DebugSections → Unit → Walked → ℕ → ℕ → PickFields → Walked
added_by sections unit w at tag picks = record w {
  dies = w.dies ++ die_by sections unit w.root.str_offsets_base (first_place sections.is_sup + at) (innermost w.open_levels) tag picks ∷ [];
}

unfoldable pub entered_by : DebugSections → Unit → Walked → ℕ → ℕ → PickFields → Walked
entered_by sections unit w at tag picks =
    if length w.dies == 0 then begun_by sections unit w at tag picks else
    if is_kept_tag tag then added_by sections unit w at tag picks else w

-- the state after the list of an entry's children was opened; the state after a mark; and the state
-- after all marks
abbrev pub opened : Walked → Bool → Option ℕ → Walked
opened w children own = if children then record w { open_levels = w.open_levels ++ own ∷ [] } else w

abbrev pub own_number : Walked → ℕ → Option ℕ
own_number w tag = if keeps w tag then Some (length w.dies) else innermost w.open_levels

unfoldable pub moved : DebugSections → Unit → Walked → Mark → Walked
moved sections unit w Close = record w { open_levels = take (length w.open_levels - 1) w.open_levels }
moved sections unit w (Entry at tag children values) = opened (entered sections unit w at tag values) children (own_number w tag)

unfoldable pub all_moved : DebugSections → Unit → Walked → List Mark → Walked
all_moved sections unit w [] = w
all_moved sections unit w (mark ∷ marks) = all_moved sections unit (moved sections unit w mark) marks

-- a unit without entries gets a root
unfoldable pub rounded : DebugSections → Unit → Walked → Walked
rounded sections unit w = if length w.dies == 0 then begun sections unit w unit.body 0 [] else w

abbrev pub table_in : Walked → EntryTable
table_in w = record { root = w.root; dies = w.dies }

-- the table, given a state and the bytes ahead
unfoldable pub walked_from : DebugSections → Unit → List Abbrev → Walked → Ahead → Result EntryTable (Located DwarfKind)
walked_from sections unit abbrevs w c =
    marks_at abbrevs c >>= λ marks. Ok (table_in (rounded sections unit (all_moved sections unit w marks)))

-- the state after the next mark; none at the end of the unit
unfoldable pub step_at : DebugSections → Unit → List Abbrev → Walked → Ahead → Result (Option Walked × Ahead) (Located DwarfKind)
step_at sections unit abbrevs w c = next_mark abbrevs c >>= λ next. Ok (option_map (moved sections unit w) next.0, next.1)

-- the state after an entry with a given abbreviation was read: before the list of its children is
-- opened, and after that
abbrev pub entering : DebugSections → Unit → Walked → ℕ → ℕ → List Given × Ahead → Result (Walked × Ahead) (Located DwarfKind)
entering sections unit w at tag values = Ok (entered sections unit w at tag values.0, values.1)

unfoldable pub entered_at : DebugSections → Unit → Walked → ℕ → Abbrev → Ahead → Result (Walked × Ahead) (Located DwarfKind)
entered_at sections unit w at found c = read_values_at found.specs c >>= entering sections unit w at found.tag

abbrev pub moving : DebugSections → Unit → Walked → ℕ → Abbrev → List Given × Ahead → Result (Walked × Ahead) (Located DwarfKind)
moving sections unit w at found values = Ok (moved sections unit w (Entry at found.tag found.children values.0), values.1)

unfoldable pub moved_at : DebugSections → Unit → Walked → ℕ → Abbrev → Ahead → Result (Walked × Ahead) (Located DwarfKind)
moved_at sections unit w at found c = read_values_at found.specs c >>= moving sections unit w at found

-- a step returns true and leaves the defined state, or returns false at the end of the unit, or
-- returns the defined fault
abbrev pub Steps : Result Bool (Stop (Located DwarfKind)) → Walked → Ahead → Result (Option Walked × Ahead) (Located DwarfKind) → Type 0
Steps (Ok went) w c given = given ≡ Ok (if went then Some w else None, c)
Steps (Err (Fault fault)) w c given = given ≡ Err fault
Steps (Err NoMemory) w c given = Prim.Unit {0}

-- a part of a step leaves the defined state, or returns the defined fault
abbrev pub Moves : {U : Type 0} → Result U (Stop (Located DwarfKind)) → Walked → Ahead → Result (Walked × Ahead) (Located DwarfKind) → Type 0
Moves (Ok x) w c given = given ≡ Ok (w, c)
Moves (Err (Fault fault)) w c given = given ≡ Err fault
Moves (Err NoMemory) w c given = Prim.Unit {0}

-- there are no more kept entries than bytes before the cursor, and no place is above 2^29
pub record IsShort (count : ℕ) (c : Ahead) : Type 0 where
  pub few : count ≤ c.at
  pub small : c.at + length c.bytes ≤ 2 ^ 29

-- the whole walk leaves a state with the defined table, or returns the defined fault
abbrev pub TableOf : {U : Type 0} → Result U (Stop (Located DwarfKind)) → Walked → Result EntryTable (Located DwarfKind) → Type 0
TableOf (Ok x) w given = given ≡ Ok (table_in w)
TableOf (Err (Fault fault)) w given = given ≡ Err fault
TableOf (Err NoMemory) w given = Prim.Unit {0}
