-- Abbreviations whose attributes are in one list, and whose takes are in another.
use Rattle.std.specs.Prelude.{◌≡◌, ◌≤◌, true, List, ◌++◌, length, drop, map, slice_range, Option, None, Some, Result, Ok, Err}
use Rattle.std.specs.List.{AllByRecursion}
use Rattle.sym_edges.specs.declared.fault.Stop.{Stop}
use Rattle.sym_edges.specs.declared.fault.Stop.TheVariants.{Fault, NoMemory}
use Rattle.leb_cursor.specs.Ahead.{Ahead}
use Rattle.abbrev_units.specs.declared.lists.Lists.{Lists}
use Rattle.abbrev_units.specs.declared.lists.Run.{Run}
use Rattle.abbrev_units.specs.declared.lists.Head.{Head}
use Rattle.abbrev_units.specs.SpecFields.{SpecFields, Abbrev}
use Rattle.abbrev_units.specs.KeptTags.{is_kept_tag}
use Rattle.abbrev_units.specs.internal.Takes.{AreTakes}

-- the members of a list that a run selects; and that the run is inside the list
abbrev pub part : {A : Type 0} → Run → List A → List A
part run xs = slice_range xs run.from run.to

abbrev pub IsInside : {A : Type 0} → Run → List A → Type 0
IsInside run xs = (run.from ≤ run.to) × (run.to ≤ length xs)

-- an abbreviation, given its head; and all abbreviations of a table, given their heads
abbrev pub abbrev_in : List SpecFields → Head → Abbrev
abbrev_in specs head = record { code = head.code; tag = head.tag; children = head.children; specs = part head.specs specs }

abbrev pub abbrevs_in : List SpecFields → List Head → List Abbrev
abbrevs_in specs heads = map (abbrev_in specs) heads

-- the runs of a head are inside the lists, and the head says whether its entries are kept; if it
-- has takes, they read its attributes
pub record IsHeld (lists : Lists) (head : Head) : Type 0 where
  pub kept : head.kept ≡ is_kept_tag head.tag
  pub specs : IsInside head.specs lists.specs.items
  pub takes : IsInside head.takes lists.takes.items
  pub are : head.has_takes ≡ true → AreTakes head.kept (part head.takes lists.takes.items) head.tail (part head.specs lists.specs.items)

abbrev pub AreHeld : Lists → List Head → Type 0
AreHeld lists heads = AllByRecursion (IsHeld lists) heads

-- the list `before` is a prefix of the list `after`; and this holds for both lists of a table
abbrev pub Starts : {A : Type 0} → List A → List A → Type 0
Starts before after = after ≡ before ++ drop (length before) after

pub record Grown (before after : Lists) : Type 0 where
  pub specs : Starts before.specs.items after.specs.items
  pub takes : Starts before.takes.items after.takes.items

-- the same as `GivesAt`, for a call that leaves the value `a` in a variable instead of returning it
abbrev pub LeavesAt : {U A F : Type 0} → Result U (Stop F) → A → Ahead → Result (A × Ahead) F → Type 0
LeavesAt (Ok x) a c given = given ≡ Ok (a, c)
LeavesAt (Err (Fault fault)) a c given = given ≡ Err fault
LeavesAt (Err NoMemory) a c given = Unit {0}

-- a reading gives the next head, whose runs are inside these lists, or the end of the abbreviations
abbrev pub ReadsAt : {F : Type 0} → Result (Option Head) (Stop F) → Lists → Ahead → Result (Option Abbrev × Ahead) F → Type 0
ReadsAt (Ok None) lists c given = given ≡ Ok (None, c)
ReadsAt (Ok (Some head)) lists c given = IsHeld lists head × (given ≡ Ok (Some (abbrev_in lists.specs.items head), c))
ReadsAt (Err (Fault fault)) lists c given = given ≡ Err fault
ReadsAt (Err NoMemory) lists c given = Unit {0}
