-- The pairs of addresses that a range list gives (DWARF 5, 2.17.3 and 7.25; DWARF 4, 2.17.3).
use Rattle.std.specs.Prelude.{ℕ, ◌+◌, ◌%◌, ◌^◌, nat_lt, if◌then◌else◌, List, [], ◌∷◌, ◌++◌, Option, None, Some, Result, Ok, Err}
use Rattle.sym_edges.specs.Addresses.{Range}
use Rattle.sym_edges.specs.Results.{◌>>=◌}
use Rattle.sym_edges.specs.declared.located.Located.{Located}
use Rattle.sym_edges.specs.declared.part.Sect.{Sect}
use Rattle.sym_edges.specs.declared.part.Sect.TheVariants as section
use Rattle.leb_cursor.specs.Ahead.{Ahead}
use Rattle.leb_cursor.specs.Lists.{list_at}
use Rattle.abbrev_units.specs.declared.fault.DwarfKind.{DwarfKind}
use Rattle.abbrev_units.specs.declared.fault.DwarfKind.TheVariants as is
use Rattle.abbrev_units.specs.Faults.{in_section}
use Rattle.range_lists.specs.declared.item.RangeItem.{RangeItem}
use Rattle.range_lists.specs.declared.item.RangeItem.TheVariants as item
use Rattle.range_lists.specs.declared.item.ItemFault.{ItemFault}
use Rattle.range_lists.specs.declared.item.ItemFault.TheVariants as fault
use Rattle.range_lists.specs.declared.effect.Effect.{Effect}
use Rattle.range_lists.specs.declared.effect.Effect.TheVariants as effect
use Rattle.range_lists.specs.AddressTable.{AddressTable}
use Rattle.range_lists.specs.Places.{address_at}
use Rattle.range_lists.specs.ListItems.{item_at}

-- the sum of an address and an offset, modulo 2^64
abbrev pub moved : ℕ → ℕ → ℕ
moved address offset = (address + offset) % 2 ^ 64

-- what an item does: it sets the base, or gives a pair of addresses or a pair of offsets from the
-- base. If it gives both addresses by index, the first is looked up before the second
unfoldable pub effect_of : AddressTable → RangeItem → Result Effect (Located DwarfKind)
effect_of table (item.BaseAddressx index) = address_at table index >>= λ address. Ok (effect.SetBase address)
effect_of table (item.StartxEndx first last) =
    address_at table first >>= λ start. address_at table last >>= λ end. Ok (effect.Absolute start end)
effect_of table (item.StartxLength index len) = address_at table index >>= λ start. Ok (effect.Absolute start (moved start len))
effect_of table (item.OffsetPair start end) = Ok (effect.Relative start end)
effect_of table (item.BaseAddress address) = Ok (effect.SetBase address)
effect_of table (item.StartEnd start end) = Ok (effect.Absolute start end)
effect_of table (item.StartLength start len) = Ok (effect.Absolute start (moved start len))

-- the section of the lists, given the version of the unit
abbrev pub list_section : ℕ → Sect
list_section version = if nat_lt version 5 then section.Ranges else section.Rnglists

-- the fault of an item, with its section and place
unfoldable pub item_fault : Sect → ItemFault → Located DwarfKind
item_fault section (fault.Cursor f) = in_section section f
item_fault section (fault.Kind at) = record { kind = is.RangeKind; section = section; at = at }

abbrev pub in_list : {A : Type 0} → Sect → Result A ItemFault → Result A (Located DwarfKind)
in_list section (Ok x) = Ok x
in_list section (Err f) = Err (item_fault section f)

-- what an item does; none if the list ends
abbrev pub effect_by : AddressTable → Option RangeItem → Ahead → Result (Option Effect × Ahead) (Located DwarfKind)
effect_by table None c = Ok (None, c)
effect_by table (Some found) c = effect_of table found >>= λ does. Ok (Some does, c)

-- what the next item does; none if the list ends
unfoldable pub effect_at : ℕ → AddressTable → Ahead → Result (Option Effect × Ahead) (Located DwarfKind)
effect_at version table c = in_list (list_section version) (item_at version c) >>= λ found. effect_by table found.0 found.1

-- the base after an item
abbrev pub base_after : ℕ → Effect → ℕ
base_after base (effect.SetBase address) = address
base_after base (effect.Absolute start end) = base
base_after base (effect.Relative start end) = base

-- the pair that an item gives, if it gives one
abbrev pub pair_of : ℕ → Effect → List Range
pair_of base (effect.SetBase address) = []
pair_of base (effect.Absolute start end) = record { start = start; end = end } ∷ []
pair_of base (effect.Relative start end) = record { start = moved base start; end = moved base end } ∷ []

-- the pairs that items give one after another, beginning with the given base
unfoldable pub pairs_from : ℕ → List Effect → List Range
pairs_from base [] = []
pairs_from base (does ∷ later) = pair_of base does ++ pairs_from (base_after base does) later

-- the pairs of the list ahead, or the first fault in the list
unfoldable pub list_pairs : ℕ → AddressTable → ℕ → Ahead → Result (List Range) (Located DwarfKind)
list_pairs version table base c = list_at (effect_at version table) c >>= λ effects. Ok (pairs_from base effects.0)
