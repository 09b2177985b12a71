-- Which slots already have a value: the first value of an attribute counts.
use Rattle.std.specs.Prelude.{◌≡◌, ℕ, ◌==◌, ◌||◌, Bool, true, false, if◌then◌else◌, List, [], ◌∷◌, map, get_or, slice_set}
use Rattle.abbrev_units.specs.declared.slots.Slot.{Slot}
use Rattle.abbrev_units.specs.declared.slots.Slot.TheVariants as slot
use Rattle.abbrev_units.specs.SpecFields.{SpecFields}
use Rattle.abbrev_units.specs.Picks.{IsSlot}

-- the number of a slot
abbrev pub slot_number : Slot → ℕ
slot_number slot.Low = 0
slot_number slot.High = 1
slot_number slot.Ranges = 2
slot_number slot.CallFile = 3
slot_number slot.CallLine = 4
slot_number slot.Origin = 5
slot_number slot.Specification = 6
slot_number slot.Name = 7
slot_number slot.Linkage = 8
slot_number slot.OldLinkage = 9
slot_number slot.Declaration = 10
slot_number slot.StmtList = 11
slot_number slot.CompDir = 12
slot_number slot.StrOffsetsBase = 13
slot_number slot.AddrBase = 14
slot_number slot.RnglistsBase = 15
slot_number slot.Passed = 16

abbrev pub is_among : ℕ → List ℕ → Bool
is_among attribute [] = false
is_among attribute (other ∷ others) = other == attribute || is_among attribute others

-- for each slot, in the order of the slots' numbers, whether `attributes` has the attribute of the
-- slot
abbrev pub filled_by : List ℕ → List Bool
filled_by attributes =
    is_among 0x11 attributes ∷
    is_among 0x12 attributes ∷
    is_among 0x55 attributes ∷
    is_among 0x58 attributes ∷
    is_among 0x59 attributes ∷
    is_among 0x31 attributes ∷
    is_among 0x47 attributes ∷
    is_among 0x03 attributes ∷
    is_among 0x6e attributes ∷
    is_among 0x2007 attributes ∷
    is_among 0x3c attributes ∷
    is_among 0x10 attributes ∷
    is_among 0x1b attributes ∷
    is_among 0x72 attributes ∷
    is_among 0x73 attributes ∷
    is_among 0x74 attributes ∷
    []

abbrev pub attributes_of : List SpecFields → List ℕ
attributes_of specs = map (λ s. s.attribute) specs

-- the slot if it has no value yet, else `Passed`
abbrev pub free_in : List Bool → Slot → Slot
free_in filled wanted = if get_or filled (slot_number wanted) false then slot.Passed else wanted

abbrev pub fill_in : List Bool → Slot → List Bool
fill_in filled wanted = slice_set filled (slot_number wanted) true

-- an attribute is given its slot if that is free, otherwise `Passed`; then the slot is filled
pub record Fills (before after : List Bool) (attribute : ℕ) (given : Slot) : Type 0 where
  pub wanted : Slot
  pub is : IsSlot wanted attribute
  pub free : given ≡ free_in before wanted
  pub filled : after ≡ fill_in before wanted

-- the slot that is given to an attribute after the attributes `before`: its own if none of these
-- has the same slot, otherwise `Passed`; always `Passed` if entries are not kept
abbrev pub GoesTo : Bool → List SpecFields → ℕ → Slot → Type 0
GoesTo false before attribute given = given ≡ slot.Passed
GoesTo true before attribute given = (wanted : Slot) × (IsSlot wanted attribute) × (given ≡ free_in (filled_by (attributes_of before)) wanted)

-- if entries are kept, exactly the slots of these attributes are filled
abbrev pub FilledFor : Bool → List SpecFields → List Bool → Type 0
FilledFor false before filled = Prim.Unit {0}
FilledFor true before filled = filled ≡ filled_by (attributes_of before)

-- the slot that is given to an attribute; always `Passed` if entries are not kept
abbrev pub GivesSlot : Bool → List Bool → List Bool → ℕ → Slot → Type 0
GivesSlot false before after attribute given = given ≡ slot.Passed
GivesSlot true before after attribute given = Fills before after attribute given
