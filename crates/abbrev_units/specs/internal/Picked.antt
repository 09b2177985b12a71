-- How picks are stored: a class and a number for each slot.
use Rattle.std.specs.Prelude.{ℕ, List, Option, None, Some, get_or}
use Rattle.abbrev_units.specs.declared.value.Value.{Value}
use Rattle.abbrev_units.specs.declared.value.Value.TheVariants as value
use Rattle.abbrev_units.specs.declared.slots.Class.{Class}
use Rattle.abbrev_units.specs.declared.slots.Class.TheVariants.{Missing}
use Rattle.abbrev_units.specs.Picks.{value_in}

abbrev pub pick_at : List Class → List ℕ → ℕ → Option Value
pick_at classes numbers slot = value_in (get_or classes slot Missing) (get_or numbers slot 0)

-- the value, if a class and a number can stand for it
abbrev pub plain_of : Value → Option Value
plain_of (value.Block start len) = None
plain_of value.Other = None
plain_of other = Some other
