-- Attributes and abbreviations as they are read for a unit of a given format.
use Rattle.std.specs.Prelude.{ℕ, Bool, List, map, Option, Result, Ok}
use Rattle.std.specs.Option.{option_map}
use Rattle.sym_edges.specs.Results.{◌>>=◌}
use Rattle.leb_cursor.specs.declared.fault.CursorFault.{CursorFault}
use Rattle.leb_cursor.specs.Ahead.{Ahead}
use Rattle.leb_cursor.specs.Lists.{list_at}
use Rattle.abbrev_units.specs.SpecFields.{SpecFields, Abbrev}
use Rattle.abbrev_units.specs.Abbreviations.{spec_at, abbrev_by, abbrev_at, used_spec, used_abbrev}

-- a function applied to the member or to the list that was read
abbrev pub one_by : {A B : Type 0} → (A → B) → Option A × Ahead → Result (Option B × Ahead) CursorFault
one_by f x = Ok (option_map f x.0, x.1)

abbrev pub all_by : {A B : Type 0} → (A → B) → List A × Ahead → Result (List B × Ahead) CursorFault
all_by f x = Ok (map f x.0, x.1)

unfoldable pub used_spec_at : Bool → Ahead → Result (Option SpecFields × Ahead) CursorFault
used_spec_at wide c = spec_at c >>= one_by (used_spec wide)

unfoldable pub used_specs_at : Bool → Ahead → Result (List SpecFields × Ahead) CursorFault
used_specs_at wide c = list_at spec_at c >>= all_by (used_spec wide)

unfoldable pub used_abbrev_by : Bool → ℕ → Ahead → Result (Option Abbrev × Ahead) CursorFault
used_abbrev_by wide code c = abbrev_by code c >>= one_by (used_abbrev wide)

unfoldable pub used_abbrev_at : Bool → Ahead → Result (Option Abbrev × Ahead) CursorFault
used_abbrev_at wide c = abbrev_at c >>= one_by (used_abbrev wide)
