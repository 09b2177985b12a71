-- What the decision about one entry adds to the omissions and to the written entries, for the law about both.
use Rattle.std.specs.Prelude.{List, [], ◌∷◌, Option, Some, None}
use Rattle.sym_edges.specs.declared.reason.Reason.{Reason}
use Rattle.frame_entries.specs.declared.description.Body.{Body}
use Rattle.frame_entries.specs.declared.description.Body.TheVariants.{Good, Bad}
use Rattle.frame_entries.specs.declared.description.Entry.{Entry}
use Rattle.frame_entries.specs.FdeFields.{FdeFields}
use Rattle.rule_postfix.specs.declared.omission.Omission.{Omission}

-- an entry with a reason adds one omission; an entry without a reason adds none
abbrev pub omission_for : Entry → Option Reason → List Omission
omission_for entry None = []
omission_for entry (Some why) = record { section = entry.section; at = entry.at; reason = why } ∷ []

-- the fields of an entry, if they can be read
abbrev pub fields_of : Body → List FdeFields
fields_of (Good e) = e ∷ []
fields_of (Bad why) = []

-- an entry without a reason is written and adds its fields; an entry with a reason adds none
abbrev pub fields_for : Entry → Option Reason → List FdeFields
fields_for entry None = fields_of entry.body
fields_for entry (Some why) = []
