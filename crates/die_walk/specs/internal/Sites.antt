-- What a site and a wide entry hold, and kept entries with the sections of their texts.
use Rattle.std.specs.Prelude.{ℕ, List, Option}
use Rattle.abbrev_units.specs.declared.value.Value.{Value}
use Rattle.die_walk.specs.EntryTable.{DieFields}

-- the addresses of an entry, and the file and line of the call
pub record SiteFields : Type 0 where
  pub low : Option Value
  pub high : Option Value
  pub ranges : Option Value
  pub call_file : Option ℕ
  pub call_line : ℕ

-- a site, together with the tag and the links, if these do not fit into a head
pub record WideFields : Type 0 where
  pub tag : ℕ
  pub origin : Option ℕ
  pub spec : Option ℕ
  pub site : SiteFields

-- the sections that have the texts of entries
pub record Homes : Type 0 where
  pub info : List ℕ
  pub strs : List ℕ
  pub line_strs : List ℕ
  pub sup_strs : List ℕ

-- kept entries, and the sections that have their texts
pub record HeldEntries : Type 0 where
  pub dies : List DieFields
  pub homes : Homes
