-- The names of entries depend only on the entries of the units.
use Rattle.std.proofs.Common.{◌≡◌, ℕ, zero, suc, ◌+◌, ◌==◌, map, List, [], ◌∷◌, ◌++◌, codes, Option, None, Some, unwrap_or, option_and_then, refl, sym, ap, ◌∙◌}
use Rattle.std.specs.List.{find}
use Rattle.std.specs.Option.{option_map}
use Rattle.std.specs.List.{slice_get}
use Rattle.std.proofs.lemmas.Option.{slice_get-map}
use Rattle.clean_names.specs.Cleaning.{cleaned}
use Rattle.abbrev_units.specs.Attributes.{or_else}
use Rattle.die_walk.specs.EntryTable.{DieFields}
use Rattle.debug_units.specs.declared.unit_read.UnitRead.{UnitRead}
use Rattle.debug_units.specs.UnitEntries.{Placed, unit_entries, entries_from, entry_at, entry_in, entry_of}
use Rattle.die_names.specs.Names.{link_of, linked_from, way, dies_of, front_in, front_of, first_linkage, first_joined, name_on, entry_name}
use Rattle.debug_units.specs.EntriesAlone.{entries_alone}

abbrev pub alone : List UnitRead → List UnitRead
alone us = map entries_alone us

-- Entries by their numbers, and by their places.
in_alone : (unit entry : ℕ) (o : Option UnitRead) → entry_in unit entry o ≡ entry_in unit entry (option_map entries_alone o)
in_alone unit entry None = refl
in_alone unit entry (Some part) = refl

pub entry_alone : (us : List UnitRead) (unit entry : ℕ) → entry_of us unit entry ≡ entry_of (alone us) unit entry
unfolding entry_of
entry_alone us unit entry = in_alone unit entry (slice_get us unit) ∙ ap (entry_in unit entry) (sym (slice_get-map entries_alone us unit))

from_alone : (unit : ℕ) (us : List UnitRead) → entries_from unit us ≡ entries_from unit (alone us)
from_alone unit [] = refl
from_alone unit (u ∷ us) = ap (λ l. unit_entries unit 0 u.die.dies ++ l) (from_alone (unit + 1) us)

at_alone : (us : List UnitRead) (place : ℕ) → entry_at us place ≡ entry_at (alone us) place
unfolding entry_at
at_alone us place = ap (find (λ (p : Placed). p.die.at == place)) (from_alone 0 us)

-- names
link_alone : (us : List UnitRead) (die : DieFields) → linked_from us die ≡ linked_from (alone us) die
link_alone us die = go (link_of die)
  where
    go : (o : Option ℕ) → option_and_then (entry_at us) o ≡ option_and_then (entry_at (alone us)) o
    go None = refl
    go (Some place) = at_alone us place

way_alone : (us : List UnitRead) (links : ℕ) (o : Option Placed) → way us links o ≡ way (alone us) links o
unfolding way
way_alone us zero None = refl
way_alone us zero (Some p) = refl
way_alone us (suc links) None = refl
way_alone us (suc links) (Some p) = ap (λ l. p ∷ l) (ap (way us links) (link_alone us p.die) ∙ way_alone us links (linked_from (alone us) p.die))

dies_alone : (o : Option UnitRead) → dies_of o ≡ dies_of (option_map entries_alone o)
dies_alone None = refl
dies_alone (Some part) = refl

front_alone : (us : List UnitRead) (p : Placed) → front_of us p ≡ front_of (alone us) p
unfolding front_of
front_alone us p = ap (λ dies. front_in dies p.entry p.die.parent) (dies_alone (slice_get us p.unit) ∙ ap dies_of (sym (slice_get-map entries_alone us p.unit)))

joined_alone : (us : List UnitRead) (entries : List Placed) → first_joined us entries ≡ first_joined (alone us) entries
joined_alone us [] = refl
joined_alone us (p ∷ rest) = λ i. or_else (option_map (λ name. front_alone us p i ++ name) p.die.name) (joined_alone us rest i)

pub name_alone : (us : List UnitRead) (unit entry : ℕ) → entry_name us unit entry ≡ entry_name (alone us) unit entry
unfolding entry_name
name_alone us unit entry =
    let ways : way us 16 (entry_of us unit entry) ≡ way (alone us) 16 (entry_of (alone us) unit entry) = ap (way us 16) (entry_alone us unit entry) ∙ way_alone us 16 (entry_of (alone us) unit entry) in
    ap (λ entries. cleaned (name_on us entries)) ways
    ∙ ap (λ joined. cleaned (unwrap_or (or_else (first_linkage (way (alone us) 16 (entry_of (alone us) unit entry))) joined) (codes "<name omitted>"))) (joined_alone us (way (alone us) 16 (entry_of (alone us) unit entry)))
