-- The parts of a name.
use Rattle.std.proofs.Common.{◌≡◌, ◌++◌, ℕ, List, [], codes, None, Some, unwrap_or, true, false, sym, ap, ◌∙◌}
use Rattle.std.specs.List.{slice_get}
use Rattle.std.specs.Option.{option_map, option_map_or}
use Rattle.die_walk.specs.EntryTable.{DieFields}
use Rattle.die_names.specs.declared.name_source.How.TheVariants.{Linkage, Joined, Omitted}
use Rattle.die_names.specs.declared.name_source.NameRef.{NameRef}
use Rattle.debug_units.specs.declared.unit_read.UnitRead.{UnitRead}
use Rattle.die_names.specs.Names.{front_of}
use Rattle.die_names.specs.NameRefs.{name_bytes, joined_bytes}
use Rattle.die_names.proofs.TextLemmas.{placed, named, text_is, text_no_part, text_no_die, text_no_name, text_omitted}

pub part_no_unit : (units : List UnitRead) (name : NameRef) → None ≡ slice_get units name.unit → name_bytes units name ≡ joined_bytes units name false (codes "<name omitted>")
part_no_unit units name is = sym (text_no_part units name is)

pub part_no_die : (units : List UnitRead) (name : NameRef) (part : UnitRead) → Some part ≡ slice_get units name.unit → None ≡ slice_get part.die.dies name.entry → name_bytes units name ≡ joined_bytes units name false (codes "<name omitted>")
part_no_die units name part is none = sym (text_no_die units name part is none)

pub part_linkage : (units : List UnitRead) (name : NameRef) (part : UnitRead) (die : DieFields) (bytes : List ℕ) → name.how ≡ Linkage → Some part ≡ slice_get units name.unit → Some die ≡ slice_get part.die.dies name.entry → Some bytes ≡ die.linkage → name_bytes units name ≡ joined_bytes units name false bytes
part_linkage units name part die bytes by is got has = text_is units name part die Linkage by is got ∙ ap (λ o. unwrap_or o (codes "<name omitted>")) (sym has)

pub part_no_linkage : (units : List UnitRead) (name : NameRef) (part : UnitRead) (die : DieFields) → name.how ≡ Linkage → Some part ≡ slice_get units name.unit → Some die ≡ slice_get part.die.dies name.entry → None ≡ die.linkage → name_bytes units name ≡ joined_bytes units name false (codes "<name omitted>")
part_no_linkage units name part die by is got none = text_is units name part die Linkage by is got ∙ ap (λ o. unwrap_or o (codes "<name omitted>")) (sym none)

pub part_joined : (units : List UnitRead) (name : NameRef) (part : UnitRead) (die : DieFields) (bytes : List ℕ) → name.how ≡ Joined → Some part ≡ slice_get units name.unit → Some die ≡ slice_get part.die.dies name.entry → Some bytes ≡ die.name → name_bytes units name ≡ joined_bytes units name true bytes
part_joined units name part die bytes by is got has =
    text_is units name part die Joined by is got
    ∙ ap (λ o. unwrap_or (option_map (λ n. front_of units (placed name die) ++ n) o) (codes "<name omitted>")) (sym has)
    ∙ ap (λ o. option_map_or (front_of units) o [] ++ bytes) (sym (named units name part die is got))

pub part_no_name : (units : List UnitRead) (name : NameRef) (part : UnitRead) (die : DieFields) → name.how ≡ Joined → Some part ≡ slice_get units name.unit → Some die ≡ slice_get part.die.dies name.entry → None ≡ die.name → name_bytes units name ≡ joined_bytes units name false (codes "<name omitted>")
part_no_name units name part die by is got none = sym (text_no_name units name part die by is got none)

pub part_omitted : (units : List UnitRead) (name : NameRef) (part : UnitRead) (die : DieFields) → name.how ≡ Omitted → Some part ≡ slice_get units name.unit → Some die ≡ slice_get part.die.dies name.entry → name_bytes units name ≡ joined_bytes units name false (codes "<name omitted>")
part_omitted units name part die by is got = sym (text_omitted units name part die by is got)
