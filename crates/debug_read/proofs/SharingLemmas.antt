-- Abbreviations do not depend on the unit that names them; for src/shared_abbrevs.rt.
use Rattle.std.proofs.Common.{◌≡◌, ◌<◌, ◌≤◌, ℕ, zero, suc, Bool, List, [], ◌∷◌, length, get_or, Some, Result, Ok, refl, sym, ◌∙◌, arith}
use Rattle.std.specs.List.{slice_get}
use Rattle.std.proofs.lemmas.Bool.{cond-false, le-ltb}
use Rattle.sym_edges.specs.Results.{◌>>=◌}
use Rattle.sym_edges.specs.declared.located.Located.{Located}
use Rattle.sym_edges.specs.declared.part.Sect.TheVariants as section
use Rattle.leb_cursor.specs.Ahead.{Ahead}
use Rattle.abbrev_units.specs.SpecFields.{Abbrev}
use Rattle.abbrev_units.specs.declared.fault.DwarfKind.{DwarfKind}
use Rattle.abbrev_units.specs.declared.unit.Unit.{Unit}
use Rattle.abbrev_units.specs.Abbreviations.{used_at, abbrevs_of}
use Rattle.abbrev_units.specs.DebugSections.{DebugSections}
use Rattle.abbrev_units.specs.Faults.{read_in}
use Rattle.abbrev_units.specs.Texts.{ahead_from}
use Rattle.debug_read.specs.Each.{Match}
use Rattle.debug_read.specs.internal.Sharing.{IsRead, AbbrevParts, AbbrevsGive}
use Rattle.debug_read.proofs.EachLemmas.{match_in_order}

abbrev Read : Type 0
Read = Result (List Abbrev) (Located DwarfKind)

abbrev only_list : List Abbrev × Ahead → Read
only_list x = Ok x.0

abbrev abbrevs_from : DebugSections → ℕ → Bool → Read
abbrevs_from sections at wide = read_in section.Abbrev (used_at wide (ahead_from at sections.abbrevs)) >>= only_list

inside_is : (sections : DebugSections) (unit : Unit) → unit.abbrev_at ≤ length sections.abbrevs → abbrevs_of sections unit ≡ abbrevs_from sections unit.abbrev_at unit.wide
unfolding abbrevs_of
inside_is sections unit inside = cond-false _ _ _ (le-ltb (length sections.abbrevs) unit.abbrev_at inside)

same_abbrevs : (sections : DebugSections) (first unit : Unit) → first.abbrev_at ≡ unit.abbrev_at → first.wide ≡ unit.wide → unit.abbrev_at ≤ length sections.abbrevs → abbrevs_of sections unit ≡ abbrevs_of sections first
same_abbrevs sections first unit at wide inside =
    inside_is sections unit inside ∙ sym (inside_is sections first (omega (arith, at, inside)) ∙ rw (at, wide) refl)

match_at : (sections : DebugSections) (firsts : List Unit) (tables : List Read) (n : ℕ) (first : Unit) (table : Read) → Match (IsRead sections) firsts tables → Some first ≡ slice_get firsts n → Some table ≡ slice_get tables n → abbrevs_of sections first ≡ table
match_at sections [] tables n first table match one two = absurd (grind (arith, one))
match_at sections (f ∷ firsts) [] n first table match one two = absurd match
match_at sections (f ∷ firsts) (t ∷ tables) zero first table match one two =
    grind (arith, one, two, match.0)
match_at sections (f ∷ firsts) (t ∷ tables) (suc n) first table match one two = match_at sections firsts tables n first table match.1 one two

pub shared_table : (sections : DebugSections) (firsts : List Unit) (tables : List Read) (n : ℕ) (first unit : Unit) (table : Read) → Match (IsRead sections) firsts tables → Some first ≡ slice_get firsts n → Some table ≡ slice_get tables n → first.abbrev_at ≡ unit.abbrev_at → first.wide ≡ unit.wide → unit.abbrev_at ≤ length sections.abbrevs → abbrevs_of sections unit ≡ table
shared_table sections firsts tables n first unit table match one two at wide inside =
    same_abbrevs sections first unit at wide inside ∙ match_at sections firsts tables n first table match one two

-- The results of the workers.
pub tables_match : (reader : AbbrevParts) (sections : DebugSections) (firsts read : List Unit) (tables : List Read) → reader ≡ record { sections = sections; firsts = read } → read ≡ firsts → length tables ≡ length read → ((k : ℕ) (d : Read) → k < length tables → AbbrevsGive reader (slice_get reader.firsts k) (get_or tables k d)) → Match (IsRead sections) firsts tables
tables_match reader sections firsts read tables is picked long each =
    rw (← picked) (match_in_order (IsRead sections) read tables long (λ k d inside unit there. rw there at (rw is at (each k d inside))))

pub reader_found : (reader made : AbbrevParts) (k : ℕ) (unit : Unit) (read : Read) → reader ≡ made → slice_get made.firsts k ≡ Some unit → abbrevs_of made.sections unit ≡ read → AbbrevsGive reader (slice_get reader.firsts k) read
reader_found reader made k unit read is there each = rw (is, there) each
