-- What the workers found, unit by unit.
use Rattle.std.proofs.Common.{◌≡◌, ◌<◌, ℕ, List, [], ◌∷◌, ◌++◌, get_or, length, reverse, Option, Some, Result, Ok, Err, refl, sym, ap, subst, ◌∙◌}
use Rattle.std.proofs.lemmas.List.{reverse-append, reverse-reverse}
use Rattle.std.specs.List.{slice_get}
use Rattle.sym_edges.specs.Addresses.{Range}
use Rattle.sym_edges.specs.Results.{◌>>=◌}
use Rattle.sym_edges.specs.declared.located.Located.{Located}
use Rattle.abbrev_units.specs.declared.fault.DwarfKind.{DwarfKind}
use Rattle.abbrev_units.specs.declared.unit.Unit.{Unit}
use Rattle.abbrev_units.specs.DebugSections.{DebugSections}
use Rattle.line_program.specs.LineMaps.{EncloseAlike}
use Rattle.debug_units.specs.declared.unit_read.UnitRead.{UnitRead}
use Rattle.debug_read.specs.Each.{each_of, Match, Says}
use Rattle.debug_read.specs.UnitSays.{UnitSays, unit_says}
use Rattle.debug_read.specs.UnitsRead.{IsUnitRead}
use Rattle.debug_read.specs.declared.unit_tables.UnitFound.{UnitFound}
use Rattle.debug_read.specs.internal.Sharing.{SharedParts}
use Rattle.debug_read.specs.internal.Jobs.{ReaderParts}
use Rattle.debug_read.specs.internal.Owing.{IsOwing, Settles, ReaderGives}
use Rattle.debug_read.proofs.EachLemmas.{Going, going_begins, going_first, going_ends, match_in_order}

abbrev Owing : Type 0
Owing = Result UnitFound (Located DwarfKind)

pub found_all : (reading : ReaderParts) (spans : List Range) (found : List Owing) → EncloseAlike reading.code spans → length found ≡ length reading.units → ((k : ℕ) (d : Owing) → k < length found → ReaderGives reading (slice_get reading.units k) (get_or found k d)) → Match (IsOwing spans reading.sections) reading.units found
found_all reading spans found same long each =
    match_in_order (IsOwing spans reading.sections) reading.units found long
    (λ k d inside unit there. subst (λ (o : Option Unit). ReaderGives reading o (get_or found k d)) there (each k d inside) spans same)

-- The result that the job gives for a number.
pub reader_found : (reader made : ReaderParts) (k : ℕ) (unit : Unit) (found : Owing) → reader ≡ made → slice_get made.units k ≡ Some unit → ((spans : List Range) → EncloseAlike made.code spans → IsOwing spans made.sections unit found) → ReaderGives reader (slice_get reader.units k) found
reader_found reader made k unit found is there each =
    rw (is, there) each

pub found_in : (reading : ReaderParts) (sections : DebugSections) (read units : List Unit) (code spans : List Range) (shared : SharedParts) (found : List Owing) → reading ≡ record { sections = sections; units = read; code = code; shared = shared } → read ≡ units → EncloseAlike code spans → length found ≡ length read → ((k : ℕ) (d : Owing) → k < length found → ReaderGives reading (slice_get reading.units k) (get_or found k d)) → Match (IsOwing spans sections) units found
found_in reading sections read units code spans shared found is picked same long each =
    let made : ReaderParts = record { sections = sections; units = read; code = code; shared = shared } in
    subst (λ (us : List Unit). Match (IsOwing spans sections) us found) picked
    (found_all made spans found same long
    (λ k d inside. subst (λ (r : ReaderParts). ReaderGives r (slice_get r.units k) (get_or found k d)) is (each k d inside)))

-- The results that are still to be joined, from the end of the reversed list, and those that were
-- joined.
pub record Joining (spans : List Range) (sections : DebugSections) (units : List Unit) (left : List Owing) (parts : List UnitRead) : Type 0 where
  pub rest : List Unit
  pub owing : Match (IsOwing spans sections) rest (reverse left)
  pub going : Going (IsUnitRead spans) (each_of (unit_says sections) units) (each_of (unit_says sections) rest) parts

pub joining_begins : (spans : List Range) (sections : DebugSections) (units : List Unit) (found left : List Owing) (parts : List UnitRead) → left ≡ reverse found → parts ≡ [] → Match (IsOwing spans sections) units found → Joining spans sections units left parts
joining_begins spans sections units found left parts is none owing = record {
  rest = units;
  owing = subst (Match (IsOwing spans sections) units) (sym (ap reverse is ∙ reverse-reverse found)) owing;
  going = going_begins (IsUnitRead spans) (each_of (unit_says sections) units) parts none;
}

-- The next unit, and the units after it.
abbrev Next : List Range → DebugSections → List Unit → List Unit → Owing → List Owing → List UnitRead → Type 0
Next spans sections units [] one less parts = ⊥
Next spans sections units (unit ∷ rest) one less parts =
    IsOwing spans sections unit one × Match (IsOwing spans sections) rest less × Going (IsUnitRead spans) (each_of (unit_says sections) units) (each_of (unit_says sections) (unit ∷ rest)) parts

joining_next : (spans : List Range) (sections : DebugSections) (units : List Unit) (left less : List Owing) (parts : List UnitRead) (one : Owing) (joining : Joining spans sections units left parts) → left ≡ less ++ one ∷ [] → Next spans sections units joining.rest one (reverse less) parts
joining_next spans sections units left less parts one joining is = go joining.rest (subst (Match (IsOwing spans sections) joining.rest) (ap reverse is ∙ reverse-append less (one ∷ [])) joining.owing) joining.going
  where
    go : (rest : List Unit) → Match (IsOwing spans sections) rest (one ∷ reverse less) → Going (IsUnitRead spans) (each_of (unit_says sections) units) (each_of (unit_says sections) rest) parts → Next spans sections units rest one (reverse less) parts
    go [] owing going = absurd owing
    go (unit ∷ rest) owing going = (owing.0, owing.1, going)

pub joining_more : (spans : List Range) (sections : DebugSections) (units : List Unit) (left less : List Owing) (parts more : List UnitRead) (one : Owing) (part : UnitRead) → Joining spans sections units left parts → left ≡ less ++ one ∷ [] → Settles spans sections one (Ok part) → more ≡ parts ++ part ∷ [] → Joining spans sections units less more
joining_more spans sections units left less parts more one part joining is settles grown =
    subst (Joining spans sections units less) (sym grown) (go joining.rest (joining_next spans sections units left less parts one joining is))
  where
    go : (rest : List Unit) → Next spans sections units rest one (reverse less) parts → Joining spans sections units less (parts ++ part ∷ [])
    go [] next = absurd next
    go (unit ∷ rest) next = record { rest = rest; owing = next.1; going = going_first (IsUnitRead spans) (unit_says sections) unit rest (each_of (unit_says sections) units) parts part next.2 (settles unit next.0) }

pub joining_fault : (spans : List Range) (sections : DebugSections) (units : List Unit) (left less : List Owing) (parts : List UnitRead) (one : Owing) (fault : Located DwarfKind) → Joining spans sections units left parts → left ≡ less ++ one ∷ [] → Settles spans sections one (Err fault) → each_of (unit_says sections) units ≡ Err fault
unfolding each_of
joining_fault spans sections units left less parts one fault joining is settles = go joining.rest (joining_next spans sections units left less parts one joining is)
  where
    go : (rest : List Unit) → Next spans sections units rest one (reverse less) parts → each_of (unit_says sections) units ≡ Err fault
    go [] next = absurd next
    go (unit ∷ rest) next = next.2.fault fault (ap (λ (r : Result UnitSays (Located DwarfKind)). r >>= λ says. each_of (unit_says sections) rest >>= λ later. Ok (says ∷ later)) (settles unit next.0))

pub joining_ends : (spans : List Range) (sections : DebugSections) (units : List Unit) (left : List Owing) (parts : List UnitRead) → Joining spans sections units left parts → left ≡ [] → Says (Match (IsUnitRead spans)) (each_of (unit_says sections) units) parts
joining_ends spans sections units left parts joining none = go joining.rest (subst (λ (l : List Owing). Match (IsOwing spans sections) joining.rest (reverse l)) none joining.owing) joining.going
  where
    go : (rest : List Unit) → Match (IsOwing spans sections) rest [] → Going (IsUnitRead spans) (each_of (unit_says sections) units) (each_of (unit_says sections) rest) parts → Says (Match (IsUnitRead spans)) (each_of (unit_says sections) units) parts
    go [] owing going = going_ends (IsUnitRead spans) (unit_says sections) [] 0 (each_of (unit_says sections) units) parts refl going
    go (unit ∷ rest) owing going = absurd owing
