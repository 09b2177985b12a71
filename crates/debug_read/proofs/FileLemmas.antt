-- The units of a file, and of a file with its supplementary file; for src/units.rt.
use Rattle.std.proofs.Common.{◌≡◌, ◌≤◌, ◌^◌, ℕ, true, false, List, [], ◌∷◌, ◌++◌, length, Option, None, Some, Result, Ok, Err, refl, sym, ap, subst, ◌∙◌}
use Rattle.sym_edges.specs.Addresses.{Range}
use Rattle.sym_edges.specs.Results.{◌>>=◌}
use Rattle.sym_edges.specs.Outside.{MatchStop}
use Rattle.sym_edges.specs.declared.fault.Stop.{Stop}
use Rattle.sym_edges.specs.declared.fault.Stop.TheVariants as stop
use Rattle.sym_edges.specs.declared.located.Located.{Located}
use Rattle.abbrev_units.specs.Faults.{Gives}
use Rattle.abbrev_units.specs.declared.fault.DwarfKind.{DwarfKind}
use Rattle.abbrev_units.specs.declared.unit.Unit.{Unit}
use Rattle.abbrev_units.specs.DebugSections.{DebugSections}
use Rattle.abbrev_units.specs.Units.{units_in}
use Rattle.abbrev_units.specs.UnitPlaces.{read_units}
use Rattle.elf_sections.specs.Image.{ImageParts, DebugSections as ImageDebug}
use Rattle.debug_units.specs.declared.unit_read.UnitRead.{UnitRead}
use Rattle.debug_units.specs.UnitEntries.{ArePairs, AreRead}
use Rattle.debug_units.proofs.ReadLemmas.{are_read}
use Rattle.debug_read.specs.declared.fault.DebugFault.{DebugFault}
use Rattle.debug_read.specs.declared.fault.DebugFault.TheVariants.{Dwarf, Sup}
use Rattle.debug_read.specs.declared.units.FileRead.{FileRead}
use Rattle.debug_read.specs.declared.units.BothRead.{BothRead}
use Rattle.debug_read.specs.Each.{each_of, Match, Says}
use Rattle.debug_read.specs.ImageSections.{sections_of, sup_sections_of}
use Rattle.debug_read.specs.UnitSays.{UnitSays, unit_says}
use Rattle.debug_read.specs.UnitsRead.{IsUnitRead}
use Rattle.debug_read.specs.DebugSays.{FileSays, BothSays, file_says, both_says, as_dwarf, as_sup}
use Rattle.debug_read.specs.internal.Files.{IsFileRead, IsBothRead}
use Rattle.debug_read.specs.internal.Stops.{dwarf_stop, sup_stop}
use Rattle.debug_read.proofs.UnitLemmas.{parts_are}
use Rattle.debug_read.proofs.SaidLemmas.{match_append}

abbrev Fault : Type 0
Fault = Located DwarfKind

-- The steps of reading a file.
abbrev with_units : List Unit → List UnitSays → Result FileSays Fault
with_units headers units = Ok (record { headers = headers; units = units })

abbrev with_headers : DebugSections → List Unit → Result FileSays Fault
with_headers sections headers = each_of (unit_says sections) (read_units headers) >>= with_units headers

made_by : (code : List Range) (headers : List Unit) (parts : List UnitRead) (file : FileRead) (units : Result (List UnitSays) Fault) → file.headers ≡ headers → file.parts.items ≡ parts → Says (Match (IsUnitRead code)) units parts → Says (IsFileRead code) (units >>= with_units headers) file
made_by code headers parts file (Ok units) heads are says = record { headers = heads; units = rw are says }
made_by code headers parts file (Err fault) heads are says = absurd says

pub file_made : (sections : DebugSections) (code : List Range) (headers : List Unit) (parts : List UnitRead) (file : FileRead) → units_in sections.info ≡ Ok headers → file.headers ≡ headers → file.parts.items ≡ parts → Says (Match (IsUnitRead code)) (each_of (unit_says sections) (read_units headers)) parts → Says (IsFileRead code) (file_says sections) file
unfolding file_says
file_made sections code headers parts file is heads are says =
    rw is (made_by code headers parts file (each_of (unit_says sections) (read_units headers)) heads are says)

pub headers_fault : (sections : DebugSections) (fault : Fault) → units_in sections.info ≡ Err fault → file_says sections ≡ Err fault
unfolding file_says
headers_fault sections fault is = ap (λ (r : Result (List Unit) Fault). r >>= with_headers sections) is

pub units_fault : (sections : DebugSections) (headers : List Unit) (fault : Fault) → units_in sections.info ≡ Ok headers → each_of (unit_says sections) (read_units headers) ≡ Err fault → file_says sections ≡ Err fault
unfolding file_says
units_fault sections headers fault is stops =
    ap (λ (r : Result (List Unit) Fault). r >>= with_headers sections) is ∙ ap (λ (r : Result (List UnitSays) Fault). r >>= with_units headers) stops

pub headers_stop : {W : Type 0} (P : W → Type 0) (sections : DebugSections) (info : List ℕ) (stop : Stop Fault) → info ≡ sections.info → Gives {A = List Unit} (Err stop) (units_in info) → MatchStop {A = W} (Err stop) P (λ fault. file_says sections ≡ Err fault) (Prim.Unit {0})
headers_stop P sections info (stop.Fault fault) same is = headers_fault sections fault (ap units_in (sym same) ∙ is)
headers_stop P sections info stop.NoMemory same is = tt

-- What was read of a file, part by part.
record Parts (sections : DebugSections) (code : List Range) (file : FileRead) : Type 0 where
  headers : units_in sections.info ≡ Ok file.headers
  units : Says (Match (IsUnitRead code)) (each_of (unit_says sections) (read_units file.headers)) file.parts.items

parts_by : (sections : DebugSections) (code : List Range) (file : FileRead) (headers : List Unit) (units : Result (List UnitSays) Fault) → units_in sections.info ≡ Ok headers → each_of (unit_says sections) (read_units headers) ≡ units → Says (IsFileRead code) (units >>= with_units headers) file → Parts sections code file
parts_by sections code file headers (Ok units) is are says = record {
  headers = is ∙ ap Ok (sym says.headers);
  units = rw (says.headers, are) says.units;
}
parts_by sections code file headers (Err fault) is are says = absurd says

parts_in : (sections : DebugSections) (code : List Range) (file : FileRead) (headers : Result (List Unit) Fault) → units_in sections.info ≡ headers → Says (IsFileRead code) (headers >>= with_headers sections) file → Parts sections code file
parts_in sections code file (Ok headers) is says = parts_by sections code file headers (each_of (unit_says sections) (read_units headers)) is refl says
parts_in sections code file (Err fault) is says = absurd says

parts_of : (sections : DebugSections) (code : List Range) (file : FileRead) → Says (IsFileRead code) (file_says sections) file → Parts sections code file
unfolding file_says
parts_of sections code file says = parts_in sections code file (units_in sections.info) refl says

-- The entries of both files have their sets.
both_paired : (parts more : List UnitRead) → ArePairs parts → ArePairs more → ArePairs (parts ++ more)
both_paired [] more first later = later
both_paired (part ∷ parts) more first later = (first.0, both_paired parts more first.1 later)

sup_is : (image : ImageParts) → (sup_sections_of image.sup).is_sup ≡ true
sup_is image = go image.sup
  where
    go : (sup : Option ImageDebug) → (sup_sections_of sup).is_sup ≡ true
    go (Some sup) = refl
    go None = refl

both_by_parts : (own sup : DebugSections) (code other_code : List Range) (file other : FileRead) → own.is_sup ≡ false → sup.is_sup ≡ true → length own.info ≤ 2 ^ 29 → length sup.info ≤ 2 ^ 29 → Parts own code file → Parts sup other_code other → AreRead (file.parts.items ++ other.parts.items)
both_by_parts own sup code other_code file other here there small less one two =
    let first = parts_are own (read_units file.headers) code file.parts.items one.units in
    let later = parts_are sup (read_units other.headers) other_code other.parts.items two.units in
    are_read own sup file.headers other.headers file.parts.items other.parts.items here there small less one.headers two.headers
    first.0 later.0 (both_paired file.parts.items other.parts.items first.1 later.1)

pub both_are_read : (image : ImageParts) (own sup : DebugSections) (code other_code : List Range) (file other : FileRead) → own ≡ sections_of image → sup ≡ sup_sections_of image.sup → length own.info ≤ 2 ^ 29 → length sup.info ≤ 2 ^ 29
    → Says (IsFileRead code) (file_says own) file → Says (IsFileRead other_code) (file_says sup) other → AreRead (file.parts.items ++ other.parts.items)
both_are_read image own sup code other_code file other own_is sup_of small less says others =
    both_by_parts own sup code other_code file other (ap (λ (s : DebugSections). s.is_sup) own_is) (ap (λ (s : DebugSections). s.is_sup) sup_of ∙ sup_is image) small less (parts_of own code file says) (parts_of sup other_code other others)

-- The steps of reading both files.
abbrev join : FileSays → FileSays → Result BothSays DebugFault
join own sup = Ok (record { headers = own.headers; sup_headers = sup.headers; units = own.units ++ sup.units })

abbrev with_own : ImageParts → FileSays → Result BothSays DebugFault
with_own image own = as_sup (file_says (sup_sections_of image.sup)) >>= join own

joined : (code : List Range) (own : FileSays) (sup : Result FileSays Fault) (file other : FileRead) (both : BothRead) → both.headers ≡ file.headers → both.sup_headers ≡ other.headers → both.units ≡ file.parts.items ++ other.parts.items
    → IsFileRead code own file → Says (IsFileRead code) sup other → Says (IsBothRead code) (as_sup sup >>= join own) both
joined code own (Ok sup) file other both one two units first later = record {
  headers = one ∙ first.headers;
  sup_headers = two ∙ later.headers;
  units = rw units (match_append (IsUnitRead code) own.units sup.units file.parts.items other.parts.items first.units later.units);
}
joined code own (Err fault) file other both one two units first later = absurd later

both_by : (image : ImageParts) (own : Result FileSays Fault) (file other : FileRead) (both : BothRead) → both.headers ≡ file.headers → both.sup_headers ≡ other.headers → both.units ≡ file.parts.items ++ other.parts.items
    → Says (IsFileRead image.code) own file → Says (IsFileRead image.code) (file_says (sup_sections_of image.sup)) other → Says (IsBothRead image.code) (as_dwarf own >>= with_own image) both
both_by image (Ok own) file other both one two units first later = joined image.code own (file_says (sup_sections_of image.sup)) file other both one two units first later
both_by image (Err fault) file other both one two units first later = absurd first

pub both_made : (image : ImageParts) (own sup : DebugSections) (code other_code : List Range) (file other : FileRead) (both : BothRead) → own ≡ sections_of image → sup ≡ sup_sections_of image.sup → code ≡ image.code → other_code ≡ image.code → both.headers ≡ file.headers → both.sup_headers ≡ other.headers → both.units ≡ file.parts.items ++ other.parts.items
    → Says (IsFileRead code) (file_says own) file → Says (IsFileRead other_code) (file_says sup) other → Says (IsBothRead image.code) (both_says image) both
unfolding both_says
both_made image own sup code other_code file other both own_is sup_of code_is other_is one two units first later =
    both_by image (file_says (sections_of image)) file other both one two units
    (rw (own_is, code_is) at first) (rw (sup_of, other_is) at later)

own_fault : (image : ImageParts) (fault : Fault) → file_says (sections_of image) ≡ Err fault → both_says image ≡ Err (Dwarf fault)
unfolding both_says
own_fault image fault is = ap (λ (r : Result FileSays Fault). as_dwarf r >>= with_own image) is

pub own_stop : {V W : Type 0} (P : V → Type 0) (Q : W → Type 0) (image : ImageParts) (own : DebugSections) (stopped : Stop Fault) (out : Stop DebugFault) → own ≡ sections_of image → out ≡ dwarf_stop stopped → MatchStop {A = V} (Err stopped) P (λ fault. file_says own ≡ Err fault) (Prim.Unit {0})
    → MatchStop {A = W} (Err out) Q (λ fault. both_says image ≡ Err fault) (Prim.Unit {0})
own_stop {V} {W} P Q image own stopped out same is says = subst (λ (s : Stop DebugFault). MatchStop {A = W} (Err s) Q (λ fault. both_says image ≡ Err fault) (Prim.Unit {0})) (sym is) (go stopped says)
  where
    go : (s : Stop Fault) → MatchStop {A = V} (Err s) P (λ fault. file_says own ≡ Err fault) (Prim.Unit {0}) → MatchStop {A = W} (Err (dwarf_stop s)) Q (λ fault. both_says image ≡ Err fault) (Prim.Unit {0})
    go (stop.Fault fault) said = own_fault image fault (ap file_says (sym same) ∙ said)
    go stop.NoMemory said = tt

sup_fault_by : (image : ImageParts) (code : List Range) (own : Result FileSays Fault) (file : FileRead) (fault : Fault) → Says (IsFileRead code) own file → file_says (sup_sections_of image.sup) ≡ Err fault → (as_dwarf own >>= with_own image) ≡ Err (Sup fault)
sup_fault_by image code (Ok own) file fault says is = ap (λ (r : Result FileSays Fault). as_sup r >>= join own) is
sup_fault_by image code (Err other) file fault says is = absurd says

sup_fault : (image : ImageParts) (code : List Range) (file : FileRead) (fault : Fault) → Says (IsFileRead code) (file_says (sections_of image)) file → file_says (sup_sections_of image.sup) ≡ Err fault → both_says image ≡ Err (Sup fault)
unfolding both_says
sup_fault image code file fault says is = sup_fault_by image code (file_says (sections_of image)) file fault says is

pub sup_stopped : {V W : Type 0} (P : V → Type 0) (Q : W → Type 0) (image : ImageParts) (own sup : DebugSections) (code : List Range) (file : FileRead) (stopped : Stop Fault) (out : Stop DebugFault) → own ≡ sections_of image → sup ≡ sup_sections_of image.sup → out ≡ sup_stop stopped → Says (IsFileRead code) (file_says own) file
    → MatchStop {A = V} (Err stopped) P (λ fault. file_says sup ≡ Err fault) (Prim.Unit {0}) → MatchStop {A = W} (Err out) Q (λ fault. both_says image ≡ Err fault) (Prim.Unit {0})
sup_stopped {V} {W} P Q image own sup code file stopped out own_is sup_of is first says = subst (λ (s : Stop DebugFault). MatchStop {A = W} (Err s) Q (λ fault. both_says image ≡ Err fault) (Prim.Unit {0})) (sym is) (go stopped says)
  where
    go : (s : Stop Fault) → MatchStop {A = V} (Err s) P (λ fault. file_says sup ≡ Err fault) (Prim.Unit {0}) → MatchStop {A = W} (Err (sup_stop s)) Q (λ fault. both_says image ≡ Err fault) (Prim.Unit {0})
    go (stop.Fault fault) said = sup_fault image code file fault (subst (λ (s : DebugSections). Says (IsFileRead code) (file_says s) file) own_is first) (ap file_says (sym sup_of) ∙ said)
    go stop.NoMemory said = tt
