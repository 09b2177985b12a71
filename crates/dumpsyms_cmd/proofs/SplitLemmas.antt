-- Units whose entries are in another file, for `split_units`.
use Rattle.std.proofs.Common.{◌≡◌, ℕ, ◌+◌, ◌<◌, ◌≤◌, Bool, false, List, [], min, Option, Some, None, Result, Ok, Err, length, take, drop, drop_of_length-le, refl, sym, ◌∙◌, ap, arith, subst}
use Rattle.std.proofs.lemmas.Bool.{cond-false, le-ltb}
use Rattle.std.proofs.lemmas.List.{length-take, get_or_past, take_min}
use Rattle.sym_edges.specs.Results.{◌>>=◌}
use Rattle.sym_edges.specs.declared.located.Located.{Located}
use Rattle.sym_edges.specs.declared.part.Sect.TheVariants as section
use Rattle.leb_cursor.specs.Ahead.{Ahead}
use Rattle.leb_cursor.specs.Readings.{uleb_at, leb_length}
use Rattle.abbrev_units.specs.Abbreviations.{used_at, abbrevs_of}
use Rattle.abbrev_units.specs.DebugSections.{DebugSections}
use Rattle.abbrev_units.specs.SpecFields.{Abbrev}
use Rattle.abbrev_units.specs.Faults.{read_in}
use Rattle.abbrev_units.specs.Texts.{ahead_from, read_or_none}
use Rattle.abbrev_units.specs.declared.fault.DwarfKind.{DwarfKind}
use Rattle.abbrev_units.specs.declared.unit.Unit.{Unit}
use Rattle.dumpsyms_cmd.specs.SplitUnits.{length_width, unit_type, root_code, root_by, root_names_file}
use Rattle.dumpsyms_cmd.specs.internal.HeldTable.{IsHeld}

-- A place after the end of the section.
pub type_beyond : (info : List ℕ) (unit : Unit) → length info < unit.start → unit_type info unit ≡ 0
type_beyond info unit far = get_or_past info (unit.start + length_width unit.wide + 2) 0 (omega (arith, far))

-- The code of the first entry, if the section ends before the unit.
abbrev code_at : List ℕ → ℕ → ℕ → Option ℕ
code_at info body end = read_or_none (uleb_at (record { bytes = drop body (take end info); at = body }))

no_code : (at : ℕ) → read_or_none (uleb_at (record { bytes = []; at = at })) ≡ None
unfolding uleb_at leb_length
no_code at = refl

cut : (info : List ℕ) (unit : Unit) (end : ℕ) → end ≡ min unit.end (length info) → code_at info unit.body end ≡ root_code info unit
cut info unit end is = ap (λ (e : ℕ). read_or_none (uleb_at (record { bytes = drop unit.body (take e info); at = unit.body }))) is ∙ ap (λ (bytes : List ℕ). read_or_none (uleb_at (record { bytes = drop unit.body bytes; at = unit.body }))) (take_min unit.end info)

pub code_inside : (info : List ℕ) (unit : Unit) (end : ℕ) (code : Option ℕ) → end ≡ min unit.end (length info) → code ≡ read_or_none (uleb_at (record { bytes = drop unit.body (take end info); at = unit.body })) → code ≡ root_code info unit
code_inside info unit end code is read = read ∙ cut info unit end is

pub code_beyond : (info : List ℕ) (unit : Unit) (end : ℕ) → end ≡ min unit.end (length info) → end < unit.body → None ≡ root_code info unit
code_beyond info unit end is far =
    let short : length (take end info) ≤ unit.body = omega (arith, length-take end info, far) in
    sym (ap (λ (bytes : List ℕ). read_or_none (uleb_at (record { bytes = bytes; at = unit.body }))) (drop_of_length-le (take end info) short) ∙ no_code unit.body) ∙ cut info unit end is

-- The abbreviations of a unit are those of another unit at the same place.
abbrev Table : Type 0
Table = Result (List Abbrev) (Located DwarfKind)

abbrev only_list : List Abbrev × Ahead → Table
only_list x = Ok x.0

abbrev table_from : DebugSections → ℕ → Bool → Table
table_from sections at wide = read_in section.Abbrev (used_at wide (ahead_from at sections.abbrevs)) >>= only_list

inside_is : (sections : DebugSections) (unit : Unit) → unit.abbrev_at ≤ length sections.abbrevs → abbrevs_of sections unit ≡ table_from sections unit.abbrev_at unit.wide
unfolding abbrevs_of
inside_is sections unit inside = cond-false _ _ _ (le-ltb (length sections.abbrevs) unit.abbrev_at inside)

same_table : (sections : DebugSections) (one unit : Unit) → one.abbrev_at ≡ unit.abbrev_at → one.wide ≡ unit.wide → unit.abbrev_at ≤ length sections.abbrevs → abbrevs_of sections unit ≡ abbrevs_of sections one
same_table sections one unit at wide inside =
    inside_is sections unit inside
    ∙ sym (ap (λ (n : ℕ). table_from sections n unit.wide) at)
    ∙ sym (ap (λ (w : Bool). table_from sections one.abbrev_at w) wide)
    ∙ sym (inside_is sections one (omega (arith, at, inside)))

pub held_same : (sections : DebugSections) (held : Option Unit) (one unit : Unit) (abbrevs : List Abbrev) → held ≡ Some one → IsHeld sections held abbrevs → one.abbrev_at ≡ unit.abbrev_at → one.wide ≡ unit.wide → unit.abbrev_at ≤ length sections.abbrevs → abbrevs_of sections unit ≡ Ok abbrevs
held_same sections held one unit abbrevs is holds at wide inside =
    same_table sections one unit at wide inside ∙ subst (λ (h : Option Unit). IsHeld sections h abbrevs) is holds

-- The result, given the code and the abbreviations.
pub root_none : (sections : DebugSections) (unit : Unit) (code : Option ℕ) → code ≡ root_code sections.info unit → code ≡ None → false ≡ root_names_file sections unit
root_none sections unit code is none = ap (λ (c : Option ℕ). root_by c (abbrevs_of sections unit)) (sym none ∙ is)

pub root_read : (sections : DebugSections) (unit : Unit) (code : ℕ) (abbrevs : List Abbrev) (split : Bool) → Some code ≡ root_code sections.info unit → abbrevs_of sections unit ≡ Ok abbrevs → split ≡ root_by (Some code) (Ok abbrevs) → split ≡ root_names_file sections unit
root_read sections unit code abbrevs split is read named =
    named ∙ sym (ap (λ (r : Result (List Abbrev) (Located DwarfKind)). root_by (Some code) r) read) ∙ ap (λ (c : Option ℕ). root_by c (abbrevs_of sections unit)) is

pub root_refused : (sections : DebugSections) (unit : Unit) (code : ℕ) (fault : Located DwarfKind) → Some code ≡ root_code sections.info unit → abbrevs_of sections unit ≡ Err fault → false ≡ root_names_file sections unit
root_refused sections unit code fault is read =
    sym (ap (λ (r : Result (List Abbrev) (Located DwarfKind)). root_by (Some code) r) read) ∙ ap (λ (c : Option ℕ). root_by c (abbrevs_of sections unit)) is
