-- What is left out of a dump: the units of a supplementary file, and how the lines follow from what
-- was read.
use Rattle.std.proofs.Common.{◌≡◌, ℕ, zero, suc, ◌+◌, ◌≤◌, Bool, true, false, List, [], ◌∷◌, ◌++◌, ◌||◌, append-nil, length, take, refl, sym, ap, ◌∙◌}
use Rattle.std.specs.List.{flat_map, list_any}
use Rattle.std.proofs.lemmas.List.{append_assoc, take_all}
use Rattle.sym_edges.specs.Addresses.{Range}
use Rattle.abbrev_units.specs.UnitPlaces.{read_units}
use Rattle.abbrev_units.specs.declared.unit.Unit.{Unit}
use Rattle.abbrev_units.specs.declared.unit.UnitPart.{UnitPart}
use Rattle.abbrev_units.specs.declared.unit.UnitPart.TheVariants.{Read, Passed, Skipped}
use Rattle.die_walk.specs.EntryTable.{DieFields, EntryTable}
use Rattle.elf_sections.specs.Image.{ImageParts}
use Rattle.debug_units.specs.declared.unit_read.UnitRead.{UnitRead}
use Rattle.debug_read.specs.Each.{Match}
use Rattle.debug_read.specs.DebugSays.{DebugSays, IsKept}
use Rattle.debug_read.specs.ImageSections.{sections_of}
use Rattle.debug_read.specs.SupUnits.{AreTargets, entries_of, leads_into}
use Rattle.debug_read.specs.UnitSays.{UnitSays}
use Rattle.debug_read.specs.UnitsRead.{IsUnitRead}
use Rattle.debug_read.specs.declared.found.DebugRead.{DebugRead}
use Rattle.rule_postfix.specs.declared.omission.Omission.{Omission}
use Rattle.rule_postfix.specs.Written.{omitted}
use Rattle.dumpsyms_cmd.specs.Refusals.{omitted_text, units_text}
use Rattle.dumpsyms_cmd.specs.SupUnits.{own_entries, sup_skipped_by, sup_skipped_of, sup_skipped_text}
use Rattle.dumpsyms_cmd.specs.commands.Dump.{left_out}
use Rattle.dumpsyms_cmd.specs.internal.LeftOut.{is_skipped, is_skipped_by, kept_entries, left_of, sup_left}

-- If a unit is not skipped, it has no line.
no_line : (needed : Bool) (unit : Unit) (part : UnitPart) → is_skipped_by part ≡ false → sup_skipped_by needed unit part ≡ []
no_line true unit Read not = refl
no_line true unit Passed not = refl
no_line true unit Skipped not = absurd (cc)
no_line false unit part not = refl

first_not : (b c : Bool) → (b || c) ≡ false → b ≡ false
first_not true c is = is
first_not false c is = refl

later_not : (b c : Bool) → (b || c) ≡ false → c ≡ false
later_not true c is = absurd (cc)
later_not false c is = is

no_lines : (entries : List DieFields) (units : List Unit) → list_any is_skipped units ≡ false → flat_map (sup_skipped_of entries) units ≡ []
no_lines entries [] none = refl
no_lines entries (unit ∷ units) none =
    ap (λ l. l ++ flat_map (sup_skipped_of entries) units) (no_line (list_any (leads_into unit) entries) unit unit.part (first_not (is_skipped unit) (list_any is_skipped units) none))
    ∙ no_lines entries units (later_not (is_skipped unit) (list_any is_skipped units) none)

pub none_added : (text : List ℕ) (entries : List DieFields) (units : List Unit) → list_any is_skipped units ≡ false → text ≡ text ++ sup_skipped_text entries units
unfolding sup_skipped_text
none_added text entries units none = sym (append-nil text) ∙ ap (λ l. text ++ l) (sym (no_lines entries units none))

-- The places to which entries refer give the same lines.
same_lines : (entries : List DieFields) (targets : List ℕ) (units : List Unit) → AreTargets entries targets → flat_map (sup_left targets) units ≡ flat_map (sup_skipped_of entries) units
same_lines entries targets [] are = refl
same_lines entries targets (unit ∷ units) are =
    ap (λ (b : Bool). sup_skipped_by b unit unit.part ++ flat_map (sup_left targets) units) (are.each unit)
    ∙ ap (λ l. sup_skipped_of entries unit ++ l) (same_lines entries targets units are)

pub lines_added : (before text : List ℕ) (entries : List DieFields) (targets : List ℕ) (units : List Unit) → AreTargets entries targets → text ≡ before ++ flat_map (sup_left targets) units → text ≡ before ++ sup_skipped_text entries units
unfolding sup_skipped_text
lines_added before text entries targets units are is = is ∙ ap (λ l. before ++ l) (same_lines entries targets units are)

-- After the last unit.
pub sup_end : (before text targets : List ℕ) (units : List Unit) (i : ℕ) → length units ≤ i → text ≡ before ++ flat_map (sup_left targets) (take i units) → text ≡ before ++ flat_map (sup_left targets) units
sup_end before text targets units i past is = is ∙ ap (λ l. before ++ flat_map (sup_left targets) l) (take_all i units past)

-- The entries that are kept are those of the definitions.
entries_match : (code : List Range) (n : ℕ) (says : List UnitSays) (parts : List UnitRead) → Match (IsUnitRead code) says parts → entries_of (take n parts) ≡ flat_map (λ (u : UnitSays). u.table.dies) (take n says)
entries_match code zero says parts are = refl
entries_match code (suc n) [] [] are = refl
entries_match code (suc n) [] (part ∷ parts) are = absurd are
entries_match code (suc n) (u ∷ says) [] are = absurd are
entries_match code (suc n) (u ∷ says) (part ∷ parts) are =
    ap (λ l. l ++ entries_of (take n parts)) (ap (λ (t : EntryTable). t.dies) are.0.die)
    ∙ ap (λ l. u.table.dies ++ l) (entries_match code n says parts are.1)

pub entries_kept : (code : List Range) (found : DebugSays) (read : DebugRead) → IsKept code found read → kept_entries read ≡ own_entries found
entries_kept code found read are =
    ap (λ (us : List Unit). entries_of (take (length (read_units us)) read.units)) are.headers
    ∙ entries_match code (length (read_units found.headers)) found.units read.units are.units

-- The lines about what is left out, given what the file says.
pub left_said : (full : Bool) (parts : ImageParts) (found : DebugSays) (read : DebugRead) (left : List Omission) → IsKept parts.code found read → left ≡ omitted parts.code found.first found.second → left_of full parts read left ≡ left_out full parts found
left_said full parts found read left are is =
    ap (λ (us : List Unit). units_text full (sections_of parts) us ++ (sup_skipped_text (kept_entries read) read.sup_headers ++ omitted_text left)) are.headers
    ∙ ap (λ (es : List DieFields). units_text full (sections_of parts) found.headers ++ (sup_skipped_text es read.sup_headers ++ omitted_text left)) (entries_kept parts.code found read are)
    ∙ ap (λ (us : List Unit). units_text full (sections_of parts) found.headers ++ (sup_skipped_text (own_entries found) us ++ omitted_text left)) are.sup_headers
    ∙ ap (λ (os : List Omission). units_text full (sections_of parts) found.headers ++ (sup_skipped_text (own_entries found) found.sup_headers ++ omitted_text os)) is

-- The text is its three parts, one after another.
pub all_left : (full : Bool) (parts : ImageParts) (read : DebugRead) (left : List Omission) (start one two three : List ℕ) → start ≡ [] → one ≡ start ++ units_text full (sections_of parts) read.headers → two ≡ one ++ sup_skipped_text (kept_entries read) read.sup_headers → three ≡ two ++ omitted_text left → three ≡ left_of full parts read left
all_left full parts read left start one two three empty first second third =
    third ∙ ap (λ l. l ++ omitted_text left) (second ∙ ap (λ l. l ++ sup_skipped_text (kept_entries read) read.sup_headers) (first ∙ ap (λ l. l ++ units_text full (sections_of parts) read.headers) empty))
    ∙ append_assoc (units_text full (sections_of parts) read.headers) (sup_skipped_text (kept_entries read) read.sup_headers) (omitted_text left)
