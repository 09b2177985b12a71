-- The walk, step by step.
use Rattle.std.proofs.Common.{◌≡◌, ◌<◌, ◌≤◌, ◌+◌, ◌^◌, ℕ, Bool, true, false, nat_eq, cond, List, [], ◌∷◌, length, Option, None, Some, Result, Ok, Err, refl, sym, ap, subst, ◌∙◌, arith, take, ◌-◌, length-drop, length-take-le}
use Rattle.std.proofs.lemmas.Bool.{cond-true, cond-false}
use Rattle.std.proofs.lemmas.Bool.Decides.{nat_tests}
use Rattle.std.specs.Option.{option_map}
use Rattle.sym_edges.specs.Results.{◌>>=◌}
use Rattle.sym_edges.specs.declared.fault.Stop.{Stop}
use Rattle.sym_edges.specs.declared.fault.Stop.TheVariants.{Fault, NoMemory}
use Rattle.sym_edges.specs.declared.located.Located.{Located}
use Rattle.sym_edges.specs.declared.part.Sect.TheVariants.{Info}
use Rattle.leb_cursor.specs.declared.fault.CursorFault.{CursorFault}
use Rattle.leb_cursor.specs.Ahead.{Ahead}
use Rattle.leb_cursor.specs.Passes.{Passes}
use Rattle.leb_cursor.specs.Readings.{uleb_at}
use Rattle.leb_cursor.specs.Lists.{list_by, list_at, list_cases, GoesOn}
use Rattle.leb_cursor.proofs.PassLemmas.{uleb_passes, passes_then}
use Rattle.leb_cursor.proofs.ListLemmas.{either_passes, list_follows}
use Rattle.abbrev_units.specs.SpecFields.{Abbrev}
use Rattle.abbrev_units.specs.declared.fault.DwarfKind.{DwarfKind}
use Rattle.abbrev_units.specs.declared.fault.DwarfKind.TheVariants as is
use Rattle.abbrev_units.specs.declared.fault.FormFault.{FormFault}
use Rattle.abbrev_units.specs.declared.unit.Unit.{Unit}
use Rattle.abbrev_units.specs.declared.value.Given.{Given}
use Rattle.abbrev_units.specs.DebugSections.{DebugSections}
use Rattle.abbrev_units.specs.Faults.{in_section, read_in}
use Rattle.abbrev_units.specs.Abbreviations.{abbrev_of}
use Rattle.abbrev_units.specs.Values.{values_at}
use Rattle.abbrev_units.proofs.FormLemmas.{values_pass}
use Rattle.die_walk.specs.EntryTable.{DieFields, EntryTable, table_of, entries_ahead, entry_table}
use Rattle.die_walk.specs.Marks.{Mark, in_entry, read_values_at, entry_by, mark_by, mark_at, next_mark, marks_at}
use Rattle.die_walk.specs.Marks.Mark.{Close, Entry}
use Rattle.abbrev_units.proofs.OkLemmas.{ahead_or}
use Rattle.die_walk.proofs.TreeLemmas.{start_is, moved_few}
use Rattle.die_walk.specs.Steps.{Walked, entered, moved, all_moved, rounded, table_in, walked_from, moving, moved_at, step_at, Steps, Moves, IsShort, TableOf}

-- How many bytes a mark passes.
entry_passes : {A : Type 0} (reading : Result (A × Ahead) FormFault) (least : ℕ) (c : Ahead) → Passes least c reading → Passes least c (in_entry reading)
entry_passes (Ok x) least c goes = goes
entry_passes (Err fault) least c goes = tt

section_passes : {A : Type 0} (reading : Result (A × Ahead) CursorFault) (least : ℕ) (c : Ahead) → Passes least c reading → Passes least c (read_in Info reading)
section_passes (Ok x) least c goes = goes
section_passes (Err fault) least c goes = tt

by_passes : (found : Option Abbrev) (at : ℕ) (c : Ahead) → Passes 0 c (entry_by found at c)
unfolding read_values_at
by_passes None at c = tt
by_passes (Some found) at c =
    passes_then (in_entry (values_at found.specs c)) (λ values. Ok (Entry at found.tag found.children values.0, values.1)) 0 0 c
    (entry_passes (values_at found.specs c) 0 c (values_pass found.specs c)) (λ values. (omega arith, refl))

mark_passes : (abbrevs : List Abbrev) (c : Ahead) → Passes 1 c (mark_at abbrevs c)
unfolding mark_at mark_by
mark_passes abbrevs c =
    passes_then (read_in Info (uleb_at c)) (λ code. mark_by abbrevs c.at code.0 code.1) 1 0 c (section_passes (uleb_at c) 1 c (uleb_passes c))
    (λ code. either_passes (nat_eq code.0 0) (Ok (Close, code.1)) (entry_by (abbrev_of code.0 abbrevs) c.at code.1) 0 code.1 (omega arith, refl) (by_passes (abbrev_of code.0 abbrevs) c.at code.1))

member_goes : (reading : Result (Mark × Ahead) (Located DwarfKind)) (c : Ahead) → Passes 1 c reading → GoesOn c (reading >>= λ mark. Ok (Some mark.0, mark.1))
member_goes (Ok x) c passes = passes
member_goes (Err fault) c passes = tt

next_by : (abbrevs : List Abbrev) (ended : Bool) (c : Ahead) → GoesOn c (cond ended (Ok (None, c)) (mark_at abbrevs c >>= λ mark. Ok (Some mark.0, mark.1)))
next_by abbrevs true c = (omega arith, refl)
next_by abbrevs false c = member_goes (mark_at abbrevs c) c (mark_passes abbrevs c)

pub next_goes : (abbrevs : List Abbrev) (c : Ahead) → GoesOn c (next_mark abbrevs c)
unfolding next_mark
next_goes abbrevs c = next_by abbrevs (nat_eq (length c.bytes) 0) c

-- A step of the walk, given the next mark.
abbrev pub stepping : DebugSections → Unit → Walked → Option Mark × Ahead → Result (Option Walked × Ahead) (Located DwarfKind)
stepping sections unit w next = Ok (option_map (moved sections unit w) next.0, next.1)

made_step : (sections : DebugSections) (unit : Unit) (abbrevs : List Abbrev) (w : Walked) (c : Ahead) (next : Result (Option Mark × Ahead) (Located DwarfKind)) → next_mark abbrevs c ≡ next → step_at sections unit abbrevs w c ≡ (next >>= stepping sections unit w)
unfolding step_at
made_step sections unit abbrevs w c next is = ap (λ r. r >>= stepping sections unit w) is

next_is : (abbrevs : List Abbrev) (c : Ahead) (mark : Result (Mark × Ahead) (Located DwarfKind)) → nat_eq (length c.bytes) 0 ≡ false → mark_at abbrevs c ≡ mark → next_mark abbrevs c ≡ (mark >>= λ m. Ok (Some m.0, m.1))
unfolding next_mark
next_is abbrevs c mark left is = cond-false _ _ _ left ∙ ap (λ r. r >>= λ m. Ok (Some m.0, m.1)) is

pub step_end : (sections : DebugSections) (unit : Unit) (abbrevs : List Abbrev) (w : Walked) (c : Ahead) → nat_eq (length c.bytes) 0 ≡ true → step_at sections unit abbrevs w c ≡ Ok (None, c)
unfolding next_mark
step_end sections unit abbrevs w c ended = made_step sections unit abbrevs w c (Ok (None, c)) (cond-true _ _ _ ended)

coded : (abbrevs : List Abbrev) (c : Ahead) (code : Result (ℕ × Ahead) CursorFault) → code ≡ uleb_at c → mark_at abbrevs c ≡ (read_in Info code >>= λ x. mark_by abbrevs c.at x.0 x.1)
unfolding mark_at
coded abbrevs c code is = ap (λ r. read_in Info r >>= λ x. mark_by abbrevs c.at x.0 x.1) (sym is)

pub step_cut : (sections : DebugSections) (unit : Unit) (abbrevs : List Abbrev) (w : Walked) (c : Ahead) (fault : CursorFault) → nat_eq (length c.bytes) 0 ≡ false → Err fault ≡ uleb_at c → step_at sections unit abbrevs w c ≡ Err (in_section Info fault)
step_cut sections unit abbrevs w c fault left is =
    made_step sections unit abbrevs w c (Err (in_section Info fault)) (next_is abbrevs c (Err (in_section Info fault)) left (coded abbrevs c (Err fault) is))

pub step_close : (sections : DebugSections) (unit : Unit) (abbrevs : List Abbrev) (w x : Walked) (code : ℕ) (c d : Ahead) → nat_eq (length c.bytes) 0 ≡ false → Ok (code, d) ≡ uleb_at c → code ≡ 0 → x ≡ moved sections unit w Close → step_at sections unit abbrevs w c ≡ Ok (Some x, d)
unfolding mark_by
step_close sections unit abbrevs w x code c d left read zero_code after =
    let zero_is : nat_eq code 0 ≡ true = ap (λ n. nat_eq n 0) zero_code in
    made_step sections unit abbrevs w c (Ok (Some Close, d)) (next_is abbrevs c (Ok (Close, d)) left (coded abbrevs c (Ok (code, d)) read ∙ cond-true _ _ _ zero_is))
    ∙ ap (λ (y : Walked). Ok (Some y, d)) (sym after)

entry_mark : (abbrevs : List Abbrev) (code : ℕ) (c d : Ahead) (found : Option Abbrev) → Ok (code, d) ≡ uleb_at c → nat_eq code 0 ≡ false → found ≡ abbrev_of code abbrevs → mark_at abbrevs c ≡ entry_by found c.at d
unfolding mark_by
entry_mark abbrevs code c d found read some is =
    coded abbrevs c (Ok (code, d)) read ∙ cond-false _ _ _ some ∙ ap (λ f. entry_by f c.at d) (sym is)

pub step_unknown : (sections : DebugSections) (unit : Unit) (abbrevs : List Abbrev) (w : Walked) (code : ℕ) (c d : Ahead) → nat_eq (length c.bytes) 0 ≡ false → Ok (code, d) ≡ uleb_at c → nat_eq code 0 ≡ false → None ≡ abbrev_of code abbrevs → step_at sections unit abbrevs w c ≡ Err (record { kind = is.NoAbbrev; section = Info; at = c.at })
step_unknown sections unit abbrevs w code c d left read some none =
    made_step sections unit abbrevs w c (Err (record { kind = is.NoAbbrev; section = Info; at = c.at }))
    (next_is abbrevs c (Err (record { kind = is.NoAbbrev; section = Info; at = c.at })) left (entry_mark abbrevs code c d None read some none))

-- The parts of the step that reads an entry.
abbrev as_entry : ℕ → Abbrev → List Given × Ahead → Result (Mark × Ahead) (Located DwarfKind)
as_entry at found values = Ok (Entry at found.tag found.children values.0, values.1)

abbrev as_member : Mark × Ahead → Result (Option Mark × Ahead) (Located DwarfKind)
as_member mark = Ok (Some mark.0, mark.1)

abbrev as_walked : Walked × Ahead → Result (Option Walked × Ahead) (Located DwarfKind)
as_walked x = Ok (Some x.0, x.1)

entry_step : (sections : DebugSections) (unit : Unit) (w : Walked) (at : ℕ) (found : Abbrev) (reading : Result (List Given × Ahead) (Located DwarfKind)) → (((reading >>= as_entry at found) >>= as_member) >>= stepping sections unit w) ≡ ((reading >>= moving sections unit w at found) >>= as_walked)
entry_step sections unit w at found (Ok values) = refl
entry_step sections unit w at found (Err fault) = refl

found_step : (sections : DebugSections) (unit : Unit) (abbrevs : List Abbrev) (w : Walked) (code : ℕ) (found : Abbrev) (c d : Ahead) → nat_eq (length c.bytes) 0 ≡ false → Ok (code, d) ≡ uleb_at c → nat_eq code 0 ≡ false → Some found ≡ abbrev_of code abbrevs → step_at sections unit abbrevs w c ≡ (moved_at sections unit w c.at found d >>= as_walked)
unfolding moved_at
found_step sections unit abbrevs w code found c d left read some is =
    made_step sections unit abbrevs w c (entry_by (Some found) c.at d >>= as_member) (next_is abbrevs c (entry_by (Some found) c.at d) left (entry_mark abbrevs code c d (Some found) read some is))
    ∙ entry_step sections unit w c.at found (read_values_at found.specs d)

pub step_entry : (sections : DebugSections) (unit : Unit) (abbrevs : List Abbrev) (w x : Walked) (code at : ℕ) (found : Abbrev) (c d e : Ahead) → nat_eq (length c.bytes) 0 ≡ false → Ok (code, d) ≡ uleb_at c → nat_eq code 0 ≡ false → Some found ≡ abbrev_of code abbrevs → at ≡ c.at → moved_at sections unit w at found d ≡ Ok (x, e) → step_at sections unit abbrevs w c ≡ Ok (Some x, e)
step_entry sections unit abbrevs w x code at found c d e left read some is here moves =
    found_step sections unit abbrevs w code found c d left read some is
    ∙ ap (λ r. r >>= as_walked) (ap (λ n. moved_at sections unit w n found d) (sym here) ∙ moves)

pub step_stopped : (sections : DebugSections) (unit : Unit) (abbrevs : List Abbrev) (w v x : Walked) (code at : ℕ) (found : Abbrev) (stop : Stop (Located DwarfKind)) (c d e f : Ahead) → nat_eq (length c.bytes) 0 ≡ false → Ok (code, d) ≡ uleb_at c → nat_eq code 0 ≡ false → Some found ≡ abbrev_of code abbrevs → at ≡ c.at → Moves {U = Prim.Unit {0}} (Err stop) v e (moved_at sections unit w at found d) → Steps (Err stop) x f (step_at sections unit abbrevs w c)
step_stopped sections unit abbrevs w v x code at found (Fault fault) c d e f left read some is here moves =
    found_step sections unit abbrevs w code found c d left read some is
    ∙ ap (λ r. r >>= as_walked) (ap (λ n. moved_at sections unit w n found d) (sym here) ∙ moves)
step_stopped sections unit abbrevs w v x code at found NoMemory c d e f left read some is here moves = tt

-- The state and the place that a step gives.
abbrev step_walked : Walked → Result (Option Walked × Ahead) (Located DwarfKind) → Walked
step_walked other (Ok (Some x, c)) = x
step_walked other (Ok (None, c)) = other
step_walked other (Err fault) = other

-- The result of the walk from a state: after a step, at the end of the unit, and after a fault.
abbrev finishing : DebugSections → Unit → Walked → List Mark × Ahead → Result EntryTable (Located DwarfKind)
finishing sections unit w marks = Ok (table_in (rounded sections unit (all_moved sections unit w marks.0)))

finish_is : (sections : DebugSections) (unit : Unit) (w : Walked) (list : Result (List Mark × Ahead) (Located DwarfKind)) → ((list >>= λ marks. Ok marks.0) >>= λ marks. Ok (table_in (rounded sections unit (all_moved sections unit w marks)))) ≡ (list >>= finishing sections unit w)
finish_is sections unit w (Ok marks) = refl
finish_is sections unit w (Err fault) = refl

walked_is : (sections : DebugSections) (unit : Unit) (abbrevs : List Abbrev) (w : Walked) (c : Ahead) → walked_from sections unit abbrevs w c ≡ (list_cases (next_mark abbrevs) c >>= finishing sections unit w)
unfolding walked_from marks_at
walked_is sections unit abbrevs w c =
    finish_is sections unit w (list_at (next_mark abbrevs) c)
    ∙ ap (λ r. r >>= finishing sections unit w) (list_follows (next_mark abbrevs) (next_goes abbrevs) c)

more_finished : (sections : DebugSections) (unit : Unit) (w : Walked) (mark : Mark) (later : Result (List Mark × Ahead) (Located DwarfKind)) → ((later >>= λ rest. Ok (mark ∷ rest.0, rest.1)) >>= finishing sections unit w) ≡ (later >>= finishing sections unit (moved sections unit w mark))
unfolding all_moved
more_finished sections unit w mark (Ok rest) = refl
more_finished sections unit w mark (Err fault) = refl

more_by : (sections : DebugSections) (unit : Unit) (abbrevs : List Abbrev) (w x : Walked) (c d : Ahead) (next : Result (Option Mark × Ahead) (Located DwarfKind)) → next_mark abbrevs c ≡ next → (next >>= stepping sections unit w) ≡ Ok (Some x, d) → walked_from sections unit abbrevs w c ≡ walked_from sections unit abbrevs x d
unfolding walked_from marks_at
more_by sections unit abbrevs w x c d (Ok (Some mark, e)) is steps =
    let there : e ≡ d = ap (ahead_or d) steps in
    let after : moved sections unit w mark ≡ x = ap (step_walked x) steps in
    walked_is sections unit abbrevs w c
    ∙ ap (λ r. (r >>= λ first. list_by first.0 first.1 (list_at (next_mark abbrevs) first.1)) >>= finishing sections unit w) is
    ∙ more_finished sections unit w mark (list_at (next_mark abbrevs) e)
    ∙ ap (λ (y : Walked). list_at (next_mark abbrevs) e >>= finishing sections unit y) after
    ∙ ap (λ (a : Ahead). list_at (next_mark abbrevs) a >>= finishing sections unit x) there
    ∙ sym (finish_is sections unit x (list_at (next_mark abbrevs) d))
more_by sections unit abbrevs w x c d (Ok (None, e)) is steps = absurd (grind (arith, steps))
more_by sections unit abbrevs w x c d (Err fault) is steps = absurd (grind (arith, steps))

pub walked_more : (sections : DebugSections) (unit : Unit) (abbrevs : List Abbrev) (w x : Walked) (c d : Ahead) (want : Result EntryTable (Located DwarfKind)) → walked_from sections unit abbrevs w c ≡ want → step_at sections unit abbrevs w c ≡ Ok (Some x, d) → walked_from sections unit abbrevs x d ≡ want
unfolding step_at
walked_more sections unit abbrevs w x c d want so_far steps =
    sym (more_by sections unit abbrevs w x c d (next_mark abbrevs c) refl steps) ∙ so_far

end_by : (sections : DebugSections) (unit : Unit) (abbrevs : List Abbrev) (w : Walked) (c d : Ahead) (next : Result (Option Mark × Ahead) (Located DwarfKind)) → next_mark abbrevs c ≡ next → (next >>= stepping sections unit w) ≡ Ok (None, d) → walked_from sections unit abbrevs w c ≡ Ok (table_in (rounded sections unit w))
unfolding all_moved
end_by sections unit abbrevs w c d (Ok (None, e)) is steps =
    walked_is sections unit abbrevs w c
    ∙ ap (λ r. (r >>= λ first. list_by first.0 first.1 (list_at (next_mark abbrevs) first.1)) >>= finishing sections unit w) is
end_by sections unit abbrevs w c d (Ok (Some mark, e)) is steps = absurd (grind (arith, steps))
end_by sections unit abbrevs w c d (Err fault) is steps = absurd (grind (arith, steps))

pub walked_end : (sections : DebugSections) (unit : Unit) (abbrevs : List Abbrev) (w : Walked) (c d : Ahead) (want : Result EntryTable (Located DwarfKind)) → walked_from sections unit abbrevs w c ≡ want → step_at sections unit abbrevs w c ≡ Ok (None, d) → want ≡ Ok (table_in (rounded sections unit w))
unfolding step_at
walked_end sections unit abbrevs w c d want so_far steps =
    sym so_far ∙ end_by sections unit abbrevs w c d (next_mark abbrevs c) refl steps

refused_by : (sections : DebugSections) (unit : Unit) (abbrevs : List Abbrev) (w : Walked) (c : Ahead) (fault : Located DwarfKind) (next : Result (Option Mark × Ahead) (Located DwarfKind)) → next_mark abbrevs c ≡ next → (next >>= stepping sections unit w) ≡ Err fault → walked_from sections unit abbrevs w c ≡ Err fault
refused_by sections unit abbrevs w c fault (Err other) is steps =
    let same : other ≡ fault = cc in
    walked_is sections unit abbrevs w c
    ∙ ap (λ r. (r >>= λ first. list_by first.0 first.1 (list_at (next_mark abbrevs) first.1)) >>= finishing sections unit w) is
    ∙ ap Err same
refused_by sections unit abbrevs w c fault (Ok next) is steps = absurd (grind (arith, steps))

pub walked_stopped : (sections : DebugSections) (unit : Unit) (abbrevs : List Abbrev) (w x : Walked) (c d : Ahead) (stop : Stop (Located DwarfKind)) (want : Result EntryTable (Located DwarfKind)) → walked_from sections unit abbrevs w c ≡ want → Steps (Err stop) x d (step_at sections unit abbrevs w c) → TableOf {U = Prim.Unit {0}} (Err stop) x want
unfolding step_at
walked_stopped sections unit abbrevs w x c d (Fault fault) want so_far steps =
    sym so_far ∙ refused_by sections unit abbrevs w c fault (next_mark abbrevs c) refl steps
walked_stopped sections unit abbrevs w x c d NoMemory want so_far steps = tt

-- No step changes the sections and the unit.
moved_own : (sections : DebugSections) (unit : Unit) (w : Walked) (mark : Mark) → (moved sections unit w mark).own ≡ w.own
unfolding moved entered
moved_own sections unit w Close = refl
moved_own sections unit w (Entry at tag children values) = grind (arith, nat_tests)

own_by : (sections : DebugSections) (unit : Unit) (w x : Walked) (d : Ahead) (next : Result (Option Mark × Ahead) (Located DwarfKind)) → (next >>= stepping sections unit w) ≡ Ok (Some x, d) → x.own ≡ w.own
own_by sections unit w x d (Ok (Some mark, e)) steps =
    let after : moved sections unit w mark ≡ x = ap (step_walked x) steps in
    ap (λ (y : Walked). y.own) (sym after) ∙ moved_own sections unit w mark
own_by sections unit w x d (Ok (None, e)) steps = absurd (grind (arith, steps))
own_by sections unit w x d (Err fault) steps = absurd (grind (arith, steps))

pub step_own : (sections : DebugSections) (unit : Unit) (abbrevs : List Abbrev) (w x : Walked) (c d : Ahead) → step_at sections unit abbrevs w c ≡ Ok (Some x, d) → x.own ≡ w.own
unfolding step_at
step_own sections unit abbrevs w x c d steps = own_by sections unit w x d (next_mark abbrevs c) steps

-- Places stay below the limit, and fewer bytes are left after a step.
short_by : (sections : DebugSections) (unit : Unit) (w x : Walked) (c d : Ahead) (next : Result (Option Mark × Ahead) (Located DwarfKind)) → GoesOn c next → (next >>= stepping sections unit w) ≡ Ok (Some x, d) → IsShort (length w.dies) c → IsShort (length x.dies) d × (length d.bytes < length c.bytes)
short_by sections unit w x c d (Ok (Some mark, e)) goes steps short =
    let there : e ≡ d = ap (ahead_or d) steps in
    let after : moved sections unit w mark ≡ x = ap (step_walked x) steps in
    let fewer : length d.bytes + 1 ≤ length c.bytes = subst (λ (a : Ahead). length a.bytes + 1 ≤ length c.bytes) there goes.0 in
    let same : d.at + length d.bytes ≡ c.at + length c.bytes = subst (λ (a : Ahead). a.at + length a.bytes ≡ c.at + length c.bytes) there goes.1 in
    let few : length x.dies ≤ length w.dies + 1 = subst (λ (y : Walked). length y.dies ≤ length w.dies + 1) after (moved_few sections unit w mark) in
    (record { few = omega (arith, fewer, same, few, short.few); small = omega (arith, same, short.small) }, omega (arith, fewer))
short_by sections unit w x c d (Ok (None, e)) goes steps short = absurd (grind (arith, steps))
short_by sections unit w x c d (Err fault) goes steps short = absurd (grind (arith, steps))

pub step_short : (sections : DebugSections) (unit : Unit) (abbrevs : List Abbrev) (w x : Walked) (c d : Ahead) → step_at sections unit abbrevs w c ≡ Ok (Some x, d) → IsShort (length w.dies) c → IsShort (length x.dies) d
unfolding step_at
step_short sections unit abbrevs w x c d steps short = (short_by sections unit w x c d (next_mark abbrevs c) (next_goes abbrevs c) steps short).0

pub step_shorter : (sections : DebugSections) (unit : Unit) (abbrevs : List Abbrev) (w x : Walked) (c d : Ahead) → step_at sections unit abbrevs w c ≡ Ok (Some x, d) → IsShort (length w.dies) c → length d.bytes < length c.bytes
unfolding step_at
step_shorter sections unit abbrevs w x c d steps short = (short_by sections unit w x c d (next_mark abbrevs c) (next_goes abbrevs c) steps short).1

start_by : (sections : DebugSections) (unit : Unit) (w : Walked) (marks : Result (List Mark) (Located DwarfKind)) → w.dies ≡ [] → w.open_levels ≡ [] → (marks >>= λ m. Ok (table_in (rounded sections unit (all_moved sections unit w m)))) ≡ (marks >>= λ m. Ok (table_of sections unit m))
start_by sections unit w (Ok marks) dies levels =
    ap Ok (ap (λ (d : List DieFields). table_in (rounded sections unit (all_moved sections unit (record { dies = d; root = w.root; open_levels = w.open_levels; own = w.own }) marks))) dies
    ∙ ap (λ (l : List (Option ℕ)). table_in (rounded sections unit (all_moved sections unit (record { dies = []; root = w.root; open_levels = l; own = w.own }) marks))) levels
    ∙ start_is sections unit marks w.root w.own)
start_by sections unit w (Err fault) dies levels = refl

-- The walk begins where the entries of the unit begin.
pub walked_start : (sections : DebugSections) (unit : Unit) (abbrevs : List Abbrev) (w : Walked) (c : Ahead) → w.dies ≡ [] → w.open_levels ≡ [] → c ≡ entries_ahead sections unit → walked_from sections unit abbrevs w c ≡ entry_table sections unit abbrevs
unfolding walked_from entry_table
walked_start sections unit abbrevs w c dies levels start =
    start_by sections unit w (marks_at abbrevs c) dies levels
    ∙ ap (λ (a : Ahead). marks_at abbrevs a >>= λ marks. Ok (table_of sections unit marks)) start

pub short_start : (sections : DebugSections) (unit : Unit) (w : Walked) (c : Ahead) → w.dies ≡ [] → c ≡ entries_ahead sections unit → unit.body ≤ unit.end → unit.end ≤ length sections.info → length sections.info ≤ 2 ^ 29 → IsShort (length w.dies) c
short_start sections unit w c dies start ordered inside small =
    let none : length w.dies ≡ 0 = ap length dies in
    let all : length c.bytes ≡ unit.end - unit.body = ap (λ (a : Ahead). length a.bytes) start ∙ length-drop unit.body (take unit.end sections.info) ∙ ap (λ n. n - unit.body) (length-take-le unit.end sections.info inside) in
    let place : c.at ≡ unit.body = ap (λ (a : Ahead). a.at) start in
    record { few = omega (arith, none); small = omega (arith, all, place, ordered, inside, small) }
