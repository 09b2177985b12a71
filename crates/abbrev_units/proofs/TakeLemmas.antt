-- If the takes succeed, they leave what is kept of the values; for `make_takes` and `Abbrev::read`.
use Rattle.std.proofs.Common.{◌≡◌, ◌<◌, ◌≤◌, ◌+◌, ℕ, ℤ, Bool, true, false, List, [], ◌∷◌, ◌++◌, length, take, drop, get_or, Option, Some, Result, Ok, Err, refl, sym, ap, ◌∙◌, arith, subst}
use Rattle.std.proofs.lemmas.List.{drop_more, take_more, take_all}
use Rattle.std.proofs.Math.ListN.{drop_of_length-le}
use Rattle.sym_edges.specs.Results.{◌>>=◌}
use Rattle.leb_cursor.specs.declared.fault.CursorFault.{CursorFault}
use Rattle.leb_cursor.specs.Ahead.{Ahead, passed}
use Rattle.leb_cursor.specs.Readings.{take_at}
use Rattle.code_table.specs.declared.kind.Kind.{Kind}
use Rattle.code_table.specs.declared.kind.Operand.{Operand}
use Rattle.code_table.specs.declared.forms.FormRow.{FormRow}
use Rattle.code_table.specs.Layouts.{kind_at}
use Rattle.abbrev_units.specs.declared.fault.FormFault.{FormFault}
use Rattle.abbrev_units.specs.declared.slots.Slot.{Slot}
use Rattle.abbrev_units.specs.declared.slots.Slot.TheVariants.{Passed}
use Rattle.abbrev_units.specs.declared.take.Take.{Take}
use Rattle.abbrev_units.specs.declared.value.Given.{Given}
use Rattle.abbrev_units.specs.declared.value.Value.{Value}
use Rattle.abbrev_units.specs.Attributes.{first_of}
use Rattle.abbrev_units.specs.Faults.{as_value}
use Rattle.abbrev_units.specs.FormValue.{value_of, value_by}
use Rattle.abbrev_units.specs.Picks.{PickFields, IsSlot, kept_by, no_picks, picks_at, put_in, value_in}
use Rattle.abbrev_units.specs.SpecFields.{SpecFields}
use Rattle.abbrev_units.specs.Values.{value_at, values_at, only_ahead, behind_values}
use Rattle.abbrev_units.specs.internal.FormRows.{HasRow}
use Rattle.abbrev_units.specs.internal.Filled.{FilledFor, GivesSlot, GoesTo, filled_by, free_in}
use Rattle.abbrev_units.specs.internal.Takes.{AreTakes, Joins, TakesValue, kept_at, kept_with, number_at, number_of, put_taken, take_all as all_taken, take_one, takes_at}
use Rattle.abbrev_units.proofs.PickLemmas.{attributes_more, picks_next, values_next}
use Rattle.abbrev_units.proofs.OkLemmas.{value_or, ahead_or}
use Rattle.abbrev_units.proofs.SizeLemmas.{long_enough, passed_none, passed_two, sized, take_fits, take_passed, take_there}

-- Two readings, one after the other, that both succeed.
pub record Parts {X Y : Type 0} (first : Result X CursorFault) (next : X → Result Y CursorFault) (y : Y) : Type 0 where
  pub middle : X
  pub one : first ≡ Ok middle
  pub two : next middle ≡ Ok y

parts_of : {X Y : Type 0} (first : Result X CursorFault) (next : X → Result Y CursorFault) (y : Y) → (first >>= next) ≡ Ok y → Parts first next y
parts_of (Ok x) next y is = record { middle = x; one = refl; two = is }
parts_of (Err fault) next y is = absurd (grind (arith, is))

-- One take that succeeds.
pub record Taken (take : Take) (picks after : PickFields) (c d : Ahead) : Type 0 where
  pub fits : take.bytes ≤ length c.bytes
  pub operand : Operand
  pub reads : kind_at take.layout (passed take.bytes c) ≡ Ok (operand, d)
  pub puts : after ≡ put_in take.slot (value_in take.class (number_of take.constant operand)) picks

abbrev numbered : ℕ → Operand × Ahead → Result (ℕ × Ahead) CursorFault
numbered constant x = Ok (number_of constant x.0, x.1)

abbrev number_behind : Take → PickFields → List ℕ × Ahead → Result (PickFields × Ahead) CursorFault
number_behind take picks run = number_at take.layout take.constant run.1 >>= put_taken take picks

taken_is : (take : Take) (picks after : PickFields) (c d : Ahead) → take_one take picks c ≡ Ok (after, d) → Taken take picks after c d
taken_is take picks after c d is =
    let run = parts_of (take_at take.bytes c) (number_behind take picks) (after, d) is in
    let there = take_passed take.bytes c run.middle.1 (ap only_ahead run.one) in
    let number = parts_of (number_at take.layout take.constant run.middle.1) (put_taken take picks) (after, d) run.two in
    let operand = parts_of (kind_at take.layout run.middle.1) (numbered take.constant) number.middle number.one in
    let end : operand.middle.1 ≡ d = ap (ahead_or d) operand.two ∙ ap (ahead_or d) number.two in
    record {
      fits = there.0;
      operand = operand.middle.0;
      reads = ap (kind_at take.layout) (sym there.1) ∙ operand.one ∙ ap (λ (e : Ahead). Ok (operand.middle.0, e)) end;
      puts = sym (ap (λ (n : ℕ). put_in take.slot (value_in take.class n) picks) (ap (value_or 0) operand.two) ∙ ap (value_or after) number.two);
    }

-- Takes that succeed, and the bytes after the last take.
pub record TakenAll (takes : List Take) (tail : ℕ) (picks after : PickFields) (c d : Ahead) : Type 0 where
  pub before : Ahead
  pub front : all_taken takes picks c ≡ Ok (after, before)
  pub fits : tail ≤ length before.bytes
  pub there : d ≡ passed tail before

abbrev with_tail : PickFields → List ℕ × Ahead → Result (PickFields × Ahead) CursorFault
with_tail picks run = Ok (picks, run.1)

abbrev tail_behind : ℕ → PickFields × Ahead → Result (PickFields × Ahead) CursorFault
tail_behind tail x = take_at tail x.1 >>= with_tail x.0

takes_are : (takes : List Take) (tail : ℕ) (picks after : PickFields) (c d : Ahead) → takes_at takes tail picks c ≡ Ok (after, d) → TakenAll takes tail picks after c d
takes_are takes tail picks after c d is =
    let front = parts_of (all_taken takes picks c) (tail_behind tail) (after, d) is in
    let run = parts_of (take_at tail front.middle.1) (with_tail front.middle.0) (after, d) front.two in
    let there = take_passed tail front.middle.1 run.middle.1 (ap only_ahead run.one) in
    record {
      before = front.middle.1;
      front = front.one ∙ ap (λ (p : PickFields). Ok (p, front.middle.1)) (ap (value_or after) run.two);
      fits = there.0;
      there = sym (ap (ahead_or d) run.two) ∙ there.1;
    }

takes_there : (takes : List Take) (tail : ℕ) (picks after : PickFields) (c d : Ahead) → all_taken takes picks c ≡ Ok (after, d) → tail ≤ length d.bytes → takes_at takes tail picks c ≡ Ok (after, passed tail d)
takes_there takes tail picks after c d front there =
    ap (λ r. r >>= tail_behind tail) front ∙ ap (λ r. r >>= with_tail after) (take_there tail d there)

-- One take more at the end of a list.
abbrev last_taken : Take → PickFields × Ahead → Result (PickFields × Ahead) CursorFault
last_taken take x = take_one take x.0 x.1

abbrev others_taken : List Take → PickFields × Ahead → Result (PickFields × Ahead) CursorFault
others_taken takes x = all_taken takes x.0 x.1

one_taken : (reading : Result (PickFields × Ahead) CursorFault) → (reading >>= others_taken []) ≡ reading
unfolding all_taken
one_taken (Ok x) = refl
one_taken (Err fault) = refl

last_by : (first : Result (PickFields × Ahead) CursorFault) (takes : List Take) (take : Take) → ((x : PickFields × Ahead) → all_taken (takes ++ take ∷ []) x.0 x.1 ≡ (all_taken takes x.0 x.1 >>= last_taken take)) → (first >>= others_taken (takes ++ take ∷ [])) ≡ ((first >>= others_taken takes) >>= last_taken take)
last_by (Ok x) takes take later = later x
last_by (Err fault) takes take later = refl

last_is : (takes : List Take) (take : Take) (picks : PickFields) (c : Ahead) → all_taken (takes ++ take ∷ []) picks c ≡ (all_taken takes picks c >>= last_taken take)
unfolding all_taken
last_is [] take picks c = one_taken (take_one take picks c)
last_is (first ∷ takes) take picks c = last_by (take_one first picks c) takes take (λ x. last_is takes take x.0 x.1)

-- One value more, of which something or nothing is kept.
passes_on : (given : Slot) (value : Value) (picks : PickFields) → given ≡ Passed → put_in given (kept_by given value) picks ≡ picks
passes_on given value picks is = ap (λ (s : Slot). put_in s (kept_by s value) picks) is

none_next : (specs : List SpecFields) (x : SpecFields) (given : Slot) (value : Value) (picks : PickFields) (c d e : Ahead) (reading : Result (List Given × Ahead) FormFault) → values_at specs c ≡ reading → kept_with false reading ≡ Ok (picks, d) → given ≡ Passed → value_at x d ≡ Ok (value, e) → kept_at false (specs ++ x ∷ []) c ≡ Ok (put_in given (kept_by given value) picks, e)
none_next specs x given value picks c d e (Ok values) reads is none next =
    let front : values_at specs c ≡ Ok (values.0, d) = reads ∙ ap (λ (f : Ahead). Ok (values.0, f)) (ap (ahead_or d) is) in
    ap (kept_with false) (values_next specs x values.0 value c d e front next)
    ∙ ap (λ (p : PickFields). Ok (p, e)) (ap (value_or picks) is ∙ sym (passes_on given value picks none))
none_next specs x given value picks c d e (Err fault) reads is none next = absurd (grind (arith, is))

kept_next : (kept : Bool) (specs : List SpecFields) (x : SpecFields) (given : Slot) (value : Value) (picks : PickFields) (c d e : Ahead) → kept_at kept specs c ≡ Ok (picks, d) → GoesTo kept specs x.attribute given → value_at x d ≡ Ok (value, e) → kept_at kept (specs ++ x ∷ []) c ≡ Ok (put_in given (kept_by given value) picks, e)
unfolding picks_at
kept_next true specs x given value picks c d e so_far goes next =
    picks_next specs x goes.0 value picks c d e so_far goes.1 next ∙ ap (λ (s : Slot). Ok (put_in s (kept_by s value) picks, e)) (sym goes.2)
kept_next false specs x given value picks c d e so_far goes next =
    none_next specs x given value picks c d e (values_at specs c) refl so_far goes next

-- The value of an attribute, given the row of its form.
abbrev row_value : FormRow → ℤ → Operand × Ahead → Result (Value × Ahead) FormFault
row_value row implicit x = Ok (value_of row.class implicit x.0, x.1)

row_reads : (row : FormRow) (implicit : ℤ) (c d : Ahead) (operand : Operand) → kind_at row.layout c ≡ Ok (operand, d) → value_by (Some row) implicit c ≡ Ok (value_of row.class implicit operand, d)
row_reads row implicit c d operand is = ap (λ r. as_value r >>= row_value row implicit) is

operand_there : (reading : Result (Operand × Ahead) CursorFault) (d : Ahead) → only_ahead reading ≡ Ok d → (x : Operand) × (reading ≡ Ok (x, d))
operand_there (Ok x) d is = let there : x.1 ≡ d = cc in (x.0, ap (λ (e : Ahead). Ok (x.0, e)) there)
operand_there (Err fault) d is = absurd (grind (arith, is))

-- One attribute more, whose operand is added to the bytes after the last take.
pub takes_joined : (kept : Bool) (takes : List Take) (specs : List SpecFields) (x : SpecFields) (row : FormRow) (given : Slot) (bytes more : ℕ) → AreTakes kept takes bytes specs → HasRow x row → GoesTo kept specs x.attribute given → Joins given row.layout bytes more → AreTakes kept takes more (specs ++ x ∷ [])
takes_joined kept takes specs x row given bytes more so_far has goes joins c d picks is =
    let whole = takes_are takes more no_picks picks c d is in
    let middle = passed bytes whole.before in
    let first : bytes ≤ length whole.before.bytes = omega (arith, whole.fits, joins.sum) in
    let long : joins.size ≤ length middle.bytes = long_enough bytes joins.size more whole.before joins.sum whole.fits in
    let there : passed joins.size middle ≡ d = passed_two bytes joins.size whole.before ∙ ap (λ (n : ℕ). passed n whole.before) (sym joins.sum) ∙ sym whole.there in
    let operand = operand_there (kind_at row.layout middle) d (sized row.layout joins.size middle joins.sized ∙ take_fits joins.size middle long ∙ ap Ok there) in
    let value = value_of row.class x.implicit operand.0 in
    kept_next kept specs x given value picks c middle d (so_far c middle picks (takes_there takes bytes no_picks picks c whole.before whole.front first)) goes (has middle ∙ row_reads row x.implicit middle d operand.0 operand.1)
    ∙ ap (λ (p : PickFields). Ok (p, d)) (passes_on given value picks joins.unasked)

-- One attribute more, which has a take.
pub takes_next : (kept : Bool) (takes next : List Take) (take : Take) (specs : List SpecFields) (x : SpecFields) (row : FormRow) (given : Slot) (bytes : ℕ) → AreTakes kept takes bytes specs → HasRow x row → GoesTo kept specs x.attribute given → TakesValue x row bytes given take → next ≡ takes ++ take ∷ [] → AreTakes kept next 0 (specs ++ x ∷ [])
takes_next kept takes next take specs x row given bytes so_far has goes takes_it is_next c d picks is =
    let whole = takes_are next 0 no_picks picks c d is in
    let both = parts_of (all_taken takes no_picks c) (last_taken take) (picks, whole.before) (sym (last_is takes take no_picks c) ∙ ap (λ (t : List Take). all_taken t no_picks c) (sym is_next) ∙ whole.front) in
    let last = taken_is take both.middle.0 picks both.middle.1 whole.before both.two in
    let end : whole.before ≡ d = sym (passed_none whole.before) ∙ sym whole.there in
    let middle = passed bytes both.middle.1 in
    let first : bytes ≤ length both.middle.1.bytes = omega (arith, last.fits, takes_it.bytes) in
    let reads : kind_at row.layout middle ≡ Ok (last.operand, d) = ap (λ (k : Kind). kind_at k middle) (sym takes_it.layout) ∙ ap (λ (n : ℕ). kind_at take.layout (passed n both.middle.1)) (sym takes_it.bytes) ∙ last.reads ∙ ap (λ (e : Ahead). Ok (last.operand, e)) end in
    let value = value_of row.class x.implicit last.operand in
    kept_next kept specs x given value both.middle.0 c middle d (so_far c middle both.middle.0 (takes_there takes bytes no_picks both.middle.0 c both.middle.1 both.one first)) goes (has middle ∙ row_reads row x.implicit middle d last.operand reads)
    ∙ ap (λ (p : PickFields). Ok (p, d)) (sym (last.puts ∙ ap (λ (s : Slot). put_in s (value_in take.class (number_of take.constant last.operand)) both.middle.0) takes_it.into
    ∙ ap (λ (v : Option Value). put_in given v both.middle.0) (takes_it.keeps middle d last.operand reads)))

-- The steps of the loop.
nothing_kept : (kept : Bool) (c : Ahead) → kept_at kept [] c ≡ Ok (no_picks, c)
unfolding values_at first_of
nothing_kept true c = refl
nothing_kept false c = refl

none_taken : (picks : PickFields) (c : Ahead) → all_taken [] picks c ≡ Ok (picks, c)
unfolding all_taken
none_taken picks c = refl

pub takes_begin : (kept : Bool) (takes : List Take) (specs : List SpecFields) → takes ≡ [] → AreTakes kept takes 0 (take 0 specs)
takes_begin kept takes specs none c d picks is =
    let whole = takes_are takes 0 no_picks picks c d is in
    let front : Ok (no_picks, c) ≡ Ok (picks, whole.before) = sym (ap (λ (t : List Take). all_taken t no_picks c) none ∙ none_taken no_picks c) ∙ whole.front in
    nothing_kept kept c ∙ ap (λ (p : PickFields). Ok (p, c)) (ap (value_or picks) front)
    ∙ ap (λ (e : Ahead). Ok (picks, e)) (ap (ahead_or d) front ∙ sym (passed_none whole.before) ∙ sym whole.there)

pub goes_to : (kept : Bool) (specs : List SpecFields) (attribute name : ℕ) (given : Slot) (before after : List Bool) → FilledFor kept specs before → GivesSlot kept before after name given → name ≡ attribute → GoesTo kept specs attribute given
goes_to true specs attribute name given before after filled gives same =
    (gives.wanted, subst (IsSlot gives.wanted) same gives.is, gives.free ∙ ap (λ (f : List Bool). free_in f gives.wanted) filled)
goes_to false specs attribute name given before after filled gives same = gives

pub filled_more : (kept : Bool) (specs : List SpecFields) (i : ℕ) (x : SpecFields) (name : ℕ) (given : Slot) (before after : List Bool) → FilledFor kept (take i specs) before → GivesSlot kept before after name given → name ≡ x.attribute → take (i + 1) specs ≡ take i specs ++ x ∷ [] → FilledFor kept (take (i + 1) specs) after
filled_more true specs i x name given before after filled gives same taken =
    attributes_more specs i x gives.wanted before after filled taken (subst (IsSlot gives.wanted) same gives.is) gives.filled
filled_more false specs i x name given before after filled gives same taken = tt

pub filled_none : (kept : Bool) (specs : List SpecFields) (filled : List Bool) → filled ≡ filled_by [] → FilledFor kept (take 0 specs) filled
filled_none true specs filled is = is
filled_none false specs filled is = tt

pub more_taken : (specs : List SpecFields) (i : ℕ) (x : SpecFields) → i < length specs → x ≡ get_or specs i x → take (i + 1) specs ≡ take i specs ++ x ∷ []
more_taken specs i x there is = take_more specs i x there ∙ ap (λ (y : SpecFields). take i specs ++ y ∷ []) (sym is)

pub takes_end : (kept : Bool) (takes : List Take) (tail i : ℕ) (specs : List SpecFields) → AreTakes kept takes tail (take i specs) → length specs ≤ i → AreTakes kept takes tail specs
takes_end kept takes tail i specs are all = subst (AreTakes kept takes tail) (take_all i specs all) are

-- Takes that a loop executes.
pub takes_more : (takes : List Take) (i : ℕ) (x fill : Take) (picks after : PickFields) (c d : Ahead) (want : Result (PickFields × Ahead) CursorFault) → all_taken (drop i takes) picks c ≡ want → i < length takes → x ≡ get_or takes i fill → take_one x picks c ≡ Ok (after, d) → all_taken (drop (i + 1) takes) after d ≡ want
unfolding all_taken
takes_more takes i x fill picks after c d want so_far there is goes =
    ap (λ r. r >>= others_taken (drop (i + 1) takes)) (sym goes)
    ∙ sym (ap (λ (t : List Take). all_taken t picks c) (drop_more takes i fill there) ∙ ap (λ (y : Take). all_taken (y ∷ drop (i + 1) takes) picks c) (sym is))
    ∙ so_far

pub takes_done : (takes : List Take) (tail i : ℕ) (run : List ℕ) (old picks : PickFields) (b c d : Ahead) → all_taken (drop i takes) picks c ≡ all_taken takes old b → length takes ≤ i → Ok (run, d) ≡ take_at tail c → takes_at takes tail old b ≡ Ok (picks, d)
unfolding all_taken
takes_done takes tail i run old picks b c d so_far all rest =
    ap (λ r. r >>= tail_behind tail) (sym so_far ∙ ap (λ (t : List Take). all_taken t picks c) (drop_of_length-le takes all)) ∙ ap (λ r. r >>= with_tail picks) (sym rest)

-- What is known after the takes of an abbreviation have succeeded.
pub read_picked : (kept : Bool) (takes : List Take) (tail : ℕ) (specs : List SpecFields) (none picks : PickFields) (c d : Ahead) → AreTakes kept takes tail specs → takes_at takes tail none c ≡ Ok (picks, d) → none ≡ no_picks → kept ≡ true → picks_at specs c ≡ Ok (picks, d)
unfolding picks_at
read_picked kept takes tail specs none picks c d are goes is asked =
    ap (λ (k : Bool). kept_at k specs c) (sym asked) ∙ are c d picks (ap (λ (p : PickFields). takes_at takes tail p c) (sym is) ∙ goes)

ahead_of : (kept : Bool) (reading : Result (List Given × Ahead) FormFault) (picks : PickFields) (d : Ahead) → kept_with kept reading ≡ Ok (picks, d) → only_ahead reading ≡ Ok d
ahead_of true (Ok x) picks d is = ap Ok (ap (ahead_or d) is)
ahead_of false (Ok x) picks d is = ap Ok (ap (ahead_or d) is)
ahead_of true (Err fault) picks d is = absurd (grind (arith, is))
ahead_of false (Err fault) picks d is = absurd (grind (arith, is))

pub read_passed : (kept : Bool) (takes : List Take) (tail : ℕ) (specs : List SpecFields) (none picks : PickFields) (c d : Ahead) → AreTakes kept takes tail specs → takes_at takes tail none c ≡ Ok (picks, d) → none ≡ no_picks → behind_values specs c ≡ Ok d
unfolding behind_values
read_passed kept takes tail specs none picks c d are goes is =
    ahead_of kept (values_at specs c) picks d (are c d picks (ap (λ (p : PickFields). takes_at takes tail p c) (sym is) ∙ goes))

none_of : (reading : Result (List Given × Ahead) FormFault) (picks : PickFields) (d : Ahead) → kept_with false reading ≡ Ok (picks, d) → picks ≡ no_picks
none_of (Ok x) picks d is = sym (ap (value_or picks) is)
none_of (Err fault) picks d is = absurd (grind (arith, is))

pub read_none : (kept : Bool) (takes : List Take) (tail : ℕ) (specs : List SpecFields) (none picks : PickFields) (c d : Ahead) → AreTakes kept takes tail specs → takes_at takes tail none c ≡ Ok (picks, d) → none ≡ no_picks → kept ≡ false → picks ≡ no_picks
read_none kept takes tail specs none picks c d are goes is unasked =
    none_of (values_at specs c) picks d (ap (λ (k : Bool). kept_at k specs c) (sym unasked) ∙ are c d picks (ap (λ (p : PickFields). takes_at takes tail p c) (sym is) ∙ goes))
