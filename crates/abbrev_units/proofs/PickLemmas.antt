-- The first value of each attribute goes to its slot; for `Filled` and `pick_values`.
use Rattle.std.proofs.Common.{◌≡◌, ◌<◌, ◌≤◌, ◌+◌, ℕ, Bool, true, false, nat_eq, cond, List, [], ◌∷◌, ◌++◌, length, take, drop, map, get_or, Option, None, Some, is_some, Result, Ok, Err, IfOk, refl, sym, ap, ◌∙◌, ◌||◌, arith}
use Rattle.std.proofs.lemmas.Bool.Decides.{nat_tests}
use Rattle.std.proofs.lemmas.List.{drop_more, take_all, take-append-drop, map-append}
use Rattle.std.proofs.lemmas.Result.{IfOk-at_ok}
use Rattle.sym_edges.specs.Results.{◌>>=◌}
use Rattle.leb_cursor.specs.Ahead.{Ahead}
use Rattle.abbrev_units.specs.declared.fault.FormFault.{FormFault}
use Rattle.abbrev_units.specs.declared.slots.Slot.{Slot}
use Rattle.abbrev_units.specs.declared.slots.Slot.TheVariants as slot
use Rattle.abbrev_units.specs.declared.value.Value.{Value}
use Rattle.abbrev_units.specs.declared.value.Given.{Given}
use Rattle.abbrev_units.specs.Attributes.{first_of}
use Rattle.abbrev_units.specs.Picks.{PickFields, IsSlot, first_values, is_asked, kept_by, kept_of, no_picks, pick_of, picks_at, picks_of, put_in, with_picks}
use Rattle.abbrev_units.specs.SpecFields.{SpecFields}
use Rattle.abbrev_units.specs.Values.{behind_values, only_ahead, value_at, values_at}
use Rattle.abbrev_units.proofs.OkLemmas.{then_ok, then_any, value_or, ahead_or}
use Rattle.abbrev_units.specs.internal.Filled.{attributes_of, fill_in, filled_by, free_in, is_among, slot_number}

-- The earlier value, if there is one, or else the later one.
abbrev or_value : Option Value → Value → Option Value
or_value (Some old) value = Some old
or_value None value = Some value

abbrev note_if : Bool → Option Value → Value → Option Value
note_if true old value = or_value old value
note_if false old value = old

abbrev given : ℕ → Value → Given
given attribute value = record { attribute = attribute; value = value }

-- One value more at the end of a list.
first_more : (wanted attribute : ℕ) (value : Value) (seen : List Given) → first_of wanted (seen ++ given attribute value ∷ []) ≡ note_if (nat_eq attribute wanted) (first_of wanted seen) value
unfolding first_of
first_more wanted attribute value [] = grind (arith, nat_tests)
first_more wanted attribute value (before ∷ rest) = grind (arith, nat_tests, first_more wanted attribute value rest)

-- One attribute more at the end of a list.
among_more : (wanted attribute : ℕ) (seen : List ℕ) → is_among wanted (seen ++ attribute ∷ []) ≡ (nat_eq attribute wanted || is_among wanted seen)
among_more wanted attribute [] = refl
among_more wanted attribute (before ∷ rest) = grind (arith, nat_tests, among_more wanted attribute rest)

-- An attribute that is not needed differs from each needed one.
unasked : (attribute asked : ℕ) → is_asked attribute ≡ false → is_asked asked ≡ true → nat_eq attribute asked ≡ false
unasked attribute asked none some = by (nat_eq attribute asked) refl
  where
    by : (same : Bool) → nat_eq attribute asked ≡ same → same ≡ false
    by false test = refl
    by true test =
        let same : attribute ≡ asked = grind (arith, nat_tests, test) in
        sym some ∙ ap is_asked (sym same) ∙ none

-- A value goes to the slot of its attribute.
firsts_more : (s : Slot) (attribute : ℕ) (value : Value) (seen : List Given) → IsSlot s attribute → first_values (seen ++ given attribute value ∷ []) ≡ put_in s (or_value (pick_of s (first_values seen)) value) (first_values seen)
firsts_more slot.Passed attribute value seen is = simp (first_more, unasked attribute)
firsts_more _ attribute value seen is = rw is (simp first_more)

-- A slot is filled if its attribute is among the earlier ones.
fills_more : (s : Slot) (attribute : ℕ) (before : List ℕ) → IsSlot s attribute → fill_in (filled_by before) s ≡ filled_by (before ++ attribute ∷ [])
fills_more slot.Passed attribute before is = simp (among_more, unasked attribute)
fills_more _ attribute before is = rw is (simp among_more)

-- Whether a slot already has a value.
abbrev names_of : List Given → List ℕ
names_of values = map (λ (g : Given). g.attribute) values

seen_is : (wanted : ℕ) (values : List Given) → is_among wanted (names_of values) ≡ is_some (first_of wanted values)
unfolding first_of
seen_is wanted [] = refl
seen_is wanted (before ∷ rest) = grind (arith, nat_tests, seen_is wanted rest)

slot_seen : (s : Slot) (values : List Given) → get_or (filled_by (names_of values)) (slot_number s) false ≡ is_some (pick_of s (first_values values))
slot_seen slot.Passed values = refl
slot_seen _ values = seen_is _ values

-- A value is kept if it is the first one for its slot.
put_same : (s : Slot) (first : PickFields) → put_in s (pick_of s first) first ≡ first
put_same slot.Passed first = refl
put_same _ first = refl

keeps : (s : Slot) (value : Value) (first : PickFields) → kept_of (put_in s (Some value) first) ≡ put_in s (kept_by s value) (kept_of first)
keeps slot.Passed value first = refl
keeps _ value first = refl

kept_where : (s : Slot) (value : Value) (first : PickFields) (old : Option Value) (seen : Bool) → pick_of s first ≡ old → seen ≡ is_some old → kept_of (put_in s (or_value old value) first) ≡ put_in (cond seen slot.Passed s) (kept_by (cond seen slot.Passed s) value) (kept_of first)
kept_where s value first (Some old) true here is = ap kept_of (ap (λ (o : Option Value). put_in s o first) (sym here) ∙ put_same s first)
kept_where s value first None false here is = keeps s value first
kept_where s value first (Some old) false here is = absurd (grind (arith, is))
kept_where s value first None true here is = absurd (grind (arith, is))

kept_more : (s : Slot) (attribute : ℕ) (value : Value) (seen : List Given) → IsSlot s attribute → picks_of (seen ++ given attribute value ∷ []) ≡ put_in (free_in (filled_by (names_of seen)) s) (kept_by (free_in (filled_by (names_of seen)) s) value) (picks_of seen)
kept_more s attribute value seen is =
    ap kept_of (firsts_more s attribute value seen is)
    ∙ kept_where s value (first_values seen) (pick_of s (first_values seen)) (get_or (filled_by (names_of seen)) (slot_number s) false) refl (slot_seen s seen)

-- The values of attributes, followed by the values of later attributes.
abbrev behind : List Given → List Given × Ahead → Result (List Given × Ahead) FormFault
behind front later = Ok (front ++ later.0, later.1)

abbrev others : List SpecFields → List Given × Ahead → Result (List Given × Ahead) FormFault
others specs front = values_at specs front.1 >>= behind front.0

abbrev first_on : SpecFields → List SpecFields → Value × Ahead → Result (List Given × Ahead) FormFault
first_on spec specs first = values_at specs first.1 >>= behind (given spec.attribute first.0 ∷ [])

behind_by : (front : Given) (later : List Given) (last : Result (List Given × Ahead) FormFault) → ((last >>= behind later) >>= behind (front ∷ [])) ≡ (last >>= behind (front ∷ later))
behind_by front later (Ok l) = refl
behind_by front later (Err fault) = refl

behind_first : (front : Given) (later : Result (List Given × Ahead) FormFault) (specs : List SpecFields) → ((later >>= others specs) >>= behind (front ∷ [])) ≡ ((later >>= behind (front ∷ [])) >>= others specs)
behind_first front (Ok l) specs = behind_by front l.0 (values_at specs l.1)
behind_first front (Err fault) specs = refl

values_by : (spec : SpecFields) (specs more : List SpecFields) (first : Result (Value × Ahead) FormFault) → ((c : Ahead) → values_at (specs ++ more) c ≡ (values_at specs c >>= others more)) → (first >>= first_on spec (specs ++ more)) ≡ ((first >>= first_on spec specs) >>= others more)
values_by spec specs more (Ok x) later =
    ap (λ r. r >>= behind (given spec.attribute x.0 ∷ [])) (later x.1) ∙ behind_first (given spec.attribute x.0) (values_at specs x.1) more
values_by spec specs more (Err fault) later = refl

all_there : (reading : Result (List Given × Ahead) FormFault) → reading ≡ (reading >>= behind [])
all_there (Ok x) = refl
all_there (Err fault) = refl

pub values_append : (specs more : List SpecFields) (c : Ahead) → values_at (specs ++ more) c ≡ (values_at specs c >>= others more)
unfolding values_at
values_append [] more c = all_there (values_at more c)
values_append (spec ∷ specs) more c = values_by spec specs more (value_at spec c) (λ d. values_append specs more d)

one_value : (x : SpecFields) (value : Value) (c d : Ahead) → value_at x c ≡ Ok (value, d) → values_at (x ∷ []) c ≡ Ok (given x.attribute value ∷ [], d)
unfolding values_at
one_value x value c d is = ap (λ r. r >>= first_on x []) is

pub values_next : (specs : List SpecFields) (x : SpecFields) (values : List Given) (value : Value) (c d e : Ahead) → values_at specs c ≡ Ok (values, d) → value_at x d ≡ Ok (value, e) → values_at (specs ++ x ∷ []) c ≡ Ok (values ++ given x.attribute value ∷ [], e)
values_next specs x values value c d e front last =
    values_append specs (x ∷ []) c ∙ ap (λ r. r >>= others (x ∷ [])) front ∙ ap (λ r. r >>= behind values) (one_value x value d e last)

values_refused : (specs more : List SpecFields) (x : SpecFields) (values : List Given) (c d : Ahead) (fault : FormFault) → values_at specs c ≡ Ok (values, d) → value_at x d ≡ Err fault → values_at (specs ++ x ∷ more) c ≡ Err fault
unfolding values_at
values_refused specs more x values c d fault front last =
    values_append specs (x ∷ more) c ∙ ap (λ r. r >>= others (x ∷ more)) front ∙ ap (λ r. (r >>= first_on x more) >>= behind values) last

-- The values have these attributes.
abbrev AreNamed : List ℕ → List Given × Ahead → Type 0
AreNamed names values = names_of values.0 ≡ names

names_are : (specs : List SpecFields) (c : Ahead) → IfOk (values_at specs c) (AreNamed (attributes_of specs))
unfolding values_at
names_are [] c = refl
names_are (spec ∷ specs) c =
    then_any (AreNamed (spec.attribute ∷ attributes_of specs)) (value_at spec c) _
    (λ first. then_ok (AreNamed (attributes_of specs)) (AreNamed (spec.attribute ∷ attributes_of specs)) (values_at specs first.1) _ (names_are specs first.1)
    (λ later same. ap (λ (n : List ℕ). spec.attribute ∷ n) same))

-- The values that were read so far, from which the picks come; then one value more.
pub record Read (specs : List SpecFields) (c d : Ahead) (picks : PickFields) : Type 0 where
  pub values : List Given
  pub reads : values_at specs c ≡ Ok (values, d)
  pub are : picks_of values ≡ picks
  pub names : names_of values ≡ attributes_of specs

read_by : (specs : List SpecFields) (c d : Ahead) (picks : PickFields) (reading : Result (List Given × Ahead) FormFault) → values_at specs c ≡ reading → with_picks reading ≡ Ok (picks, d) → Read specs c d picks
read_by specs c d picks (Ok x) reads is = record {
  values = x.0;
  reads = reads ∙ ap (λ (e : Ahead). Ok (x.0, e)) (ap (ahead_or d) is);
  are = ap (value_or picks) is;
  names = IfOk-at_ok (AreNamed (attributes_of specs)) reads (names_are specs c);
}
read_by specs c d picks (Err fault) reads is = absurd (grind (arith, is))

read_is : (specs : List SpecFields) (c d : Ahead) (picks : PickFields) → picks_at specs c ≡ Ok (picks, d) → Read specs c d picks
unfolding picks_at
read_is specs c d picks is = read_by specs c d picks (values_at specs c) refl is

abbrev pub kept_in : List ℕ → Slot → Value → PickFields → PickFields
kept_in before s value picks = put_in (free_in (filled_by before) s) (kept_by (free_in (filled_by before) s) value) picks

pub picks_next : (specs : List SpecFields) (x : SpecFields) (s : Slot) (value : Value) (picks : PickFields) (c d e : Ahead) → picks_at specs c ≡ Ok (picks, d) → IsSlot s x.attribute → value_at x d ≡ Ok (value, e) → picks_at (specs ++ x ∷ []) c ≡ Ok (kept_in (attributes_of specs) s value picks, e)
unfolding picks_at
picks_next specs x s value picks c d e so_far is next =
    let read = read_is specs c d picks so_far in
    ap with_picks (values_next specs x read.values value c d e read.reads next)
    ∙ ap (λ (p : PickFields). Ok (p, e)) (kept_more s x.attribute value read.values is
    ∙ ap (λ (n : List ℕ). kept_in n s value (picks_of read.values)) read.names ∙ ap (kept_in (attributes_of specs) s value) read.are)

-- The steps of the loop.
pub picks_begin : (specs : List SpecFields) (c : Ahead) → picks_at (take 0 specs) c ≡ Ok (no_picks, c)
unfolding picks_at values_at first_of
picks_begin specs c = refl

pub attributes_more : (specs : List SpecFields) (i : ℕ) (x : SpecFields) (s : Slot) (before after : List Bool) → before ≡ filled_by (attributes_of (take i specs)) → take (i + 1) specs ≡ take i specs ++ x ∷ [] → IsSlot s x.attribute → after ≡ fill_in before s → after ≡ filled_by (attributes_of (take (i + 1) specs))
attributes_more specs i x s before after was taken is filled =
    filled ∙ ap (λ (f : List Bool). fill_in f s) was ∙ fills_more s x.attribute (attributes_of (take i specs)) is
    ∙ ap filled_by (sym (map-append (λ (y : SpecFields). y.attribute) (take i specs) (x ∷ [])) ∙ ap attributes_of (sym taken))

pub put_kept : (s : Slot) (value : Value) (picks after : PickFields) (kept : Option Value) → after ≡ put_in s kept picks → kept ≡ kept_by s value → after ≡ put_in s (kept_by s value) picks
put_kept s value picks after kept is same = is ∙ ap (λ (v : Option Value). put_in s v picks) same

pub picks_more : (specs : List SpecFields) (i : ℕ) (x : SpecFields) (s free : Slot) (value : Value) (picks after : PickFields) (filled : List Bool) (c d e : Ahead) → picks_at (take i specs) c ≡ Ok (picks, d) → filled ≡ filled_by (attributes_of (take i specs)) → take (i + 1) specs ≡ take i specs ++ x ∷ [] → IsSlot s x.attribute → free ≡ free_in filled s → Ok (value, e) ≡ value_at x d → after ≡ put_in free (kept_by free value) picks → picks_at (take (i + 1) specs) c ≡ Ok (after, e)
picks_more specs i x s free value picks after filled c d e so_far was taken is free_is read put =
    let slot : free_in (filled_by (attributes_of (take i specs))) s ≡ free = sym (free_is ∙ ap (λ (f : List Bool). free_in f s) was) in
    ap (λ (more : List SpecFields). picks_at more c) taken
    ∙ picks_next (take i specs) x s value picks c d e so_far is (sym read)
    ∙ ap (λ (p : PickFields). Ok (p, e)) (ap (λ (t : Slot). put_in t (kept_by t value) picks) slot ∙ sym put)

pub picks_refused : (specs : List SpecFields) (i : ℕ) (x : SpecFields) (picks : PickFields) (c d : Ahead) (fault : FormFault) → picks_at (take i specs) c ≡ Ok (picks, d) → i < length specs → x ≡ get_or specs i x → Err fault ≡ value_at x d → Err fault ≡ picks_at specs c
unfolding picks_at
picks_refused specs i x picks c d fault so_far there is refused =
    let read = read_is (take i specs) c d picks so_far in
    let whole : take i specs ++ x ∷ drop (i + 1) specs ≡ specs = ap (λ (rest : List SpecFields). take i specs ++ rest) (sym (drop_more specs i x there ∙ ap (λ (y : SpecFields). y ∷ drop (i + 1) specs) (sym is))) ∙ take-append-drop i specs in
    sym (ap (λ (s : List SpecFields). with_picks (values_at s c)) (sym whole) ∙ ap with_picks (values_refused (take i specs) (drop (i + 1) specs) x read.values c d fault read.reads (sym refused)))

pub picks_end : (specs : List SpecFields) (i : ℕ) (picks : PickFields) (c d : Ahead) → picks_at (take i specs) c ≡ Ok (picks, d) → length specs ≤ i → Ok (picks, d) ≡ picks_at specs c
picks_end specs i picks c d so_far all = sym so_far ∙ ap (λ (s : List SpecFields). picks_at s c) (take_all i specs all)

-- What is ahead after a reading of picks.
passed_by : (reading : Result (List Given × Ahead) FormFault) (picks : PickFields) (d : Ahead) → Ok (picks, d) ≡ with_picks reading → Ok d ≡ only_ahead reading
passed_by (Ok x) picks d is = ap Ok (ap (ahead_or d) is)
passed_by (Err fault) picks d is = absurd (grind (arith, is))

pub picks_passed : (specs : List SpecFields) (picks : PickFields) (c d : Ahead) → Ok (picks, d) ≡ picks_at specs c → Ok d ≡ behind_values specs c
unfolding picks_at behind_values
picks_passed specs picks c d is = passed_by (values_at specs c) picks d is

faulty_by : (reading : Result (List Given × Ahead) FormFault) (fault : FormFault) → Err fault ≡ with_picks reading → Err fault ≡ only_ahead reading
faulty_by (Ok x) fault is = absurd (grind (arith, is))
faulty_by (Err other) fault is = let same : fault ≡ other = cc in ap Err same

pub picks_faulty : (specs : List SpecFields) (c : Ahead) (fault : FormFault) → Err fault ≡ picks_at specs c → Err fault ≡ behind_values specs c
unfolding picks_at behind_values
picks_faulty specs c fault is = faulty_by (values_at specs c) fault is
