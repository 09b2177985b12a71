-- The functions that are collected.
use Rattle.std.proofs.Common.{◌≡◌, ◌≢◌, ◌⊎◌, inl, inr, ℕ, ◌+◌, ◌<◌, ◌≤◌, ◌==◌, true, false, if◌then◌else◌, map, length, List, [], ◌∷◌, ◌++◌, arith, refl, sym, ap, ◌∙◌, append_assoc, append-nil, length-append, subst, drop, Option, Some, None, get_or}
use Rattle.std.proofs.lemmas.Bool.Decides.{nat_tests}
use Rattle.std.specs.List.{slice_get}
use Rattle.std.specs.Option.{option_map_or}
use Rattle.std.specs.Str.{bytes_eq}
use Rattle.std.proofs.lemmas.List.{drop_all, drop_more, length-map, map_push}
use Rattle.std.proofs.lemmas.Option.{gets, same_Some, slice_get_within, slice_get_read, get_or_from_slice_get}
use Rattle.sym_edges.specs.Addresses.{Range}
use Rattle.range_set.specs.Canonical.{IsCanonical}
use Rattle.step_maps.specs.declared.stretch.Stretch.{Stretch}
use Rattle.die_walk.specs.EntryTable.{DieFields}
use Rattle.debug_units.specs.declared.unit_read.UnitRead.{UnitRead}
use Rattle.die_walk.specs.EntryKinds.{is_function}
use Rattle.debug_units.specs.UnitEntries.{places}
use Rattle.debug_units.specs.Owners.{Covering, unit_covering, covering_from}
use Rattle.debug_units.specs.declared.unit_read.EntryRef.{EntryRef}
use Rattle.func_flatten.specs.Pieces.{place_of, covering_name}
use Rattle.step_maps.specs.SpanStretches.{span_stretches}
use Rattle.func_flatten.specs.declared.set_owners.Meeting.TheVariants.{Known}
use Rattle.func_flatten.specs.internal.Classes.{place_name, place_at, number_name}
use Rattle.func_flatten.specs.internal.Collecting.{is_some, has_code, functions_in, all_functions, entry_covering, function_stretches, own_class, HaveSets}
use Rattle.func_flatten.specs.internal.Standing.{IsCollected, HasSet, Meets, StandFor, place_key, set_in}
use Rattle.func_flatten.proofs.StandLemmas.{stand_none, stand_more, stand_same, stand_two, rise_higher, rise_more, map_length, get_mapped, name_get, get_inside, there_get, there_more}

none_some : (set : List Range) → length set ≡ 0 → is_some set ≡ false
none_some [] none = refl
none_some (r ∷ set) none = absurd (omega (arith, none))

some_some : (set : List Range) → length set ≢ 0 → is_some set ≡ true
some_some [] some = absurd (some refl)
some_some (r ∷ set) some = refl

stretches_joined : (k : ℕ) (xs ys : List Covering) → function_stretches own_class k (xs ++ ys) ≡ function_stretches own_class k xs ++ function_stretches own_class (k + length xs) ys
stretches_joined k [] ys = ap (λ n. function_stretches own_class n ys) (omega arith)
stretches_joined k (x ∷ xs) ys =
    ap (λ l. span_stretches k k x.spans ++ l) (stretches_joined (k + 1) xs ys ∙ ap (λ n. function_stretches own_class (k + 1) xs ++ function_stretches own_class n ys) (omega arith))
    ∙ sym (append_assoc (span_stretches k k x.spans) (function_stretches own_class (k + 1) xs) (function_stretches own_class (k + length (x ∷ xs)) ys))

pub collected_none : (units : List UnitRead) → IsCollected units [] [] 0 (covering_from 0 units)
collected_none units = record {
  functions = [];
  passed = [];
  whole = refl;
  placed = refl;
  stretched = refl;
  sets = tt;
  stand = stand_none (covering_name units);
  rise = omega arith;
  there = tt;
}

pub collected_raised : (units : List UnitRead) (places : List EntryRef) (stretches : List Stretch) (low high : ℕ) (left : List Covering) → low ≤ high → IsCollected units places stretches low left → IsCollected units places stretches high left
collected_raised units places stretches low high left less c = record {
  functions = c.functions;
  passed = c.passed;
  whole = c.whole;
  placed = c.placed;
  stretched = c.stretched;
  sets = c.sets;
  stand = c.stand;
  rise = rise_higher 0 low high c.functions less c.rise;
  there = c.there;
}

-- An entry that is no function, or has no addresses.
other_passed : (units : List UnitRead) (places : List EntryRef) (stretches : List Stretch) (low : ℕ) (c : Covering) (left : List Covering) → has_code c ≡ false → IsCollected units places stretches low (c ∷ left) → IsCollected units places stretches low left
other_passed units places stretches low c left none k = record {
  functions = k.functions;
  passed = k.passed;
  whole = ap (λ b. k.passed ++ (if b then c ∷ functions_in left else functions_in left)) (sym none) ∙ k.whole;
  placed = k.placed;
  stretched = k.stretched;
  sets = k.sets;
  stand = k.stand;
  rise = k.rise;
  there = k.there;
}

passed_one : (passed left all : List Covering) (c : Covering) → has_code c ≡ true → passed ++ functions_in (c ∷ left) ≡ all → (passed ++ c ∷ []) ++ functions_in left ≡ all
passed_one passed left all c is whole = append_assoc passed (c ∷ []) (functions_in left) ∙ ap (λ b. passed ++ (if b then c ∷ functions_in left else functions_in left)) (sym is) ∙ whole

stretches_more : (k : ℕ) (functions : List Covering) (c : Covering) → function_stretches own_class 0 (functions ++ c ∷ []) ≡ function_stretches own_class 0 functions ++ span_stretches (length functions) (length functions) c.spans
stretches_more k functions c =
    stretches_joined 0 functions (c ∷ [])
    ∙ ap (λ l. function_stretches own_class 0 functions ++ l) (append-nil (span_stretches (0 + length functions) (0 + length functions) c.spans) ∙ ap (λ n. span_stretches n n c.spans) (let same : 0 + length functions ≡ length functions = omega arith in same))

have_more : (functions : List Covering) (c : Covering) → HaveSets functions → IsCanonical c.spans → HaveSets (functions ++ c ∷ [])
have_more [] c all is = (is, tt)
have_more (d ∷ functions) c all is = (all.0, have_more functions c all.1 is)

-- A function that is collected.
taken : (units : List UnitRead) (places new : List EntryRef) (before after : List Stretch) (c : Covering) (left : List Covering) → has_code c ≡ true → IsCanonical c.spans → set_in c.entry (slice_get units c.unit) ≡ Some c.spans
    → after ≡ before ++ span_stretches (length places) (length places) c.spans → new ≡ places ++ place_of c ∷ [] → IsCollected units places before (place_key (place_of c)) (c ∷ left) → IsCollected units new after (place_key (place_of c) + 1) left
taken units places new before after c left is canonical here stretched placed k =
    let count : length places ≡ length k.functions = ap length k.placed ∙ map_length k.functions in
    record {
      functions = k.functions ++ c ∷ [];
      passed = k.passed ++ c ∷ [];
      whole = passed_one k.passed left (all_functions units) c is k.whole;
      placed = placed ∙ ap (λ l. l ++ place_of c ∷ []) k.placed ∙ sym (map_push place_of k.functions c);
      stretched =
          stretched ∙ ap (λ l. l ++ span_stretches (length places) (length places) c.spans) k.stretched
          ∙ ap (λ n. function_stretches own_class 0 k.functions ++ span_stretches n n c.spans) count
          ∙ sym (stretches_more 0 k.functions c);
      sets = have_more k.functions c k.sets canonical;
      stand = stand_more (covering_name units) k.passed k.functions c k.stand;
      rise = rise_more (place_key (place_of c)) k.functions c (omega arith) k.rise;
      there = there_more units k.functions c k.there here;
    }

-- The function with a number, which has the same set as another one.
record Kept (units : List UnitRead) (functions : List Covering) (places : List EntryRef) (c : Covering) (k : ℕ) : Type 0 where
  function : Covering
  at : slice_get functions k ≡ Some function
  set : function.spans ≡ c.spans
  named : number_name units places k ≡ covering_name units function

kept_there : (units : List UnitRead) (part : UnitRead) (places : List EntryRef) (functions : List Covering) (c : Covering) (k : ℕ) → slice_get units c.unit ≡ Some part → slice_get part.spans c.entry ≡ Some c.spans → places ≡ map place_of functions
    → ((j : ℕ) (d : Covering) → slice_get functions j ≡ Some d → set_in d.entry (slice_get units d.unit) ≡ Some d.spans) → HasSet part.spans places c.unit c.entry k → Kept units functions places c k
kept_there units part places functions c k one here placed there has =
    let inside : k < length functions = (let less : k < length places = has.known in let count : length places ≡ length functions = ap length placed ∙ map_length functions in omega arith) in
    let found = get_inside functions k inside in
    let at : place_at places k ≡ place_of found.0 = ap (λ l. place_at l k) placed ∙ get_mapped functions k found.0 found.1 in
    let unit : found.0.unit ≡ c.unit = sym (ap (λ p. p.unit) at) ∙ has.here in
    let entry : (place_at places k).entry ≡ found.0.entry = ap (λ p. p.entry) at in
    record {
      function = found.0;
      at = found.1;
      set = same_Some found.0.spans c.spans
          (sym (there k found.0 found.1)
          ∙ ap (λ u. set_in found.0.entry (slice_get units u)) unit
          ∙ ap (set_in found.0.entry) one
          ∙ ap (slice_get part.spans) (sym entry)
          ∙ has.set
          ∙ here);
      named = ap (λ l. number_name units l k) placed ∙ name_get units functions k found.0 found.1;
    }

-- A function that others represent.
known : (units : List UnitRead) (part : UnitRead) (places : List EntryRef) (stretches : List Stretch) (c : Covering) (left : List Covering) (k : ℕ) → has_code c ≡ true → slice_get units c.unit ≡ Some part → slice_get part.spans c.entry ≡ Some c.spans
    → Meets units part.spans places (place_of c) (Known k) → IsCollected units places stretches (place_key (place_of c)) (c ∷ left) → IsCollected units places stretches (place_key (place_of c) + 1) left
known units part places stretches c left k is one here meets q = record {
  functions = q.functions;
  passed = q.passed ++ c ∷ [];
  whole = passed_one q.passed left (all_functions units) c is q.whole;
  placed = q.placed;
  stretched = q.stretched;
  sets = q.sets;
  stand = stands meets.1;
  rise = rise_higher 0 (place_key (place_of c)) (place_key (place_of c) + 1) q.functions (omega arith) q.rise;
  there = q.there;
}
  where
    one_kept : (j : ℕ) → HasSet part.spans places c.unit c.entry j → Kept units q.functions places c j
    one_kept j has = kept_there units part places q.functions c j one here q.placed (λ i d at. there_get units q.functions i d q.there at) has

    stands : (bytes_eq (place_name units (place_of c)) (number_name units places k) ≡ true) ⊎ ((l : ℕ) × HasSet part.spans places c.unit c.entry l × (bytes_eq (number_name units places l) (number_name units places k) ≡ false)) → StandFor (covering_name units) (q.passed ++ c ∷ []) q.functions
    stands which = elim which [
      | inl same ↦ (let f = one_kept k meets.0 in stand_same (covering_name units) q.passed q.functions c f.function k q.stand f.at f.set (ap (bytes_eq (covering_name units c)) (sym f.named) ∙ same))
      | inr two ↦
          (let f = one_kept k meets.0 in
          let g = one_kept two.0 two.1 in
          stand_two (covering_name units) q.passed q.functions c f.function g.function k two.0 q.stand f.at g.at f.set g.set (ap (λ n. bytes_eq n (covering_name units f.function)) (sym g.named) ∙ ap (bytes_eq (number_name units places two.0)) (sym f.named) ∙ two.2))
    ]

-- An entry without a set, an entry with an empty set, and an entry that is no function.
covered_by : (place : EntryRef) (die : DieFields) (sets : List (List Range)) (left : List Covering) (o : Option (List Range)) → o ≡ slice_get sets place.entry → option_map_or (λ s. record { unit = place.unit; entry = place.entry; die = die; spans = s } ∷ []) o [] ++ left ≡ entry_covering place die sets ++ left
covered_by place die sets left o there = ap (λ o. option_map_or (λ s. record { unit = place.unit; entry = place.entry; die = die; spans = s } ∷ []) o [] ++ left) there

left_by : (units : List UnitRead) (places : List EntryRef) (stretches : List Stretch) (low : ℕ) (place : EntryRef) (die : DieFields) (sets : List (List Range)) (left : List Covering) (o : Option (List Range)) → o ≡ slice_get sets place.entry
    → IsCollected units places stretches low (entry_covering place die sets ++ left) → IsCollected units places stretches low (option_map_or (λ s. record { unit = place.unit; entry = place.entry; die = die; spans = s } ∷ []) o [] ++ left)
left_by units places stretches low place die sets left o there c = subst (IsCollected units places stretches low) (sym (covered_by place die sets left o there)) c

pub entry_without : (units : List UnitRead) (places : List EntryRef) (stretches : List Stretch) (place : EntryRef) (die : DieFields) (sets : List (List Range)) (left : List Covering) → None ≡ slice_get sets place.entry
    → IsCollected units places stretches (place_key place) (entry_covering place die sets ++ left) → IsCollected units places stretches (place_key place + 1) left
entry_without units places stretches place die sets left none c = collected_raised units places stretches (place_key place) (place_key place + 1) left (omega arith) (left_by units places stretches (place_key place) place die sets left None none c)

pub entry_empty : (units : List UnitRead) (places : List EntryRef) (stretches : List Stretch) (place : EntryRef) (die : DieFields) (sets : List (List Range)) (set : List Range) (left : List Covering) → Some set ≡ slice_get sets place.entry → length set ≡ 0
    → IsCollected units places stretches (place_key place) (entry_covering place die sets ++ left) → IsCollected units places stretches (place_key place + 1) left
entry_empty units places stretches place die sets set left there none c =
    collected_raised units places stretches (place_key place) (place_key place + 1) left (omega arith)
    (other_passed units places stretches (place_key place) (record { unit = place.unit; entry = place.entry; die = die; spans = set }) left (grind (arith, nat_tests, none_some set none)) (left_by units places stretches (place_key place) place die sets left (Some set) there c))

pub entry_other : (units : List UnitRead) (places : List EntryRef) (stretches : List Stretch) (place : EntryRef) (die : DieFields) (sets : List (List Range)) (set : List Range) (left : List Covering) → Some set ≡ slice_get sets place.entry → is_function die ≡ false
    → IsCollected units places stretches (place_key place) (entry_covering place die sets ++ left) → IsCollected units places stretches (place_key place + 1) left
entry_other units places stretches place die sets set left there other c =
    collected_raised units places stretches (place_key place) (place_key place + 1) left (omega arith)
    (other_passed units places stretches (place_key place) (record { unit = place.unit; entry = place.entry; die = die; spans = set }) left (grind (arith, nat_tests, other)) (left_by units places stretches (place_key place) place die sets left (Some set) there c))

pub no_length : (set : List Range) → true ≡ (length set == 0) → length set ≡ 0
no_length [] is = refl
no_length (r ∷ set) is = absurd (grind (arith, nat_tests, is))

pub one_die : (dies : List DieFields) (k : ℕ) (x y : DieFields) → Some x ≡ slice_get dies k → Some y ≡ slice_get dies k → x ≡ y
one_die dies k x y one other = same_Some x y (one ∙ sym other)

-- A function, with its addresses.
pub entry_found : (units : List UnitRead) (places new : List EntryRef) (before after : List Stretch) (place : EntryRef) (die : DieFields) (sets : List (List Range)) (set : List Range) (left : List Covering) → Some set ≡ slice_get sets place.entry
    → IsCollected units places before (place_key place) (entry_covering place die sets ++ left)
    → (IsCollected units places before (place_key place) (record { unit = place.unit; entry = place.entry; die = die; spans = set } ∷ left) → IsCollected units new after (place_key place + 1) left)
    → IsCollected units new after (place_key place + 1) left
entry_found units places new before after place die sets set left there c more = more (left_by units places before (place_key place) place die sets left (Some set) there c)

pub function_known : (units : List UnitRead) (part : UnitRead) (places : List EntryRef) (stretches : List Stretch) (place : EntryRef) (die : DieFields) (set : List Range) (left : List Covering) (k : ℕ) → is_function die ≡ true → length set ≢ 0 → slice_get units place.unit ≡ Some part → slice_get part.spans place.entry ≡ Some set
    → Meets units part.spans places place (Known k) → IsCollected units places stretches (place_key place) (record { unit = place.unit; entry = place.entry; die = die; spans = set } ∷ left) → IsCollected units places stretches (place_key place + 1) left
function_known units part places stretches place die set left k is some one here meets c =
    known units part places stretches (record { unit = place.unit; entry = place.entry; die = die; spans = set }) left k (grind (arith, nat_tests, is, some_some set some)) one here meets c

pub function_taken : (units : List UnitRead) (part : UnitRead) (places new : List EntryRef) (before after : List Stretch) (place : EntryRef) (die : DieFields) (set : List Range) (left : List Covering) → is_function die ≡ true → length set ≢ 0 → IsCanonical set → slice_get units place.unit ≡ Some part → slice_get part.spans place.entry ≡ Some set
    → after ≡ before ++ span_stretches (length places) (length places) set → new ≡ places ++ place ∷ []
    → IsCollected units places before (place_key place) (record { unit = place.unit; entry = place.entry; die = die; spans = set } ∷ left) → IsCollected units new after (place_key place + 1) left
function_taken units part places new before after place die set left is some canonical one here stretched placed c =
    taken units places new before after (record { unit = place.unit; entry = place.entry; die = die; spans = set }) left (grind (arith, nat_tests, is, some_some set some)) canonical (ap (set_in place.entry) one ∙ here) stretched placed c

drop_index : {A : Type 0} (xs : List A) (k : ℕ) (x : A) → k < length xs → x ≡ get_or xs k x → drop k xs ≡ x ∷ drop (k + 1) xs
drop_index xs k x inside is = drop_more xs k x inside ∙ ap (λ z. z ∷ drop (k + 1) xs) (sym is)

drop_get : {A : Type 0} (xs : List A) (k : ℕ) (x : A) → Some x ≡ slice_get xs k → drop k xs ≡ x ∷ drop (k + 1) xs
drop_get xs k x is = drop_index xs k x (slice_get_within xs k x (sym is)) (sym (get_or_from_slice_get xs k x x (sym is)))

past : {A : Type 0} (xs : List A) (k : ℕ) → None ≡ slice_get xs k → length xs ≤ k
past xs k is = grind (arith, gets, is)

-- An entry of a unit was added.
no_sets : (unit entry : ℕ) (dies : List DieFields) → unit_covering unit entry dies [] ≡ []
no_sets unit entry [] = refl
no_sets unit entry (die ∷ dies) = refl

entry_left : (unit entry : ℕ) (dies : List DieFields) (sets : List (List Range)) (die : DieFields) → Some die ≡ slice_get dies entry
    → unit_covering unit entry (drop entry dies) (drop entry sets) ≡ entry_covering (record { unit = unit; entry = entry }) die sets ++ unit_covering unit (entry + 1) (drop (entry + 1) dies) (drop (entry + 1) sets)
entry_left unit entry dies sets die one = ap (λ l. unit_covering unit entry l (drop entry sets)) (drop_get dies entry die one) ∙ go (slice_get sets entry) refl
  where
    go : (o : Option (List Range)) → slice_get sets entry ≡ o → unit_covering unit entry (die ∷ drop (entry + 1) dies) (drop entry sets) ≡ option_map_or (λ set. record { unit = unit; entry = entry; die = die; spans = set } ∷ []) o [] ++ unit_covering unit (entry + 1) (drop (entry + 1) dies) (drop (entry + 1) sets)
    go (Some set) there = ap (λ l. unit_covering unit entry (die ∷ drop (entry + 1) dies) l) (drop_get sets entry set (sym there))
    go None there =
        ap (λ l. unit_covering unit entry (die ∷ drop (entry + 1) dies) l) (drop_all entry sets (past sets entry (sym there)))
        ∙ sym (ap (unit_covering unit (entry + 1) (drop (entry + 1) dies)) (drop_all (entry + 1) sets (omega (arith, past sets entry (sym there)))) ∙ no_sets unit (entry + 1) (drop (entry + 1) dies))

pub entry_added : (units : List UnitRead) (old new : List EntryRef) (before after : List Stretch) (low high unit entry : ℕ) (dies : List DieFields) (sets : List (List Range)) (rest : List Covering) → entry < length dies
    → IsCollected units old before low (unit_covering unit entry (drop entry dies) (drop entry sets) ++ rest)
    → ((left : List Covering) (die : DieFields) → Some die ≡ slice_get dies entry → IsCollected units old before low (entry_covering (record { unit = unit; entry = entry }) die sets ++ left) → IsCollected units new after high left)
    → IsCollected units new after high (unit_covering unit (entry + 1) (drop (entry + 1) dies) (drop (entry + 1) sets) ++ rest)
entry_added units old new before after low high unit entry dies sets rest inside k more = go (slice_get dies entry) refl
  where
    later : List Covering
    later = unit_covering unit (entry + 1) (drop (entry + 1) dies) (drop (entry + 1) sets)

    go : (o : Option DieFields) → o ≡ slice_get dies entry → IsCollected units new after high (later ++ rest)
    go None none = absurd (omega (arith, past dies entry none, inside))
    go (Some die) one =
        more (later ++ rest) die one
        (subst (IsCollected units old before low) (ap (λ l. l ++ rest) (entry_left unit entry dies sets die one) ∙ append_assoc (entry_covering (record { unit = unit; entry = entry }) die sets) later rest) k)

-- The next unit.
pub unit_next : (units : List UnitRead) (places : List EntryRef) (stretches : List Stretch) (low unit : ℕ) (part : UnitRead) → unit < length units → part ≡ get_or units unit part
    → IsCollected units places stretches low (covering_from unit (drop unit units)) → IsCollected units places stretches low (unit_covering unit 0 part.die.dies part.spans ++ covering_from (unit + 1) (drop (unit + 1) units))
unit_next units places stretches low unit part inside is k = subst (IsCollected units places stretches low) (ap (covering_from unit) (drop_index units unit part inside is)) k

pub unit_there : (units : List UnitRead) (unit : ℕ) (part : UnitRead) → unit < length units → part ≡ get_or units unit part → slice_get units unit ≡ Some part
unit_there units unit part inside is = slice_get_read units (length units) unit part refl inside is

-- The entries of a unit, and those of the units after it.
pub entries_left : (unit : ℕ) (units : List UnitRead) (part : UnitRead) → unit < length units → part ≡ get_or units unit part → length (places (drop unit units)) ≡ length part.die.dies + length (places (drop (unit + 1) units))
entries_left unit units part inside is =
    ap (λ l. length (places l)) (drop_index units unit part inside is)
    ∙ length-append (map (λ die. die.at) part.die.dies) (places (drop (unit + 1) units))
    ∙ ap (λ n. n + length (places (drop (unit + 1) units))) (length-map part.die.dies (λ die. die.at))
