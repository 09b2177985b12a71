-- The first stretch at an address is a stretch of the first function there.
use Rattle.std.proofs.Common.{◌≡◌, ℕ, suc, ◌+◌, ◌-◌, ◌<◌, Bool, true, false, not, ◌&&◌, ◌||◌, nat_le, if◌then◌else◌, List, [], ◌∷◌, ◌++◌, Option, None, Some, arith, refl, sym, ap, ◌∙◌}
use Rattle.std.proofs.lemmas.Bool.Decides.{nat_tests}
use Rattle.std.proofs.lemmas.List.Folds.{find-append, list_any-append}
use Rattle.std.specs.List.{find, list_any, slice_get}
use Rattle.std.specs.Option.{option_map, option_map_or, option_or}
use Rattle.std.specs.Str.{bytes_eq}
use Rattle.sym_edges.specs.Addresses.{Range}
use Rattle.range_set.specs.Members.{holds, holds_any}
use Rattle.range_set.specs.Canonical.{IsCanonical}
use Rattle.step_maps.specs.declared.stretch.Stretch.{Stretch}
use Rattle.step_maps.specs.Covers.{reaches, first_at, index_at}
use Rattle.debug_units.specs.declared.unit_read.UnitRead.{UnitRead}
use Rattle.die_walk.specs.EntryKinds.{is_function}
use Rattle.debug_units.specs.Owners.{Covering, covering_from, owner}
use Rattle.func_flatten.specs.Pieces.{owns, covering_name, has_other, is_many}
use Rattle.func_flatten.specs.internal.Classes.{has_other_name}
use Rattle.step_maps.specs.SpanStretches.{span_stretches}
use Rattle.func_flatten.specs.internal.Collecting.{is_some, has_code, functions_in, all_functions, function_stretches, own_class, HaveSets, has_address, Numbered, first_function}
use Rattle.func_flatten.specs.internal.Standing.{any_name, StandFor}

reaches_range : (r : Range) (a : ℕ) → r.start < r.end → (nat_le r.start a && nat_le a (r.end - 1)) ≡ holds r a
reaches_range r a some = grind (arith, nat_tests)

-- What is said of the first stretch.
abbrev told : {V : Type 0} → (Stretch → V) → List Stretch → ℕ → Option V
told say items a = option_map say (find (λ s. reaches s a) items)

told_joined : {V : Type 0} (say : Stretch → V) (xs ys : List Stretch) (a : ℕ) → told say (xs ++ ys) a ≡ option_or (told say xs a) (told say ys a)
told_joined say xs ys a = ap (λ o. option_map say o) (find-append (λ s. reaches s a) xs ys) ∙ mapped_or (find (λ s. reaches s a) xs) (find (λ s. reaches s a) ys)
  where
    mapped_or : (p q : Option Stretch) → option_map say (option_or p q) ≡ option_or (option_map say p) (option_map say q)
    mapped_or None q = refl
    mapped_or (Some p) q = refl

span_told : {V : Type 0} (say : Stretch → V) (v : V) (index class : ℕ) (spans : List Range) (a : ℕ) → ((first last : ℕ) → say (record { first = first; last = last; index = index; class = class }) ≡ v) → IsCanonical spans → told say (span_stretches index class spans) a ≡ (if holds_any spans a then Some v else None)
span_told say v index class [] a says canonical = refl
span_told say v index class (r ∷ spans) a says canonical = grind (arith, nat_tests, canonical.0, says r.start (r.end - 1), span_told say v index class spans a says canonical.2)

-- This is what is said of the number of the first function.
all_told : {V : Type 0} (say : Stretch → V) (v : ℕ → V) (class : ℕ → ℕ) → ((k first last : ℕ) → say (record { first = first; last = last; index = k; class = class k }) ≡ v k) → (k : ℕ) (functions : List Covering) (a : ℕ) → HaveSets functions
    → told say (function_stretches class k functions) a ≡ option_map (λ m. v m.number) (first_function a k functions)
all_told say v class says k [] a all = refl
all_told say v class says k (c ∷ functions) a all =
    grind (arith, nat_tests, told_joined say (span_stretches k (class k) c.spans) (function_stretches class (k + 1) functions) a, span_told say (v k) k (class k) c.spans a (says k) all.0, all_told say v class says (k + 1) functions a all.1)

-- The index of the first stretch is the number of the first function.
pub index_is : (class : ℕ → ℕ) (functions : List Covering) (a : ℕ) → HaveSets functions → index_at (function_stretches class 0 functions) a ≡ option_map (λ m. m.number) (first_function a 0 functions)
unfolding index_at first_at
index_is class functions a all = all_told (λ s. s.index) (λ k. k) class (λ k first last. refl) 0 functions a all

-- Whether a function at the address has a number that passes a test.
abbrev any_number : (ℕ → Bool) → ℕ → ℕ → List Covering → Bool
any_number passes k a [] = false
any_number passes k a (c ∷ functions) = (has_address a c && passes k) || any_number passes (k + 1) a functions

both : (p q r : Bool) → ((p && r) || (q && r)) ≡ ((p || q) && r)
both p q r = grind (arith, nat_tests)

any_spans : (passes : ℕ → Bool) (index class : ℕ) (spans : List Range) (a : ℕ) → IsCanonical spans → list_any (λ t. reaches t a && passes t.index) (span_stretches index class spans) ≡ (holds_any spans a && passes index)
any_spans passes index class [] a canonical = refl
any_spans passes index class (r ∷ spans) a canonical = rw (reaches_range r a canonical.0, any_spans passes index class spans a canonical.2) (both (holds r a) (holds_any spans a) (passes index))

any_functions : (class : ℕ → ℕ) (passes : ℕ → Bool) (k : ℕ) (functions : List Covering) (a : ℕ) → HaveSets functions → list_any (λ t. reaches t a && passes t.index) (function_stretches class k functions) ≡ any_number passes k a functions
any_functions class passes k [] a all = refl
any_functions class passes k (c ∷ functions) a all =
    grind (arith, nat_tests, list_any-append (λ t. reaches t a && passes t.index) (span_stretches k (class k) c.spans) (function_stretches class (k + 1) functions), any_spans passes k (class k) c.spans a all.0, any_functions class passes (k + 1) functions a all.1)

-- Whether a function at the address has another name than the given one.
abbrev pub any_named : (Covering → List ℕ) → ℕ → List Covering → Option Numbered → Bool
any_named name a functions None = false
any_named name a functions (Some m) = any_name name (name m.function) a functions

-- An entry without addresses owns no address.
owned : (c : Covering) (a : ℕ) → (is_function c.die && holds_any c.spans a) ≡ (has_code c && holds_any c.spans a)
owned c a = go c.spans
  where
    go : (spans : List Range) → (is_function c.die && holds_any spans a) ≡ ((is_function c.die && is_some spans) && holds_any spans a)
    go [] = grind (arith, nat_tests)
    go (r ∷ spans) = grind (arith, nat_tests)

-- The owner is the first function that has the address.
owner_by : (entries : List Covering) (a k : ℕ) → find (owns a) entries ≡ option_map (λ m. m.function) (first_function a k (functions_in entries))
owner_by [] a k = refl
owner_by (c ∷ entries) a k = grind (arith, nat_tests, owned c a, owner_by entries a k, owner_by entries a (k + 1))

found_first : (functions : List Covering) (a k : ℕ) → find (has_address a) functions ≡ option_map (λ m. m.function) (first_function a k functions)
found_first [] a k = refl
found_first (c ∷ functions) a k = grind (arith, nat_tests, found_first functions a (k + 1))

-- The owner is also the first among functions that represent all functions.
pub owner_is : (units : List UnitRead) (functions : List Covering) (a : ℕ) → StandFor (covering_name units) (all_functions units) functions → owner units a ≡ option_map (λ m. m.function) (first_function a 0 functions)
unfolding owner
owner_is units functions a s = owner_by (covering_from 0 units) a 0 ∙ sym (found_first (all_functions units) a 0) ∙ sym (s.first a) ∙ found_first functions a 0

other_by : (name : Covering → List ℕ) (n : List ℕ) (entries : List Covering) (a : ℕ) → list_any (λ d. owns a d && not (bytes_eq (name d) n)) entries ≡ any_name name n a (functions_in entries)
other_by name n [] a = refl
other_by name n (c ∷ entries) a = grind (arith, nat_tests, owned c a, other_by name n entries a)

named_by : (units : List UnitRead) (functions : List Covering) (a : ℕ) (o : Option Numbered) → StandFor (covering_name units) (all_functions units) functions → has_other units a (option_map (λ m. m.function) o) ≡ any_named (covering_name units) a functions o
named_by units functions a None s = refl
named_by units functions a (Some m) s = other_by (covering_name units) (covering_name units m.function) (covering_from 0 units) a ∙ sym (s.other a (covering_name units m.function))

pub many_is : (units : List UnitRead) (functions : List Covering) (a : ℕ) → StandFor (covering_name units) (all_functions units) functions → is_many units a ≡ any_named (covering_name units) a functions (first_function a 0 functions)
unfolding is_many
many_is units functions a s = ap (has_other units a) (owner_is units functions a s) ∙ named_by units functions a (first_function a 0 functions) s

-- The number of the first function is its index in the list.
first_get : (a k : ℕ) (functions : List Covering) (m : Numbered) → first_function a k functions ≡ Some m → (i : ℕ) × (m.number ≡ k + i) × (slice_get functions i ≡ Some m.function)
first_get a k [] m is = absurd (cc)
first_get a k (c ∷ functions) m is = go (has_address a c) is (λ found. first_get a (k + 1) functions m found)
  where
    go : (b : Bool) → (if b then Some (record { number = k; function = c }) else first_function a (k + 1) functions) ≡ Some m → (first_function a (k + 1) functions ≡ Some m → (i : ℕ) × (m.number ≡ (k + 1) + i) × (slice_get functions i ≡ Some m.function)) → (i : ℕ) × (m.number ≡ k + i) × (slice_get (c ∷ functions) i ≡ Some m.function)
    go true found later =
        (let number : k ≡ m.number = cc in
        let function : c ≡ m.function = cc in
        (0, omega (arith, number), ap Some function))
    go false found later = (let rest = later found in (suc rest.0, omega (arith, rest.1), rest.2))

pub first_at_number : (a : ℕ) (functions : List Covering) (m : Numbered) → first_function a 0 functions ≡ Some m → slice_get functions m.number ≡ Some m.function
first_at_number a functions m is = (let found = first_get a 0 functions m is in let same : m.number ≡ found.0 = omega (arith, found.1) in ap (slice_get functions) same ∙ found.2)

same_any : (passes : ℕ → Bool) (name : Covering → List ℕ) (text : List ℕ) (k a : ℕ) (functions : List Covering) → ((j : ℕ) (d : Covering) → slice_get functions j ≡ Some d → passes (k + j) ≡ not (bytes_eq (name d) text)) → any_number passes k a functions ≡ any_name name text a functions
same_any passes name text k a [] same = refl
same_any passes name text k a (c ∷ functions) same =
    grind (arith, nat_tests, same 0 c refl, same_any passes name text (k + 1) a functions (λ j d at. (let next : (k + 1) + j ≡ k + suc j = omega arith in ap passes next ∙ same (suc j) d at)))

-- An address has a stretch of another name exactly if it has a function with another name.
pub other_name_is : (number_name : ℕ → List ℕ) (name : Covering → List ℕ) (functions : List Covering) (a : ℕ) → HaveSets functions → ((j : ℕ) (d : Covering) → slice_get functions j ≡ Some d → number_name j ≡ name d) → has_other_name number_name (function_stretches own_class 0 functions) a ≡ any_named name a functions (first_function a 0 functions)
unfolding has_other_name first_at
other_name_is number_name name functions a all names = go (find (λ s. reaches s a) (function_stretches own_class 0 functions)) (first_function a 0 functions) refl (all_told (λ s. s.index) (λ k. k) own_class (λ k first last. refl) 0 functions a all)
  where
    go : (p : Option Stretch) (q : Option Numbered) → first_function a 0 functions ≡ q → option_map (λ s. s.index) p ≡ option_map (λ m. m.number) q
        → option_map_or (λ s. list_any (λ t. reaches t a && not (bytes_eq (number_name t.index) (number_name s.index))) (function_stretches own_class 0 functions)) p false ≡ any_named name a functions q
    go None None first is = refl
    go None (Some q) first is = absurd (cc)
    go (Some p) None first is = absurd (cc)
    go (Some p) (Some q) first is =
        (let same : p.index ≡ q.number = cc in
        let text : number_name p.index ≡ name q.function = ap number_name same ∙ names q.number q.function (first_at_number a functions q first) in
        any_functions own_class (λ k. not (bytes_eq (number_name k) (number_name p.index))) 0 functions a all
        ∙ ap (λ n. any_number (λ k. not (bytes_eq (number_name k) n)) 0 a functions) text
        ∙ same_any (λ k. not (bytes_eq (number_name k) (name q.function))) name (name q.function) 0 a functions
        (λ j d at. (let here : 0 + j ≡ j = omega arith in ap (λ i. not (bytes_eq (number_name i) (name q.function))) here ∙ ap (λ n. not (bytes_eq n (name q.function))) (names j d at))))
