-- Two of the functions with the same set of addresses represent all of them.
use Rattle.std.proofs.Common.{◌≡◌, ℕ, zero, suc, ◌+◌, ◌<◌, ◌≤◌, Bool, true, false, not, ◌&&◌, ◌||◌, map, length, List, [], ◌∷◌, ◌++◌, Option, None, Some, arith, refl, sym, ap, ◌∙◌, subst}
use Rattle.std.proofs.lemmas.Bool.Decides.{nat_tests}
use Rattle.std.proofs.lemmas.List.Folds.{find-append, list_any-append}
use Rattle.std.proofs.lemmas.Slice.Eq.{bytes_eq-Decides}
use Rattle.std.specs.List.{find, list_any, slice_get}
use Rattle.std.specs.Option.{option_or}
use Rattle.std.specs.Str.{bytes_eq}
use Rattle.range_set.specs.Members.{holds_any}
use Rattle.debug_units.specs.declared.unit_read.UnitRead.{UnitRead}
use Rattle.debug_units.specs.Owners.{Covering}
use Rattle.func_flatten.specs.Pieces.{place_of, covering_name}
use Rattle.func_flatten.specs.internal.Collecting.{has_address}
use Rattle.func_flatten.specs.internal.Classes.{place_at, number_name}
use Rattle.func_flatten.specs.internal.Standing.{any_name, StandFor, place_key, Rise, set_in, AreThere}

pub no_more : {A : Type 0} (o : Option A) → option_or o None ≡ o
no_more None = refl
no_more (Some c) = refl

pub stand_none : (name : Covering → List ℕ) → StandFor name [] []
stand_none name = record { first = λ a. refl; other = λ a text. refl }

-- One more function that is collected.
pub stand_more : (name : Covering → List ℕ) (all kept : List Covering) (c : Covering) → StandFor name all kept → StandFor name (all ++ c ∷ []) (kept ++ c ∷ [])
stand_more name all kept c s = record {
  first = λ a. find-append (has_address a) kept (c ∷ []) ∙ ap (λ o. option_or o (find (has_address a) (c ∷ []))) (s.first a) ∙ sym (find-append (has_address a) all (c ∷ []));
  other = λ a text.
      list_any-append (λ d. has_address a d && not (bytes_eq (name d) text)) kept (c ∷ [])
      ∙ ap (λ b. b || any_name name text a (c ∷ [])) (s.other a text)
      ∙ sym (list_any-append (λ d. has_address a d && not (bytes_eq (name d) text)) all (c ∷ []));
}

pub any_here : {A : Type 0} (test : A → Bool) (kept : List A) (k : ℕ) (f : A) → slice_get kept k ≡ Some f → test f ≡ true → list_any test kept ≡ true
any_here test [] k f there is = absurd (cc)
any_here test (d ∷ kept) zero f there is = grind (arith, nat_tests, there, is)
any_here test (d ∷ kept) (suc k) f there is = grind (arith, nat_tests, any_here test kept k f there is)

pub first_kept : {A : Type 0} (test : A → Bool) (kept : List A) (o : Option A) → list_any test kept ≡ true → option_or (find test kept) o ≡ find test kept
first_kept test [] o any = absurd (cc)
first_kept test (d ∷ kept) o any = grind (arith, nat_tests, any, first_kept test kept o)

-- One more function that others represent.
pub stand_known : (name : Covering → List ℕ) (all kept : List Covering) (c : Covering) → StandFor name all kept → ((a : ℕ) → has_address a c ≡ true → list_any (has_address a) kept ≡ true)
    → ((a : ℕ) (text : List ℕ) → has_address a c ≡ true → bytes_eq (name c) text ≡ false → any_name name text a kept ≡ true) → StandFor name (all ++ c ∷ []) kept
stand_known name all kept c s held told = record {
  first = λ a. grind (arith, nat_tests, find-append (has_address a) all (c ∷ []), s.first a, held a, no_more (find (has_address a) all), first_kept (has_address a) kept (Some c));
  other = λ a text. grind (arith, nat_tests, list_any-append (λ d. has_address a d && not (bytes_eq (name d) text)) all (c ∷ []), s.other a text, told a text);
}

-- A function with the same set and the same name represents it.
pub stand_same : (name : Covering → List ℕ) (all kept : List Covering) (c f : Covering) (k : ℕ) → StandFor name all kept → slice_get kept k ≡ Some f → f.spans ≡ c.spans → bytes_eq (name c) (name f) ≡ true → StandFor name (all ++ c ∷ []) kept
stand_same name all kept c f k s there set named =
    let same : name c ≡ name f = (bytes_eq-Decides (name c) (name f)).0 named in
    stand_known name all kept c s
    (λ a is. any_here (has_address a) kept k f there (ap (λ l. holds_any l a) set ∙ is))
    (λ a text is other.
    any_here (λ d. has_address a d && not (bytes_eq (name d) text)) kept k f there (grind (arith, nat_tests, set, is, same, other)))

one_other : (name : Covering → List ℕ) (f g : Covering) (text : List ℕ) → bytes_eq (name g) (name f) ≡ false → bytes_eq (name f) text ≡ true → bytes_eq (name g) text ≡ false
one_other name f g text apart same =
    grind (arith, nat_tests, apart, (bytes_eq-Decides (name g) text).0, (bytes_eq-Decides (name f) text).0 same, (bytes_eq-Decides (name g) (name f)).1)

-- Two functions with the same set and with different names represent it.
pub stand_two : (name : Covering → List ℕ) (all kept : List Covering) (c f g : Covering) (k l : ℕ) → StandFor name all kept → slice_get kept k ≡ Some f → slice_get kept l ≡ Some g → f.spans ≡ c.spans → g.spans ≡ c.spans → bytes_eq (name g) (name f) ≡ false
    → StandFor name (all ++ c ∷ []) kept
stand_two name all kept c f g k l s first second set also apart =
    stand_known name all kept c s
    (λ a is. any_here (has_address a) kept k f first (ap (λ set. holds_any set a) set ∙ is))
    (λ a text is other. go a text is (bytes_eq (name f) text) refl)
  where
    here : (a : ℕ) (text : List ℕ) (m : ℕ) (h : Covering) → slice_get kept m ≡ Some h → h.spans ≡ c.spans → has_address a c ≡ true → bytes_eq (name h) text ≡ false → any_name name text a kept ≡ true
    here a text m h there same is other =
        any_here (λ d. has_address a d && not (bytes_eq (name d) text)) kept m h there (grind (arith, nat_tests, same, is, other))

    go : (a : ℕ) (text : List ℕ) → has_address a c ≡ true → (b : Bool) → bytes_eq (name f) text ≡ b → any_name name text a kept ≡ true
    go a text is false other = here a text k f first set is other
    go a text is true same = here a text l g second also is (one_other name f g text apart same)

-- Functions in the order of `.debug_info`.
pub rise_lower : (low mid high : ℕ) (functions : List Covering) → low ≤ mid → Rise mid high functions → Rise low high functions
rise_lower low mid high [] less rise = omega arith
rise_lower low mid high (c ∷ functions) less rise = (omega (arith, rise.0), rise.1)

pub rise_higher : (low mid high : ℕ) (functions : List Covering) → mid ≤ high → Rise low mid functions → Rise low high functions
rise_higher low mid high [] less rise = omega arith
rise_higher low mid high (c ∷ functions) less rise = (rise.0, rise_higher (place_key (place_of c) + 1) mid high functions less rise.1)

rise_joined : (low mid high : ℕ) (xs ys : List Covering) → Rise low mid xs → Rise mid high ys → Rise low high (xs ++ ys)
rise_joined low mid high [] ys p q = rise_lower low mid high ys p q
rise_joined low mid high (x ∷ xs) ys p q = (p.0, rise_joined (place_key (place_of x) + 1) mid high xs ys p.1 q)

pub rise_more : (low : ℕ) (functions : List Covering) (c : Covering) → low ≤ place_key (place_of c) → Rise 0 low functions → Rise 0 (place_key (place_of c) + 1) (functions ++ c ∷ [])
rise_more low functions c less rise = rise_joined 0 low (place_key (place_of c) + 1) functions (c ∷ []) rise (less, omega arith)

-- Functions by their numbers.
pub map_length : (functions : List Covering) → length (map place_of functions) ≡ length functions
map_length [] = refl
map_length (c ∷ functions) = omega (arith, map_length functions)

pub get_mapped : (functions : List Covering) (k : ℕ) (c : Covering) → slice_get functions k ≡ Some c → place_at (map place_of functions) k ≡ place_of c
get_mapped [] k c is = absurd (cc)
get_mapped (d ∷ functions) zero c is = (let same : d ≡ c = cc in ap place_of same)
get_mapped (d ∷ functions) (suc k) c is = get_mapped functions k c is

pub name_get : (units : List UnitRead) (functions : List Covering) (k : ℕ) (c : Covering) → slice_get functions k ≡ Some c → number_name units (map place_of functions) k ≡ covering_name units c
name_get units [] k c is = absurd (cc)
name_get units (d ∷ functions) zero c is = (let same : d ≡ c = cc in ap (covering_name units) same)
name_get units (d ∷ functions) (suc k) c is = name_get units functions k c is

pub get_inside : (functions : List Covering) (k : ℕ) → k < length functions → (c : Covering) × (slice_get functions k ≡ Some c)
get_inside [] k less = absurd (omega arith)
get_inside (c ∷ functions) zero less = (c, refl)
get_inside (c ∷ functions) (suc k) less = get_inside functions k (omega arith)

pub there_get : (units : List UnitRead) (functions : List Covering) (k : ℕ) (c : Covering) → AreThere units functions → slice_get functions k ≡ Some c → set_in c.entry (slice_get units c.unit) ≡ Some c.spans
there_get units [] k c all is = absurd (cc)
there_get units (d ∷ functions) zero c all is = (let same : d ≡ c = cc in subst (λ (e : Covering). set_in e.entry (slice_get units e.unit) ≡ Some e.spans) same all.0)
there_get units (d ∷ functions) (suc k) c all is = there_get units functions k c all.1 is

pub there_more : (units : List UnitRead) (functions : List Covering) (c : Covering) → AreThere units functions → set_in c.entry (slice_get units c.unit) ≡ Some c.spans → AreThere units (functions ++ c ∷ [])
there_more units [] c all is = (is, tt)
there_more units (d ∷ functions) c all is = (all.0, there_more units functions c all.1 is)
