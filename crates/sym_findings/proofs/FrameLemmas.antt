-- Frame records: C8 and C9 are found at none of them exactly if a checker finds nothing (for the
-- law `nothing_found`).
use Rattle.std.proofs.Common.{◌≡◌, ℕ, ◌+◌, ◌<◌, ◌≤◌, ◌&&◌, ◌||◌, nat_lt, nat_le, min, max, Bool, true, false, cond, List, [], ◌∷◌, Option, None, Some, refl, ap, sym, ◌∙◌, ◌⊎◌, inl, inr, subst, arith}
use Rattle.std.specs.List.{list_all, flat_map}
use Rattle.std.specs.Option.{option_map, option_map_or}
use Rattle.std.proofs.lemmas.Bool.{or_parts, and_parts, lt-ltb, ltb-true, leb-true, le-leb}
use Rattle.std.proofs.lemmas.Bool.Decides.{nat_tests}
use Rattle.std.proofs.lemmas.List.Sums.{sum_by-append}
use Rattle.sym_records.specs.declared.line.Extent.{Extent}
use Rattle.sym_records.specs.declared.line.SymLine.{SymLine}
use Rattle.sym_records.specs.declared.line.SymLine.TheVariants.{Func, Inline, Line, Init, Change}
use Rattle.sym_rules.specs.declared.rules.RuleText.{RuleText}
use Rattle.sym_meaning.specs.Inits.{init_covers, inits_at, AreNested}
use Rattle.sym_meaning.specs.Findings.{run_of, is_sized, are_sized, meet, AreApart}
use Rattle.sym_meaning.proofs.InitLemmas.{counted}
use Rattle.sym_findings.specs.declared.records_before.OpenInit.{OpenInit}
use Rattle.sym_findings.specs.Findings.{meets_any, init_run, open_init, goes_on, is_outside}
use Rattle.sym_findings.proofs.PairLemmas.{NoneOf, not_false, true_not}

-- One more record is counted if it covers the address.
inits_more : (s : SymLine) (lines : List SymLine) (x : ℕ) → inits_at (s ∷ lines) x ≡ cond (init_covers x s) 1 0 + inits_at lines x
unfolding inits_at
inits_more s lines x = sum_by-append (λ l. cond (init_covers x l) 1 0) (s ∷ []) lines ∙ ap (λ k. k + inits_at lines x) (counted (init_covers x s))

true_or_false : (b : Bool) → (b ≡ true) ⊎ (b ≡ false)
true_or_false true = inl refl
true_or_false false = inr refl

-- If two ranges overlap, both have an address; otherwise none has an address of the other.
abbrev has : Extent → ℕ → Bool
has e x = nat_le e.address x && nat_lt x (e.address + e.size)

meet_has : (a s b t : ℕ) → nat_lt (max a b) (min (a + s) (b + t)) ≡ true → ((nat_le a (max a b) && nat_lt (max a b) (a + s)) ≡ true) × ((nat_le b (max a b) && nat_lt (max a b) (b + t)) ≡ true)
meet_has a s b t is = (grind (arith, nat_tests), grind (arith, nat_tests))

apart_has : (a s b t x : ℕ) → nat_lt (max a b) (min (a + s) (b + t)) ≡ false → (nat_le a x && nat_lt x (a + s)) ≡ true → (nat_le b x && nat_lt x (b + t)) ≡ false
apart_has a s b t x apart here = grind (arith, nat_tests)

-- If an INIT overlaps a later one, both cover an address.
record Both (e : Extent) (lines : List SymLine) : Type 0 where
  x : ℕ
  here : has e x ≡ true
  there : 0 < inits_at lines x

both_more : (e : Extent) (s : SymLine) (lines : List SymLine) → Both e lines → Both e (s ∷ lines)
both_more e s lines both =
    let more : inits_at (s ∷ lines) both.x ≡ cond (init_covers both.x s) 1 0 + inits_at lines both.x = inits_more s lines both.x in
    let there : 0 < inits_at lines both.x = both.there in
    record { x = both.x; here = both.here; there = omega (arith, more, there) }

both_first : (e : Extent) (s : SymLine) (lines : List SymLine) (x : ℕ) → has e x ≡ true → init_covers x s ≡ true → Both e (s ∷ lines)
both_first e s lines x here covers =
    let more : inits_at (s ∷ lines) x ≡ 1 + inits_at lines x = inits_more s lines x ∙ ap (λ t. cond t 1 0 + inits_at lines x) covers in
    record { x = x; here = here; there = omega (arith, more) }

or_cases : (a b : Bool) → (a || b) ≡ true → (a ≡ true) ⊎ (b ≡ true)
or_cases true b is = inl refl
or_cases false b is = inr is

both_covered : (e : Extent) (lines : List SymLine) → meets_any (flat_map init_run lines) e ≡ true → Both e lines
both_covered e [] met = absurd (let false_is : false ≡ true = met in cc)
both_covered e (Init address size rules ∷ lines) met = elim (or_cases (meet e (run_of address size)) (meets_any (flat_map init_run lines) e) met) [ inl first ↦ let parts = meet_has e.address e.size address size first in both_first e (Init address size rules) lines (max e.address address) parts.0 parts.1 | inr later ↦ both_more e (Init address size rules) lines (both_covered e lines later) ]
both_covered e (s ∷ lines) met = both_more e s lines (both_covered e lines met)

none_covered : (e : Extent) (x : ℕ) (lines : List SymLine) → has e x ≡ true → meets_any (flat_map init_run lines) e ≡ false → inits_at lines x ≡ 0
unfolding inits_at
none_covered e x [] here apart = refl
none_covered e x (Init address size rules ∷ lines) here apart = let parts = or_parts (meet e (run_of address size)) (meets_any (flat_map init_run lines) e) apart in inits_more (Init address size rules) lines x ∙ ap (λ t. cond t 1 0 + inits_at lines x) (apart_has e.address e.size address size x parts.0 here) ∙ ap (λ k. 0 + k) (none_covered e x lines here parts.1)
none_covered e x (s ∷ lines) here apart = inits_more s lines x ∙ ap (λ k. 0 + k) (none_covered e x lines here apart)

rest_once : (s : SymLine) (lines : List SymLine) → ((x : ℕ) → inits_at (s ∷ lines) x ≤ 1) → (x : ℕ) → inits_at lines x ≤ 1
rest_once s lines once x =
    let more : inits_at (s ∷ lines) x ≡ cond (init_covers x s) 1 0 + inits_at lines x = inits_more s lines x in
    let fact : inits_at (s ∷ lines) x ≤ 1 = once x in
    omega (arith, more, fact)

never_both : (address size : ℕ) (rules : List RuleText) (lines : List SymLine) → ((x : ℕ) → inits_at (Init address size rules ∷ lines) x ≤ 1) → Both (run_of address size) lines → ⊥
never_both address size rules lines once both =
    let more : inits_at (Init address size rules ∷ lines) both.x ≡ 1 + inits_at lines both.x = inits_more (Init address size rules) lines both.x ∙ ap (λ t. cond t 1 0 + inits_at lines both.x) both.here in
    let fact : inits_at (Init address size rules ∷ lines) both.x ≤ 1 = once both.x in
    let there : 0 < inits_at lines both.x = both.there in
    omega (arith, more, fact, there)

first_apart : (address size : ℕ) (rules : List RuleText) (lines : List SymLine) → ((x : ℕ) → inits_at (Init address size rules ∷ lines) x ≤ 1) → meets_any (flat_map init_run lines) (run_of address size) ≡ false
first_apart address size rules lines once =
    elim (true_or_false (meets_any (flat_map init_run lines) (run_of address size))) [
      | inl met ↦ absurd (never_both address size rules lines once (both_covered (run_of address size) lines met))
      | inr apart ↦ apart
    ]

pub once_apart : (lines : List SymLine) → ((x : ℕ) → inits_at lines x ≤ 1) → AreApart (flat_map init_run lines)
once_apart [] once = tt
once_apart (Init address size rules ∷ lines) once = (first_apart address size rules lines once, once_apart lines (rest_once (Init address size rules) lines once))
once_apart (s ∷ lines) once = once_apart lines (rest_once s lines once)

first_once : (address size : ℕ) (rules : List RuleText) (lines : List SymLine) (x : ℕ) → meets_any (flat_map init_run lines) (run_of address size) ≡ false → inits_at lines x ≤ 1 → inits_at (Init address size rules ∷ lines) x ≤ 1
first_once address size rules lines x apart rest =
    elim (true_or_false (has (run_of address size) x)) [
      | inl here ↦
          let more : inits_at (Init address size rules ∷ lines) x ≡ 1 + inits_at lines x = inits_more (Init address size rules) lines x ∙ ap (λ t. cond t 1 0 + inits_at lines x) here in
          let none : inits_at lines x ≡ 0 = none_covered (run_of address size) x lines here apart in
          omega (arith, more, none)
      | inr beside ↦
          let more : inits_at (Init address size rules ∷ lines) x ≡ 0 + inits_at lines x = inits_more (Init address size rules) lines x ∙ ap (λ t. cond t 1 0 + inits_at lines x) beside in
          omega (arith, more, rest)
    ]

other_once : (s : SymLine) (lines : List SymLine) (x : ℕ) → init_covers x s ≡ false → inits_at lines x ≤ 1 → inits_at (s ∷ lines) x ≤ 1
other_once s lines x beside rest =
    let more : inits_at (s ∷ lines) x ≡ 0 + inits_at lines x = inits_more s lines x ∙ ap (λ t. cond t 1 0 + inits_at lines x) beside in
    omega (arith, more, rest)

no_inits : (x : ℕ) → inits_at [] x ≤ 1
unfolding inits_at
no_inits x = omega arith

pub apart_once : (lines : List SymLine) (x : ℕ) → AreApart (flat_map init_run lines) → inits_at lines x ≤ 1
apart_once [] x apart = no_inits x
apart_once (Init address size rules ∷ lines) x apart = first_once address size rules lines x apart.0 (apart_once lines x apart.1)
apart_once (s ∷ lines) x apart = other_once s lines x refl (apart_once lines x apart)

-- C9: the last address and the end of the open INIT.
abbrev last_at : Option OpenInit → ℕ
last_at None = 0
last_at (Some o) = o.last

abbrev end_at : Option OpenInit → ℕ
end_at None = 0
end_at (Some o) = o.init.address + o.init.size

-- The last address is at or above that of the INIT.
abbrev IsOpen : Option OpenInit → Type 0
IsOpen None = Unit {0}
IsOpen (Some o) = o.init.address ≤ o.last

abbrev moved_to : ℕ → Option OpenInit → Option OpenInit
moved_to address o = option_map (λ (i : OpenInit). record i { last = address }) o

record GoesOn (address : ℕ) (o : Option OpenInit) : Type 0 where
  above : last_at o < address
  below : address < end_at o
  last : last_at (moved_to address o) ≡ address
  end : end_at (moved_to address o) ≡ end_at o
  opened : IsOpen (moved_to address o)

three_parts : (a b c : Bool) → ((a && b) && c) ≡ true → (a ≡ true) × (b ≡ true) × (c ≡ true)
three_parts true true true is = (refl, refl, refl)
three_parts true true false is = absurd (let false_is : false ≡ true = is in cc)
three_parts true false c is = absurd (let false_is : false ≡ true = is in cc)
three_parts false b c is = absurd (let false_is : false ≡ true = is in cc)

three_from : (a b c : Bool) → a ≡ true → b ≡ true → c ≡ true → ((a && b) && c) ≡ true
three_from a b c first second third = ap (λ t. (t && b) && c) first ∙ ap (λ t. t && c) second ∙ third

goes_of : (address : ℕ) (o : Option OpenInit) → option_map_or (goes_on address) o false ≡ true → GoesOn address o
goes_of address None is = absurd (let false_is : false ≡ true = is in cc)
goes_of address (Some o) is =
    let parts = three_parts (nat_le o.init.address address) (nat_lt address (o.init.address + o.init.size)) (nat_lt o.last address) is in
    let first : o.init.address ≤ address = leb-true o.init.address address parts.0 in
    record {
      above = ltb-true o.last address parts.2;
      below = ltb-true address (o.init.address + o.init.size) parts.1;
      last = refl;
      end = refl;
      opened = omega (arith, first);
    }

of_goes : (address : ℕ) (o : Option OpenInit) → IsOpen o → last_at o < address → address < end_at o → (option_map_or (goes_on address) o false ≡ true) × GoesOn address o
of_goes address None opened above below = absurd (omega (arith, below))
of_goes address (Some o) opened above below = (
  three_from (nat_le o.init.address address) (nat_lt address (o.init.address + o.init.size)) (nat_lt o.last address) (le-leb o.init.address address (omega (arith, opened, above))) (lt-ltb address (o.init.address + o.init.size) below) (lt-ltb o.last address above),
  record { above = above; below = below; last = refl; end = refl; opened = omega (arith, opened, above) },
)

sized_some : (address size : ℕ) → (is_sized (run_of address size) && true) ≡ true → 0 < size
sized_some address size is = grind (arith, nat_tests)

nested_of : (before lines : List SymLine) → list_all are_sized lines ≡ true → IsOpen (open_init before) → NoneOf is_outside before lines → AreNested (last_at (open_init before)) (end_at (open_init before)) lines
nested_of before [] sized opened none = tt
nested_of before (Func many address size params name ∷ lines) sized opened none = nested_of (Func many address size params name ∷ before) lines (and_parts (are_sized (Func many address size params name)) (list_all are_sized lines) sized).1 tt none.1
nested_of before (Inline level line file origin ranges ∷ lines) sized opened none = nested_of (Inline level line file origin ranges ∷ before) lines (and_parts (are_sized (Inline level line file origin ranges)) (list_all are_sized lines) sized).1 tt none.1
nested_of before (Line address size line file ∷ lines) sized opened none = nested_of (Line address size line file ∷ before) lines (and_parts (are_sized (Line address size line file)) (list_all are_sized lines) sized).1 tt none.1
nested_of before (Init address size rules ∷ lines) sized opened none = let parts = and_parts (are_sized (Init address size rules)) (list_all are_sized lines) sized in (sized_some address size parts.0, nested_of (Init address size rules ∷ before) lines parts.1 (omega arith) none.1)
nested_of before (Change address rules ∷ lines) sized opened none = let goes = goes_of address (open_init before) (not_false (option_map_or (goes_on address) (open_init before) false) none.0) in (goes.above, (goes.below, subst (λ (a : ℕ). AreNested a (end_at (open_init before)) lines) goes.last (subst (λ (b : ℕ). AreNested (last_at (moved_to address (open_init before))) b lines) goes.end (nested_of (Change address rules ∷ before) lines sized goes.opened none.1))))
nested_of before (s ∷ lines) sized opened none = nested_of (s ∷ before) lines sized tt none.1

of_nested : (before lines : List SymLine) → IsOpen (open_init before) → AreNested (last_at (open_init before)) (end_at (open_init before)) lines → NoneOf is_outside before lines
of_nested before [] opened nested = tt
of_nested before (Init address size rules ∷ lines) opened nested = (refl, of_nested (Init address size rules ∷ before) lines (omega arith) nested.1)
of_nested before (Change address rules ∷ lines) opened nested = let goes = of_goes address (open_init before) opened nested.0 nested.1.0 in (true_not (option_map_or (goes_on address) (open_init before) false) goes.0, of_nested (Change address rules ∷ before) lines goes.1.opened (subst (λ (a : ℕ). AreNested a (end_at (moved_to address (open_init before))) lines) (sym goes.1.last) (subst (λ (b : ℕ). AreNested address b lines) (sym goes.1.end) nested.1.1)))
of_nested before (s ∷ lines) opened nested = (refl, of_nested (s ∷ before) lines tt nested)

pub nested : (lines : List SymLine) → list_all are_sized lines ≡ true → NoneOf is_outside [] lines → AreNested 0 0 lines
nested lines sized none = nested_of [] lines sized tt none

pub none_stray : (lines : List SymLine) → AreNested 0 0 lines → NoneOf is_outside [] lines
none_stray lines nested = of_nested [] lines tt nested
