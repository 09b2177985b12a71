use Rattle.std.proofs.Common.{◌≡◌, ℕ, ◌+◌, ◌^◌, ◌<◌, ◌≤◌, Bool, true, false, cond, not, ◌&&◌, ◌||◌, ◌==◌, nat_le, nat_lt, if◌then◌else◌, List, [], ◌∷◌, ◌++◌, Option, None, Some, arith, refl, sym, ap, ◌∙◌, inl, inr}
use Rattle.std.proofs.lemmas.Bool.{cases_lt, le-leb, lt-leb}
use Rattle.std.proofs.lemmas.Bool.Decides.{nat_tests}
use Rattle.step_maps.specs.declared.stretch.Stretch.{Stretch}
use Rattle.step_maps.specs.declared.stretch.FirstItem.{FirstItem}
use Rattle.step_maps.specs.Stepping.{Stepping, held_from, value_at, last_from}
use Rattle.step_maps.specs.Covers.{reaches, AreStretches}
use Rattle.step_maps.specs.Overlays.{over}
use Rattle.step_maps.specs.Ends.{BelowEnd}
use Rattle.step_maps.specs.internal.Laying.{own_item, laid, ascends, ascends_from, sooner, AreSteady}
use Rattle.step_maps.proofs.RunLemmas.{if_true, if_false}

or_true : (b : Bool) → (b || true) ≡ true
or_true true = refl
or_true false = refl

three_classes : (p q r : ℕ) (s t u : Bool) → (s || ((t || (u || not (q == r))) || not (p == q))) ≡ ((s || (t || not (p == q))) || (u || not (p == r)))
three_classes p q r true t u = refl
three_classes p q r false true u = refl
three_classes p q r false false true = sym (or_true (not (p == q)))
three_classes p q r false false false = grind (arith, nat_tests)

-- Laying items over one another is associative.
over_assoc : (p q r : Option FirstItem) → over p (over q r) ≡ over (over p q) r
over_assoc None q r = refl
over_assoc (Some p) None r = refl
over_assoc (Some p) (Some q) None = refl
over_assoc (Some p) (Some q) (Some r) =
    let with : Bool → Option FirstItem = λ b. Some (record { index = p.index; class = p.class; shared = b }) in
    ap with (three_classes p.class q.class r.class p.shared q.shared r.shared)

over_none : (top : Option FirstItem) → over top None ≡ top
over_none None = refl
over_none (Some top) = refl

-- A list of stretches is its front half laid over its back half.
laid_split : (xs ys : List Stretch) (a : ℕ) → laid (xs ++ ys) a ≡ over (laid xs a) (laid ys a)
unfolding laid
laid_split [] ys a = refl
laid_split (x ∷ xs) ys a = ap (λ o. over (own_item x a) o) (laid_split xs ys a) ∙ over_assoc (own_item x a) (laid xs a) (laid ys a)

-- The map of two halves is the map of the whole list.
pub halves_laid : (all xs ys : List Stretch) (upper lower both : Stepping (Option FirstItem)) → all ≡ xs ++ ys → ((a : ℕ) → a < 2 ^ 64 → value_at None upper a ≡ laid xs a) → ((a : ℕ) → a < 2 ^ 64 → value_at None lower a ≡ laid ys a) → ((a : ℕ) → value_at None both a ≡ over (value_at None upper a) (value_at None lower a)) → (a : ℕ) → a < 2 ^ 64 → value_at None both a ≡ laid all a
halves_laid all xs ys upper lower both whole left right by a fits =
    by a
    ∙ ap (λ o. over o (value_at None lower a)) (left a fits)
    ∙ ap (λ o. over (laid xs a) o) (right a fits)
    ∙ sym (laid_split xs ys a)
    ∙ ap (λ l. laid l a) (sym whole)

-- The item of a stretch that no other item shares.
abbrev pub alone : Stretch → FirstItem
alone s = record { index = s.index; class = s.class; shared = false }

abbrev pub Behind : Stepping (Option FirstItem) → Stepping (Option FirstItem) → Stretch → Type 0
Behind old more s = (a : ℕ) → a < 2 ^ 64 → value_at None more a ≡ (if nat_lt s.last a then None else if nat_le s.first a then Some (alone s) else value_at None old a)

seen_behind : (old more : Stepping (Option FirstItem)) (s : Stretch) (r : Option FirstItem) (a : ℕ) → s.first ≤ s.last → a < 2 ^ 64 → Behind old more s → (s.first ≤ a → value_at None old a ≡ None) → over (value_at None more a) r ≡ over (value_at None old a) (over (own_item s a) r)
seen_behind old more s r a some fits behind none = elim (cases_lt a s.first) [
  | inl low ↦
      let up : nat_lt s.last a ≡ false = grind (arith, nat_tests) in
      let down : nat_le s.first a ≡ false = grind (arith, nat_tests) in
      let out : reaches s a ≡ false = grind (arith, nat_tests) in
      let same : value_at None more a ≡ value_at None old a = behind a fits ∙ if_false (nat_lt s.last a) None (if nat_le s.first a then Some (alone s) else value_at None old a) up ∙ if_false (nat_le s.first a) (Some (alone s)) (value_at None old a) down in
      ap (λ o. over o r) same ∙ ap (λ o. over (value_at None old a) (over o r)) (sym (if_false (reaches s a) (Some (alone s)) None out))
  | inr high ↦ elim (cases_lt s.last a) [
    | inl past ↦
        let up : nat_lt s.last a ≡ true = grind (arith, nat_tests) in
        let out : reaches s a ≡ false = grind (arith, nat_tests) in
        let gone : value_at None more a ≡ None = behind a fits ∙ if_true (nat_lt s.last a) None (if nat_le s.first a then Some (alone s) else value_at None old a) up in
        ap (λ o. over o r) gone
        ∙ sym (ap (λ o. over o (over (own_item s a) r)) (none high) ∙ ap (λ o. over o r) (if_false (reaches s a) (Some (alone s)) None out))
    | inr within ↦
        let up : nat_lt s.last a ≡ false = grind (arith, nat_tests) in
        let down : nat_le s.first a ≡ true = grind (arith, nat_tests) in
        let here : reaches s a ≡ true = grind (arith, nat_tests) in
        let is : value_at None more a ≡ Some (alone s) = behind a fits ∙ if_false (nat_lt s.last a) None (if nat_le s.first a then Some (alone s) else value_at None old a) up ∙ if_true (nat_le s.first a) (Some (alone s)) (value_at None old a) down in
        ap (λ o. over o r) is
        ∙ sym (ap (λ o. over o (over (own_item s a) r)) (none high) ∙ ap (λ o. over o r) (if_true (reaches s a) (Some (alone s)) None here))
  ]
]

gone_behind : (old more : Stepping (Option FirstItem)) (s : Stretch) (a : ℕ) → Behind old more s → s.last < a → a < 2 ^ 64 → value_at None more a ≡ None
gone_behind old more s a behind past fits = (let up : nat_lt s.last a ≡ true = grind (arith, nat_tests) in behind a fits ∙ if_true (nat_lt s.last a) None (if nat_le s.first a then Some (alone s) else value_at None old a) up)

-- The stretches up to one are in the map, and the others begin after it.
pub record InOrder (items : List Stretch) (steps : Stepping (Option FirstItem)) (last : ℕ) (rest : List Stretch) : Type 0 where
  pub done : (a : ℕ) → a < 2 ^ 64 → over (value_at None steps a) (laid rest a) ≡ laid items a
  pub none : (a : ℕ) → last < a → a < 2 ^ 64 → value_at None steps a ≡ None
  pub stops : last_from 0 steps.stops ≤ last + 1
  pub up : ascends_from last rest ≡ true
  pub some : AreStretches rest

pub and_left : (p q : Bool) → (p && q) ≡ true → p ≡ true
and_left true q is = refl
and_left false q is = is

pub and_right : (p q : Bool) → (p && q) ≡ true → q ≡ true
and_right true q is = is
and_right false q is = absurd (cc)

empty_none : (steps : Stepping (Option FirstItem)) (a : ℕ) → steps ≡ record { stops = []; values = [] } → value_at None steps a ≡ None
unfolding held_from
empty_none steps a is = rw is refl

pub order_empty : (items : List Stretch) (steps : Stepping (Option FirstItem)) (a : ℕ) → items ≡ [] → steps ≡ record { stops = []; values = [] } → value_at None steps a ≡ laid items a
unfolding laid
order_empty items steps a none is = rw none (empty_none steps a is)

pub order_begins : (items rest : List Stretch) (none steps : Stepping (Option FirstItem)) (s : Stretch) → items ≡ s ∷ rest → AreStretches items → ascends items ≡ true → none ≡ record { stops = []; values = [] } → Behind none steps s → last_from 0 steps.stops ≤ s.last + 1 → InOrder items steps s.last rest
unfolding laid
order_begins items rest none steps s whole all up is behind stops =
    let some : AreStretches (s ∷ rest) = rw whole at all in
    record {
      done = λ a fits. rw whole (seen_behind none steps s (laid rest a) a some.0 fits behind (λ high. empty_none none a is) ∙ ap (λ o. over o (over (own_item s a) (laid rest a))) (empty_none none a is));
      none = λ a past fits. gone_behind none steps s a behind past fits;
      stops = stops;
      up = rw whole at up;
      some = some.1;
    }

pub order_low : (items rest : List Stretch) (steps : Stepping (Option FirstItem)) (last : ℕ) (s : Stretch) → InOrder items steps last (s ∷ rest) → last < s.first
order_low items rest steps last s o = (let is : nat_lt last s.first ≡ true = and_left _ _ o.up in grind (arith, nat_tests))

pub order_more : (items rest : List Stretch) (old steps : Stepping (Option FirstItem)) (last : ℕ) (s : Stretch) → InOrder items old last (s ∷ rest) → Behind old steps s → last_from 0 steps.stops ≤ s.last + 1 → InOrder items steps s.last rest
unfolding laid
order_more items rest old steps last s o behind stops =
    let low : last < s.first = order_low items rest old last s o in
    record {
      done = λ a fits. seen_behind old steps s (laid rest a) a o.some.0 fits behind (λ high. o.none a (omega (arith, low, high)) fits) ∙ o.done a fits;
      none = λ a past fits. gone_behind old steps s a behind past fits;
      stops = stops;
      up = and_right _ _ o.up;
      some = o.some.1;
    }

pub order_ends : (items rest : List Stretch) (steps : Stepping (Option FirstItem)) (last : ℕ) → InOrder items steps last rest → rest ≡ [] → (a : ℕ) → a < 2 ^ 64 → value_at None steps a ≡ laid items a
unfolding laid
order_ends items rest steps last o none a fits = (let o2 : InOrder items steps last [] = rw none at o in sym (over_none (value_at None steps a)) ∙ o2.done a fits)

-- Between `at` and the next stop the same item is laid at all addresses.
steady_same : (items : List Stretch) (at : ℕ) (next : Option ℕ) (a : ℕ) → AreSteady items at next → at ≤ a → a < 2 ^ 64 → BelowEnd a next → laid items a ≡ laid items at
unfolding laid
steady_same [] at next a steady le fits below = refl
steady_same (s ∷ items) at next a steady le fits below =
    ap (λ b. over (if b then Some (alone s) else None) (laid items a)) (steady.0 a le fits below)
    ∙ ap (λ o. over (own_item s at) o) (steady_same items at next a steady.1 le fits below)

sooner_left : (x y : Option ℕ) (a : ℕ) → BelowEnd a (sooner x y) → BelowEnd a x
sooner_left None y a below = tt
sooner_left (Some x) None a below = below
sooner_left (Some x) (Some y) a below = omega arith

sooner_right : (x y : Option ℕ) (a : ℕ) → BelowEnd a (sooner x y) → BelowEnd a y
sooner_right None y a below = below
sooner_right (Some x) None a below = tt
sooner_right (Some x) (Some y) a below = omega arith

steady_sooner : (items : List Stretch) (at : ℕ) (x y : Option ℕ) → AreSteady items at y → AreSteady items at (sooner x y)
steady_sooner [] at x y steady = tt
steady_sooner (s ∷ items) at x y steady = (λ a le fits below. steady.0 a le fits (sooner_right x y a below), steady_sooner items at x y steady.1)

pub steady_front : (items later : List Stretch) (s : Stretch) (at : ℕ) (x y next : Option ℕ) → items ≡ s ∷ later → next ≡ sooner x y → ((a : ℕ) → at ≤ a → a < 2 ^ 64 → BelowEnd a x → reaches s a ≡ reaches s at) → AreSteady later at y → AreSteady items at next
steady_front items later s at x y next whole is own steady = rw (whole, is) (λ a le fits below. own a le fits (sooner_left x y a below), steady_sooner later at x y steady)

-- Below `at` the map is right; from `at` on it has the value that is right at `at`.
pub record Lays (items : List Stretch) (steps : Stepping (Option FirstItem)) (at : ℕ) : Type 0 where
  pub done : (a : ℕ) → a < at → a < 2 ^ 64 → value_at None steps a ≡ laid items a
  pub now : (a : ℕ) → at ≤ a → value_at None steps a ≡ laid items at
  pub last : last_from 0 steps.stops ≡ at

pub lays_more : (items : List Stretch) (old steps : Stepping (Option FirstItem)) (at next : ℕ) (v : Option FirstItem) → Lays items old at → AreSteady items at (Some next) → at < next → v ≡ laid items next → ((before : Option FirstItem) (a : ℕ) → value_at before steps a ≡ cond (nat_le next a) v (value_at before old a)) → last_from 0 steps.stops ≡ next → Lays items steps next
lays_more items old steps at next v l steady above is by last = record {
  done = λ a low fits. by None a ∙ ap (λ b. cond b v (value_at None old a)) (lt-leb next a low) ∙ elim (cases_lt a at) [
    | inl below ↦ l.done a below fits
    | inr high ↦ l.now a high ∙ sym (steady_same items at (Some next) a steady high fits low)
  ];
  now = λ a le. by None a ∙ ap (λ b. cond b v (value_at None old a)) (le-leb next a le) ∙ is;
  last = last;
}

pub lays_all : (items : List Stretch) (steps : Stepping (Option FirstItem)) (at : ℕ) → Lays items steps at → AreSteady items at None → (a : ℕ) → a < 2 ^ 64 → value_at None steps a ≡ laid items a
lays_all items steps at l steady a fits = elim (cases_lt a at) [
  | inl below ↦ l.done a below fits
  | inr high ↦ l.now a high ∙ sym (steady_same items at None a steady high fits tt)
]
