-- If the stretches are in the order in which modules count, the first stretch at an address is that
-- of the module that counts there.
use Rattle.std.proofs.Common.{◌≡◌, ℕ, zero, suc, ◌+◌, ◌<◌, ◌≤◌, ◌^◌, Bool, true, false, cond, List, [], ◌∷◌, ◌++◌, Option, Some, None, IfSome, length, find, refl, sym, ◌∙◌, ap, subst, arith, append_assoc, append-nil, if◌then◌else◌, ◌⊎◌, inl, inr, IsPermutation}
use Rattle.std.specs.Prelude.{◌&&◌, ◌||◌, nat_lt, nat_le}
use Rattle.std.specs.List.{AllByRecursion, Contains, list_any, slice_index_or}
use Rattle.std.specs.List.Sorted.{IsSortedBy}
use Rattle.std.specs.Option.{option_map}
use Rattle.std.specs.Ordering.{nat_cmp, ordering_then, is_lt}
use Rattle.std.proofs.lemmas.Bool.{lt-ltb}
use Rattle.std.proofs.lemmas.Bool.Decides.{nat_tests}
use Rattle.std.proofs.lemmas.Cmp.{ranked, by_ranked}
use Rattle.std.proofs.lemmas.List.Elements.{All-from_recursion, recursion_from_All}
use Rattle.std.proofs.lemmas.List.Sorted.{IsPermutation-sym, All-permutation, Contains-permutation, list_any-IsPermutation}
use Rattle.step_maps.specs.declared.stretch.Stretch.{Stretch}
use Rattle.step_maps.specs.declared.stretch.FirstItem.{FirstItem}
use Rattle.step_maps.specs.Covers.{AreStretches, reaches, first_at, first_item, is_shared}
use Rattle.step_maps.specs.Stepping.{Stepping, value_at}
use Rattle.core_file.specs.declared.modules.Module.{Module}
use Rattle.core_file.specs.Modules.{lies_in}
use Rattle.core_file.proofs.MemoryLemmas.{find_true}
use Rattle.module_stacks.specs.ModuleAt.{Holder, greater, holder_from, module_at}
use Rattle.module_stacks.specs.internal.ModuleStretches.{stretch_of, stretches_from, Upto, Fall, IsModuleMap}

-- The stretches so far, and those of the modules that are left.
pub stretches_end : (i : ℕ) (done : List Stretch) → done ++ stretches_from i [] ≡ done
unfolding stretches_from
stretches_end i done = append-nil done

pub stretch_more : (i : ℕ) (m : Module) (later : List Module) (done : List Stretch) → m.start < m.end → (done ++ stretch_of i m ∷ []) ++ stretches_from (i + 1) later ≡ done ++ stretches_from i (m ∷ later)
unfolding stretches_from
stretch_more i m later done some = rw (lt-ltb m.start m.end some) (append_assoc done (stretch_of i m ∷ []) (stretches_from (i + 1) later))

pub stretch_none : (i : ℕ) (m : Module) (later : List Module) (done : List Stretch) → (m.start < m.end → ⊥) → done ++ stretches_from (i + 1) later ≡ done ++ stretches_from i (m ∷ later)
unfolding stretches_from
stretch_none i m later done none =
    let n : nat_lt m.start m.end ≡ false = grind (arith, nat_tests) in
    rw n refl

-- The order after sorting by start and place.
not_below : (i j : ℕ) → is_lt (nat_cmp i j) ≡ false → j ≤ i
not_below i j is = by_ranked (i < j) (i ≡ j) (j < i) (nat_cmp i j) (ranked i j (nat_cmp i j) refl)
    (λ o p. let f : true ≡ false = ap is_lt (sym o) ∙ is in absurd cc)
    (λ o p. omega (arith, p))
    (λ o p. omega (arith, p))

not_less : (x y i j : ℕ) → is_lt (ordering_then (nat_cmp x y) (nat_cmp i j)) ≡ false → (y < x) ⊎ ((y ≡ x) × (j ≤ i))
not_less x y i j is = by_ranked (x < y) (x ≡ y) (y < x) (nat_cmp x y) (ranked x y (nat_cmp x y) refl)
    (λ o p. let f : true ≡ false = ap (λ r. is_lt (ordering_then r (nat_cmp i j))) (sym o) ∙ is in absurd cc)
    (λ o p. inr (sym p, not_below i j (ap (λ r. is_lt (ordering_then r (nat_cmp i j))) (sym o) ∙ is)))
    (λ o p. inl p)

-- One stretch must come before another.
abbrev before : Stretch → Stretch → Bool
before s t = is_lt (ordering_then (nat_cmp t.first s.first) (nat_cmp t.index s.index))

upto_trans : (s t u : Stretch) → Upto s t → Upto t u → Upto s u
upto_trans s t u (inl x) (inl y) = inl (omega arith)
upto_trans s t u (inl x) (inr y) = inl (omega (arith, y.0))
upto_trans s t u (inr x) (inl y) = inl (omega (arith, x.0))
upto_trans s t u (inr x) (inr y) = inr (x.0 ∙ y.0, omega (arith, x.1, y.1))

weaken : {X : Type 0} (P Q : X → Type 0) → ((x : X) → P x → Q x) → (xs : List X) → AllByRecursion P xs → AllByRecursion Q xs
weaken P Q f [] all = tt
weaken P Q f (x ∷ xs) all = (f x all.0, weaken P Q f xs all.1)

pub fall_sorted : (xs : List Stretch) → IsSortedBy before xs → Fall xs
fall_sorted [] sorted = tt
fall_sorted (x ∷ []) sorted = (tt, tt)
fall_sorted (x ∷ y ∷ xs) sorted =
    let later : Fall (y ∷ xs) = fall_sorted (y ∷ xs) (λ k d low within.
    let next : suc k + 1 ≡ suc (k + 1) = omega arith in
    ap (λ n. before (slice_index_or (x ∷ y ∷ xs) n d) (slice_index_or (y ∷ xs) k d)) (sym next)
    ∙ sorted (suc k) d (omega arith) (omega arith)) in
    let near : Upto y x = not_less x.first y.first x.index y.index (sorted 0 x (omega arith) (omega arith)) in
    ((near, weaken (λ t. Upto t y) (λ t. Upto t x) (λ t h. upto_trans t y x h near) xs later.0), later)

-- Stretches stay valid in another order.
some_all : (xs : List Stretch) → AreStretches xs → AllByRecursion (λ s. s.first ≤ s.last) xs
some_all [] all = tt
some_all (x ∷ xs) all = (all.0, some_all xs all.1)

all_some : (xs : List Stretch) → AllByRecursion (λ s. s.first ≤ s.last) xs → AreStretches xs
all_some [] all = tt
all_some (x ∷ xs) all = (all.0, all_some xs all.1)

moved_all : {X : Type 0} (P : X → Type 0) (xs ys : List X) → IsPermutation xs ys → AllByRecursion P xs → AllByRecursion P ys
moved_all P xs ys moved all = recursion_from_All P ys (All-permutation P xs ys moved (All-from_recursion P xs all))

pub moved_stretches : (xs ys : List Stretch) → IsPermutation xs ys → AreStretches xs → AreStretches ys
moved_stretches xs ys moved all = all_some ys (moved_all (λ s. s.first ≤ s.last) xs ys moved (some_all xs all))

-- A stretch that was found is one of the stretches.
in_by : (p : Stretch → Bool) (y s : Stretch) (ys : List Stretch) (b : Bool) → cond b (Some y) (find p ys) ≡ Some s → (find p ys ≡ Some s → Contains ys s) → Contains (y ∷ ys) s
in_by p y s ys true is later = (0, omega arith, (let e : y ≡ s = cc in e))
in_by p y s ys false is later = let h : Contains ys s = later is in (suc h.0, omega (arith, h.1), h.2)

found_in : (p : Stretch → Bool) (ys : List Stretch) (s : Stretch) → find p ys ≡ Some s → Contains ys s
found_in p [] s is = absurd cc
found_in p (y ∷ ys) s is = in_by p y s ys (p y) is (found_in p ys s)

-- Of the stretches that pass a test, none takes precedence over the first one.
top_by : (p : Stretch → Bool) (y s : Stretch) (ys : List Stretch) (b : Bool) → p y ≡ b → AllByRecursion (λ t. Upto t y) ys → cond b (Some y) (find p ys) ≡ Some s → (find p ys ≡ Some s → AllByRecursion (λ t. p t ≡ true → Upto t s) ys) → AllByRecursion (λ t. p t ≡ true → Upto t s) (y ∷ ys)
top_by p y s ys true test upto is later =
    let e : y ≡ s = cc in
    subst (λ (z : Stretch). AllByRecursion (λ t. p t ≡ true → Upto t z) (y ∷ ys)) e
    ((λ _. inr (refl, omega arith)), weaken (λ t. Upto t y) (λ t. p t ≡ true → Upto t y) (λ t h _. h) ys upto)
top_by p y s ys false test upto is later = ((λ passes. let f : true ≡ false = sym passes ∙ test in absurd cc), later is)

found_top : (p : Stretch → Bool) (ys : List Stretch) (s : Stretch) → Fall ys → find p ys ≡ Some s → AllByRecursion (λ t. p t ≡ true → Upto t s) ys
found_top p [] s fall is = tt
found_top p (y ∷ ys) s fall is = top_by p y s ys (p y) refl fall.0 is (found_top p ys s fall.1)

none_by : (p : Stretch → Bool) (y : Stretch) (b any : Bool) (found : Option Stretch) → cond b (Some y) found ≡ None → (found ≡ None → any ≡ false) → (b || any) ≡ false
none_by p y true any found is later = cc
none_by p y false any found is later = later is

none_found : (p : Stretch → Bool) (ys : List Stretch) → find p ys ≡ None → list_any p ys ≡ false
none_found p [] is = refl
none_found p (y ∷ ys) is = none_by p y (p y) (list_any p ys) (find p ys) is (none_found p ys)

-- A module contains the addresses of its stretch, and none if it has no stretch.
reaches_is : (i : ℕ) (m : Module) (a : ℕ) → nat_lt m.start m.end ≡ true → reaches (stretch_of i m) a ≡ lies_in m a
reaches_is i m a some = ap (λ b. nat_le m.start a && b) (grind (arith, nat_tests))

lies_nowhere : (m : Module) (a : ℕ) → nat_lt m.start m.end ≡ false → lies_in m a ≡ false
lies_nowhere m a none = grind (arith, nat_tests)

abbrev Below : Option Holder → ℕ → Type 0
Below None start = Unit {0}
Below (Some h) start = h.start < start

-- No stretch at the address takes precedence over s.
abbrev AreUpto : ℕ → Stretch → List Stretch → Type 0
AreUpto a s stretches = AllByRecursion (λ t. reaches t a ≡ true → Upto t s) stretches

below_greater : (own : Holder) (o : Option Holder) (start : ℕ) → own.start < start → Below o start → Below (greater own o) start
below_greater own None start low below = low
below_greater own (Some h) start low below = go (nat_lt h.start own.start)
  where
    go : (b : Bool) → Below (if b then Some own else Some h) start
    go true = low
    go false = below

upto_below : (s t : Stretch) → s.index < t.index → Upto t s → t.first < s.first
upto_below s t behind (inl below) = below
upto_below s t behind (inr alike) = absurd (omega (arith, behind, alike.1))

below_by : (place : ℕ) (m : Module) (a : ℕ) (s : Stretch) (rest : List Stretch) (o : Option Holder) (some lies : Bool) → nat_lt m.start m.end ≡ some → lies_in m a ≡ lies → s.index < place → AreUpto a s (if some then stretch_of place m ∷ rest else rest) → (AreUpto a s rest → Below o s.first)
    → Below (if lies then greater (record { place = place; start = m.start }) o else o) s.first
below_by place m a s rest o true true has is behind all later =
    below_greater (record { place = place; start = m.start }) o s.first
    (upto_below s (stretch_of place m) behind (all.0 (reaches_is place m a has ∙ is))) (later all.1)
below_by place m a s rest o true false has is behind all later = later all.1
below_by place m a s rest o false true has is behind all later = let f : true ≡ false = sym is ∙ lies_nowhere m a has in absurd cc
below_by place m a s rest o false false has is behind all later = later all

-- If no later stretch at the address takes precedence over s, the module that counts among the
-- later ones begins below s.
below_top : (place : ℕ) (modules : List Module) (a : ℕ) (s : Stretch) → s.index < place → AreUpto a s (stretches_from place modules) → Below (holder_from place modules a) s.first
unfolding stretches_from holder_from
below_top place [] a s behind all = tt
below_top place (m ∷ modules) a s behind all =
    below_by place m a s (stretches_from (place + 1) modules) (holder_from (place + 1) modules a) (nat_lt m.start m.end) (lies_in m a) refl refl behind all
    (below_top (place + 1) modules a s (omega (arith, behind)))

own_counts : (own : Holder) (o : Option Holder) → Below o own.start → greater own o ≡ Some own
own_counts own None below = refl
own_counts own (Some h) below = rw (lt-ltb h.start own.start below) refl

later_counts : (s : Stretch) (own : Holder) → own.start ≤ s.first → greater own (Some (record { place = s.index; start = s.first })) ≡ Some (record { place = s.index; start = s.first })
later_counts s own low = let n : nat_lt s.first own.start ≡ false = grind (arith, nat_tests) in rw n refl

upto_low : (s t : Stretch) → Upto t s → t.first ≤ s.first
upto_low s t (inl below) = omega (arith, below)
upto_low s t (inr alike) = omega (arith, alike.0)

-- The module of a stretch.
abbrev holder_of : Stretch → Holder
holder_of s = record { place = s.index; start = s.first }

behind_by : (place : ℕ) (m : Module) (a : ℕ) (s : Stretch) (o : Option Holder) (lies : Bool) → nat_lt m.start m.end ≡ true → lies_in m a ≡ lies → (reaches (stretch_of place m) a ≡ true → Upto (stretch_of place m) s) → o ≡ Some (holder_of s)
    → (if lies then greater (record { place = place; start = m.start }) o else o) ≡ Some (holder_of s)
behind_by place m a s o true has is upto later =
    ap (greater (record { place = place; start = m.start })) later
    ∙ later_counts s (record { place = place; start = m.start }) (upto_low s (stretch_of place m) (upto (reaches_is place m a has ∙ is)))
behind_by place m a s o false has is upto later = later

counts_by : (place : ℕ) (m : Module) (modules : List Module) (a : ℕ) (s : Stretch) (k : ℕ) → nat_lt m.start m.end ≡ true → k < length (stretch_of place m ∷ stretches_from (place + 1) modules) → slice_index_or (stretch_of place m ∷ stretches_from (place + 1) modules) k s ≡ s → reaches s a ≡ true
    → AreUpto a s (stretch_of place m ∷ stretches_from (place + 1) modules) → (Contains (stretches_from (place + 1) modules) s → AreUpto a s (stretches_from (place + 1) modules) → holder_from (place + 1) modules a ≡ Some (holder_of s))
    → (if lies_in m a then greater (record { place = place; start = m.start }) (holder_from (place + 1) modules a) else holder_from (place + 1) modules a) ≡ Some (holder_of s)
counts_by place m modules a s zero has within is here all later =
    let lies : lies_in m a ≡ true = sym (reaches_is place m a has) ∙ ap (λ t. reaches t a) is ∙ here in
    let low : s.index < place + 1 = subst (λ (t : Stretch). t.index < place + 1) is (omega arith) in
    let below : Below (holder_from (place + 1) modules a) m.start =
    subst (λ (t : Stretch). Below (holder_from (place + 1) modules a) t.first) (sym is) (below_top (place + 1) modules a s low all.1) in
    rw lies (own_counts (record { place = place; start = m.start }) (holder_from (place + 1) modules a) below ∙ ap (λ t. Some (holder_of t)) is)
counts_by place m modules a s (suc k) has within is here all later =
    behind_by place m a s (holder_from (place + 1) modules a) (lies_in m a) has refl all.0 (later (k, omega (arith, within), is) all.1)

some_by : (place : ℕ) (m : Module) (modules : List Module) (a : ℕ) (s : Stretch) (some : Bool) → nat_lt m.start m.end ≡ some → Contains (if some then stretch_of place m ∷ stretches_from (place + 1) modules else stretches_from (place + 1) modules) s → reaches s a ≡ true
    → AreUpto a s (if some then stretch_of place m ∷ stretches_from (place + 1) modules else stretches_from (place + 1) modules) → (Contains (stretches_from (place + 1) modules) s → AreUpto a s (stretches_from (place + 1) modules) → holder_from (place + 1) modules a ≡ Some (holder_of s))
    → (if lies_in m a then greater (record { place = place; start = m.start }) (holder_from (place + 1) modules a) else holder_from (place + 1) modules a) ≡ Some (holder_of s)
some_by place m modules a s true has member here all later = counts_by place m modules a s member.0 has member.1 member.2 here all later
some_by place m modules a s false has member here all later = rw (lies_nowhere m a has) (later member all)

-- If no stretch at the address takes precedence over a stretch there, its module is the one that
-- counts.
top_at : (place : ℕ) (modules : List Module) (a : ℕ) (s : Stretch) → Contains (stretches_from place modules) s → reaches s a ≡ true → AreUpto a s (stretches_from place modules) → holder_from place modules a ≡ Some (holder_of s)
unfolding stretches_from holder_from
top_at place [] a s member here all = absurd (omega (arith, member.1))
top_at place (m ∷ modules) a s member here all =
    some_by place m modules a s (nat_lt m.start m.end) refl member here all (λ has upto. top_at (place + 1) modules a s has here upto)

nowhere_by : (place : ℕ) (m : Module) (a : ℕ) (rest : List Stretch) (o : Option Holder) (some lies : Bool) → nat_lt m.start m.end ≡ some → lies_in m a ≡ lies → list_any (λ t. reaches t a) (if some then stretch_of place m ∷ rest else rest) ≡ false → (list_any (λ t. reaches t a) rest ≡ false → o ≡ None)
    → (if lies then greater (record { place = place; start = m.start }) o else o) ≡ None
nowhere_by place m a rest o true true has is none later =
    let there : reaches (stretch_of place m) a ≡ true = reaches_is place m a has ∙ is in
    let e : list_any (λ t. reaches t a) (stretch_of place m ∷ rest) ≡ true = rw there refl in
    let f : true ≡ false = sym e ∙ none in absurd cc
nowhere_by place m a rest o true false has is none later =
    let there : reaches (stretch_of place m) a ≡ false = reaches_is place m a has ∙ is in
    later (rw there at none)
nowhere_by place m a rest o false true has is none later = let f : true ≡ false = sym is ∙ lies_nowhere m a has in absurd cc
nowhere_by place m a rest o false false has is none later = later none

-- If no stretch has the address, no module counts there.
nowhere : (place : ℕ) (modules : List Module) (a : ℕ) → list_any (λ t. reaches t a) (stretches_from place modules) ≡ false → holder_from place modules a ≡ None
unfolding stretches_from holder_from
nowhere place [] a none = refl
nowhere place (m ∷ modules) a none =
    nowhere_by place m a (stretches_from (place + 1) modules) (holder_from (place + 1) modules a) (nat_lt m.start m.end) (lies_in m a) refl refl none
    (nowhere (place + 1) modules a)

first_by : (modules : List Module) (ys : List Stretch) (a : ℕ) (found : Option Stretch) → IsPermutation (stretches_from 0 modules) ys → Fall ys → find (λ t. reaches t a) ys ≡ found
    → option_map (λ (item : FirstItem). item.index) (option_map (λ (s : Stretch). record { index = s.index; class = s.class; shared = is_shared ys a }) found) ≡ option_map (λ (h : Holder). h.place) (holder_from 0 modules a)
first_by modules ys a None moved fall is =
    sym (ap (option_map (λ h. h.place)) (nowhere 0 modules a (list_any-IsPermutation (λ t. reaches t a) (stretches_from 0 modules) ys moved ∙ none_found (λ t. reaches t a) ys is)))
first_by modules ys a (Some s) moved fall is =
    let back : IsPermutation ys (stretches_from 0 modules) = IsPermutation-sym (stretches_from 0 modules) ys moved in
    sym (ap (option_map (λ h. h.place)) (top_at 0 modules a s
    (Contains-permutation ys (stretches_from 0 modules) s back (found_in (λ t. reaches t a) ys s is))
    (find_true (λ t. reaches t a) ys s is)
    (moved_all (λ t. reaches t a ≡ true → Upto t s) ys (stretches_from 0 modules) back (found_top (λ t. reaches t a) ys s fall is))))

-- The first stretch at an address is that of the module that counts there.
pub module_map : (modules : List Module) (xs ys : List Stretch) (tops : Stepping (Option FirstItem)) → xs ≡ stretches_from 0 modules → IsPermutation xs ys → Fall ys → ((a : ℕ) → a < 2 ^ 64 → value_at None tops a ≡ first_item ys a) → IsModuleMap modules tops
unfolding first_item first_at module_at
module_map modules xs ys tops all moved fall is = λ a below.
    ap (option_map (λ item. item.index)) (is a below)
    ∙ first_by modules ys a (find (λ t. reaches t a) ys) (subst (λ (l : List Stretch). IsPermutation l ys) all moved) fall refl

-- The module that counts is one of the modules.
within_by : (own : Holder) (o : Option Holder) (n : ℕ) → own.place < n → IfSome o (λ h. h.place < n) → IfSome (greater own o) (λ h. h.place < n)
within_by own None n inside later = inside
within_by own (Some h) n inside later = go (nat_lt h.start own.start)
  where
    go : (b : Bool) → IfSome (if b then Some own else Some h) (λ h. h.place < n)
    go true = inside
    go false = later

within_lies : (own : Holder) (o : Option Holder) (n : ℕ) (lies : Bool) → own.place < n → IfSome o (λ h. h.place < n) → IfSome (if lies then greater own o else o) (λ h. h.place < n)
within_lies own o n true inside later = within_by own o n inside later
within_lies own o n false inside later = later

holder_within : (place n : ℕ) (modules : List Module) (a : ℕ) → place + length modules ≤ n → IfSome (holder_from place modules a) (λ h. h.place < n)
unfolding holder_from
holder_within place n [] a few = tt
holder_within place n (m ∷ modules) a few =
    within_lies (record { place = place; start = m.start }) (holder_from (place + 1) modules a) n (lies_in m a) (omega (arith, few)) (holder_within (place + 1) n modules a (omega (arith, few)))

place_within : (o : Option Holder) (k n : ℕ) → IfSome o (λ h. h.place < n) → Some k ≡ option_map (λ h. h.place) o → k < n
place_within None k n inside is = absurd cc
place_within (Some h) k n inside is = let e : k ≡ h.place = cc in rw e inside

pub at_within : (modules : List Module) (tops : Stepping (Option FirstItem)) (a : ℕ) (item : FirstItem) → IsModuleMap modules tops → a < 2 ^ 64 → value_at None tops a ≡ Some item → item.index < length modules
unfolding module_at
at_within modules tops a item is below there =
    place_within (holder_from 0 modules a) item.index (length modules) (holder_within 0 (length modules) modules a (omega arith))
    (ap (option_map (λ (i : FirstItem). i.index)) (sym there) ∙ is a below)
