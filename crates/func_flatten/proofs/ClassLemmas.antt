-- Where functions with different names have the same address.
use Rattle.std.proofs.Common.{◌≡◌, ℕ, zero, suc, ◌+◌, ◌-◌, ◌<◌, ◌≤◌, ◌==◌, Bool, true, false, not, ◌&&◌, nat_le, nat_lt, if◌then◌else◌, map, List, [], ◌∷◌, ◌++◌, Option, None, Some, arith, refl, sym, ap, ◌∙◌, subst, length, get_or, take, drop, set}
use Rattle.std.proofs.lemmas.Bool.Decides.{nat_tests}
use Rattle.std.proofs.lemmas.List.Edits.{map_over_more}
use Rattle.std.proofs.lemmas.Map.Views.{any-filter_same}
use Rattle.std.proofs.lemmas.Slice.Eq.{bytes_eq-Decides}
use Rattle.std.specs.List.{find, filter, list_any}
use Rattle.std.specs.Option.{option_map, option_map_or}
use Rattle.std.specs.Str.{bytes_eq}
use Rattle.sym_edges.specs.Addresses.{Range}
use Rattle.step_maps.specs.declared.stretch.Stretch.{Stretch}
use Rattle.step_maps.specs.declared.stretch.Cover.{Cover}
use Rattle.step_maps.specs.declared.stretch.FirstItem.{FirstItem}
use Rattle.step_maps.specs.Runs.{IsRuns, AreRuns, Follows, AreMaximal, between}
use Rattle.sym_edges.specs.Rising.{RisesFrom}
use Rattle.sym_edges.proofs.RisingLemmas.{rises_lower, rises_above}
use Rattle.step_maps.specs.Stepping.{Stepping, value_at}
use Rattle.step_maps.specs.Covers.{AreStretches, reaches, first_at, index_at, is_shared, first_item, cover_run, AreMarked, AreCovers}
use Rattle.step_maps.proofs.MaximalLemmas.{maximal}
use Rattle.step_maps.proofs.SteppingLemmas.{Point}
use Rattle.debug_units.specs.declared.unit_read.UnitRead.{UnitRead}
use Rattle.debug_units.specs.Owners.{Covering}
use Rattle.debug_units.specs.declared.unit_read.EntryRef.{EntryRef}
use Rattle.func_flatten.specs.Pieces.{place_of, covering_name, is_many}
use Rattle.step_maps.specs.SpanStretches.{span_stretches}
use Rattle.func_flatten.specs.internal.Collecting.{function_stretches, own_class}
use Rattle.func_flatten.specs.internal.Standing.{IsCollected}
use Rattle.func_flatten.specs.internal.NameClasses.{AreNamed, IsClass}
use Rattle.func_flatten.specs.internal.Repeats.{AreOwn, Represents}
use Rattle.func_flatten.specs.internal.Classes.{number_name, has_other_name, shared_starts, reaches_any, classed, shared_in, marked, TellMany, AreNamedCovers}
use Rattle.func_flatten.proofs.FunctionLemmas.{many_is, other_name_is}
use Rattle.func_flatten.proofs.StandLemmas.{name_get}
use Rattle.func_flatten.proofs.PieceLemmas.{stand_all}
use Rattle.func_flatten.proofs.RepeatLemmas.{own_joined, other_kept}

-- An address has a stretch of another name exactly if it has a function with another name.
other_is : (units : List UnitRead) (places : List EntryRef) (stretches : List Stretch) (low a : ℕ) → IsCollected units places stretches low [] → has_other_name (number_name units places) stretches a ≡ is_many units a
other_is units places stretches low a c =
    ap (λ l. has_other_name (number_name units l) stretches a) c.placed
    ∙ ap (λ l. has_other_name (number_name units (map place_of c.functions)) l a) c.stretched
    ∙ other_name_is (number_name units (map place_of c.functions)) (covering_name units) c.functions a c.sets (λ j d at. name_get units c.functions j d at)
    ∙ sym (many_is units c.functions a (stand_all units places stretches low c))

-- What holds for each stretch holds for the one that is found.
abbrev AllOf : (Stretch → Type 0) → List Stretch → Type 0
AllOf P [] = Unit {0}
AllOf P (s ∷ items) = P s × AllOf P items

of_found : (P : Stretch → Type 0) (test : Stretch → Bool) (items : List Stretch) (s : Stretch) → AllOf P items → find test items ≡ Some s → P s
of_found P test [] s all is = absurd (cc)
of_found P test (t ∷ items) s all is = grind (arith, nat_tests, is, all.0, of_found P test items s all.1)

-- Each stretch has the number of its function as its class.
own_spans : (k : ℕ) (spans : List Range) → AreOwn (span_stretches k k spans)
own_spans k [] = tt
own_spans k (r ∷ spans) = (refl, own_spans k spans)

own_classes : (k : ℕ) (functions : List Covering) → AreOwn (function_stretches own_class k functions)
own_classes k [] = tt
own_classes k (c ∷ functions) = own_joined (span_stretches k k c.spans) (function_stretches own_class (k + 1) functions) (own_spans k c.spans) (own_classes (k + 1) functions)

pub own_collected : (units : List UnitRead) (places : List EntryRef) (stretches : List Stretch) → (low : ℕ) × IsCollected units places stretches low [] → AreOwn stretches
own_collected units places stretches c = subst AreOwn (sym c.1.stretched) (own_classes 0 c.1.functions)

own_all : (items : List Stretch) → AreOwn items → AllOf (λ t. t.class ≡ t.index) items
own_all [] own = tt
own_all (s ∷ items) own = (own.0, own_all items own.1)

finer_any : (name : ℕ → List ℕ) (s : Stretch) (a : ℕ) (items : List Stretch) → s.class ≡ s.index → AllOf (λ t. t.class ≡ t.index) items → list_any (λ t. reaches t a && not (t.class == s.class)) items ≡ false → list_any (λ t. reaches t a && not (bytes_eq (name t.index) (name s.index))) items ≡ false
finer_any name s a [] own all none = refl
finer_any name s a (t ∷ items) own all none = grind (arith, nat_tests, own, all.0, none, (bytes_eq-Decides (name t.index) (name s.index)).1, finer_any name s a items own all.1)

-- If an address has no other function, it has no other name.
other_none : (name : ℕ → List ℕ) (items : List Stretch) (a : ℕ) → AllOf (λ t. t.class ≡ t.index) items → is_shared items a ≡ false → has_other_name name items a ≡ false
unfolding is_shared has_other_name first_at
other_none name items a all none = go (find (λ s. reaches s a) items) refl none
  where
    go : (o : Option Stretch) → find (λ s. reaches s a) items ≡ o → option_map_or (λ s. list_any (λ t. reaches t a && not (t.class == s.class)) items) o false ≡ false → option_map_or (λ s. list_any (λ t. reaches t a && not (bytes_eq (name t.index) (name s.index))) items) o false ≡ false
    go None is gone = refl
    go (Some s) is gone = finer_any name s a items (of_found (λ t. t.class ≡ t.index) (λ t. reaches t a) items s all is) all gone

-- The stretches that are kept.
found_kept : (keep : Stretch → Bool) (a : ℕ) (items : List Stretch) → ((s : Stretch) → reaches s a ≡ true → keep s ≡ true) → find (λ s. reaches s a) (filter keep items) ≡ find (λ s. reaches s a) items
found_kept keep a [] all = refl
found_kept keep a (s ∷ items) all = grind (arith, nat_tests, all s, found_kept keep a items all)

-- The stretches that are kept show whether there is another name.
other_filtered : (name : ℕ → List ℕ) (keep : Stretch → Bool) (a : ℕ) (items : List Stretch) → ((s : Stretch) → reaches s a ≡ true → keep s ≡ true) → has_other_name name (filter keep items) a ≡ has_other_name name items a
unfolding has_other_name first_at
other_filtered name keep a items all =
    ap (λ o. option_map_or (λ s. list_any (λ t. reaches t a && not (bytes_eq (name t.index) (name s.index))) (filter keep items)) o false) (found_kept keep a items all)
    ∙ go (find (λ s. reaches s a) items)
  where
    go : (o : Option Stretch) → option_map_or (λ s. list_any (λ t. reaches t a && not (bytes_eq (name t.index) (name s.index))) (filter keep items)) o false ≡ option_map_or (λ s. list_any (λ t. reaches t a && not (bytes_eq (name t.index) (name s.index))) items) o false
    go None = refl
    go (Some s) = any-filter_same (λ t. reaches t a && not (bytes_eq (name t.index) (name s.index))) keep true (λ t is. all t (grind (arith, nat_tests, is))) items

found_classed : (class : ℕ → ℕ) (a : ℕ) (items : List Stretch) → find (λ s. reaches s a) (map (classed class) items) ≡ option_map (classed class) (find (λ s. reaches s a) items)
found_classed class a [] = refl
found_classed class a (s ∷ items) = grind (arith, nat_tests, found_classed class a items)

-- Two functions have the same class exactly if their names are equal.
equal_class : (name : ℕ → List ℕ) (class : ℕ → ℕ) (j k : ℕ) → ((i l : ℕ) → name i ≡ name l → class i ≡ class l) → name (class j) ≡ name j → name (class k) ≡ name k → (class j == class k) ≡ bytes_eq (name j) (name k)
equal_class name class j k same one two = grind (arith, nat_tests, one, two, same j k, (bytes_eq-Decides (name j) (name k)).0, (bytes_eq-Decides (name j) (name k)).1)

any_classed : (name : ℕ → List ℕ) (class : ℕ → ℕ) (s : Stretch) (a : ℕ) (items : List Stretch) → ((i l : ℕ) → name i ≡ name l → class i ≡ class l) → name (class s.index) ≡ name s.index → AllOf (λ t. name (class t.index) ≡ name t.index) items
    → list_any (λ t. reaches t a && not (t.class == class s.index)) (map (classed class) items) ≡ list_any (λ t. reaches t a && not (bytes_eq (name t.index) (name s.index))) items
any_classed name class s a [] same here all = refl
any_classed name class s a (t ∷ items) same here all = grind (arith, nat_tests, equal_class name class t.index s.index same all.0 here, any_classed name class s a items same here all.1)

named_all : (name : ℕ → List ℕ) (class : ℕ → ℕ) (items : List Stretch) → AreNamed name class items → AllOf (λ t. name (class t.index) ≡ name t.index) items
named_all name class [] all = tt
named_all name class (s ∷ items) all = (all.0, named_all name class items all.1)

-- With these classes, there is another class exactly if there is another name.
shared_classed : (name : ℕ → List ℕ) (class : ℕ → ℕ) (items : List Stretch) (a : ℕ) → IsClass name class items → is_shared (map (classed class) items) a ≡ has_other_name name items a
unfolding is_shared has_other_name first_at
shared_classed name class items a is =
    ap (λ o. option_map_or (λ s. list_any (λ t. reaches t a && not (t.class == s.class)) (map (classed class) items)) o false) (found_classed class a items)
    ∙ go (find (λ s. reaches s a) items) refl
  where
    names : AllOf (λ t. name (class t.index) ≡ name t.index) items
    names = named_all name class items is.named

    go : (o : Option Stretch) → find (λ s. reaches s a) items ≡ o → option_map_or (λ s. list_any (λ t. reaches t a && not (t.class == s.class)) (map (classed class) items)) (option_map (classed class) o) false
        ≡ option_map_or (λ s. list_any (λ t. reaches t a && not (bytes_eq (name t.index) (name s.index))) items) o false
    go None found = refl
    go (Some s) found =
        any_classed name class s a items is.alike
        (of_found (λ t. name (class t.index) ≡ name t.index) (λ t. reaches t a) items s names found) names

pub classed_stretches : (class : ℕ → ℕ) (items : List Stretch) → AreStretches items → AreStretches (map (classed class) items)
classed_stretches class [] all = tt
classed_stretches class (s ∷ items) all = (all.0, classed_stretches class items all.1)

pub kept_stretches : (keep : Stretch → Bool) (items : List Stretch) → AreStretches items → AreStretches (filter keep items)
kept_stretches keep [] all = tt
kept_stretches keep (s ∷ items) all = grind (arith, nat_tests, all.0, kept_stretches keep items all.1)

abbrev BeginsFrom : ℕ → List Cover → Type 0
BeginsFrom low [] = Unit {0}
BeginsFrom low (c ∷ covers) = low ≤ c.first

rise_from : (low : ℕ) (covers : List Cover) → BeginsFrom low covers → AreRuns (map cover_run covers) → RisesFrom low (shared_starts covers)
rise_from low [] begins runs = tt
rise_from low (c ∷ covers) begins runs =
    let later = rise_from (c.first + 1) covers (next covers runs.1) runs.2 in
    grind (arith, nat_tests, begins, later, rises_lower (c.first + 1) low (shared_starts covers) (omega (arith, begins)) later)
  where
    next : (later : List Cover) → Follows (cover_run c) (map cover_run later) → BeginsFrom (c.first + 1) later
    next [] follows = tt
    next (d ∷ later) follows = omega (arith, runs.0, follows.0)

begins_anywhere : (covers : List Cover) → BeginsFrom 0 covers
begins_anywhere [] = tt
begins_anywhere (c ∷ covers) = omega arith

-- The first addresses of the shared covers ascend.
pub starts_rise : (items : List Stretch) (covers : List Cover) → AreCovers items covers → RisesFrom 0 (shared_starts covers)
starts_rise items covers is = rise_from 0 covers (begins_anywhere covers) is.runs.apart

-- Each stretch that has the address has one of the given addresses.
abbrev IsKept : List ℕ → ℕ → Type 0
IsKept addresses a = (s : Stretch) → reaches s a ≡ true → reaches_any addresses s ≡ true

abbrev AreKept : List ℕ → List Cover → Type 0
AreKept addresses [] = Unit {0}
AreKept addresses (c ∷ covers) = (c.shared ≡ true → IsKept addresses c.first) × AreKept addresses covers

kept_more : (b : ℕ) (addresses : List ℕ) (covers : List Cover) → AreKept addresses covers → AreKept (b ∷ addresses) covers
kept_more b addresses [] all = tt
kept_more b addresses (c ∷ covers) all = (λ shared s has. grind (arith, nat_tests, all.0 shared s has), kept_more b addresses covers all.1)

kept_starts : (covers : List Cover) → AreKept (shared_starts covers) covers
kept_starts [] = tt
kept_starts (c ∷ covers) = grind (arith, nat_tests, kept_starts covers, kept_more c.first (shared_starts covers) covers)

shared_item : (items : List Stretch) (a : ℕ) → shared_in (first_item items a) ≡ is_shared items a
unfolding first_item is_shared
shared_item items a = go (first_at items a)
  where
    go : (o : Option Stretch) → shared_in (option_map (λ s. record { index = s.index; class = s.class; shared = option_map_or (λ t. list_any (λ u. reaches u a && not (u.class == t.class)) items) o false }) o) ≡ option_map_or (λ t. list_any (λ u. reaches u a && not (u.class == t.class)) items) o false
    go None = refl
    go (Some s) = refl

-- What is found at the first address of a shared cover shows whether names differ.
found_other : (units : List UnitRead) (places : List EntryRef) (stretches single kept named : List Stretch) (addresses : List ℕ) (items : Stepping (Option FirstItem)) (low a : ℕ) → IsCollected units places stretches low []
    → Represents (number_name units places) stretches single → kept ≡ filter (reaches_any addresses) single → (class : ℕ → ℕ) × IsClass (number_name units places) class kept × (named ≡ map (classed class) kept) → value_at None items a ≡ first_item named a → IsKept addresses a → shared_in (value_at None items a) ≡ is_many units a
found_other units places stretches single kept named addresses items low a c r keeps classes found all =
    ap shared_in found
    ∙ shared_item named a
    ∙ ap (λ l. is_shared l a) classes.2
    ∙ shared_classed (number_name units places) classes.0 kept a classes.1
    ∙ ap (λ l. has_other_name (number_name units places) l a) keeps
    ∙ other_filtered (number_name units places) (reaches_any addresses) a single all
    ∙ other_kept (number_name units places) stretches single a r
    ∙ other_is units places stretches low a c

-- If a cover is not shared, there is no other name.
found_none : (units : List UnitRead) (places : List EntryRef) (stretches single : List Stretch) (low a : ℕ) → IsCollected units places stretches low [] → Represents (number_name units places) stretches single → AreOwn single → is_shared single a ≡ false → is_many units a ≡ false
found_none units places stretches single low a c r own none =
    sym (other_kept (number_name units places) stretches single a r ∙ other_is units places stretches low a c)
    ∙ other_none (number_name units places) single a (own_all single own) none

abbrev AreLow : List Cover → Type 0
AreLow [] = Unit {0}
AreLow (c ∷ covers) = (c.first < 18446744073709551616) × AreLow covers

low_all : (f : ℕ → Option ℕ) (covers : List Cover) → AreMaximal (between 0 18446744073709551616 f) (map cover_run covers) → AreLow covers
low_all f [] all = tt
low_all f (c ∷ covers) all = (grind (arith, nat_tests, all.0.some, all.0.constant c.first (omega arith)), low_all f covers all.1)

tell_all : (units : List UnitRead) (stretches : List Stretch) (items : Stepping (Option FirstItem)) (addresses : List ℕ) (covers : List Cover)
    → ((a : ℕ) → is_shared stretches a ≡ false → is_many units a ≡ false) → ((a : ℕ) → a < 18446744073709551616 → IsKept addresses a → shared_in (value_at None items a) ≡ is_many units a)
    → AreMarked stretches covers → AreKept addresses covers → AreLow covers → TellMany units (map (marked items) covers)
tell_all units stretches items addresses [] none other marks kept low = tt
tell_all units stretches items addresses (c ∷ covers) none other marks kept low =
    (grind (arith, nat_tests, none c.first, marks.0, other c.first low.0, kept.0), tell_all units stretches items addresses covers none other marks.1 kept.1 low.1)

marked_runs : (items : Stepping (Option FirstItem)) (covers : List Cover) → map cover_run (map (marked items) covers) ≡ map cover_run covers
marked_runs items [] = refl
marked_runs items (c ∷ covers) = ap (λ l. cover_run c ∷ l) (marked_runs items covers)

index_kept : (name : ℕ → List ℕ) (items kept : List Stretch) (a : ℕ) → Represents name items kept → between 0 18446744073709551616 (index_at kept) a ≡ between 0 18446744073709551616 (index_at items) a
unfolding index_at
index_kept name items kept a r = ap (λ o. if nat_le 0 a && nat_lt a 18446744073709551616 then option_map (λ s. s.index) o else None) (r.first a)

-- The covers, marked by what was found among the stretches that are kept.
pub covers_named : (units : List UnitRead) (places : List EntryRef) (stretches single kept named : List Stretch) (covers : List Cover) (items : Stepping (Option FirstItem)) → (low : ℕ) × IsCollected units places stretches low [] → Represents (number_name units places) stretches single → AreOwn single → AreCovers single covers
    → kept ≡ filter (reaches_any (shared_starts covers)) single → (class : ℕ → ℕ) × IsClass (number_name units places) class kept × (named ≡ map (classed class) kept) → ((a : ℕ) → a < 18446744073709551616 → value_at None items a ≡ first_item named a)
    → AreNamedCovers units stretches (map (marked items) covers)
covers_named units places stretches single kept named covers items c r own is keeps classes found = record {
  runs = subst (λ l. IsRuns (between 0 18446744073709551616 (index_at stretches)) l) (sym (marked_runs items covers))
      (record { apart = is.runs.apart; values = λ a. is.runs.values a ∙ index_kept (number_name units places) stretches single a r });
  marks = tell_all units single items (shared_starts covers) covers (λ a none. found_none units places stretches single c.0 a c.1 r own none)
      (λ a low all. found_other units places stretches single kept named (shared_starts covers) items c.0 a c.1 r keeps classes (found a low) all)
      is.marks (kept_starts covers) (low_all (index_at single) covers (maximal (between 0 18446744073709551616 (index_at single)) (map cover_run covers) is.runs));
}

none_past : (addresses : List ℕ) (s : Stretch) → ((k : ℕ) → k < length addresses → s.last < get_or addresses k 0) → reaches_any addresses s ≡ false
none_past [] s past = refl
none_past (a ∷ addresses) s past = grind (arith, nat_tests, past 0 (omega arith), none_past addresses s (λ k h. past (suc k) (omega arith)))

reached_at : (low : ℕ) (addresses : List ℕ) (s : Stretch) (j : ℕ) → RisesFrom low addresses → get_or addresses j 0 ≤ s.last → ((k : ℕ) → j < k → k < length addresses → s.last < get_or addresses k 0) → j < length addresses → nat_le s.first (get_or addresses j 0) ≡ reaches_any addresses s
reached_at low [] s j rises here past inside = absurd (omega arith)
reached_at low (a ∷ addresses) s zero rises here past inside = grind (arith, nat_tests, here, none_past addresses s (λ k h. past (suc k) (omega arith) (omega arith)))
reached_at low (a ∷ addresses) s (suc j) rises here past inside =
    grind (arith, nat_tests, rises_above (a + 1) addresses rises.1 j 0 (omega arith), reached_at (a + 1) addresses s j rises.1 here (λ k h g. past (suc k) (omega arith) (omega arith)) (omega arith))

-- The last of the addresses at or below the end of a stretch decides whether the stretch has one of
-- them.
pub reached_some : (addresses : List ℕ) (s : Stretch) (count : ℕ) → RisesFrom 0 addresses → Point addresses s.last count → 0 < count → count ≤ length addresses → nat_le s.first (get_or addresses (count - 1) 0) ≡ reaches_any addresses s
reached_some addresses s count rises point some inside =
    reached_at 0 addresses s (count - 1) rises (grind (arith, nat_tests, point.0 (count - 1) 0, some, inside)) (λ k h g. grind (arith, nat_tests, point.1 k 0, h, g)) (omega arith)

pub reached_none : (addresses : List ℕ) (s : Stretch) (count : ℕ) → Point addresses s.last count → count ≡ 0 → nat_lt 0 count ≡ reaches_any addresses s
reached_none addresses s count point none = grind (arith, nat_tests, none, none_past addresses s (λ k h. grind (arith, nat_tests, point.1 k 0, none, h)))

-- One more cover was marked.
pub mark_next : (items : Stepping (Option FirstItem)) (made covers : List Cover) (i : ℕ) (c new : Cover) → i < length covers → made ≡ map (marked items) (take i covers) ++ drop i covers → c ≡ get_or made i c → new ≡ marked items c → set made i new ≡ map (marked items) (take (i + 1) covers) ++ drop (i + 1) covers
mark_next items made covers i c new inside is at same = ap (set made i) same ∙ map_over_more (marked items) covers made i c inside is at
