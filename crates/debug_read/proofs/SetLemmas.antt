-- The set of addresses of an entry.
use Rattle.std.proofs.Common.{◌≡◌, ℕ, suc, ◌+◌, ◌<◌, Bool, false, List, [], ◌∷◌, ◌++◌, drop, length, replicate, get_or, Option, Some, Result, Ok, Err, refl, sym, ap, subst, ◌∙◌, add-one, length-append, arith}
use Rattle.std.proofs.lemmas.Bool.Decides.{nat_tests}
use Rattle.std.proofs.lemmas.List.{replicate-append-replicate}
use Rattle.std.proofs.lemmas.Option.{slice_get-get_or}
use Rattle.std.specs.List.{slice_get}
use Rattle.abbrev_units.specs.declared.unit.Unit.{Unit}
use Rattle.abbrev_units.specs.DebugSections.{DebugSections}
use Rattle.abbrev_units.proofs.FormTableLemmas.{each_more}
use Rattle.die_walk.specs.EntryTable.{DieFields, RootFields}
use Rattle.range_set.specs.Canonical.{IsCanonical}
use Rattle.sym_edges.specs.Addresses.{Range}
use Rattle.sym_edges.specs.declared.located.Located.{Located}
use Rattle.sym_edges.specs.declared.fault.Stop.{Stop}
use Rattle.sym_edges.specs.declared.fault.Stop.TheVariants.{Fault, NoMemory}
use Rattle.sym_edges.specs.Outside.{MatchStop}
use Rattle.abbrev_units.specs.declared.fault.DwarfKind.{DwarfKind}
use Rattle.range_set.specs.Members.{holds_any}
use Rattle.range_lists.specs.EntryRanges.{in_pairs, in_ranges, IsRanges, pairs_of, pairs_at}
use Rattle.debug_read.specs.Each.{each_of, Match, Says}
use Rattle.debug_read.specs.UnitSays.{no_pairs}
use Rattle.debug_read.specs.UnitsRead.{IsSet}
use Rattle.debug_read.proofs.EachLemmas.{Going, going_more, going_ends, going_stops}

-- The tests of an address.
abbrev answer : Result Bool (Located DwarfKind) → Bool
answer (Ok b) = b
answer (Err fault) = false

abbrev IsAnswer : Result Bool (Located DwarfKind) → Type 0
IsAnswer (Ok b) = Prim.Unit {0}
IsAnswer (Err fault) = ⊥

pub set_found : (code : List Range) (given : Result (List Range) (Located DwarfKind)) (set : List Range) → IsRanges code (Ok set) given → IsCanonical set → Says (IsSet code) given set
set_found code (Ok pairs) set is canonical = record { canonical = canonical; each = λ a. sym (ap answer (is a)) }
set_found code (Err fault) set is canonical = absurd (subst IsAnswer (sym (is 0)) tt)

pub set_refused : (code : List Range) (given : Result (List Range) (Located DwarfKind)) (stop : Stop (Located DwarfKind)) → IsRanges code (Err stop) given → MatchStop {A = List Range} (Err stop) (λ set. Says (IsSet code) given set) (λ fault. given ≡ Err fault) (Prim.Unit {0})
set_refused code given (Fault fault) is = is
set_refused code given NoMemory is = tt

-- The sets of all entries.
abbrev pub Sets : DebugSections → Unit → RootFields → ℕ → List Range → List DieFields → ℕ → List (List Range) → Type 0
Sets sections unit root base code dies i made =
    Going (IsSet code) (each_of (pairs_of sections unit root base) dies) (each_of (pairs_of sections unit root base) (drop i dies)) made

-- The sets of the first entries, by their numbers.
pub record SetsRead (sections : DebugSections) (unit : Unit) (root : RootFields) (base : ℕ) (code : List Range) (dies : List DieFields) (i : ℕ) (made : List (List Range)) : Type 0 where
  pub going : Sets sections unit root base code dies i made
  pub count : length made ≡ i
  pub each : (k : ℕ) (set : List Range) → slice_get made k ≡ Some set → Says (IsSet code) (pairs_at sections unit root base (slice_get dies k)) set

pub sets_more : (sections : DebugSections) (unit : Unit) (root : RootFields) (base : ℕ) (code : List Range) (dies : List DieFields) (i : ℕ) (made more : List (List Range)) (set : List Range) → i < length dies → SetsRead sections unit root base code dies i made → Says (IsSet code) (pairs_at sections unit root base (slice_get dies i)) set → more ≡ made ++ set ∷ [] → SetsRead sections unit root base code dies (i + 1) more
sets_more sections unit root base code dies i made more set inside read one is =
    let gives = pairs_of sections unit root base in
    let says : ℕ → List Range → Type 0 = λ k set. Says (IsSet code) (pairs_at sections unit root base (slice_get dies k)) set in
    rw (add-one i, is) (record {
      going = going_more (IsSet code) gives dies i (each_of gives dies) made set inside read.going (λ die there. rw there at one);
      count = length-append made (set ∷ []) ∙ add-one (length made) ∙ ap suc read.count;
      each = each_more says made set read.each (subst (λ (n : ℕ). says n set) (sym read.count) one);
    })

-- An entry without pairs has the empty set.
pub says_none : (code : List Range) (given : Result (List Range) (Located DwarfKind)) → given ≡ Ok [] → Says (IsSet code) given []
says_none code given none = rw none (record { canonical = tt; each = λ a. refl })

-- An entry with the pairs of an earlier entry has its set.
says_again : (code : List Range) (given again : Result (List Range) (Located DwarfKind)) (set : List Range) → ((pairs : List Range) → given ≡ Ok pairs → again ≡ Ok pairs) → Says (IsSet code) given set → Says (IsSet code) again set
says_again code (Ok pairs) again set same says = rw (same pairs refl) says
says_again code (Err fault) again set same says = absurd says

pub sets_again : (sections : DebugSections) (unit : Unit) (root : RootFields) (base : ℕ) (code : List Range) (dies : List DieFields) (i : ℕ) (made more : List (List Range)) (earlier : ℕ) → i < length dies → SetsRead sections unit root base code dies i made → earlier < i
    → ((pairs : List Range) → pairs_at sections unit root base (slice_get dies earlier) ≡ Ok pairs → pairs_at sections unit root base (slice_get dies i) ≡ Ok pairs)
    → ((set : List Range) → slice_get made earlier ≡ Some set → more ≡ made ++ set ∷ [])
    → SetsRead sections unit root base code dies (i + 1) more
sets_again sections unit root base code dies i made more earlier inside read below same is =
    let there : slice_get made earlier ≡ Some (get_or made earlier []) = slice_get-get_or made earlier [] (omega (arith, below, read.count)) in
    sets_more sections unit root base code dies i made more (get_or made earlier []) inside read
    (says_again code (pairs_at sections unit root base (slice_get dies earlier)) (pairs_at sections unit root base (slice_get dies i)) (get_or made earlier []) same (read.each earlier (get_or made earlier []) there))
    (is (get_or made earlier []) there)

pub sets_all : (sections : DebugSections) (unit : Unit) (root : RootFields) (base : ℕ) (code : List Range) (dies : List DieFields) (i : ℕ) (made : List (List Range)) → i ≡ length dies → SetsRead sections unit root base code dies i made → Says (Match (IsSet code)) (each_of (pairs_of sections unit root base) dies) made
sets_all sections unit root base code dies i made end read = going_ends (IsSet code) (pairs_of sections unit root base) dies i (each_of (pairs_of sections unit root base) dies) made end read.going

pub sets_stopped : (sections : DebugSections) (unit : Unit) (root : RootFields) (base : ℕ) (code : List Range) (dies : List DieFields) (i : ℕ) (made : List (List Range)) (stop : Stop (Located DwarfKind)) → i < length dies → SetsRead sections unit root base code dies i made
    → MatchStop {A = List Range} (Err stop) (λ set. Says (IsSet code) (pairs_at sections unit root base (slice_get dies i)) set) (λ fault. pairs_at sections unit root base (slice_get dies i) ≡ Err fault) (Prim.Unit {0})
    → MatchStop {A = List (List Range)} (Err stop) (λ sets. Says (Match (IsSet code)) (each_of (pairs_of sections unit root base) dies) sets) (λ fault. each_of (pairs_of sections unit root base) dies ≡ Err fault) (Prim.Unit {0})
sets_stopped sections unit root base code dies i made (Fault fault) inside read is =
    let gives = pairs_of sections unit root base in
    going_stops (IsSet code) gives dies i (each_of gives dies) made fault inside read.going
    (λ die there. subst (λ (o : Option DieFields). pairs_at sections unit root base o ≡ Err fault) there is)
sets_stopped sections unit root base code dies i made NoMemory inside read is = tt

-- Only what the ranges of code enclose matters.
same_answer : (code other pairs : List Range) (a : ℕ) → in_ranges code (Ok pairs) a ≡ in_ranges other (Ok pairs) a → in_pairs code pairs a ≡ in_pairs other pairs a
same_answer code other pairs a same = ap answer same

pub sets_alike : (code other : List Range) → ((given : Result (List Range) (Located DwarfKind)) (a : ℕ) → in_ranges code given a ≡ in_ranges other given a) → (pairs sets : List (List Range)) → Match (IsSet code) pairs sets → Match (IsSet other) pairs sets
sets_alike code other same [] [] all = tt
sets_alike code other same [] (set ∷ sets) all = absurd all
sets_alike code other same (p ∷ pairs) [] all = absurd all
sets_alike code other same (p ∷ pairs) (set ∷ sets) all = (
  record { canonical = all.0.canonical; each = λ a. all.0.each a ∙ same_answer code other p a (same (Ok p) a) },
  sets_alike code other same pairs sets all.1,
)

-- A set without addresses is empty.
pub no_address : (set : List Range) → IsCanonical set → ((a : ℕ) → holds_any set a ≡ false) → set ≡ []
no_address [] canonical none = refl
no_address (range ∷ ranges) canonical none = absurd (grind (arith, nat_tests, canonical.0, none range.start))

-- Entries without addresses.
pub none_more : (n : ℕ) (sets more : List (List Range)) → sets ≡ replicate n [] → more ≡ sets ++ [] ∷ [] → more ≡ replicate (n + 1) []
none_more n sets more are grown = grown ∙ ap (λ (s : List (List Range)). s ++ [] ∷ []) are ∙ replicate-append-replicate n 1 []

pub none_sets : (code : List Range) (dies : List DieFields) → Match (IsSet code) (no_pairs dies) (replicate (length dies) [])
none_sets code [] = tt
none_sets code (die ∷ dies) = (record { canonical = tt; each = λ a. refl }, none_sets code dies)

pub all_none : (dies : List DieFields) (n : ℕ) (sets : List (List Range)) → n ≡ length dies → sets ≡ replicate n [] → (code : List Range) → Match (IsSet code) (no_pairs dies) sets
all_none dies n sets end are code =
    rw (are, end) (none_sets code dies)
