-- Which entry gives a name, and which name it gives.
use Rattle.std.proofs.Common.{◌≡◌, ◌+◌, ◌++◌, ℕ, zero, suc, Bool, true, false, true≢false, List, [], ◌∷◌, length, codes, Option, None, Some, unwrap_or, option_and_then, refl, sym, ap, subst, ◌∙◌, arith}
use Rattle.std.specs.List.{find, slice_get}
use Rattle.std.specs.Option.{option_map, is_some}
use Rattle.std.proofs.lemmas.Bool.Decides.{nat_tests}
use Rattle.std.proofs.lemmas.List.{append_assoc, length-append}
use Rattle.clean_names.specs.Cleaning.{cleaned}
use Rattle.abbrev_units.specs.Attributes.{or_else}
use Rattle.die_walk.specs.EntryTable.{DieFields}
use Rattle.die_names.specs.declared.name_source.How.TheVariants.{Linkage, Joined, Omitted}
use Rattle.die_names.specs.declared.name_source.NameRef.{NameRef}
use Rattle.debug_units.specs.declared.unit_read.UnitRead.{UnitRead}
use Rattle.debug_units.specs.UnitEntries.{Placed, unit_entries, entries_from, entry_in, entry_at, entry_of}
use Rattle.die_names.specs.Names.{way, linked_from, link_of, front_of, first_linkage, first_joined, entry_name}
use Rattle.die_names.specs.NameRefs.{name_at, has_linkage, has_name, joined_or, linkage_or, name_ref, bytes_by, name_bytes}
use Rattle.die_names.specs.internal.Finding.{is_at}
use Rattle.die_names.specs.internal.Following.{is_omitted, followed}

-- After an entry with a name.
followed_named : (best : NameRef) (entries : List Placed) → is_omitted best.how ≡ false → followed best entries ≡ linkage_or best (find has_linkage entries)
followed_named best [] not = refl
followed_named best (p ∷ rest) not = grind (arith, nat_tests, not, followed_named best rest not)

-- Before any entry with a name.
followed_first : (best : NameRef) (entries : List Placed) → is_omitted best.how ≡ true → followed best entries ≡ linkage_or (joined_or best (find has_name entries)) (find has_linkage entries)
followed_first best [] begun = refl
followed_first best (p ∷ rest) begun = grind (arith, nat_tests, begun, followed_named (name_at p Joined) rest refl, followed_first best rest begun)

pub reference_is : (units : List UnitRead) (unit entry : ℕ) → followed (record { unit = unit; entry = entry; how = Omitted }) (way units 16 (entry_of units unit entry)) ≡ name_ref units unit entry
unfolding name_ref
reference_is units unit entry = followed_first (record { unit = unit; entry = entry; how = Omitted }) (way units 16 (entry_of units unit entry)) refl

-- What holds for all entries of a list.
abbrev pub AllOf : (Placed → Type 0) → List Placed → Type 0
AllOf P [] = Prim.Unit {0}
AllOf P (p ∷ rest) = P p × AllOf P rest

all_append : (P : Placed → Type 0) (xs ys : List Placed) → AllOf P xs → AllOf P ys → AllOf P (xs ++ ys)
all_append P [] ys left right = right
all_append P (x ∷ xs) ys left right = (left.0, all_append P xs ys left.1 right)

-- The entry of a unit that has these numbers.
abbrev pub IsThere : List UnitRead → Placed → Type 0
IsThere units p = entry_in p.unit p.entry (slice_get units p.unit) ≡ Some p

at_length : {X : Type 0} (done : List X) (x : X) (xs : List X) → slice_get (done ++ (x ∷ xs)) (length done) ≡ Some x
at_length [] x xs = refl
at_length (y ∷ done) x xs = at_length done x xs

dies_there : (units : List UnitRead) (unit : ℕ) (part : UnitRead) (done dies : List DieFields) → slice_get units unit ≡ Some part → done ++ dies ≡ part.die.dies → AllOf (IsThere units) (unit_entries unit (length done) dies)
dies_there units unit part done [] is whole = tt
dies_there units unit part done (d ∷ dies) is whole = (
  ap (entry_in unit (length done)) is
      ∙ ap (λ ds. option_map {U = Placed} (λ die. record { unit = unit; entry = length done; die = die }) (slice_get ds (length done))) (sym whole)
      ∙ ap (option_map {U = Placed} (λ die. record { unit = unit; entry = length done; die = die })) (at_length done d dies),
  subst (λ n. AllOf (IsThere units) (unit_entries unit n dies)) (length-append done (d ∷ [])) (dies_there units unit part (done ++ (d ∷ [])) dies is (append_assoc done (d ∷ []) dies ∙ whole)),
)

all_there : (done units : List UnitRead) → AllOf (IsThere (done ++ units)) (entries_from (length done) units)
all_there done [] = tt
all_there done (u ∷ units) =
    all_append (IsThere (done ++ (u ∷ units))) (unit_entries (length done) 0 u.die.dies) (entries_from (length done + 1) units)
    (dies_there (done ++ (u ∷ units)) (length done) u [] u.die.dies (at_length done u units) refl)
    (subst (λ us. AllOf (IsThere us) (entries_from (length done + 1) units)) (append_assoc done (u ∷ []) units)
    (subst (λ n. AllOf (IsThere ((done ++ (u ∷ [])) ++ units)) (entries_from n units)) (length-append done (u ∷ [])) (all_there (done ++ (u ∷ [])) units)))

-- What holds for an entry, if there is one.
abbrev pub IfThere : (Placed → Type 0) → Option Placed → Type 0
IfThere P None = Prim.Unit {0}
IfThere P (Some p) = P p

found_there : (P : Placed → Type 0) (test : Placed → Bool) (entries : List Placed) → AllOf P entries → IfThere (λ q. P q × (test q ≡ true)) (find test entries)
found_there P test [] all = tt
found_there P test (p ∷ rest) all = grind (arith, nat_tests, all.0, found_there P test rest all.1)

only_there : (P : Placed → Type 0) (test : Placed → Bool) (o : Option Placed) → IfThere (λ q. P q × (test q ≡ true)) o → IfThere P o
only_there P test None found = tt
only_there P test (Some p) found = found.0

at_there : (units : List UnitRead) (place : ℕ) → IfThere (IsThere units) (entry_at units place)
unfolding entry_at
at_there units place = only_there (IsThere units) (is_at place) (find (is_at place) (entries_from 0 units)) (found_there (IsThere units) (is_at place) (entries_from 0 units) (all_there [] units))

link_there : (units : List UnitRead) (link : Option ℕ) → IfThere (IsThere units) (option_and_then (entry_at units) link)
link_there units None = tt
link_there units (Some place) = at_there units place

way_there : (units : List UnitRead) (links : ℕ) (o : Option Placed) → IfThere (IsThere units) o → AllOf (IsThere units) (way units links o)
unfolding way
way_there units zero None there = tt
way_there units (suc links) None there = tt
way_there units zero (Some p) there = (there, tt)
way_there units (suc links) (Some p) there = (there, way_there units links (linked_from units p.die) (link_there units (link_of p.die)))

die_is_there : (units : List UnitRead) (unit entry : ℕ) (part : UnitRead) (die : Option DieFields) → slice_get units unit ≡ Some part → slice_get part.die.dies entry ≡ die → IfThere (IsThere units) (option_map (λ d. record { unit = unit; entry = entry; die = d }) die)
die_is_there units unit entry part None is got = tt
die_is_there units unit entry part (Some d) is got = ap (entry_in unit entry) is ∙ ap (option_map {U = Placed} (λ die. record { unit = unit; entry = entry; die = die })) got

in_there : (units : List UnitRead) (unit entry : ℕ) (part : Option UnitRead) → slice_get units unit ≡ part → IfThere (IsThere units) (entry_in unit entry part)
in_there units unit entry None is = tt
in_there units unit entry (Some part) is = die_is_there units unit entry part (slice_get part.die.dies entry) is refl

of_there : (units : List UnitRead) (unit entry : ℕ) → IfThere (IsThere units) (entry_of units unit entry)
unfolding entry_of
of_there units unit entry = in_there units unit entry (slice_get units unit) refl

-- The first entry with a linkage name and the first entry with a name, and the names that they
-- give.
linkage_by : (p : Placed) (rest : List Placed) (text : Option (List ℕ)) → p.die.linkage ≡ text → first_linkage rest ≡ option_and_then (λ q. q.die.linkage) (find has_linkage rest)
    → first_linkage (p ∷ rest) ≡ option_and_then (λ q. q.die.linkage) (find has_linkage (p ∷ rest))
linkage_by p rest None is later = grind (arith, nat_tests, is, later)
linkage_by p rest (Some text) is later = grind (arith, nat_tests, is)

first_linkage_is : (entries : List Placed) → first_linkage entries ≡ option_and_then (λ q. q.die.linkage) (find has_linkage entries)
first_linkage_is [] = refl
first_linkage_is (p ∷ rest) = linkage_by p rest p.die.linkage refl (first_linkage_is rest)

abbrev joined_name : List UnitRead → Placed → Option (List ℕ)
joined_name units p = option_map (λ name. front_of units p ++ name) p.die.name

joined_by : (units : List UnitRead) (p : Placed) (rest : List Placed) (text : Option (List ℕ)) → p.die.name ≡ text → first_joined units rest ≡ option_and_then (joined_name units) (find has_name rest)
    → first_joined units (p ∷ rest) ≡ option_and_then (joined_name units) (find has_name (p ∷ rest))
joined_by units p rest None is later = grind (arith, nat_tests, is, later)
joined_by units p rest (Some text) is later = grind (arith, nat_tests, is)

first_joined_is : (units : List UnitRead) (entries : List Placed) → first_joined units entries ≡ option_and_then (joined_name units) (find has_name entries)
first_joined_is units [] = refl
first_joined_is units (p ∷ rest) = joined_by units p rest p.die.name refl (first_joined_is units rest)

some_is : {A : Type 0} (o x : Option A) → is_some o ≡ true → or_else o x ≡ o
some_is None x is = absurd (true≢false (sym is))
some_is (Some a) x is = refl

none_by : (units : List UnitRead) (o : Option Placed) → option_and_then (bytes_by units Omitted) o ≡ None
none_by units None = refl
none_by units (Some p) = refl

joined_bytes : (units : List UnitRead) (unit entry : ℕ) (joined : Option Placed) → IfThere (λ q. IsThere units q × (has_name q ≡ true)) joined
    → name_bytes units (joined_or (record { unit = unit; entry = entry; how = Omitted }) joined) ≡ unwrap_or (option_and_then (joined_name units) joined) (codes "<name omitted>")
unfolding name_bytes entry_of
joined_bytes units unit entry None there = ap (λ o. unwrap_or o (codes "<name omitted>")) (none_by units (entry_in unit entry (slice_get units unit)))
joined_bytes units unit entry (Some p) there = ap (λ o. unwrap_or (option_and_then (bytes_by units Joined) o) (codes "<name omitted>")) there.0

bytes_are : (units : List UnitRead) (unit entry : ℕ) (joined linkage : Option Placed) → IfThere (λ q. IsThere units q × (has_name q ≡ true)) joined → IfThere (λ q. IsThere units q × (has_linkage q ≡ true)) linkage
    → name_bytes units (linkage_or (joined_or (record { unit = unit; entry = entry; how = Omitted }) joined) linkage)
    ≡ unwrap_or (or_else (option_and_then (λ q. q.die.linkage) linkage) (option_and_then (joined_name units) joined)) (codes "<name omitted>")
unfolding name_bytes entry_of
bytes_are units unit entry joined None named linked = joined_bytes units unit entry joined named
bytes_are units unit entry joined (Some p) named linked =
    ap (λ o. unwrap_or (option_and_then (bytes_by units Linkage) o) (codes "<name omitted>")) linked.0
    ∙ ap (λ o. unwrap_or o (codes "<name omitted>")) (sym (some_is p.die.linkage (option_and_then (joined_name units) joined) linked.1))

pub name_is : (units : List UnitRead) (unit entry : ℕ) → cleaned (name_bytes units (name_ref units unit entry)) ≡ entry_name units unit entry
unfolding name_ref entry_name
name_is units unit entry =
    let entries = way units 16 (entry_of units unit entry) in
    let all = way_there units 16 (entry_of units unit entry) (of_there units unit entry) in
    ap cleaned
    (bytes_are units unit entry (find has_name entries) (find has_linkage entries) (found_there (IsThere units) has_name entries all) (found_there (IsThere units) has_linkage entries all)
    ∙ ap (λ o. unwrap_or (or_else o (option_and_then (joined_name units) (find has_name entries))) (codes "<name omitted>")) (sym (first_linkage_is entries))
    ∙ ap (λ o. unwrap_or (or_else (first_linkage entries) o) (codes "<name omitted>")) (sym (first_joined_is units entries)))

pub name_from : (units : List UnitRead) (unit entry : ℕ) (name : NameRef) → name ≡ name_ref units unit entry → cleaned (name_bytes units name) ≡ entry_name units unit entry
name_from units unit entry name is = ap (λ n. cleaned (name_bytes units n)) is ∙ name_is units unit entry
