-- The bytes of a name.
use Rattle.std.proofs.Common.{◌≡◌, ◌++◌, ◌||◌, ℕ, Bool, true, false, true≢false, List, [], ◌∷◌, codes, Option, None, Some, unwrap_or, option_and_then, refl, sym, ap, ◌∙◌, arith}
use Rattle.std.specs.List.{slice_get, list_any, filter}
use Rattle.std.specs.Option.{option_map, option_map_or, is_some}
use Rattle.std.proofs.lemmas.Bool.Decides.{nat_tests}
use Rattle.die_walk.specs.EntryTable.{DieFields}
use Rattle.die_names.specs.declared.name_source.How.{How}
use Rattle.die_names.specs.declared.name_source.How.TheVariants.{Linkage, Joined, Omitted}
use Rattle.die_names.specs.declared.name_source.NameRef.{NameRef}
use Rattle.debug_units.specs.declared.unit_read.UnitRead.{UnitRead}
use Rattle.debug_units.specs.UnitEntries.{Placed, entry_in, entry_of}
use Rattle.die_walk.specs.EntryKinds.{is_scope}
use Rattle.die_names.specs.Names.{around, scope_name, scope_front, front_at, fronts, front_in, front_of, dies_of}
use Rattle.die_names.specs.NameRefs.{bytes_by, name_bytes, unless_front, slice_by, name_slice}
use Rattle.die_walk.specs.Scopes.{scope_around, scope_of}
use Rattle.die_names.specs.internal.Gathering.{is_scope_at, scopes_of}
use Rattle.die_names.proofs.JoinLemmas.{hopped, scopes_next, fronts_of}

abbrev omitted_text : List ℕ
omitted_text = codes "<name omitted>"

-- Whether a list has members.
abbrev is_full : List ℕ → Bool
is_full [] = false
is_full (x ∷ xs) = true

full_append : (xs ys : List ℕ) → is_full (xs ++ ys) ≡ (is_full ys || is_full xs)
full_append [] [] = refl
full_append [] (y ∷ ys) = refl
full_append (x ∷ xs) [] = refl
full_append (x ∷ xs) (y ∷ ys) = refl

at_full : (die : Option DieFields) → is_full (option_map_or scope_front die []) ≡ option_map_or is_scope die false
unfolding scope_front
at_full None = refl
at_full (Some die) = grind (arith, nat_tests, full_append (scope_name die) (codes "::"))

fronts_full : (dies : List DieFields) (numbers : List ℕ) → is_full (fronts dies numbers) ≡ list_any (is_scope_at dies) numbers
fronts_full dies [] = refl
fronts_full dies (n ∷ numbers) = grind (arith, nat_tests, full_append (fronts dies numbers) (front_at dies n), at_full (slice_get dies n), fronts_full dies numbers)

-- A name has a prefix if there is a scope around its entry.
any_kept : (test : ℕ → Bool) (xs : List ℕ) → list_any test xs ≡ is_full (filter test xs)
any_kept test [] = refl
any_kept test (x ∷ xs) = grind (arith, nat_tests, any_kept test xs)

hopped_full : (dies : List DieFields) (scope : Option ℕ) → is_full (hopped dies scope) ≡ is_some scope
hopped_full dies None = refl
hopped_full dies (Some number) = refl

front_full : (dies : List DieFields) (entry : ℕ) (die : DieFields) (scope : Option ℕ) → Some die ≡ slice_get dies entry → scope ≡ scope_of dies entry → is_full (front_in dies entry die.parent) ≡ is_some scope
front_full dies entry die scope got is =
    fronts_full dies (around dies entry die.parent)
    ∙ any_kept (is_scope_at dies) (around dies entry die.parent)
    ∙ ap is_full (scopes_next dies entry die.parent)
    ∙ hopped_full dies (scope_around dies entry die.parent)
    ∙ ap (λ (o : Option DieFields). is_some (option_and_then (λ (d : DieFields). scope_around dies entry d.parent) o)) got
    ∙ ap is_some (sym is)

unless_bare : (front : List ℕ) (name : Option (List ℕ)) → is_full front ≡ false → unless_front front name ≡ name
unless_bare [] name bare = refl
unless_bare (b ∷ front) name bare = absurd (true≢false bare)

unless_full : (front : List ℕ) (name : Option (List ℕ)) → is_full front ≡ true → unless_front front name ≡ None
unless_full [] name full = absurd (true≢false (sym full))
unless_full (b ∷ front) name full = refl

-- The entry that a name refers to.
abbrev pub placed : NameRef → DieFields → Placed
placed name die = record { unit = name.unit; entry = name.entry; die = die }

no_part : (units : List UnitRead) (name : NameRef) → None ≡ slice_get units name.unit → entry_of units name.unit name.entry ≡ None
unfolding entry_of
no_part units name is = ap (entry_in name.unit name.entry) (sym is)

no_die : (units : List UnitRead) (name : NameRef) (part : UnitRead) → Some part ≡ slice_get units name.unit → None ≡ slice_get part.die.dies name.entry → entry_of units name.unit name.entry ≡ None
unfolding entry_of
no_die units name part is none = ap (entry_in name.unit name.entry) (sym is) ∙ ap (option_map (placed name)) (sym none)

pub named : (units : List UnitRead) (name : NameRef) (part : UnitRead) (die : DieFields) → Some part ≡ slice_get units name.unit → Some die ≡ slice_get part.die.dies name.entry → entry_of units name.unit name.entry ≡ Some (placed name die)
unfolding entry_of
named units name part die is got = ap (entry_in name.unit name.entry) (sym is) ∙ ap (option_map (placed name)) (sym got)

front_is : (units : List UnitRead) (name : NameRef) (part : UnitRead) (die : DieFields) → Some part ≡ slice_get units name.unit → front_of units (placed name die) ≡ front_in part.die.dies name.entry die.parent
unfolding front_of
front_is units name part die is = ap (λ u. front_in (dies_of u) name.entry die.parent) (sym is)

-- The bytes of a name, if the file has them as they are.
pub slice_no_part : (units : List UnitRead) (name : NameRef) → None ≡ slice_get units name.unit → None ≡ name_slice units name
unfolding name_slice
slice_no_part units name is = ap (option_and_then (slice_by units name.how)) (sym (no_part units name is))

pub slice_no_die : (units : List UnitRead) (name : NameRef) (part : UnitRead) → Some part ≡ slice_get units name.unit → None ≡ slice_get part.die.dies name.entry → None ≡ name_slice units name
unfolding name_slice
slice_no_die units name part is none = ap (option_and_then (slice_by units name.how)) (sym (no_die units name part is none))

slice_is : (units : List UnitRead) (name : NameRef) (part : UnitRead) (die : DieFields) (how : How) → name.how ≡ how → Some part ≡ slice_get units name.unit → Some die ≡ slice_get part.die.dies name.entry → name_slice units name ≡ slice_by units how (placed name die)
unfolding name_slice
slice_is units name part die how by is got =
    ap (option_and_then (slice_by units name.how)) (named units name part die is got) ∙ ap (λ h. slice_by units h (placed name die)) by

pub slice_linkage : (units : List UnitRead) (name : NameRef) (part : UnitRead) (die : DieFields) (text : Option (List ℕ)) → name.how ≡ Linkage → Some part ≡ slice_get units name.unit → Some die ≡ slice_get part.die.dies name.entry → text ≡ die.linkage → text ≡ name_slice units name
slice_linkage units name part die text by is got same = same ∙ sym (slice_is units name part die Linkage by is got)

pub slice_omitted : (units : List UnitRead) (name : NameRef) (part : UnitRead) (die : DieFields) → name.how ≡ Omitted → Some part ≡ slice_get units name.unit → Some die ≡ slice_get part.die.dies name.entry → None ≡ name_slice units name
slice_omitted units name part die by is got = sym (slice_is units name part die Omitted by is got)

pub slice_bare : (units : List UnitRead) (name : NameRef) (part : UnitRead) (die : DieFields) (text : Option (List ℕ)) → name.how ≡ Joined → Some part ≡ slice_get units name.unit → Some die ≡ slice_get part.die.dies name.entry
    → None ≡ scope_of part.die.dies name.entry → text ≡ die.name → text ≡ name_slice units name
slice_bare units name part die text by is got bare same =
    same
    ∙ sym (unless_bare (front_in part.die.dies name.entry die.parent) die.name (front_full part.die.dies name.entry die None got bare))
    ∙ ap (λ f. unless_front f die.name) (sym (front_is units name part die is))
    ∙ sym (slice_is units name part die Joined by is got)

pub slice_scoped : (units : List UnitRead) (name : NameRef) (part : UnitRead) (die : DieFields) (scope : ℕ) → name.how ≡ Joined → Some part ≡ slice_get units name.unit → Some die ≡ slice_get part.die.dies name.entry
    → Some scope ≡ scope_of part.die.dies name.entry → None ≡ name_slice units name
slice_scoped units name part die scope by is got scoped =
    sym (unless_full (front_in part.die.dies name.entry die.parent) die.name (front_full part.die.dies name.entry die (Some scope) got scoped))
    ∙ ap (λ f. unless_front f die.name) (sym (front_is units name part die is))
    ∙ sym (slice_is units name part die Joined by is got)

-- If the file has a name as it is, its bytes are those of the name.
bare_by : (front : List ℕ) (name : Option (List ℕ)) (bytes : List ℕ) → unless_front front name ≡ Some bytes → option_map (λ n. front ++ n) name ≡ Some bytes
bare_by [] (Some name) bytes is = is
bare_by [] None bytes is = absurd (cc)
bare_by (b ∷ front) name bytes is = absurd (cc)

slice_of : (units : List UnitRead) (how : How) (p : Placed) (bytes : List ℕ) → slice_by units how p ≡ Some bytes → bytes_by units how p ≡ Some bytes
slice_of units Linkage p bytes is = is
slice_of units Joined p bytes is = bare_by (front_of units p) p.die.name bytes is
slice_of units Omitted p bytes is = absurd (cc)

sliced_in : (units : List UnitRead) (how : How) (at : Option Placed) (bytes : List ℕ) → option_and_then (slice_by units how) at ≡ Some bytes → option_and_then (bytes_by units how) at ≡ Some bytes
sliced_in units how None bytes is = absurd (cc)
sliced_in units how (Some p) bytes is = slice_of units how p bytes is

pub slice_bytes : (units : List UnitRead) (name : NameRef) (bytes : List ℕ) → name_slice units name ≡ Some bytes → name_bytes units name ≡ bytes
unfolding name_slice name_bytes
slice_bytes units name bytes is = ap (λ o. unwrap_or o (codes "<name omitted>")) (sliced_in units name.how (entry_of units name.unit name.entry) bytes is)

pub text_sliced : (units : List UnitRead) (name : NameRef) (text : List ℕ) → Some text ≡ name_slice units name → text ≡ name_bytes units name
text_sliced units name text is = sym (slice_bytes units name text (sym is))

pub text_is : (units : List UnitRead) (name : NameRef) (part : UnitRead) (die : DieFields) (how : How) → name.how ≡ how → Some part ≡ slice_get units name.unit → Some die ≡ slice_get part.die.dies name.entry → name_bytes units name ≡ unwrap_or (bytes_by units how (placed name die)) omitted_text
unfolding name_bytes
text_is units name part die how by is got =
    ap (λ o. unwrap_or (option_and_then (bytes_by units name.how) o) omitted_text) (named units name part die is got)
    ∙ ap (λ h. unwrap_or (bytes_by units h (placed name die)) omitted_text) by

pub text_joined : (units : List UnitRead) (name : NameRef) (part : UnitRead) (die : DieFields) (text joined : List ℕ) → name.how ≡ Joined → Some part ≡ slice_get units name.unit → Some die ≡ slice_get part.die.dies name.entry
    → Some text ≡ die.name → joined ≡ fronts part.die.dies (scopes_of part.die.dies name.entry) ++ text → joined ≡ name_bytes units name
text_joined units name part die text joined by is got has same =
    same
    ∙ ap (λ (front : List ℕ). front ++ text) (fronts_of part.die.dies name.entry die got)
    ∙ ap (λ f. f ++ text) (sym (front_is units name part die is))
    ∙ ap (λ o. unwrap_or (option_map (λ n. front_of units (placed name die) ++ n) o) omitted_text) has
    ∙ sym (text_is units name part die Joined by is got)

pub text_no_part : (units : List UnitRead) (name : NameRef) → None ≡ slice_get units name.unit → codes "<name omitted>" ≡ name_bytes units name
unfolding name_bytes
text_no_part units name is = ap (λ o. unwrap_or (option_and_then (bytes_by units name.how) o) omitted_text) (sym (no_part units name is))

pub text_no_die : (units : List UnitRead) (name : NameRef) (part : UnitRead) → Some part ≡ slice_get units name.unit → None ≡ slice_get part.die.dies name.entry → codes "<name omitted>" ≡ name_bytes units name
unfolding name_bytes
text_no_die units name part is none = ap (λ o. unwrap_or (option_and_then (bytes_by units name.how) o) omitted_text) (sym (no_die units name part is none))

pub text_no_name : (units : List UnitRead) (name : NameRef) (part : UnitRead) (die : DieFields) → name.how ≡ Joined → Some part ≡ slice_get units name.unit → Some die ≡ slice_get part.die.dies name.entry → None ≡ die.name → codes "<name omitted>" ≡ name_bytes units name
text_no_name units name part die by is got none =
    ap (λ o. unwrap_or (option_map (λ n. front_of units (placed name die) ++ n) o) omitted_text) none ∙ sym (text_is units name part die Joined by is got)

pub text_no_linkage : (units : List UnitRead) (name : NameRef) (part : UnitRead) (die : DieFields) → name.how ≡ Linkage → Some part ≡ slice_get units name.unit → Some die ≡ slice_get part.die.dies name.entry → None ≡ name_slice units name → codes "<name omitted>" ≡ name_bytes units name
text_no_linkage units name part die by is got none =
    ap (λ o. unwrap_or o omitted_text) (none ∙ slice_is units name part die Linkage by is got) ∙ sym (text_is units name part die Linkage by is got)

pub text_omitted : (units : List UnitRead) (name : NameRef) (part : UnitRead) (die : DieFields) → name.how ≡ Omitted → Some part ≡ slice_get units name.unit → Some die ≡ slice_get part.die.dies name.entry → codes "<name omitted>" ≡ name_bytes units name
text_omitted units name part die by is got = sym (text_is units name part die Omitted by is got)
