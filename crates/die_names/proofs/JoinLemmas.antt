-- The scopes around an entry, and the prefix that they give to its name.
use Rattle.std.proofs.Common.{◌≡◌, ◌<◌, ◌++◌, if◌then◌else◌, ℕ, zero, suc, false, List, [], ◌∷◌, Option, None, Some, option_and_then, refl, sym, ap, ◌∙◌, arith, append-nil}
use Rattle.std.specs.List.{slice_get, filter}
use Rattle.std.specs.Option.{option_map_or}
use Rattle.std.proofs.lemmas.Bool.{cond-false}
use Rattle.std.proofs.lemmas.Bool.Decides.{nat_tests}
use Rattle.std.proofs.lemmas.List.{append_assoc}
use Rattle.die_walk.specs.EntryTable.{DieFields}
use Rattle.die_walk.specs.EntryKinds.{is_scope}
use Rattle.die_walk.specs.Scopes.{scope_around, scope_of}
use Rattle.die_names.specs.Names.{around, scope_front, front_at, fronts, front_in}
use Rattle.die_names.specs.internal.Gathering.{is_scope_at, scopes_of}

-- The scopes among the entries around an entry.
abbrev pub scopes_in : List DieFields → ℕ → Option ℕ → List ℕ
scopes_in dies limit parent = filter (is_scope_at dies) (around dies limit parent)

-- A scope, followed by the scopes around it.
abbrev pub hopped : List DieFields → Option ℕ → List ℕ
hopped dies None = []
hopped dies (Some number) = number ∷ scopes_of dies number

abbrev from_here : List DieFields → ℕ → DieFields → Option ℕ
from_here dies number die = if is_scope die then Some number else scope_around dies number die.parent

pub scopes_are : (dies : List DieFields) (entry : ℕ) (o : Option DieFields) → slice_get dies entry ≡ o → scopes_of dies entry ≡ option_map_or (λ (die : DieFields). scopes_in dies entry die.parent) o []
unfolding scopes_of
scopes_are dies entry o is = ap (λ (found : Option DieFields). option_map_or (λ (die : DieFields). scopes_in dies entry die.parent) found []) is

by_entry : (dies : List DieFields) (number : ℕ) (o : Option DieFields) → slice_get dies number ≡ o
    → ((parent : Option ℕ) → scopes_in dies number parent ≡ hopped dies (scope_around dies number parent))
    → filter (is_scope_at dies) (option_map_or (λ (die : DieFields). number ∷ around dies number die.parent) o []) ≡ hopped dies (option_and_then (from_here dies number) o)
by_entry dies number None is below = refl
by_entry dies number (Some d) is below = grind (arith, nat_tests, is, below d.parent, scopes_are dies number (Some d) is)

pub scopes_next : (dies : List DieFields) (limit : ℕ) (parent : Option ℕ) → scopes_in dies limit parent ≡ hopped dies (scope_around dies limit parent)
unfolding around scope_around
scopes_next dies zero parent = refl
scopes_next dies (suc number) parent = grind (arith, nat_tests, by_entry dies number (slice_get dies number) refl (scopes_next dies number), scopes_next dies number parent)

hop_by : (dies : List DieFields) (entry : ℕ) (o : Option DieFields) → option_map_or (λ (die : DieFields). scopes_in dies entry die.parent) o [] ≡ hopped dies (option_and_then (λ (die : DieFields). scope_around dies entry die.parent) o)
hop_by dies entry None = refl
hop_by dies entry (Some d) = scopes_next dies entry d.parent

scopes_hop : (dies : List DieFields) (entry : ℕ) → scopes_of dies entry ≡ hopped dies (scope_of dies entry)
scopes_hop dies entry = scopes_are dies entry (slice_get dies entry) refl ∙ hop_by dies entry (slice_get dies entry)

pub gathered_all : (dies : List DieFields) (done : List ℕ) (limit : ℕ) (whole : List ℕ) → None ≡ scope_of dies limit → done ++ scopes_of dies limit ≡ whole → done ≡ whole
gathered_all dies done limit whole none rest =
    sym (append-nil done) ∙ ap (λ (o : Option ℕ). done ++ hopped dies o) none ∙ ap (λ (l : List ℕ). done ++ l) (sym (scopes_hop dies limit)) ∙ rest

pub gathered_more : (dies : List DieFields) (done added : List ℕ) (limit number : ℕ) (whole : List ℕ) → Some number ≡ scope_of dies limit → done ++ scopes_of dies limit ≡ whole → added ≡ done ++ (number ∷ []) → added ++ scopes_of dies number ≡ whole
gathered_more dies done added limit number whole to rest adding =
    ap (λ (l : List ℕ). l ++ scopes_of dies number) adding
    ∙ append_assoc done (number ∷ []) (scopes_of dies number)
    ∙ ap (λ (o : Option ℕ). done ++ hopped dies o) to
    ∙ ap (λ (l : List ℕ). done ++ l) (sym (scopes_hop dies limit)) ∙ rest

-- A scope comes before the entries that it encloses.
before_entry : (dies : List DieFields) (number found : ℕ) (o : Option DieFields)
    → ((parent : Option ℕ) → scope_around dies number parent ≡ Some found → found < number)
    → option_and_then (from_here dies number) o ≡ Some found → found < suc number
before_entry dies number found None below is = absurd (cc)
before_entry dies number found (Some d) below is = grind (arith, nat_tests, below d.parent, is)

around_before : (dies : List DieFields) (limit found : ℕ) (parent : Option ℕ) → scope_around dies limit parent ≡ Some found → found < limit
unfolding scope_around
around_before dies zero found parent is = absurd (cc)
around_before dies (suc number) found parent is = grind (arith, nat_tests, is, before_entry dies number found (slice_get dies number) (around_before dies number found), around_before dies number found parent)

before_of : (dies : List DieFields) (entry found : ℕ) (o : Option DieFields) → option_and_then (λ (die : DieFields). scope_around dies entry die.parent) o ≡ Some found → found < entry
before_of dies entry found None is = absurd (cc)
before_of dies entry found (Some d) is = around_before dies entry found d.parent is

pub scope_before : (dies : List DieFields) (entry found : ℕ) → Some found ≡ scope_of dies entry → found < entry
scope_before dies entry found is = before_of dies entry found (slice_get dies entry) (sym is)

-- Entries that are no scopes give no prefix.
bare_by : (die : Option DieFields) → option_map_or is_scope die false ≡ false → option_map_or scope_front die [] ≡ []
unfolding scope_front
bare_by None bare = refl
bare_by (Some die) bare = cond-false _ _ _ bare

fronts_kept : (dies : List DieFields) (numbers : List ℕ) → fronts dies (filter (is_scope_at dies) numbers) ≡ fronts dies numbers
fronts_kept dies [] = refl
fronts_kept dies (number ∷ outer) = grind (arith, nat_tests, fronts_kept dies outer, append-nil (fronts dies outer), bare_by (slice_get dies number))

pub fronts_of : (dies : List DieFields) (entry : ℕ) (d : DieFields) → Some d ≡ slice_get dies entry → fronts dies (scopes_of dies entry) ≡ front_in dies entry d.parent
fronts_of dies entry d is = ap (fronts dies) (scopes_are dies entry (Some d) (sym is)) ∙ fronts_kept dies (around dies entry d.parent)

fronts_last : (dies : List DieFields) (numbers : List ℕ) (k : ℕ) → fronts dies (numbers ++ (k ∷ [])) ≡ front_at dies k ++ fronts dies numbers
fronts_last dies [] k = sym (append-nil (front_at dies k))
fronts_last dies (n ∷ numbers) k = ap (λ f. f ++ front_at dies n) (fronts_last dies numbers k) ∙ append_assoc (front_at dies k) (fronts dies numbers) (front_at dies n)

pub fronts_more : (dies : List DieFields) (numbers : List ℕ) (k : ℕ) (text added whole : List ℕ) → text ++ fronts dies (numbers ++ (k ∷ [])) ≡ whole → added ≡ text ++ front_at dies k → added ++ fronts dies numbers ≡ whole
fronts_more dies numbers k text added whole rest adding =
    ap (λ t. t ++ fronts dies numbers) adding ∙ append_assoc text (front_at dies k) (fronts dies numbers) ∙ ap (λ f. text ++ f) (sym (fronts_last dies numbers k)) ∙ rest

pub front_none : (dies : List DieFields) (k : ℕ) → None ≡ slice_get dies k → front_at dies k ≡ []
front_none dies k is = ap (λ o. option_map_or scope_front o []) (sym is)

pub front_some : (dies : List DieFields) (k : ℕ) (d : DieFields) → Some d ≡ slice_get dies k → front_at dies k ≡ scope_front d
front_some dies k d is = ap (λ o. option_map_or scope_front o []) (sym is)
