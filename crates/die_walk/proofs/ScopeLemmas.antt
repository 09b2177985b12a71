-- The nearest scope around an entry is found by going from parent to parent.
use Rattle.std.proofs.Common.{◌≡◌, if◌then◌else◌, ◌<◌, ◌≤◌, ◌++◌, ℕ, zero, suc, true, false, List, [], ◌∷◌, length, Option, None, Some, option_and_then, refl, sym, ap, ◌∙◌, arith, ⊎_elim, length-append}
use Rattle.std.specs.List.{slice_get}
use Rattle.std.proofs.lemmas.Bool.{cond-true, cond-false, ne_eqb, cases_lt}
use Rattle.std.proofs.lemmas.Bool.Decides.{nat_tests}
use Rattle.std.proofs.lemmas.Option.{slice_get_within}
use Rattle.die_walk.specs.EntryTable.{DieFields}
use Rattle.die_walk.specs.EntryKinds.{is_scope}
use Rattle.die_walk.specs.Scopes.{scope_around, scope_of}
use Rattle.die_walk.specs.internal.Near.{AreNear}
use Rattle.die_walk.proofs.HeadLemmas.{get_before, get_last}

abbrev from_here : List DieFields → ℕ → DieFields → Option ℕ
from_here dies number die = if is_scope die then Some number else scope_around dies number die.parent

around_none : (dies : List DieFields) (limit : ℕ) → scope_around dies limit None ≡ None
unfolding scope_around
around_none dies zero = refl
around_none dies (suc limit) = around_none dies limit

around_past : (dies : List DieFields) (limit number : ℕ) → limit ≤ number → scope_around dies limit (Some number) ≡ None
unfolding scope_around
around_past dies zero number past = refl
around_past dies (suc limit) number past = cond-false _ _ _ (ne_eqb _ _ (λ (e : number ≡ limit). absurd (omega arith))) ∙ around_past dies limit number (omega arith)

around_here : (dies : List DieFields) (limit number : ℕ) → number < limit → scope_around dies limit (Some number) ≡ option_and_then (from_here dies number) (slice_get dies number)
unfolding scope_around
around_here dies zero number below = absurd (omega arith)
around_here dies (suc limit) number below = grind (arith, nat_tests, around_here dies limit number, below)

entry_here : (dies : List DieFields) (limit number : ℕ) (next whole : Option ℕ) (o : Option DieFields) → next ≡ Some number → number < limit → o ≡ slice_get dies number → scope_around dies limit next ≡ whole → option_and_then (from_here dies number) o ≡ whole
entry_here dies limit number next whole o to below is rest =
    ap (option_and_then (from_here dies number)) is ∙ sym (around_here dies limit number below) ∙ ap (scope_around dies limit) (sym to) ∙ rest

pub ends_none : (dies : List DieFields) (limit : ℕ) (next whole : Option ℕ) → next ≡ None → scope_around dies limit next ≡ whole → None ≡ whole
ends_none dies limit next whole to rest = sym (around_none dies limit) ∙ ap (scope_around dies limit) (sym to) ∙ rest

pub ends_past : (dies : List DieFields) (limit number : ℕ) (next whole : Option ℕ) → next ≡ Some number → limit ≤ number → scope_around dies limit next ≡ whole → None ≡ whole
ends_past dies limit number next whole to past rest = sym (around_past dies limit number past) ∙ ap (scope_around dies limit) (sym to) ∙ rest

pub ends_lost : (dies : List DieFields) (limit number : ℕ) (next whole : Option ℕ) → next ≡ Some number → number < limit → None ≡ slice_get dies number → scope_around dies limit next ≡ whole → None ≡ whole
ends_lost dies limit number next whole to below is rest = entry_here dies limit number next whole None to below is rest

pub ends_found : (dies : List DieFields) (limit number : ℕ) (d : DieFields) (next whole : Option ℕ) → next ≡ Some number → number < limit → Some d ≡ slice_get dies number → is_scope d ≡ true → scope_around dies limit next ≡ whole → Some number ≡ whole
ends_found dies limit number d next whole to below is says rest = sym (cond-true _ _ _ says) ∙ entry_here dies limit number next whole (Some d) to below is rest

pub goes_on : (dies : List DieFields) (limit number : ℕ) (d : DieFields) (next after whole : Option ℕ) → next ≡ Some number → number < limit → Some d ≡ slice_get dies number → is_scope d ≡ false → scope_around dies limit next ≡ whole → after ≡ d.parent → scope_around dies number after ≡ whole
goes_on dies limit number d next after whole to below is says rest going =
    ap (scope_around dies number) going ∙ sym (cond-false _ _ _ says) ∙ entry_here dies limit number next whole (Some d) to below is rest

pub ends_known : (dies : List DieFields) (near : List (Option ℕ)) (limit number : ℕ) (d : DieFields) (next whole known : Option ℕ) → AreNear dies near → Some known ≡ slice_get near number → next ≡ Some number → number < limit → Some d ≡ slice_get dies number → is_scope d ≡ false → scope_around dies limit next ≡ whole → known ≡ whole
ends_known dies near limit number d next whole known are there to below is says rest =
    are number known (sym there)
    ∙ ap (option_and_then (λ (die : DieFields). scope_around dies number die.parent)) (sym is)
    ∙ goes_on dies limit number d next d.parent whole to below is says rest refl

-- The nearest scope around the entry at an index.
pub of_entry : (dies : List DieFields) (entry : ℕ) (d : DieFields) (found parent : Option ℕ) → Some d ≡ slice_get dies entry → parent ≡ d.parent → found ≡ scope_around dies entry parent → found ≡ scope_of dies entry
of_entry dies entry d found parent is from same =
    same ∙ ap (scope_around dies entry) from ∙ ap (option_and_then (λ (die : DieFields). scope_around dies entry die.parent)) is

pub of_none : (dies : List DieFields) (entry : ℕ) → None ≡ slice_get dies entry → None ≡ scope_of dies entry
of_none dies entry is = ap (option_and_then (λ (die : DieFields). scope_around dies entry die.parent)) is

-- A list of the nearest scopes around the first entries: the empty list, and one more member.
pub near_none : (dies : List DieFields) → AreNear dies []
near_none dies entry said got = absurd (omega (arith, slice_get_within [] entry said got))

last_is : (dies : List DieFields) (near : List (Option ℕ)) (last said : Option ℕ) (entry : ℕ) → entry ≡ length near → slice_get (near ++ last ∷ []) entry ≡ Some said → slice_get (near ++ last ∷ []) (length near) ≡ Some last → last ≡ scope_of dies (length near) → said ≡ scope_of dies entry
last_is dies near last said entry here got told is = cc

pub near_more : (dies : List DieFields) (near : List (Option ℕ)) (last : Option ℕ) → AreNear dies near → last ≡ scope_of dies (length near) → AreNear dies (near ++ last ∷ [])
near_more dies near last are is entry said got =
    ⊎_elim
    (λ less. are entry said (sym (get_before near (last ∷ []) entry less) ∙ got))
    (λ from. last_is dies near last said entry (omega (arith, from, slice_get_within (near ++ last ∷ []) entry said got, length-append near (last ∷ []))) got (get_last near last) is)
    (cases_lt entry (length near))
