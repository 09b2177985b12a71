-- A stored state after a CIE is right for the entries that follow; for `make`, `new`,
-- `put_entries`.
use Rattle.std.proofs.Common.{◌≡◌, ℕ, ◌<◌, Bool, true, false, cond, List, [], length, get_or, Option, Some, None, Result, refl, sym, ◌∙◌, ap, arith, subst}
use Rattle.std.specs.Prelude.{is_some}
use Rattle.std.specs.Ordering.{nat_cmp}
use Rattle.std.specs.BTreeMap.{get, is_at, Updates}
use Rattle.std.specs.Map.{lookup}
use Rattle.std.proofs.lemmas.Bool.Decides.{nat_tests}
use Rattle.std.proofs.lemmas.List.{get_or_default}
use Rattle.frame_entries.specs.FdeFields.{FdeFields}
use Rattle.frame_entries.specs.SharedCies.{HaveOneCie, ShareCies}
use Rattle.frame_entries.specs.declared.description.Body.TheVariants.{Good}
use Rattle.frame_entries.specs.declared.description.Entry.{Entry}
use Rattle.sym_edges.specs.declared.reason.Reason.{Reason}
use Rattle.frame_rows.specs.Left.{Left}
use Rattle.frame_rows.specs.CieLeft.{cie_left}
use Rattle.frame_rows.proofs.LeftLemmas.{one_left}
use Rattle.rule_postfix.specs.declared.cie_states.CieStates.{CieStates}
use Rattle.rule_postfix.specs.internal.Keeping.{IsStateOf, KeptFor, KeptForAll, StaysKept}

-- There is no state.
pub none_kept : (states : CieStates) (e : FdeFields) → states.by_place.entries ≡ [] → KeptFor states e
none_kept states e empty =
    let out : get nat_cmp states.by_place e.cie ≡ None = ap (λ es. lookup (is_at (nat_cmp e.cie)) es) empty in
    let P : Option (Result Left Reason) → Type 0 = λ o. IsStateOf o e in
    subst P (sym out) tt

-- A state that is made is right for each entry of the CIE, and the other states do not change.
kept_by : (here : Bool) (state : Result Left Reason) (old found : Option (Result Left Reason)) (f : FdeFields) → found ≡ cond here (Some state) old → (here ≡ true → state ≡ cie_left f) → IsStateOf old f → IsStateOf found f
kept_by true state old found f is made was = let P : Option (Result Left Reason) → Type 0 = λ o. IsStateOf o f in subst P (sym is) (made refl)
kept_by false state old found f is made was = let P : Option (Result Left Reason) → Type 0 = λ o. IsStateOf o f in subst P (sym is) was

same_place : (a b : ℕ) → is_at (nat_cmp a) b ≡ true → a ≡ b
same_place a b is = grind (arith, nat_tests, is)

pub new_kept : (before after : CieStates) (e f : FdeFields) (place : ℕ) (state : Result Left Reason) → place ≡ e.cie → state ≡ cie_left e → Updates nat_cmp before.by_place after.by_place place (Some state) → KeptFor before f → (e.cie ≡ f.cie → HaveOneCie e f) → KeptFor after f
new_kept before after e f place state at is made was one =
    kept_by (is_at (nat_cmp place) f.cie) state (get nat_cmp before.by_place f.cie) (get nat_cmp after.by_place f.cie) f (made.0 f.cie)
    (λ here. is ∙ one_left e f (one (sym at ∙ same_place place f.cie here))) was

-- The state of the entry itself.
made_by : (here : Bool) (state : Result Left Reason) (old found : Option (Result Left Reason)) → found ≡ cond here (Some state) old → here ≡ true → found ≡ Some state
made_by true state old found is here = is
made_by false state old found is here = cc

at_itself : (a b : ℕ) → a ≡ b → is_at (nat_cmp a) b ≡ true
at_itself a b same = grind (arith, nat_tests, same)

pub is_made : (before after : CieStates) (e : FdeFields) (place : ℕ) (state : Result Left Reason) → place ≡ e.cie → state ≡ cie_left e → Updates nat_cmp before.by_place after.by_place place (Some state) → get nat_cmp after.by_place e.cie ≡ Some (cie_left e)
is_made before after e place state at is made =
    made_by (is_at (nat_cmp place) e.cie) state (get nat_cmp before.by_place e.cie) (get nat_cmp after.by_place e.cie) (made.0 e.cie) (at_itself place e.cie at) ∙ ap Some is

-- A state that is there.
there_by : (o : Option (Result Left Reason)) (e : FdeFields) → is_some o ≡ true → IsStateOf o e → o ≡ Some (cie_left e)
there_by None e there is = cc
there_by (Some state) e there is = ap Some is

pub is_there : (states : CieStates) (e : FdeFields) (place : ℕ) → place ≡ e.cie → true ≡ is_some (get nat_cmp states.by_place place) → KeptFor states e → get nat_cmp states.by_place e.cie ≡ Some (cie_left e)
is_there states e place at there is = there_by (get nat_cmp states.by_place e.cie) e (sym (there ∙ ap (λ k. is_some (get nat_cmp states.by_place k)) at)) is

other_default : (entries : List Entry) (j : ℕ) (d d2 : Entry) (f : FdeFields) → j < length entries → (get_or entries j d).body ≡ Good f → (get_or entries j d2).body ≡ Good f
other_default entries j d d2 f there good = ap (λ (x : Entry). x.body) (get_or_default entries j d2 d there) ∙ good

-- The entry at an index of a list.
pub kept_at : (entries : List Entry) (i : ℕ) (entry : Entry) (kept : CieStates) → i < length entries → entry ≡ get_or entries i entry → KeptForAll kept entries → (e : FdeFields) → entry.body ≡ Good e → KeptFor kept e
kept_at entries i entry kept inside same all e good = all i entry e inside (sym (ap (λ (x : Entry). x.body) same) ∙ good)

-- All entries of a list share their CIEs.
pub kept_more : (entries : List Entry) (i : ℕ) (entry : Entry) (before after : CieStates) → ShareCies entries → i < length entries → entry ≡ get_or entries i entry → KeptForAll before entries → StaysKept entry before after → KeptForAll after entries
kept_more entries i entry before after share inside same kept stays j d f there good =
    stays f (kept j d f there good)
    (λ e is one. share.one i j entry e f inside there (sym (ap (λ (x : Entry). x.body) same) ∙ is) (other_default entries j d entry f there good) one)
