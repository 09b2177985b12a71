-- The chain of an address, level by level.
use Rattle.std.proofs.Common.{◌≡◌, ℕ, zero, suc, ◌+◌, ◌≤◌, ◌==◌, ◌&&◌, Bool, true, false, if◌then◌else◌, List, [], ◌∷◌, Option, None, Some, option_and_then, arith, refl, sym, ap, subst, ◌∙◌}
use Rattle.std.proofs.lemmas.Bool.{cond-false, ne_eqb}
use Rattle.std.specs.List.{find, slice_get}
use Rattle.std.specs.Option.{option_map, option_map_or}
use Rattle.sym_edges.specs.Addresses.{Range}
use Rattle.range_set.specs.Members.{holds_any}
use Rattle.die_walk.specs.EntryTable.{DieFields}
use Rattle.debug_units.specs.declared.unit_read.UnitRead.{UnitRead}
use Rattle.die_walk.specs.EntryKinds.{is_inlined}
use Rattle.debug_units.specs.Owners.{Covering, inside_of, chain_from, unit_covering, chain_by, entry_chain}
use Rattle.func_flatten.specs.declared.piece.Piece.{Piece}
use Rattle.func_flatten.specs.Publics.{is_inside}
use Rattle.inline_chain.specs.InlineRuns.{is_on_chain}
use Rattle.inline_chain.specs.Trees.{is_number, first_child, child_at}
use Rattle.inline_chain.specs.internal.Levels.{child_under, depth_at}
use Rattle.inline_chain.proofs.InsideLemmas.{IsBelow, inside_below}

-- Whether an entry is an inlined copy directly in an entry and has the address.
abbrev is_child : List DieFields → ℕ → ℕ → Covering → Bool
is_child dies a entry c = is_inlined c.die && (holds_any c.spans a && option_map_or (λ e. e == entry) (inside_of dies c.entry c.die.parent) false)

not_above : (e n : ℕ) (o : Option ℕ) → IsBelow n o → n ≤ e → option_map_or (λ x. x == e) o false ≡ false
not_above e n None below above = refl
not_above e n (Some x) below above = ne_eqb x e (λ (is : x ≡ e). absurd (omega (arith, below)))

and_false : (p q r : Bool) → r ≡ false → (p && (q && r)) ≡ false
and_false true true r is = is
and_false true false r is = refl
and_false false q r is = refl

-- An entry is not in an entry after it.
not_child : (dies : List DieFields) (a e : ℕ) (c : Covering) → c.entry ≤ e → is_child dies a e c ≡ false
not_child dies a e c above = and_false (is_inlined c.die) (holds_any c.spans a) _ (not_above e c.entry (inside_of dies c.entry c.die.parent) (inside_below dies c.entry c.die.parent) above)

-- The entries are numbered.
abbrev Numbered : ℕ → List Covering → Type 0
Numbered n [] = Prim.Unit {0}
Numbered n (c ∷ cs) = (c.entry ≡ n) × Numbered (n + 1) cs

numbered : (unit n : ℕ) (dies : List DieFields) (sets : List (List Range)) → Numbered n (unit_covering unit n dies sets)
numbered unit n [] sets = tt
numbered unit n (die ∷ dies) [] = tt
numbered unit n (die ∷ dies) (spans ∷ sets) = (refl, numbered unit (n + 1) dies sets)

abbrev IsFrom : ℕ → Option Covering → Type 0
IsFrom n None = Prim.Unit {0}
IsFrom n (Some c) = n ≤ c.entry

from_less : (n : ℕ) (o : Option Covering) → IsFrom (n + 1) o → IsFrom n o
from_less n None is = tt
from_less n (Some c) is = omega (arith, is)

found_from : (t : Covering → Bool) (n : ℕ) (cs : List Covering) → Numbered n cs → IsFrom n (find t cs)
found_from t n [] is = tt
found_from t n (c ∷ cs) is = go (t c) (omega (arith, is.0)) (from_less n (find t cs) (found_from t (n + 1) cs is.1))
  where
    go : (b : Bool) → n ≤ c.entry → IsFrom n (find t cs) → IsFrom n (if b then Some c else find t cs)
    go true here later = here
    go false here later = later

-- The first copy, followed by the copies in it.
abbrev chain_step : List DieFields → ℕ → List Covering → Option Covering → List Covering
chain_step dies a cs None = []
chain_step dies a cs (Some c) = c ∷ chain_from dies a c.entry cs

passed : (dies : List DieFields) (a e : ℕ) (c : Covering) (cs : List Covering) → c.entry ≤ e → chain_from dies a e (c ∷ cs) ≡ chain_from dies a e cs
passed dies a e c cs above = cond-false _ _ _ (not_child dies a e c above)

step_more : (dies : List DieFields) (a : ℕ) (c : Covering) (cs : List Covering) (o : Option Covering) → IsFrom (c.entry + 1) o → chain_step dies a cs o ≡ chain_step dies a (c ∷ cs) o
step_more dies a c cs None from = refl
step_more dies a c cs (Some d) from = ap (λ l. d ∷ l) (sym (passed dies a d.entry c cs (omega (arith, from))))

chain_steps : (dies : List DieFields) (a e n : ℕ) (cs : List Covering) → Numbered n cs → chain_from dies a e cs ≡ chain_step dies a cs (find (is_child dies a e) cs)
chain_steps dies a e n [] is = refl
chain_steps dies a e n (c ∷ cs) is = go (is_child dies a e c) (chain_steps dies a e (n + 1) cs is.1)
  where
    found : IsFrom (c.entry + 1) (find (is_child dies a e) cs)
    found = subst (λ k. IsFrom (k + 1) (find (is_child dies a e) cs)) (sym is.0) (found_from (is_child dies a e) (n + 1) cs is.1)

    go : (b : Bool) → chain_from dies a e cs ≡ chain_step dies a cs (find (is_child dies a e) cs) → (if b then c ∷ chain_from dies a c.entry cs else chain_from dies a e cs) ≡ chain_step dies a (c ∷ cs) (if b then Some c else find (is_child dies a e) cs)
    go true later = ap (λ l. c ∷ l) (sym (passed dies a c.entry c cs (omega arith)))
    go false later = later ∙ step_more dies a c cs (find (is_child dies a e) cs) found

number_is : (e : ℕ) (o : Option ℕ) → option_map_or (λ x. x == e) o false ≡ is_number e o
number_is e None = refl
number_is e (Some x) = refl

-- The first copy directly in an entry, by its number.
first_is : (all : List DieFields) (a e unit n : ℕ) (dies : List DieFields) (sets : List (List Range)) → option_map (λ c. c.entry) (find (is_child all a e) (unit_covering unit n dies sets)) ≡ first_child all a e n dies sets
first_is all a e unit n [] sets = refl
first_is all a e unit n (die ∷ dies) [] = refl
first_is all a e unit n (die ∷ dies) (spans ∷ sets) =
    ap (λ t. option_map (λ (c : Covering). c.entry) (if is_inlined die && (holds_any spans a && t) then Some here else find (is_child all a e) (unit_covering unit (n + 1) dies sets))) (number_is e (inside_of all n die.parent))
    ∙ go (is_inlined die && (holds_any spans a && is_number e (inside_of all n die.parent))) (first_is all a e unit (n + 1) dies sets)
  where
    here : Covering
    here = record { unit = unit; entry = n; die = die; spans = spans }

    go : (b : Bool) → option_map (λ c. c.entry) (find (is_child all a e) (unit_covering unit (n + 1) dies sets)) ≡ first_child all a e (n + 1) dies sets → option_map (λ c. c.entry) (if b then Some here else find (is_child all a e) (unit_covering unit (n + 1) dies sets)) ≡ (if b then Some n else first_child all a e (n + 1) dies sets)
    go true later = refl
    go false later = later

-- The entry at each depth below an entry.
from_at : UnitRead → ℕ → ℕ → ℕ → Option ℕ
from_at part a zero e = child_at part e a
from_at part a (suc k) e = option_and_then (from_at part a k) (child_at part e a)

under_none : (part : UnitRead) (a k e : ℕ) → child_at part e a ≡ None → from_at part a (suc k) e ≡ None
unfolding from_at
under_none part a k e is = ap (λ o. option_and_then (from_at part a k) o) is

under_some : (part : UnitRead) (a k e m : ℕ) → child_at part e a ≡ Some m → from_at part a (suc k) e ≡ from_at part a k m
unfolding from_at
under_some part a k e m is = ap (λ o. option_and_then (from_at part a k) o) is

under_from : (part : UnitRead) (a k e : ℕ) → child_under part (from_at part a k e) a ≡ from_at part a (suc k) e
unfolding from_at
under_from part a zero e = go (child_at part e a)
  where
    go : (o : Option ℕ) → child_under part o a ≡ option_and_then (λ m. child_at part m a) o
    go None = refl
    go (Some m) = refl
under_from part a (suc k) e = go (child_at part e a) (under_from part a k)
  where
    go : (o : Option ℕ) → ((m : ℕ) → child_under part (from_at part a k m) a ≡ from_at part a (suc k) m) → child_under part (option_and_then (from_at part a k) o) a ≡ option_and_then (from_at part a (suc k)) o
    go None later = refl
    go (Some m) later = later m

depth_from : (part : UnitRead) (a k e : ℕ) → depth_at part e (suc k) a ≡ from_at part a k e
unfolding depth_at from_at
depth_from part a zero e = refl
depth_from part a (suc k) e = ap (λ o. child_under part o a) (depth_from part a k e) ∙ under_from part a k e

copies : UnitRead → ℕ → List Covering
copies part unit = unit_covering unit 0 part.die.dies part.spans

first_at : (part : UnitRead) (unit a e : ℕ) (o : Option Covering) → option_map (λ c. c.entry) o ≡ child_at part e a
    → option_map (λ c. c.entry) (slice_get (chain_step part.die.dies a (copies part unit) o) 0) ≡ from_at part a 0 e
unfolding from_at
first_at part unit a e None is = is
first_at part unit a e (Some c) is = is

later_at : (part : UnitRead) (unit a k e : ℕ) (o : Option Covering) → option_map (λ c. c.entry) o ≡ child_at part e a
    → ((m : ℕ) → option_map (λ c. c.entry) (slice_get (chain_from part.die.dies a m (copies part unit)) k) ≡ from_at part a k m)
    → option_map (λ c. c.entry) (slice_get (chain_step part.die.dies a (copies part unit) o) (suc k)) ≡ from_at part a (suc k) e
later_at part unit a k e None is later = sym (under_none part a k e (sym is))
later_at part unit a k e (Some c) is later = later c.entry ∙ sym (under_some part a k e c.entry (sym is))

chain_at : (part : UnitRead) (unit a k e : ℕ) → option_map (λ c. c.entry) (slice_get (chain_from part.die.dies a e (copies part unit)) k) ≡ from_at part a k e
unfolding child_at copies
chain_at part unit a zero e =
    ap (λ l. option_map (λ (c : Covering). c.entry) (slice_get l 0)) (chain_steps part.die.dies a e 0 (copies part unit) (numbered unit 0 part.die.dies part.spans))
    ∙ first_at part unit a e (find (is_child part.die.dies a e) (copies part unit)) (first_is part.die.dies a e unit 0 part.die.dies part.spans)
chain_at part unit a (suc k) e =
    ap (λ l. option_map (λ (c : Covering). c.entry) (slice_get l (suc k))) (chain_steps part.die.dies a e 0 (copies part unit) (numbered unit 0 part.die.dies part.spans))
    ∙ later_at part unit a k e (find (is_child part.die.dies a e) (copies part unit)) (first_is part.die.dies a e unit 0 part.die.dies part.spans) (λ m. chain_at part unit a k m)

by_number : (entry : ℕ) (o : Option Covering) → option_map_or (λ c. c.entry == entry) o false ≡ is_number entry (option_map (λ c. c.entry) o)
by_number entry None = refl
by_number entry (Some c) = refl

-- Whether an entry is on the chain at a level, given the entry at that depth.
pub on_chain : (units : List UnitRead) (piece : Piece) (part : UnitRead) (level entry a : ℕ) → slice_get units piece.unit ≡ Some part
    → is_on_chain units piece level entry a ≡ (is_inside a piece && is_number entry (depth_at part piece.entry (level + 1) a))
unfolding is_on_chain entry_chain copies
on_chain units piece part level entry a is =
    ap (λ o. is_inside a piece && option_map_or (λ (c : Covering). c.entry == entry) (slice_get (chain_by piece.unit piece.entry a o) level) false) is
    ∙ ap (λ t. is_inside a piece && t)
    (by_number entry (slice_get (chain_by piece.unit piece.entry a (Some part)) level)
    ∙ ap (is_number entry) (chain_at part piece.unit a level piece.entry ∙ sym (depth_from part a level piece.entry) ∙ ap (λ n. depth_at part piece.entry n a) (let next : suc level ≡ level + 1 = omega arith in next)))

pub no_unit : (units : List UnitRead) (piece : Piece) (level entry a : ℕ) → slice_get units piece.unit ≡ None → is_on_chain units piece level entry a ≡ false
unfolding is_on_chain entry_chain
no_unit units piece level entry a is =
    ap (λ o. is_inside a piece && option_map_or (λ (c : Covering). c.entry == entry) (slice_get (chain_by piece.unit piece.entry a o) level) false) is
    ∙ none (is_inside a piece)
  where
    none : (b : Bool) → (b && false) ≡ false
    none true = refl
    none false = refl
