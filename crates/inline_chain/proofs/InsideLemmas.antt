-- The subprogram or inlined copy around an entry.
use Rattle.std.proofs.Common.{◌≡◌, ℕ, zero, suc, ◌<◌, ◌≤◌, ◌==◌, ◌||◌, Bool, true, false, if◌then◌else◌, List, [], ◌∷◌, Option, None, Some, arith, refl, sym, ap, subst, ◌∙◌, ⊎_elim}
use Rattle.std.proofs.lemmas.Bool.{cond-true, cond-false, eq-eqb, ne_eqb, cases_lt}
use Rattle.std.specs.List.{slice_get, slice_index_or}
use Rattle.std.specs.Option.{option_map_or}
use Rattle.die_walk.specs.EntryTable.{DieFields}
use Rattle.die_walk.specs.EntryKinds.{is_inlined}
use Rattle.debug_units.specs.Owners.{inside_of}
use Rattle.inline_chain.specs.internal.Copies.{SaysInside}

inside_nothing : (dies : List DieFields) (limit : ℕ) → inside_of dies limit None ≡ None
unfolding inside_of
inside_nothing dies zero = refl
inside_nothing dies (suc limit) = inside_nothing dies limit

pub inside_none : (dies : List DieFields) (limit : ℕ) (parent : Option ℕ) → parent ≡ None → None ≡ inside_of dies limit parent
inside_none dies limit parent is = sym (ap (inside_of dies limit) is ∙ inside_nothing dies limit)

past : (dies : List DieFields) (limit number : ℕ) → limit ≤ number → inside_of dies limit (Some number) ≡ None
unfolding inside_of
past dies zero number above = refl
past dies (suc limit) number above = cond-false _ _ _ (ne_eqb _ _ (λ (e : number ≡ limit). absurd (omega arith))) ∙ past dies limit number (omega arith)

pub inside_past : (dies : List DieFields) (limit number : ℕ) (parent : Option ℕ) → parent ≡ Some number → limit ≤ number → None ≡ inside_of dies limit parent
inside_past dies limit number parent is above = sym (ap (inside_of dies limit) is ∙ past dies limit number above)

lost : (dies : List DieFields) (limit number : ℕ) → number < limit → slice_get dies number ≡ None → inside_of dies limit (Some number) ≡ None
unfolding inside_of
lost dies zero number below is = absurd (omega arith)
lost dies (suc limit) number below is =
    ⊎_elim
    (λ less. cond-false _ _ _ (ne_eqb _ _ (λ (e : number ≡ limit). absurd (omega arith))) ∙ lost dies limit number less is)
    (λ from.
    let here : limit ≡ number = omega arith in
    cond-true _ _ _ (eq-eqb _ _ (sym here))
    ∙ subst (λ n. option_map_or (λ die. if die.tag == 0x2e || is_inlined die then Some n else inside_of dies n die.parent) (slice_get dies n) None ≡ None) (sym here)
    (ap (λ o. option_map_or (λ die. if die.tag == 0x2e || is_inlined die then Some number else inside_of dies number die.parent) o None) is))
    (cases_lt number limit)

pub inside_lost : (dies : List DieFields) (limit number : ℕ) (parent : Option ℕ) → parent ≡ Some number → number < limit → slice_get dies number ≡ None → None ≡ inside_of dies limit parent
inside_lost dies limit number parent is below none = sym (ap (inside_of dies limit) is ∙ lost dies limit number below none)

-- The answer, given the parent of the entry.
around_by : List DieFields → ℕ → DieFields → Option ℕ
around_by dies number d = if d.tag == 0x2e || is_inlined d then Some number else inside_of dies number d.parent

step : (dies : List DieFields) (limit number : ℕ) (d : DieFields) → number < limit → slice_get dies number ≡ Some d → inside_of dies limit (Some number) ≡ around_by dies number d
unfolding inside_of around_by
step dies zero number d below is = absurd (omega arith)
step dies (suc limit) number d below is =
    ⊎_elim
    (λ less. cond-false _ _ _ (ne_eqb _ _ (λ (e : number ≡ limit). absurd (omega arith))) ∙ step dies limit number d less is)
    (λ from.
    let here : limit ≡ number = omega arith in
    cond-true _ _ _ (eq-eqb _ _ (sym here))
    ∙ subst (λ n. option_map_or (λ die. if die.tag == 0x2e || is_inlined die then Some n else inside_of dies n die.parent) (slice_get dies n) None ≡ around_by dies number d) (sym here)
    (ap (λ o. option_map_or (λ die. if die.tag == 0x2e || is_inlined die then Some number else inside_of dies number die.parent) o None) is))
    (cases_lt number limit)

pub inside_own : (dies : List DieFields) (limit number : ℕ) (d : DieFields) (parent : Option ℕ) → parent ≡ Some number → number < limit → slice_get dies number ≡ Some d → (d.tag == 0x2e || is_inlined d) ≡ true
    → Some number ≡ inside_of dies limit parent
unfolding around_by
inside_own dies limit number d parent is below found own = sym (ap (inside_of dies limit) is ∙ step dies limit number d below found ∙ cond-true _ _ _ own)

pub inside_outer : (dies : List DieFields) (limit number : ℕ) (d : DieFields) (parent : Option ℕ) → parent ≡ Some number → number < limit → slice_get dies number ≡ Some d → (d.tag == 0x2e || is_inlined d) ≡ false
    → inside_of dies number d.parent ≡ inside_of dies limit parent
unfolding around_by
inside_outer dies limit number d parent is below found own = sym (ap (inside_of dies limit) is ∙ step dies limit number d below found ∙ cond-false _ _ _ own)

pub taken : {X : Type 0} (xs : List X) (k : ℕ) (d x : X) → slice_get xs k ≡ Some x → slice_index_or xs k d ≡ x
taken [] k d x is = absurd (cc)
taken (y ∷ xs) zero d x is = (let same : Some y ≡ Some x = is in cc)
taken (y ∷ xs) (suc k) d x is = taken xs k d x is

pub inside_row : (dies : List DieFields) (row : List (Option ℕ)) (limit number : ℕ) (d : DieFields) (parent : Option ℕ) → SaysInside dies row limit → parent ≡ Some number → number < limit → slice_get dies number ≡ Some d
    → (d.tag == 0x2e || is_inlined d) ≡ false → slice_index_or row number None ≡ inside_of dies limit parent
inside_row dies row limit number d parent says is below found own =
    taken row number None _ (says.each number d below found) ∙ inside_outer dies limit number d parent is below found own

-- The entry that is found comes before the entry.
abbrev pub IsBelow : ℕ → Option ℕ → Type 0
IsBelow n None = Prim.Unit {0}
IsBelow n (Some e) = e < n

below_if : (n : ℕ) (b : Bool) (x y : Option ℕ) → IsBelow n x → IsBelow n y → IsBelow n (if b then x else y)
below_if n true x y p q = p
below_if n false x y p q = q

below_map : (n : ℕ) (f : DieFields → Option ℕ) (o : Option DieFields) → ((d : DieFields) → IsBelow n (f d)) → IsBelow n (option_map_or f o None)
below_map n f None p = tt
below_map n f (Some d) p = p d

below_more : (n : ℕ) (o : Option ℕ) → IsBelow n o → IsBelow (suc n) o
below_more n None p = tt
below_more n (Some e) p = omega (arith, p)

pub inside_below : (dies : List DieFields) (limit : ℕ) (parent : Option ℕ) → IsBelow limit (inside_of dies limit parent)
unfolding inside_of
inside_below dies zero parent = tt
inside_below dies (suc limit) parent =
    below_if (suc limit) (option_map_or (λ p. p == limit) parent false) _ _
    (below_map (suc limit) (λ die. if die.tag == 0x2e || is_inlined die then Some limit else inside_of dies limit die.parent) (slice_get dies limit)
    (λ d. below_if (suc limit) (d.tag == 0x2e || is_inlined d) _ _ (omega arith) (below_more limit _ (inside_below dies limit d.parent))))
    (below_more limit _ (inside_below dies limit parent))
