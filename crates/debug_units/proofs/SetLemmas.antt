-- Sets that are stored by their numbers; for `SpanSets`.
use Rattle.std.proofs.Common.{◌≡◌, ◌<◌, ℕ, zero, suc, List, [], ◌∷◌, ◌++◌, length, Some, None, refl, arith, sym, ap, subst, ◌∙◌}
use Rattle.std.specs.List.{All, slice_get}
use Rattle.std.proofs.lemmas.List.{get_or_append_left, length_push}
use Rattle.std.proofs.lemmas.List.Elements.{All-nil, All-push, All-weaker, All-get_or, All-head, All-tail}
use Rattle.std.proofs.lemmas.Option.{slice_get_within, slice_get-get_or, get_or_from_slice_get, same_Some}
use Rattle.std.proofs.Math.Seq.{get_or-append_seam}
use Rattle.sym_edges.specs.Addresses.{Range}
use Rattle.range_set.specs.Canonical.{IsCanonical}
use Rattle.debug_units.specs.internal.NumberedSets.{set_of, sets_of, AreNumbered}

-- Without entries, there is only the empty set.
pub none_numbered : (sets before : List (List Range)) (numbers : List ℕ) → before ≡ [] → sets ≡ before ++ [] ∷ [] → numbers ≡ [] → AreNumbered sets numbers
none_numbered sets before numbers none is empty =
    rw (empty, is, none) (record { there = All-nil (λ number. number < 1); canonical = All-push IsCanonical [] [] (All-nil IsCanonical) tt; some = omega arith; empty = refl })

pub numbered_kept : (sets more : List (List Range)) (numbers later : List ℕ) → AreNumbered sets numbers → more ≡ sets → later ≡ numbers → AreNumbered more later
numbered_kept sets more numbers later are same kept = rw (same, kept) are

-- One entry more, with a set that is already there.
pub number_added : (sets : List (List Range)) (numbers more : List ℕ) (number : ℕ) → AreNumbered sets numbers → number < length sets → more ≡ numbers ++ number ∷ [] → AreNumbered sets more
number_added sets numbers more number are there is =
    rw is (record { there = All-push (λ n. n < length sets) numbers number are.there there; canonical = are.canonical; some = are.some; empty = are.empty })

sets_and : (sets : List (List Range)) (numbers : List ℕ) (number : ℕ) → sets_of sets (numbers ++ number ∷ []) ≡ sets_of sets numbers ++ set_of sets number ∷ []
sets_and sets [] number = refl
sets_and sets (n ∷ numbers) number = ap (λ later. set_of sets n ∷ later) (sets_and sets numbers number)

pub empty_added : (sets : List (List Range)) (numbers more : List ℕ) → AreNumbered sets numbers → more ≡ numbers ++ 0 ∷ [] → sets_of sets more ≡ sets_of sets numbers ++ [] ∷ []
empty_added sets numbers more are is = ap (sets_of sets) is ∙ sets_and sets numbers 0 ∙ ap (λ s. sets_of sets numbers ++ s ∷ []) are.empty

-- One entry more, with a new set.
same_sets : (sets : List (List Range)) (set : List Range) (numbers : List ℕ) → All (λ n. n < length sets) numbers → sets_of (sets ++ set ∷ []) numbers ≡ sets_of sets numbers
same_sets sets set [] there = refl
same_sets sets set (n ∷ numbers) there =
    rw (get_or_append_left sets (set ∷ []) [] n (All-head (λ n. n < length sets) n numbers there), same_sets sets set numbers (All-tail (λ n. n < length sets) n numbers there)) refl

pub set_numbered : (sets more : List (List Range)) (numbers later : List ℕ) (set : List Range) (number : ℕ) → AreNumbered sets numbers → IsCanonical set → number ≡ length sets → more ≡ sets ++ set ∷ [] → later ≡ numbers ++ number ∷ [] → AreNumbered more later
set_numbered sets more numbers later set number are canonical at is grown =
    let long = length_push sets set in
    rw is (number_added (sets ++ set ∷ []) numbers later number
    (record {
      there = All-weaker (λ n. n < length sets) (λ n. n < length (sets ++ set ∷ [])) (λ n below. omega (arith, below, long)) numbers are.there;
      canonical = All-push IsCanonical sets set are.canonical canonical;
      some = omega (arith, are.some, long);
      empty = get_or_append_left sets (set ∷ []) [] 0 are.some ∙ are.empty;
    })
    (omega (arith, at, long)) grown)

pub set_added : (sets more : List (List Range)) (numbers later : List ℕ) (set : List Range) (number : ℕ) → AreNumbered sets numbers → number ≡ length sets → more ≡ sets ++ set ∷ [] → later ≡ numbers ++ number ∷ [] → sets_of more later ≡ sets_of sets numbers ++ set ∷ []
set_added sets more numbers later set number are at is grown =
    rw (is, grown, sets_and (sets ++ set ∷ []) numbers number, same_sets sets set numbers are.there, at, get_or-append_seam sets set [] []) refl

-- The set that an entry's number gives.
pub set_there : (sets : List (List Range)) (numbers : List ℕ) (entry number : ℕ) → Some number ≡ slice_get numbers entry → slice_get (sets_of sets numbers) entry ≡ Some (set_of sets number)
set_there sets [] entry number is = absurd (cc)
set_there sets (n ∷ numbers) zero number is = grind (arith, is)
set_there sets (n ∷ numbers) (suc entry) number is = set_there sets numbers entry number is

pub none_there : (sets : List (List Range)) (numbers : List ℕ) (entry : ℕ) → None ≡ slice_get numbers entry → None ≡ slice_get (sets_of sets numbers) entry
none_there sets [] entry is = refl
none_there sets (n ∷ numbers) zero is = absurd (cc)
none_there sets (n ∷ numbers) (suc entry) is = none_there sets numbers entry is

pub number_there : (sets : List (List Range)) (numbers : List ℕ) (entry number : ℕ) → AreNumbered sets numbers → Some number ≡ slice_get numbers entry → number < length sets
number_there sets numbers entry number are is =
    subst (λ n. n < length sets) (get_or_from_slice_get numbers entry number 0 (sym is)) (All-get_or (λ n. n < length sets) numbers entry 0 (slice_get_within numbers entry number (sym is)) are.there)

pub empty_there : (sets : List (List Range)) (numbers : List ℕ) (entry number : ℕ) → AreNumbered sets numbers → Some number ≡ slice_get numbers entry → number ≡ 0 → Some [] ≡ slice_get (sets_of sets numbers) entry
empty_there sets numbers entry number are is none =
    sym (set_there sets numbers entry number is ∙ ap (λ n. Some (set_of sets n)) none ∙ ap Some are.empty)

pub by_number : (sets : List (List Range)) (numbers : List ℕ) (entry number : ℕ) → AreNumbered sets numbers → Some number ≡ slice_get numbers entry → slice_get sets number ≡ slice_get (sets_of sets numbers) entry
by_number sets numbers entry number are is =
    slice_get-get_or sets number [] (number_there sets numbers entry number are is) ∙ sym (set_there sets numbers entry number is)

pub canonical_there : (sets : List (List Range)) (numbers : List ℕ) (k : ℕ) (set : List Range) → AreNumbered sets numbers → Some set ≡ slice_get sets k → IsCanonical set
canonical_there sets numbers k set are there =
    subst IsCanonical (get_or_from_slice_get sets k set [] (sym there)) (All-get_or IsCanonical sets k [] (slice_get_within sets k set (sym there)) are.canonical)

-- One entry more, with the set of an earlier entry.
pub never_past : (sets : List (List Range)) (numbers : List ℕ) (entry : ℕ) → entry < length (sets_of sets numbers) → None ≡ slice_get numbers entry → ⊥
never_past sets [] entry there none = omega arith
never_past sets (n ∷ numbers) zero there none = cc
never_past sets (n ∷ numbers) (suc entry) there none = never_past sets numbers entry (omega (arith, there)) none

pub again_added : (sets : List (List Range)) (numbers more : List ℕ) (entry number : ℕ) (set : List Range) → Some number ≡ slice_get numbers entry → more ≡ numbers ++ number ∷ [] → slice_get (sets_of sets numbers) entry ≡ Some set → sets_of sets more ≡ sets_of sets numbers ++ set ∷ []
again_added sets numbers more entry number set is grown there =
    let same = same_Some (set_of sets number) set (sym (set_there sets numbers entry number is) ∙ there) in
    ap (sets_of sets) grown ∙ sets_and sets numbers number ∙ ap (λ s. sets_of sets numbers ++ s ∷ []) same

-- Two entries with the same number have the same set.
pub same_there : (sets : List (List Range)) (numbers : List ℕ) (one other first second : ℕ) → Some first ≡ slice_get numbers one → Some second ≡ slice_get numbers other → first ≡ second → slice_get (sets_of sets numbers) one ≡ slice_get (sets_of sets numbers) other
same_there sets numbers one other first second at there same =
    set_there sets numbers one first at ∙ ap (λ n. Some (set_of sets n)) same ∙ sym (set_there sets numbers other second there)
