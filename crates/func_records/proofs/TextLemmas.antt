use Rattle.std.proofs.Common.{◌≡◌, ℕ, zero, suc, ◌+◌, ◌<◌, ◌≤◌, Bool, true, false, map, length, take, drop, get_or, ◌++◌, List, [], ◌∷◌, Some, arith, refl, sym, ap, subst, ◌∙◌, Bor, IsPermutation, Any, inl, inr}
use Rattle.std.proofs.lemmas.Bool.Decides.{leb_tells}
use Rattle.std.specs.List.{slice_get, slice_index_or}
use Rattle.std.specs.List.Sorted.{IsSorted, IsStrictlySortedBy, IsNonDecreasingBy, IsPartitionPoint}
use Rattle.std.specs.List.Retain.{IsFiltered, DiffersFromLast}
use Rattle.std.specs.Str.{bytes_eq}
use Rattle.std.specs.Ordering.{nat_cmp, eq_by_cmp, is_eq, is_lt, ordering_reverse, ordering_then, ordering_index}
use Rattle.std.specs.declared.cmp.Ordering.{Ordering}
use Rattle.std.proofs.Math.Seq.{take-append_seam}
use Rattle.std.proofs.lemmas.List.{length-map, map-append}
use Rattle.func_records.proofs.ListLemmas.{take_next}
use Rattle.std.specs.declared.cmp.Ordering.TheVariants.{Less, Equal, Greater}
use Rattle.std.specs.Cmp.{IsTotalOrder, IsEquivalence}
use Rattle.std.specs.Cmp.Lexicographic.{slice_cmp}
use Rattle.std.proofs.lemmas.Cmp.{nat_list_cmp_total, nat_list_eq_equiv, on_total, on_equiv, tied_itself}
use Rattle.std.proofs.lemmas.Map.Text.{is_eq-slice_cmp}
use Rattle.std.proofs.lemmas.Slice.Eq.{bytes_eq-Decides}
use Rattle.std.proofs.lemmas.List.Filters.{dedup_is}
use Rattle.std.proofs.lemmas.List.Kept.{IsStrictlySortedBy-dedup, Any-dedup, Contains-from_dedup}
use Rattle.std.proofs.lemmas.List.Sorted.{length_permutation, IsPermutation-sym, IsPermutation-map, Contains-permutation, searchable_from_sorted}
use Rattle.func_records.specs.internal.Texts.{text_cmp, SameTexts}

abbrev text_eq : Bor (List ℕ) → Bor (List ℕ) → Bool
text_eq x y = bytes_eq x.now y.now

text_total : IsTotalOrder text_cmp
text_total = on_total (λ (t : Bor (List ℕ)). t.now) nat_list_cmp_total

text_equiv : IsEquivalence text_eq
text_equiv = on_equiv (λ (t : Bor (List ℕ)). t.now) nat_list_eq_equiv

ties : (x y : Bor (List ℕ)) → text_eq x y ≡ eq_by_cmp text_cmp x y
ties x y = sym (is_eq-slice_cmp x.now y.now)

pub once_sorted : (ys zs : List (Bor (List ℕ))) → IsSorted text_cmp ys → IsFiltered (DiffersFromLast text_eq) [] ys zs → IsStrictlySortedBy text_cmp zs
once_sorted ys zs sorted once = rw (dedup_is text_eq ys zs once) (IsStrictlySortedBy-dedup text_total ties ys sorted)

pub once_same : (xs ys zs : List (Bor (List ℕ))) → IsPermutation xs ys → IsFiltered (DiffersFromLast text_eq) [] ys zs → SameTexts xs zs
once_same xs ys zs moved once = rw (dedup_is text_eq ys zs once) (record {
  from = λ t has. Contains-permutation ys xs t (IsPermutation-sym xs ys moved) (Contains-from_dedup text_eq ys t has);
  all = λ t has. Any-dedup text_equiv ys t (Contains-permutation xs ys t moved has);
})

-- Texts with their places, in the order of the texts.
abbrev placed_cmp : Bor (List ℕ) × ℕ → Bor (List ℕ) × ℕ → Ordering
placed_cmp x y = ordering_then (text_cmp x.0 y.0) (nat_cmp x.1 y.1)

abbrev bare : List (Bor (List ℕ) × ℕ) → List (Bor (List ℕ))
bare placed = map (λ p. p.0) placed

pub bare_next : (placed : List (Bor (List ℕ) × ℕ)) (n : ℕ) (one d : Bor (List ℕ) × ℕ) (old new : List (Bor (List ℕ))) → n < length placed → one ≡ get_or placed n d → old ≡ bare (take n placed) → new ≡ old ++ one.0 ∷ [] → new ≡ bare (take (n + 1) placed)
bare_next placed n one d old new below is so added =
    added ∙ ap (λ ts. ts ++ one.0 ∷ []) so ∙ ap (λ (p : Bor (List ℕ) × ℕ). bare (take n placed) ++ p.0 ∷ []) is
    ∙ sym (map-append (λ (p : Bor (List ℕ) × ℕ). p.0) (take n placed) (get_or placed n d ∷ []))
    ∙ ap bare (sym (take_next placed n d below))

first_not : (a b : Ordering) → is_lt (ordering_then a b) ≡ false → is_lt a ≡ false
first_not Less b is = is
first_not Equal b is = refl
first_not Greater b is = refl

bare_at : (xs : List (Bor (List ℕ) × ℕ)) (k : ℕ) (d : Bor (List ℕ)) → slice_index_or (bare xs) k d ≡ (slice_index_or xs k (d, 0)).0
bare_at [] k d = refl
bare_at (x ∷ xs) zero d = refl
bare_at (x ∷ xs) (suc k) d = bare_at xs k d

pub bare_sorted : (placed : List (Bor (List ℕ) × ℕ)) (texts : List (Bor (List ℕ))) → IsSorted placed_cmp placed → texts ≡ bare placed → IsSorted text_cmp texts
bare_sorted placed texts sorted are = rw are (λ k d low within.
    ap (λ t. is_lt (text_cmp t (slice_index_or (bare placed) k d))) (bare_at placed (k + 1) d)
    ∙ ap (λ t. is_lt (text_cmp (slice_index_or placed (k + 1) (d, 0)).0 t)) (bare_at placed k d)
    ∙ first_not _ _ (sorted k (d, 0) low (let long : length (bare placed) ≡ length placed = length-map placed (λ p. p.0) in omega (arith, within))))

pub bare_moved : (texts : List (Bor (List ℕ))) (placed sorted : List (Bor (List ℕ) × ℕ)) (all : List (Bor (List ℕ))) → bare placed ≡ texts → IsPermutation placed sorted → all ≡ bare sorted → IsPermutation texts all
bare_moved texts placed sorted all were moved are = rw are (subst (λ (ts : List (Bor (List ℕ))). IsPermutation ts (bare sorted)) were (IsPermutation-map (λ (p : Bor (List ℕ) × ℕ). p.0) placed sorted moved))

tied : (x y : List ℕ) → slice_cmp nat_cmp x y ≡ Equal → x ≡ y
tied x y is = (let same : bytes_eq x y ≡ true = sym (is_eq-slice_cmp x y) ∙ ap is_eq is in (bytes_eq-Decides x y).0 same)

pub found_text : (xs : List (Bor (List ℕ))) (n : ℕ) (t : List ℕ) → n < length xs → ((d : Bor (List ℕ)) → slice_cmp nat_cmp (slice_index_or xs n d).now t ≡ Equal) → slice_get (map (λ u. u.now) xs) n ≡ Some t
found_text [] n t within is = absurd (omega arith)
found_text (x ∷ xs) zero t within is = ap (λ u. Some u) (tied x.now t (is x))
found_text (x ∷ xs) (suc n) t within is = found_text xs n t (omega arith) is

not_falling : (x y : Bor (List ℕ)) → text_cmp x y ≡ Less → is_lt (text_cmp y x) ≡ false
not_falling x y less = ap is_lt (text_total.antisymm y x ∙ ap ordering_reverse less)

-- Strictly sorted texts are sorted.
strict_sorted : (xs : List (Bor (List ℕ))) → IsStrictlySortedBy text_cmp xs → (k : ℕ) (d : Bor (List ℕ)) → 0 ≤ k → k + 1 < length xs → is_lt (text_cmp (slice_index_or xs (k + 1) d) (slice_index_or xs k d)) ≡ false
unfolding IsStrictlySortedBy
strict_sorted [] strict k d low within = absurd (omega arith)
strict_sorted (x ∷ []) strict k d low within = absurd (omega arith)
strict_sorted (x ∷ y ∷ xs) strict zero d low within = not_falling x y strict.0.0
strict_sorted (x ∷ y ∷ xs) strict (suc k) d low within =
    (let next : suc k + 1 ≡ suc (k + 1) = omega arith in
    ap (λ n. is_lt (text_cmp (slice_index_or (x ∷ y ∷ xs) n d) (slice_index_or (y ∷ xs) k d))) next ∙ strict_sorted (y ∷ xs) strict.1 k d (omega arith) (omega arith))

-- If a binary search finds no place, the text is not there.
pub none_there : (xs : List (Bor (List ℕ))) (t : Bor (List ℕ)) (i : ℕ) → IsStrictlySortedBy text_cmp xs → (IsNonDecreasingBy (λ y. ordering_index (text_cmp y t)) xs → IsPartitionPoint (λ y. text_cmp y t ≡ Less) (λ y. text_cmp y t ≡ Greater) xs i) → Any (λ u. bytes_eq t.now u.now ≡ true) xs → ⊥
none_there xs t i strict position any =
    let rises : IsNonDecreasingBy (λ y. ordering_index (text_cmp y t)) xs = searchable_from_sorted text_total (λ y. y) xs t (strict_sorted xs strict) in
    let point : IsPartitionPoint (λ y. text_cmp y t ≡ Less) (λ y. text_cmp y t ≡ Greater) xs i = position rises in
    let alike : t.now ≡ any.1.now = (bytes_eq-Decides t.now any.1.now).0 any.4 in
    let equal : text_cmp any.1 t ≡ Equal = ap (λ w. slice_cmp nat_cmp any.1.now w) alike ∙ tied_itself nat_list_cmp_total any.1.now in
    let here : text_cmp (slice_index_or xs any.0 any.1) t ≡ Equal = ap (λ u. text_cmp u t) any.3 ∙ equal in
    elim (leb_tells i any.0) [
      | inl late ↦ (let more : text_cmp (slice_index_or xs any.0 any.1) t ≡ Greater = point.1 any.0 any.1 late.1 any.2 in cc)
      | inr early ↦ (let less : text_cmp (slice_index_or xs any.0 any.1) t ≡ Less = point.0 any.0 any.1 (omega arith) early.1 in cc)
    ]

-- A vector whose slice was sorted has the sorted list.
pub sorted_in_place : {X : Type 0} (old new : List X) (n : ℕ) → n ≡ length old → IsPermutation old new → take n (new ++ drop (length new) old) ≡ new
sorted_in_place old new n is moved = ap (λ k. take k (new ++ drop (length new) old)) (is ∙ sym (length_permutation old new moved)) ∙ take-append_seam new (drop (length new) old)
