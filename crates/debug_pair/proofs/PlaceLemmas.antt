-- The last place at which a text has a part, and the text before and after it.
use Rattle.std.proofs.Common.{◌≡◌, inl, inr, ℕ, zero, suc, ◌+◌, ◌<◌, Bool, true, false, cond, List, [], ◌∷◌, ◌++◌, length, take, drop, reverse, Some, None, refl, sym, ◌∙◌, ap, arith, length-append, length-drop}
use Rattle.std.specs.List.{find, range_with_len}
use Rattle.std.specs.Option.{option_map}
use Rattle.std.specs.Str.Pattern.{RFindsText, LacksTextAt, SplitsAroundMatch}
use Rattle.std.proofs.lemmas.Bool.{cases_lt, false_from_ne_true}
use Rattle.std.proofs.lemmas.Bool.Decides.{Decides-eqb}
use Rattle.std.proofs.lemmas.List.{reverse-append}
use Rattle.std.proofs.lemmas.Slice.Eq.{starts_is}
use Rattle.debug_pair.specs.SupPath.{stands_at, last_place, before_last, behind_last}

range_more : (a n : ℕ) → range_with_len a (suc n) ≡ range_with_len a n ++ (a + n) ∷ []
range_more a zero = let e : a ≡ a + 0 = omega arith in ap (λ k. k ∷ []) e
range_more a (suc n) = let e : a + 1 + n ≡ a + suc n = omega arith in ap (λ l. a ∷ l) (range_more (a + 1) n ∙ ap (λ k. range_with_len (a + 1) n ++ k ∷ []) e)

last_more : (p : ℕ → Bool) (n : ℕ) → find p (reverse (range_with_len 0 (suc n))) ≡ cond (p n) (Some n) (find p (reverse (range_with_len 0 n)))
last_more p n =
    let e : 0 + n ≡ n = omega arith in
    ap (λ l. find p (reverse l)) (range_more 0 n ∙ ap (λ k. range_with_len 0 n ++ k ∷ []) e) ∙ ap (find p) (reverse-append (range_with_len 0 n) (n ∷ []))

last_is : (p : ℕ → Bool) (n i : ℕ) → i < n → p i ≡ true → ((j : ℕ) → i < j → j < n → p j ≡ false) → find p (reverse (range_with_len 0 n)) ≡ Some i
last_is p zero i below is later = absurd (omega arith)
last_is p (suc n) i below is later = elim (cases_lt i n) [
  | inl before ↦
      last_more p n ∙ ap (λ b. cond b (Some n) (find p (reverse (range_with_len 0 n)))) (later n before (omega arith))
      ∙ last_is p n i before is (λ j after inside. later j after (omega arith))
  | inr past ↦ (let e : n ≡ i = omega arith in last_more p n ∙ ap (λ b. cond b (Some n) (find p (reverse (range_with_len 0 n)))) (ap p e ∙ is) ∙ ap Some e)
]

none_is : (p : ℕ → Bool) (n : ℕ) → ((j : ℕ) → j < n → p j ≡ false) → find p (reverse (range_with_len 0 n)) ≡ None
none_is p zero none = refl
none_is p (suc n) none =
    last_more p n ∙ ap (λ b. cond b (Some n) (find p (reverse (range_with_len 0 n)))) (none n (omega arith)) ∙ none_is p n (λ j inside. none j (omega arith))

-- The text has the part at a place, or not.
stands : (part text rest : List ℕ) (at : ℕ) → drop at text ≡ part ++ rest → stands_at part text at ≡ true
stands part text rest at is = (starts_is Decides-eqb (drop at text) part (stands_at part text at) refl).1 rest is

lacks : (part text : List ℕ) (at : ℕ) → LacksTextAt part text at → stands_at part text at ≡ false
lacks part text at none =
    false_from_ne_true _ (λ is. none (drop (length part) (drop at text)) ((starts_is Decides-eqb (drop at text) part (stands_at part text at) refl).0 is))

place_is : (part text : List ℕ) (i j : ℕ) → 0 < length part → RFindsText part text (Some (i, j)) → last_place part text ≡ Some i
unfolding last_place
place_is part text i j some found =
    let split : drop i text ≡ part ++ drop j text = found.1.split in
    let long : length (drop i text) ≡ length part + length (drop j text) = ap length split ∙ length-append part (drop j text) in
    last_is (stands_at part text) (length text) i (omega (arith, long, length-drop i text)) (stands part text (drop j text) i split)
    (λ k after inside. lacks part text k (found.0 k after (omega arith)))

no_place : (part text : List ℕ) → RFindsText part text None → last_place part text ≡ None
unfolding last_place
no_place part text none = none_is (stands_at part text) (length text) (λ k inside. lacks part text k (none k (omega arith)))

-- The text does not have the part.
pub none_before : (part text : List ℕ) → RFindsText part text None → None ≡ before_last part text
unfolding before_last
none_before part text none = sym (ap (option_map (λ at. take at text)) (no_place part text none))

pub none_behind : (part text : List ℕ) → RFindsText part text None → None ≡ behind_last part text
unfolding behind_last
none_behind part text none = sym (ap (option_map (λ at. drop (at + length part) text)) (no_place part text none))

-- The text has the part.
pub some_before : (part text front rest : List ℕ) → 0 < length part → SplitsAroundMatch (RFindsText part) text front rest → Some front ≡ before_last part text
unfolding before_last
some_before part text front rest some (i, j, found, is, behind, order, size, left) =
    ap Some is ∙ sym (ap (option_map (λ at. take at text)) (place_is part text i j some found))

pub some_behind : (part text front rest : List ℕ) → 0 < length part → SplitsAroundMatch (RFindsText part) text front rest → Some rest ≡ behind_last part text
unfolding behind_last
some_behind part text front rest some (i, j, found, is, behind, order, size, left) =
    ap Some (behind ∙ ap (λ k. drop k text) found.1.ends) ∙ sym (ap (option_map (λ at. drop (at + length part) text)) (place_is part text i j some found))
