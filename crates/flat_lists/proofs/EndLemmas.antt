-- Adding a list changes no other list, and each list lies between two ends (for `src/lists.rt`).
use Rattle.std.proofs.Common.{◌≡◌, ◌<◌, ◌≤◌, ◌+◌, ◌-◌, ℕ, zero, suc, List, [], ◌∷◌, ◌++◌, length, take, drop, Some, None, get_or, refl, sym, ap, ◌∙◌, arith, length-append}
use Rattle.std.specs.List.{slice_get}
use Rattle.std.proofs.lemmas.List.{take_all, take-append-le, drop-append-le, drop_all, drop-take, length-drop}
use Rattle.flat_lists.specs.Ends.{lists_to, AreEnds, begun}

pub within : (from : ℕ) (ends : List ℕ) (count : ℕ) → AreEnds from ends count → from ≤ count
within from [] count are = omega (arith, are)
within from (end ∷ ends) count are = omega (arith, are.0, within end ends count are.1)

same_list : {A : Type 0} (members more : List A) (from end : ℕ) → from ≤ end → end ≤ length members → take (end - from) (drop from (members ++ more)) ≡ take (end - from) (drop from members)
same_list members more from end rising inside =
    let few : end - from ≤ length (drop from members) = omega (arith, inside, length-drop from members) in
    ap (take (end - from)) (drop-append-le from members more (omega (arith, rising, inside))) ∙ take-append-le (end - from) (drop from members) more few

last_list : {A : Type 0} (members list : List A) (from end : ℕ) → from ≡ length members → end ≡ length members + length list → take (end - from) (drop from (members ++ list)) ≡ list
last_list members list from end begins ends =
    ap (take (end - from)) (drop-append-le from members list (omega (arith, begins)) ∙ ap (λ xs. xs ++ list) (drop_all from members (omega (arith, begins))))
    ∙ take_all (end - from) list (omega (arith, begins, ends))

pub list_added : {A : Type 0} (from : ℕ) (ends : List ℕ) (members list : List A) (end : ℕ) → AreEnds from ends (length members) → end ≡ length members + length list → lists_to from (ends ++ end ∷ []) (members ++ list) ≡ lists_to from ends members ++ list ∷ []
list_added from [] members list end are is = ap (λ s. s ∷ []) (last_list members list from end are is)
list_added from (next ∷ ends) members list end are is =
    ap (λ s. s ∷ lists_to next (ends ++ end ∷ []) (members ++ list)) (same_list members list from next are.0 (within next ends (length members) are.1))
    ∙ ap (λ later. take (next - from) (drop from members) ∷ later) (list_added next ends members list end are.1 is)

pub end_added : {A : Type 0} (from : ℕ) (ends : List ℕ) (members list : List A) (end : ℕ) → AreEnds from ends (length members) → end ≡ length members + length list → AreEnds from (ends ++ end ∷ []) (length (members ++ list))
end_added from [] members list end are is = (omega (arith, are, is), is ∙ sym (length-append members list))
end_added from (next ∷ ends) members list end are is = (are.0, end_added next ends members list end are.1 is)

pub count_is : {A : Type 0} (from : ℕ) (ends : List ℕ) (members : List A) → length ends ≡ length (lists_to from ends members)
count_is from [] members = refl
count_is from (end ∷ ends) members = ap suc (count_is end ends members)

pub list_there : {A : Type 0} (from : ℕ) (ends : List ℕ) (members : List A) (k end : ℕ) → k < length ends → end ≡ get_or ends k end → slice_get (lists_to from ends members) k ≡ Some (take (end - begun from ends k) (drop (begun from ends k) members))
list_there from [] members k end there is = absurd (omega (arith, there))
list_there from (next ∷ ends) members zero end there is = ap (λ (e : ℕ). Some (take (e - from) (drop from members))) (sym is)
list_there from (next ∷ ends) members (suc zero) end there is = list_there next ends members zero end (omega (arith, there)) is
list_there from (next ∷ ends) members (suc (suc k)) end there is = list_there next ends members (suc k) end (omega (arith, there)) is

pub none_there : {A : Type 0} (from : ℕ) (ends : List ℕ) (members : List A) (k : ℕ) → length ends ≤ k → None ≡ slice_get (lists_to from ends members) k
none_there from [] members k past = refl
none_there from (next ∷ ends) members zero past = absurd (omega (arith, past))
none_there from (next ∷ ends) members (suc k) past = none_there next ends members k (omega (arith, past))

pub ordered : (from : ℕ) (ends : List ℕ) (count k end : ℕ) → AreEnds from ends count → k < length ends → end ≡ get_or ends k end → (begun from ends k ≤ end) × (end ≤ count)
ordered from [] count k end are there is = absurd (omega (arith, there))
ordered from (next ∷ ends) count zero end are there is = (omega (arith, are.0, is), omega (arith, within next ends count are.1, is))
ordered from (next ∷ ends) count (suc zero) end are there is = ordered next ends count zero end are.1 (omega (arith, there)) is
ordered from (next ∷ ends) count (suc (suc k)) end are there is = ordered next ends count (suc k) end are.1 (omega (arith, there)) is

pub part_is : {A : Type 0} (members front list : List A) (start end : ℕ) → start ≤ end → front ≡ take end members → list ≡ drop start front → list ≡ take (end - start) (drop start members)
part_is members front list start end rising is rest =
    rest ∙ ap (drop start) (is ∙ ap (λ n. take n members) (let whole : end ≡ start + (end - start) = omega (arith, rising) in whole)) ∙ drop-take start (end - start) members
