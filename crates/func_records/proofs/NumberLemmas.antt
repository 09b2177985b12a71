-- The number of a text among sorted texts.
use Rattle.std.proofs.Common.{◌≡◌, ℕ, zero, suc, ◌+◌, ◌<◌, length, get_or, Bool, true, false, ◌||◌, cond, map, take, List, [], ◌∷◌, ◌++◌, Some, arith, refl, sym, ap, ◌∙◌, Bor, Any}
use Rattle.std.specs.List.{slice_get, list_any, AllByRecursion}
use Rattle.std.specs.List.Sorted.{IsStrictlySortedBy}
use Rattle.std.specs.Str.{bytes_eq}
use Rattle.std.specs.Ordering.{nat_cmp}
use Rattle.std.specs.declared.cmp.Ordering.TheVariants.{Less, Equal}
use Rattle.std.specs.Cmp.Lexicographic.{slice_cmp}
use Rattle.std.proofs.lemmas.Cmp.{nat_list_cmp_total, tied_itself}
use Rattle.std.proofs.lemmas.Slice.Eq.{bytes_eq-Decides}
use Rattle.std.proofs.lemmas.List.{map-append}
use Rattle.std.proofs.lemmas.List.Folds.{Any-from_list_any}
use Rattle.func_records.specs.internal.Texts.{text_cmp}
use Rattle.func_records.specs.FuncRecords.{number_in}
use Rattle.func_records.specs.internal.Gathering.{bytes_of}
use Rattle.func_records.specs.internal.Spelling.{number_or_0}
use Rattle.func_records.proofs.ListLemmas.{take_next}

-- A text before all others is not one of them.
other_there : (x : Bor (List ℕ)) (xs : List (Bor (List ℕ))) (n : ℕ) (path : List ℕ) → AllByRecursion (λ y. text_cmp x y ≡ Less) xs → slice_get (bytes_of xs) n ≡ Some path → bytes_eq x.now path ≡ false
other_there x [] n path below is = absurd (cc)
other_there x (y ∷ xs) zero path below is = go (bytes_eq x.now path) refl
  where
    go : (b : Bool) → bytes_eq x.now path ≡ b → b ≡ false
    go true same =
        let first : y.now ≡ path = cc in
        let alike : x.now ≡ y.now = (bytes_eq-Decides x.now path).0 same ∙ sym first in
        let equal : text_cmp x y ≡ Equal = ap (λ t. slice_cmp nat_cmp t y.now) alike ∙ tied_itself nat_list_cmp_total y.now in
        let less : text_cmp x y ≡ Less = below.0 in
        cc
    go false same = refl
other_there x (y ∷ xs) (suc n) path below is = other_there x xs n path below.1 is

place_by : (x : List ℕ) (paths : List (List ℕ)) (path : List ℕ) (n : ℕ) → bytes_eq x path ≡ false → number_in paths path ≡ n → number_in (x ∷ paths) path ≡ suc n
unfolding number_in
place_by x paths path n other is = ap (λ b. cond b 0 (number_in paths path + 1)) other ∙ ap (λ k. k + 1) is ∙ omega arith

pub number_at : (xs : List (Bor (List ℕ))) (n : ℕ) (path : List ℕ) → IsStrictlySortedBy text_cmp xs → slice_get (bytes_of xs) n ≡ Some path → number_in (bytes_of xs) path ≡ n
unfolding number_in IsStrictlySortedBy
number_at [] n path sorted is = absurd (cc)
number_at (x ∷ xs) zero path sorted is =
    let same : bytes_eq x.now path ≡ true = (bytes_eq-Decides x.now path).1 (let first : x.now ≡ path = cc in first) in
    ap (λ b. cond b 0 (number_in (bytes_of xs) path + 1)) same
number_at (x ∷ xs) (suc n) path sorted is =
    place_by x.now (bytes_of xs) path n (other_there x xs n path sorted.0 is) (number_at xs n path sorted.1 is)

pub there : (paths : List (List ℕ)) (n : ℕ) (path : List ℕ) → slice_get paths n ≡ Some path → list_any (bytes_eq path) paths ≡ true
there [] n path is = absurd (cc)
there (p ∷ paths) zero path is =
    let same : bytes_eq path p ≡ true = (bytes_eq-Decides path p).1 (let first : path ≡ p = cc in first) in
    ap (λ b. b || list_any (bytes_eq path) paths) same
there (p ∷ paths) (suc n) path is = or_true (bytes_eq path p) (there paths n path is)
  where
    or_true : (b : Bool) {c : Bool} → c ≡ true → (b || c) ≡ true
    or_true true is = refl
    or_true false is = is

pub number_found : (xs : List (Bor (List ℕ))) (n : ℕ) (path : List ℕ) → IsStrictlySortedBy text_cmp xs → slice_get (bytes_of xs) n ≡ Some path → n ≡ number_or_0 (bytes_of xs) path
number_found xs n path sorted is =
    sym (ap (λ b. cond b (number_in (bytes_of xs) path) 0) (there (bytes_of xs) n path is) ∙ number_at xs n path sorted is)

not_there : (xs : List (Bor (List ℕ))) (path : List ℕ) → list_any (bytes_eq path) (bytes_of xs) ≡ list_any (λ (t : Bor (List ℕ)). bytes_eq path t.now) xs
not_there [] path = refl
not_there (x ∷ xs) path = ap (λ b. bytes_eq path x.now || b) (not_there xs path)

pub number_none : (xs : List (Bor (List ℕ))) (path : List ℕ) → (Any (λ (t : Bor (List ℕ)). bytes_eq path t.now ≡ true) xs → ⊥) → 0 ≡ number_or_0 (bytes_of xs) path
number_none xs path none = go (list_any (bytes_eq path) (bytes_of xs)) refl
  where
    go : (b : Bool) → list_any (bytes_eq path) (bytes_of xs) ≡ b → 0 ≡ cond b (number_in (bytes_of xs) path) 0
    go true is = absurd (none (Any-from_list_any (λ (t : Bor (List ℕ)). bytes_eq path t.now) xs (sym (not_there xs path) ∙ is)))
    go false is = refl

-- A text that is at a place.
pub number_here : (xs : List (Bor (List ℕ))) (n : ℕ) (x d : Bor (List ℕ)) (text : List ℕ) → IsStrictlySortedBy text_cmp xs → n < length xs → x ≡ get_or xs n d → bytes_eq x.now text ≡ true → n ≡ number_or_0 (bytes_of xs) text
number_here xs n x d text sorted below is same = number_found xs n text sorted (bytes_at xs n d below ∙ ap (λ (t : Bor (List ℕ)). Some t.now) (sym is) ∙ ap Some ((bytes_eq-Decides x.now text).0 same))
  where
    bytes_at : (ys : List (Bor (List ℕ))) (k : ℕ) (d : Bor (List ℕ)) → k < length ys → slice_get (bytes_of ys) k ≡ Some (get_or ys k d).now
    bytes_at [] k d less = absurd (omega arith)
    bytes_at (z ∷ ys) zero d less = refl
    bytes_at (z ∷ ys) (suc k) d less = bytes_at ys k d (omega arith)

-- The number of one text more.
pub numbers_more : (f : List ℕ → ℕ) (texts : List (Bor (List ℕ))) (n : ℕ) (d : Bor (List ℕ)) (number : ℕ) (numbers after : List ℕ) → n < length texts → number ≡ f (get_or texts n d).now → numbers ≡ map f (bytes_of (take n texts)) → after ≡ numbers ++ number ∷ [] → after ≡ map f (bytes_of (take (n + 1) texts))
numbers_more f texts n d number numbers after below is so added =
    added ∙ ap (λ ns. ns ++ number ∷ []) so ∙ ap (λ k. map f (bytes_of (take n texts)) ++ k ∷ []) is
    ∙ sym (map-append f (bytes_of (take n texts)) ((get_or texts n d).now ∷ []))
    ∙ ap (map f) (sym (map-append (λ (t : Bor (List ℕ)). t.now) (take n texts) (get_or texts n d ∷ [])))
    ∙ ap (λ (ts : List (Bor (List ℕ))). map f (bytes_of ts)) (sym (take_next texts n d below))
