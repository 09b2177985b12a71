-- Pages that are added to a set, one by one.
use Rattle.std.proofs.Common.{◌≡◌, ℕ, ◌+◌, ◌<◌, ◌≤◌, Bool, true, false, cond, List, Some, length, drop, get_or, refl, sym, ◌∙◌, ap, arith}
use Rattle.std.specs.Prelude.{◌==◌, ◌&&◌, ◌||◌, nat_le, nat_lt}
use Rattle.std.specs.List.{list_any}
use Rattle.std.specs.Ordering.{nat_cmp}
use Rattle.std.specs.BTreeSet.{BTreeSet, contains, Updates}
use Rattle.std.specs.BTreeMap.{is_at}
use Rattle.std.proofs.lemmas.List.{drop_all, drop_more}
use Rattle.std.proofs.lemmas.Bool.{eqb-true, le-leb, lt-ltb}
use Rattle.std.proofs.lemmas.Bool.Decides.{nat_tests}
use Rattle.core_file.specs.Modules.{is_page}
use Rattle.core_file.proofs.BoolLemmas.{and_false}

-- The test for a set to which a page was added.
added : (b e c rest : Bool) → (e ≡ true → b ≡ true) → (cond e true c || (b && rest)) ≡ (c || (b && (e || rest)))
added b true true rest holds = refl
added b true false rest holds = rw (holds refl) refl
added true false c rest holds = refl
added false false c rest holds = refl

passed : (b e c rest : Bool) → (e ≡ true → b ≡ false) → (c || (b && rest)) ≡ (c || (b && (e || rest)))
passed b true c rest never = rw (never refl) refl
passed b false c rest never = refl

at_page : (a k : ℕ) → is_at (nat_cmp k) a ≡ (k == a)
at_page a k = grind (arith, nat_tests)

pub page_added : (old new : BTreeSet ℕ) (start end page : ℕ) → start ≤ page → page < end → Updates nat_cmp old new page true → (a : ℕ) (rest : Bool) → (contains nat_cmp new a || (nat_le start a && nat_lt a end && rest)) ≡ (contains nat_cmp old a || (nat_le start a && nat_lt a end && (is_page a (Some page) || rest)))
page_added old new start end page low high updates a rest =
    ap (λ c. c || (nat_le start a && nat_lt a end && rest)) (updates.0 a ∙ ap (λ e. cond e true (contains nat_cmp old a)) (at_page a page))
    ∙ added (nat_le start a && nat_lt a end) (page == a) (contains nat_cmp old a) rest
    (λ is. let e : page ≡ a = eqb-true page a is in rw (← e, le-leb start page low, lt-ltb page end high) refl)

pub page_below : (set : BTreeSet ℕ) (start end page : ℕ) → page < start → (a : ℕ) (rest : Bool) → (contains nat_cmp set a || (nat_le start a && nat_lt a end && rest)) ≡ (contains nat_cmp set a || (nat_le start a && nat_lt a end && (is_page a (Some page) || rest)))
page_below set start end page low a rest =
    passed (nat_le start a && nat_lt a end) (page == a) (contains nat_cmp set a) rest
    (λ is. let e : page ≡ a = eqb-true page a is in let n : nat_le start a ≡ false = grind (arith, nat_tests) in rw n refl)

pub page_above : (set : BTreeSet ℕ) (start end page : ℕ) → end ≤ page → (a : ℕ) (rest : Bool) → (contains nat_cmp set a || (nat_le start a && nat_lt a end && rest)) ≡ (contains nat_cmp set a || (nat_le start a && nat_lt a end && (is_page a (Some page) || rest)))
page_above set start end page high a rest =
    passed (nat_le start a && nat_lt a end) (page == a) (contains nat_cmp set a) rest
    (λ is. let e : page ≡ a = eqb-true page a is in let n : nat_lt a end ≡ false = grind (arith, nat_tests) in rw n (and_false (nat_le start a)))

-- A test of any element is that of the first one or of those after it.
pub any_next : {X : Type 0} (f : X → Bool) (xs : List X) (k : ℕ) (d : X) → k < length xs → list_any f (drop k xs) ≡ (f (get_or xs k d) || list_any f (drop (k + 1) xs))
any_next f xs k d inside = ap (list_any f) (drop_more xs k d inside)

pub any_past : {X : Type 0} (f : X → Bool) (xs : List X) (k : ℕ) → length xs ≤ k → list_any f (drop k xs) ≡ false
any_past f xs k past = ap (list_any f) (drop_all k xs past)

pub pages_step : {X : Type 0} (f : X → Bool) (xs : List X) (k : ℕ) (d : X) (c old b : Bool) → k < length xs → (c || (b && list_any f (drop (k + 1) xs))) ≡ (old || (b && (f (get_or xs k d) || list_any f (drop (k + 1) xs)))) → (c || (b && list_any f (drop (k + 1) xs))) ≡ (old || (b && list_any f (drop k xs)))
pages_step f xs k d c old b inside is = is ∙ ap (λ r. old || (b && r)) (sym (any_next f xs k d inside))

none_more : (c b : Bool) → (c || (b && false)) ≡ c
none_more true b = refl
none_more false b = and_false b

pub pages_end : {X : Type 0} (f : X → Bool) (xs : List X) (k : ℕ) (c b : Bool) → length xs ≤ k → (c || (b && list_any f (drop k xs))) ≡ c
pages_end f xs k c b past = ap (λ r. c || (b && r)) (any_past f xs k past) ∙ none_more c b
