-- The last member of a list, and the last byte of a line.
use Rattle.std.proofs.Common.{◌≡◌, ℕ, ◌-◌, ◌==◌, cond, suc, Bool, true, false, List, [], ◌∷◌, ◌++◌, length, get_or, refl, sym, ◌∙◌, ap, arith}
use Rattle.std.specs.List.{list_all}
use Rattle.sym_rules.proofs.BoolLemmas.{and_true, both, elim_bool, false_true}
pub use Rattle.clean_names.proofs.SkipLemmas.{Begins, begins_skip}
use Rattle.sym_rules.specs.Cuts.{is_cr, from, skip, trim_end, last_is}

-- Whether bytes end in CR.
abbrev pub ends_in_cr : List ℕ → Bool
ends_in_cr xs = last_is is_cr xs

last_step : {A : Type 0} (x y : A) (ys : List A) (d : A) → get_or (y ∷ ys) (length (y ∷ ys) - 1) d ≡ get_or (x ∷ y ∷ ys) (length (x ∷ y ∷ ys) - 1) d
last_step x y ys d = let e : length (x ∷ y ∷ ys) - 1 ≡ suc (length (y ∷ ys) - 1) = omega arith in sym (ap (λ i. get_or (x ∷ y ∷ ys) i d) e)

pub last_at : {A : Type 0} (p : A → Bool) (x : A) (xs : List A) (d : A) → last_is p (x ∷ xs) ≡ p (get_or (x ∷ xs) (length (x ∷ xs) - 1) d)
unfolding last_is
last_at p x [] d = refl
last_at p x (y ∷ ys) d = last_at p y ys d ∙ ap p (last_step x y ys d)

pub ends_at : (x : ℕ) (xs : List ℕ) → ends_in_cr (x ∷ xs) ≡ (get_or (x ∷ xs) (length (x ∷ xs) - 1) 0 == 13)
ends_at x xs = last_at is_cr x xs 0

pub end_behind : {A : Type 0} (p : A → Bool) (front : List A) (x : A) (xs : List A) → last_is p (front ++ x ∷ xs) ≡ last_is p (x ∷ xs)
unfolding last_is
end_behind p [] x xs = refl
end_behind p (f ∷ []) x xs = refl
end_behind p (f ∷ g ∷ front) x xs = end_behind p (g ∷ front) x xs

pub last_later : {A : Type 0} (p : A → Bool) (x y : A) (ys : List A) → last_is p (x ∷ y ∷ ys) ≡ last_is p (y ∷ ys)
unfolding last_is
last_later p x y ys = refl

pub last_one : {A : Type 0} (p : A → Bool) (x : A) → last_is p (x ∷ []) ≡ p x
unfolding last_is
last_one p x = refl

pub last_nothing : {A : Type 0} (p : A → Bool) → last_is p [] ≡ false
unfolding last_is
last_nothing p = refl

-- If no member is of a kind, the last is not.
pub last_none : {A : Type 0} (p q : A → Bool) → ((x : A) → q x ≡ true → p x ≡ false) → (xs : List A) → list_all q xs ≡ true → last_is p xs ≡ false
unfolding last_is
last_none p q other [] all = refl
last_none p q other (x ∷ []) all = other x (and_true all).0
last_none p q other (x ∷ y ∷ ys) all = last_none p q other (y ∷ ys) (and_true {a = q x} {b = list_all q (y ∷ ys)} all).1

all_last : (p : ℕ → Bool) (x : ℕ) (xs : List ℕ) → list_all p (x ∷ xs) ≡ true → last_is p (x ∷ xs) ≡ true
unfolding last_is
all_last p x [] all = (and_true all).0
all_last p x (y ∷ ys) all = all_last p y ys (and_true {a = p x} {b = list_all p (y ∷ ys)} all).1

tail_ends : (p : ℕ → Bool) (x : ℕ) (xs : List ℕ) → last_is p (x ∷ xs) ≡ false → last_is p xs ≡ false
unfolding last_is
tail_ends p x [] is = refl
tail_ends p x (y ∷ ys) is = is

pub trim_kept : (p : ℕ → Bool) (xs : List ℕ) → last_is p xs ≡ false → trim_end p xs ≡ xs
unfolding trim_end
trim_kept p [] is = refl
trim_kept p (x ∷ xs) is =
    elim_bool (list_all p (x ∷ xs)) (λ t. cond t [] (x ∷ trim_end p xs) ≡ x ∷ xs)
    (λ all. false_true is (all_last p x xs all))
    (λ _. ap (λ l. x ∷ l) (trim_kept p xs (tail_ends p x xs is)))

some_behind : (p : ℕ → Bool) (x : ℕ) (xs : List ℕ) → last_is p xs ≡ false → (xs ≡ [] → p x ≡ false) → last_is p (x ∷ xs) ≡ false
unfolding last_is
some_behind p x [] rest first = first refl
some_behind p x (y ∷ ys) rest first = rest

trim_nothing : (p : ℕ → Bool) (xs : List ℕ) → trim_end p xs ≡ [] → list_all p xs ≡ true
unfolding trim_end
trim_nothing p [] is = refl
trim_nothing p (x ∷ xs) is =
    elim_bool (list_all p (x ∷ xs)) (λ t. cond t [] (x ∷ trim_end p xs) ≡ [] → t ≡ true) (λ _ _. refl) (λ _ h. cc) is

-- A trimmed line does not end in a byte that is trimmed.
pub trim_ends : (p : ℕ → Bool) (xs : List ℕ) → last_is p (trim_end p xs) ≡ false
unfolding trim_end
trim_ends p [] = last_nothing p
trim_ends p (x ∷ xs) =
    elim_bool (list_all p (x ∷ xs)) (λ t. last_is p (cond t [] (x ∷ trim_end p xs)) ≡ false)
    (λ _. last_nothing p)
    (λ none. some_behind p x (trim_end p xs) (trim_ends p xs) (λ nothing. elim_bool (p x) (λ t. t ≡ false) (λ first. false_true none (both first (trim_nothing p xs nothing))) (λ _. refl)))

-- Nor does what is left of it after leading bytes are dropped.
pub skip_ends : (p : ℕ → Bool) (q : ℕ → Bool) (xs : List ℕ) → last_is p xs ≡ false → last_is p (skip q xs) ≡ false
unfolding skip
skip_ends p q [] is = is
skip_ends p q (x ∷ xs) is =
    elim_bool (q x) (λ t. last_is p (cond t (skip q xs) (x ∷ xs)) ≡ false) (λ _. skip_ends p q xs (tail_ends p x xs is)) (λ _. is)

pub from_ends : (p : ℕ → Bool) (b : ℕ) (xs : List ℕ) → last_is p xs ≡ false → last_is p (from b xs) ≡ false
unfolding from
from_ends p b [] is = is
from_ends p b (x ∷ xs) is =
    elim_bool (x == b) (λ t. last_is p (cond t (x ∷ xs) (from b xs)) ≡ false) (λ _. is) (λ _. from_ends p b xs (tail_ends p x xs is))

pub all_skip : (p : ℕ → Bool) (q : ℕ → Bool) (xs : List ℕ) → list_all p xs ≡ true → list_all p (skip q xs) ≡ true
unfolding skip
all_skip p q [] all = refl
all_skip p q (x ∷ xs) all =
    elim_bool (q x) (λ t. list_all p (cond t (skip q xs) (x ∷ xs)) ≡ true) (λ _. all_skip p q xs (and_true {a = p x} all).1) (λ _. all)

pub all_from : (p : ℕ → Bool) (b : ℕ) (xs : List ℕ) → list_all p xs ≡ true → list_all p (from b xs) ≡ true
unfolding from
all_from p b [] all = refl
all_from p b (x ∷ xs) all =
    elim_bool (x == b) (λ t. list_all p (cond t (x ∷ xs) (from b xs)) ≡ true) (λ _. all) (λ _. all_from p b xs (and_true {a = p x} all).1)

pub all_trim : (p : ℕ → Bool) (q : ℕ → Bool) (xs : List ℕ) → list_all p xs ≡ true → list_all p (trim_end q xs) ≡ true
unfolding trim_end
all_trim p q [] all = refl
all_trim p q (x ∷ xs) all =
    elim_bool (list_all q (x ∷ xs)) (λ t. list_all p (cond t [] (x ∷ trim_end q xs)) ≡ true) (λ _. refl) (λ _. both (and_true {a = p x} all).0 (all_trim p q xs (and_true {a = p x} all).1))
