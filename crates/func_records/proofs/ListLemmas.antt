-- Prefixes of lists, and tests of one of two things.
use Rattle.std.proofs.Common.{◌≡◌, ℕ, zero, suc, ◌+◌, ◌<◌, Bool, true, false, ◌||◌, take, drop, get_or, length, List, [], ◌∷◌, ◌++◌, Some, arith, refl, sym, ap, ◌∙◌, append-nil}
use Rattle.std.proofs.lemmas.Option.{slice_get-get_or}
use Rattle.std.specs.List.{slice_get, flat_map}
use Rattle.std.proofs.lemmas.List.Concat.{flat_map-append}
use Rattle.std.proofs.lemmas.Slice.Eq.{bytes_eq-Decides}
use Rattle.std.specs.Str.{bytes_eq}

-- A prefix with one member more.
pub take_more : {X : Type 0} (xs : List X) (n : ℕ) (x : X) → slice_get xs n ≡ Some x → take (n + 1) xs ≡ take n xs ++ x ∷ []
take_more [] n x is = absurd (cc)
take_more (y ∷ xs) zero x is = ap (λ z. z ∷ []) (let same : y ≡ x = cc in same)
take_more (y ∷ xs) (suc n) x is =
    let next : suc n + 1 ≡ suc (n + 1) = omega arith in
    ap (λ k. take k (y ∷ xs)) next ∙ ap (λ zs. y ∷ zs) (take_more xs n x is)

pub take_next : {X : Type 0} (xs : List X) (n : ℕ) (d : X) → n < length xs → take (n + 1) xs ≡ take n xs ++ get_or xs n d ∷ []
take_next xs n d below = take_more xs n (get_or xs n d) (slice_get-get_or xs n d below)

-- A member is at its index.
pub member_at : {X : Type 0} (xs : List X) (n : ℕ) (x : X) → Some x ≡ slice_get xs n → x ≡ get_or xs n x
member_at [] n x is = absurd (cc)
member_at (y ∷ xs) zero x is = let same : x ≡ y = cc in same
member_at (y ∷ xs) (suc n) x is = member_at xs n x is

-- What is left of a list.
pub drop_next : {X : Type 0} (xs : List X) (n : ℕ) (d : X) → n < length xs → drop n xs ≡ get_or xs n d ∷ drop (n + 1) xs
drop_next [] n d below = absurd (omega (arith, below))
drop_next (x ∷ xs) zero d below = refl
drop_next (x ∷ xs) (suc n) d below =
    let next : suc n + 1 ≡ suc (n + 1) = omega arith in
    drop_next xs n d (omega (arith, below)) ∙ ap (λ k. get_or xs n d ∷ drop k (x ∷ xs)) (sym next)

-- What the members of a prefix with one member more give.
pub flat_next : {X A : Type 0} (f : X → List A) (xs : List X) (n : ℕ) (d : X) → n < length xs → flat_map f (take (n + 1) xs) ≡ flat_map f (take n xs) ++ f (get_or xs n d)
flat_next f xs n d below =
    ap (flat_map f) (take_next xs n d below) ∙ flat_map-append f (take n xs) (get_or xs n d ∷ []) ∙ ap (λ l. flat_map f (take n xs) ++ l) (append-nil (f (get_or xs n d)))

pub or_right : (b c : Bool) → c ≡ true → (b || c) ≡ true
or_right true c is = refl
or_right false c is = is

pub or_left : (b c : Bool) → b ≡ true → (b || c) ≡ true
or_left true c is = refl
or_left false c is = absurd (cc)

pub or_false : (b : Bool) → (b || false) ≡ b
or_false true = refl
or_false false = refl

pub or_assoc : (a b c : Bool) → ((a || b) || c) ≡ (a || (b || c))
or_assoc true b c = refl
or_assoc false b c = refl

-- A member stays at its index when members are added at the end.
pub get_front : {X : Type 0} (xs ys : List X) (k : ℕ) (x : X) → slice_get xs k ≡ Some x → slice_get (xs ++ ys) k ≡ Some x
get_front [] ys k x is = absurd (cc)
get_front (y ∷ xs) ys zero x is = is
get_front (y ∷ xs) ys (suc k) x is = get_front xs ys k x is

pub get_last : {X : Type 0} (xs : List X) (x : X) → slice_get (xs ++ x ∷ []) (length xs) ≡ Some x
get_last [] x = refl
get_last (y ∷ xs) x = get_last xs x

-- A text is equal to itself.
pub same_bytes : (text : List ℕ) → bytes_eq text text ≡ true
same_bytes text = (bytes_eq-Decides text text).1 refl
