-- What a definition gives for the members of a list, one by one.
use Rattle.std.proofs.Common.{◌≡◌, ℕ, zero, suc, ◌<◌, List, [], ◌∷◌, ◌++◌, drop, get_or, length, Some, Result, Ok, Err, refl, sym, ap, subst, append_assoc, append-nil, arith}
use Rattle.std.specs.List.{slice_get}
use Rattle.sym_edges.specs.Results.{◌>>=◌}
use Rattle.debug_read.specs.Each.{each_of, Match, Says}

-- After what was given so far, the rest decides what is given for all members.
pub record Going {A C F : Type 0} (R : A → C → Type 0) (all rest : Result (List A) F) (made : List C) : Type 0 where
  pub ok : (later : List C) → Says (Match R) rest later → Says (Match R) all (made ++ later)
  pub fault : (f : F) → rest ≡ Err f → all ≡ Err f

pub going_begins : {A C F : Type 0} (R : A → C → Type 0) (all : Result (List A) F) (made : List C) → made ≡ [] → Going R all all made
going_begins R all made none = record {
  ok = λ later says. subst (λ (m : List _). Says (Match R) all (m ++ later)) (sym none) says;
  fault = λ f is. is;
}

-- The result for the first member, followed by those for the others.
pub first_says : {A C F : Type 0} (R : A → C → Type 0) (first : Result A F) (later : Result (List A) F) (y : C) (ys : List C) → Says R first y → Says (Match R) later ys → Says (Match R) (first >>= λ a. later >>= λ rest. Ok (a ∷ rest)) (y ∷ ys)
first_says R (Ok a) (Ok rest) y ys one others = (one, others)
first_says R (Err f) later y ys one others = absurd one
first_says R (Ok a) (Err f) y ys one others = absurd others

first_faults : {A C F : Type 0} (R : A → C → Type 0) (first : Result A F) (later : Result (List A) F) (y : C) (f : F) → Says R first y → later ≡ Err f → (first >>= λ a. later >>= λ rest. Ok (a ∷ rest)) ≡ Err f
first_faults R (Ok a) later y f one is = ap (λ r. r >>= λ rest. Ok (a ∷ rest)) is
first_faults R (Err g) later y f one is = absurd one

-- The first of the members that are left.
pub going_first : {X A C F : Type 0} (R : A → C → Type 0) (gives : X → Result A F) (x : X) (xs : List X) (all : Result (List A) F) (made : List C) (c : C) → Going R all (each_of gives (x ∷ xs)) made → Says R (gives x) c → Going R all (each_of gives xs) (made ++ c ∷ [])
unfolding each_of
going_first R gives x xs all made c going one = record {
  ok = λ later says. subst (λ (m : List _). Says (Match R) all m) (sym (append_assoc made (c ∷ []) later)) (going.ok (c ∷ later) (first_says R (gives x) (each_of gives xs) c later one says));
  fault = λ f is. going.fault f (first_faults R (gives x) (each_of gives xs) c f one is);
}

-- The member at an index.
pub going_more : {X A C F : Type 0} (R : A → C → Type 0) (gives : X → Result A F) (xs : List X) (i : ℕ) (all : Result (List A) F) (made : List C) (c : C) → i < length xs → Going R all (each_of gives (drop i xs)) made → ((x : X) → slice_get xs i ≡ Some x → Says R (gives x) c) → Going R all (each_of gives (drop (suc i) xs)) (made ++ c ∷ [])
going_more R gives [] i all made c inside going one = absurd (omega arith)
going_more R gives (x ∷ xs) zero all made c inside going one = going_first R gives x xs all made c going (one x refl)
going_more R gives (x ∷ xs) (suc i) all made c inside going one = going_more R gives xs i all made c (omega arith) going one

pub going_ends : {X A C F : Type 0} (R : A → C → Type 0) (gives : X → Result A F) (xs : List X) (i : ℕ) (all : Result (List A) F) (made : List C) → i ≡ length xs → Going R all (each_of gives (drop i xs)) made → Says (Match R) all made
unfolding each_of
going_ends R gives [] zero all made end going = subst (λ (m : List _). Says (Match R) all m) (append-nil made) (going.ok [] tt)
going_ends R gives [] (suc i) all made end going = absurd (omega arith)
going_ends R gives (x ∷ xs) zero all made end going = absurd (omega arith)
going_ends R gives (x ∷ xs) (suc i) all made end going = going_ends R gives xs i all made (omega arith) going

pub going_stops : {X A C F : Type 0} (R : A → C → Type 0) (gives : X → Result A F) (xs : List X) (i : ℕ) (all : Result (List A) F) (made : List C) (f : F) → i < length xs → Going R all (each_of gives (drop i xs)) made → ((x : X) → slice_get xs i ≡ Some x → gives x ≡ Err f) → all ≡ Err f
unfolding each_of
going_stops R gives [] i all made f inside going one = absurd (omega arith)
going_stops R gives (x ∷ xs) zero all made f inside going one = going.fault f (ap (λ r. r >>= λ a. each_of gives xs >>= λ rest. Ok (a ∷ rest)) (one x refl))
going_stops R gives (x ∷ xs) (suc i) all made f inside going one = going_stops R gives xs i all made f (omega arith) going one

-- The result for the first member, and the results for the others.
abbrev pub SaysFirst : {A C F : Type 0} → (A → C → Type 0) → Result A F → Result (List A) F → List C → Type 0
SaysFirst R first later [] = ⊥
SaysFirst R first later (y ∷ ys) = Says R first y × Says (Match R) later ys

pub says_first : {A C F : Type 0} (R : A → C → Type 0) (first : Result A F) (later : Result (List A) F) (ys : List C) → Says (Match R) (first >>= λ a. later >>= λ rest. Ok (a ∷ rest)) ys → SaysFirst R first later ys
says_first R (Ok a) (Ok rest) [] says = absurd says
says_first R (Ok a) (Ok rest) (y ∷ ys) says = says
says_first R (Ok a) (Err f) [] says = absurd says
says_first R (Ok a) (Err f) (y ∷ ys) says = absurd says
says_first R (Err f) later [] says = absurd says
says_first R (Err f) later (y ∷ ys) says = absurd says

-- Results by number are results one by one.
pub match_in_order : {A B : Type 0} (R : A → B → Type 0) (xs : List A) (ys : List B) → length ys ≡ length xs → ((k : ℕ) (d : B) → k < length ys → (x : A) → slice_get xs k ≡ Some x → R x (get_or ys k d)) → Match R xs ys
match_in_order R [] [] same each = tt
match_in_order R [] (y ∷ ys) same each = absurd (omega (arith, same))
match_in_order R (x ∷ xs) [] same each = absurd (omega (arith, same))
match_in_order R (x ∷ xs) (y ∷ ys) same each =
    (each zero y (omega arith) x refl, match_in_order R xs ys (omega (arith, same)) (λ k d inside. each (suc k) d (omega (arith, inside))))
