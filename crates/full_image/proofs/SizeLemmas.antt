-- How many bytes the data of all sections inflates to.
use Rattle.std.proofs.Common.{◌≡◌, ℕ, ◌<◌, ◌≤◌, ◌+◌, ◌^◌, true, false, List, length, get_or, map, take, Option, ap, ◌∙◌, arith, subst}
use Rattle.std.specs.List.{sum_by}
use Rattle.std.proofs.lemmas.Bool.Decides.{nat_tests}
use Rattle.std.proofs.lemmas.List.{map_more, take-map, take_all}
use Rattle.std.proofs.lemmas.List.Sums.{sum_by_push, sum_by-take-le}
use Rattle.full_image.specs.Compressed.{Stream}
use Rattle.full_image.specs.FullImage.{size_of, are_too_long}

pub size_more : {S : Type 0} (view : S → Option Stream) (xs : List S) (i : ℕ) (d : S) → i < length xs
    → sum_by size_of (map view (take (i + 1) xs)) ≡ sum_by size_of (map view (take i xs)) + size_of (view (get_or xs i d))
size_more view xs i d inside = ap (sum_by size_of) (map_more view xs i d inside) ∙ sum_by_push size_of (map view (take i xs)) (view (get_or xs i d))

pub size_past : {S : Type 0} (view : S → Option Stream) (xs : List S) (i left : ℕ) (d : S) → i < length xs → left + sum_by size_of (map view (take i xs)) ≡ 2 ^ 29 → left < size_of (view (get_or xs i d)) → are_too_long (map view xs) ≡ true
unfolding are_too_long
size_past view xs i left d inside so past =
    let more : sum_by size_of (map view (take (i + 1) xs)) ≡ sum_by size_of (map view (take i xs)) + size_of (view (get_or xs i d)) = size_more view xs i d inside in
    let front : sum_by size_of (map view (take (i + 1) xs)) ≤ sum_by size_of (map view xs) =
    subst (λ ys. sum_by size_of ys ≤ sum_by size_of (map view xs)) (take-map view (i + 1) xs) (sum_by-take-le size_of (map view xs) (i + 1)) in
    grind (arith, nat_tests)

pub size_within : {S : Type 0} (view : S → Option Stream) (xs : List S) (i left : ℕ) → length xs ≤ i → left + sum_by size_of (map view (take i xs)) ≡ 2 ^ 29 → are_too_long (map view xs) ≡ false
unfolding are_too_long
size_within view xs i left past so =
    let all : sum_by size_of (map view (take i xs)) ≡ sum_by size_of (map view xs) = ap (λ ys. sum_by size_of (map view ys)) (take_all i xs past) in
    grind (arith, nat_tests)
