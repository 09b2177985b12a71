-- The index of the first number in a list that passes a test is what std's `position` gives.
use Rattle.std.proofs.Common.{◌≡◌, ◌<◌, ℕ, Bool, true, false, List, length, get_or, None, Some, arith}
use Rattle.std.proofs.lemmas.List.Sums.{position_or_len_is}
use Rattle.std.proofs.lemmas.Bool.Decides.{nat_tests}
use Rattle.std.specs.List.{position, position_or_len}

pub position_some : (test : ℕ → Bool) (xs : List ℕ) (k : ℕ) → k < length xs → ((j : ℕ) → j < k → test (get_or xs j 0) ≡ false) → test (get_or xs k 0) ≡ true → position test xs ≡ Some k
position_some test xs k lt before at =
    let e : position_or_len test xs ≡ k = position_or_len_is test xs k 0 (omega arith) before (λ _. at) in
    rw e (grind (arith, nat_tests))

pub position_none : (test : ℕ → Bool) (xs : List ℕ) → ((j : ℕ) → j < length xs → test (get_or xs j 0) ≡ false) → position test xs ≡ None
position_none test xs fails =
    let e : position_or_len test xs ≡ length xs =
    position_or_len_is test xs (length xs) 0 (omega arith) fails (λ past. absurd (omega arith)) in
    rw e (grind (arith, nat_tests))
