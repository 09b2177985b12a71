-- A worked example: three lists in one, of which the second is empty.
use Rattle.std.proofs.Common.{◌≡◌, ℕ, List, [], ◌∷◌, Some, None, refl}
use Rattle.std.specs.List.{slice_get}
use Rattle.flat_lists.specs.Ends.{lists_to, begun}

abbrev ends : List ℕ
ends = 2 ∷ 2 ∷ 5 ∷ []

abbrev members : List ℕ
members = 10 ∷ 11 ∷ 12 ∷ 13 ∷ 14 ∷ []

listed : lists_to 0 ends members ≡ (10 ∷ 11 ∷ []) ∷ [] ∷ (12 ∷ 13 ∷ 14 ∷ []) ∷ []
listed = refl

third : slice_get (lists_to 0 ends members) 2 ≡ Some (12 ∷ 13 ∷ 14 ∷ [])
third = refl

past : slice_get (lists_to 0 ends members) 3 ≡ None
past = refl

begins : begun 0 ends 2 ≡ 2
begins = refl
