-- How many lists are stored in one list of members: by the place where each ends.
use Rattle.std.specs.Prelude.{◌≡◌, ℕ, zero, suc, ◌-◌, ◌≤◌, List, [], ◌∷◌, take, drop}
use Rattle.std.specs.List.{slice_index_or}

-- the lists that the ends cut out of the members; the first begins at `from`, each other at the end
-- of the one before it
abbrev pub lists_to : {A : Type 0} → ℕ → List ℕ → List A → List (List A)
lists_to from [] members = []
lists_to from (end ∷ ends) members = take (end - from) (drop from members) ∷ lists_to end ends members

-- the ends do not descend, the first is at or above `from`, and the last is `count`; without ends,
-- `from` is `count`
abbrev pub AreEnds : ℕ → List ℕ → ℕ → Type 0
AreEnds from [] count = from ≡ count
AreEnds from (end ∷ ends) count = (from ≤ end) × AreEnds end ends count

-- where list `k` begins: at the end of the list before it, or at `from` for list 0
abbrev pub begun : ℕ → List ℕ → ℕ → ℕ
begun from ends zero = from
begun from ends (suc k) = slice_index_or ends k 0
