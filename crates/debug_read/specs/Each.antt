-- Lists, member by member.
use Rattle.std.specs.Prelude.{List, [], ◌∷◌, Result, Ok, Err}
use Rattle.sym_edges.specs.Results.{◌>>=◌}

-- what a definition gives for each member, or the first fault
unfoldable pub each_of : {A B F : Type 0} → (A → Result B F) → List A → Result (List B) F
each_of gives [] = Ok []
each_of gives (x ∷ xs) = gives x >>= λ first. each_of gives xs >>= λ later. Ok (first ∷ later)

-- two lists have the same length, and members at the same index are in the relation R
abbrev pub Match : {A B : Type 0} → (A → B → Type 0) → List A → List B → Type 0
Match R [] [] = Prim.Unit {0}
Match R (x ∷ xs) (y ∷ ys) = R x y × Match R xs ys
Match R _ _ = ⊥

-- the definition gives a value, which is in the relation R to `y`
abbrev pub Says : {A B F : Type 0} → (A → B → Type 0) → Result A F → B → Type 0
Says R (Ok x) y = R x y
Says R (Err fault) y = ⊥
