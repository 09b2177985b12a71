-- A list of bytes as a quoted text, so that a wrong worked example is reported as text.
use Rattle.std.proofs.Common.{ℕ, List}
use Rattle.std.proofs.Common.{[] as nil, ◌∷◌ as ◌∷ᴸ◌}
use Prim.Native.Nat.{Ordering, compare}
use Prim.Native.Char.{Char, char, nul, IsLt, IsScalar}
use Prim.Native.String.{String, [], ◌∷◌}

abbrev both : Ordering → Ordering → Type 0
both Ordering.lt o = IsLt o
both Ordering.eq _ = ⊥
both Ordering.gt _ = ⊥

abbrev scalar : Ordering → Ordering → Ordering → Type 0
scalar Ordering.lt _ _ = Unit
scalar Ordering.eq o p = both o p
scalar Ordering.gt o p = both o p

-- A number below 55,296 as a character; the null character for any other number.
abbrev below : (n : ℕ) → (o p q : Ordering) → (scalar o p q → IsScalar n) → Char
below n Ordering.lt p q ok = char n (ok tt)
below n Ordering.eq p q ok = nul
below n Ordering.gt p q ok = nul

abbrev pub character : ℕ → Char
character n = below n (compare n 55296) (compare 57343 n) (compare n 1114112) (λ x. x)

unfoldable pub shown : List ℕ → String
shown nil = []
shown (n ∷ᴸ ns) = character n ∷ shown ns
