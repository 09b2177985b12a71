-- Bytes written in lower-case hexadecimal, for worked examples.
use Rattle.std.proofs.Common.{ℕ, zero, suc, ◌+◌, ◌*◌, ◌-◌, ◌/◌, ◌%◌, ◌==◌, nat_lt, if◌then◌else◌, List, [], ◌∷◌, codes}
use Prim.Native.String.{String}

abbrev pub nibble : ℕ → ℕ
nibble c = if nat_lt c 58 then c - 48 else c - 87

-- The bytes of a text of hexadecimal digits; spaces are ignored.
unfoldable pub bytes : List ℕ → List ℕ
bytes [] = []
bytes (a ∷ []) = []
bytes (a ∷ b ∷ text) = if a == 32 then bytes (b ∷ text) else (nibble a * 16 + nibble b) ∷ bytes text

unfoldable pub hex : String → List ℕ
unfolding bytes
hex text = bytes (codes text)

-- A number as `width` bytes, the lowest first.
unfoldable pub little : ℕ → ℕ → List ℕ
little zero n = []
little (suc width) n = n % 256 ∷ little width (n / 256)
