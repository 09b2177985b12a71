-- The cleaning of a name, so that a record may carry it.
use Rattle.std.specs.Prelude.{◌≡◌, ℕ, ◌==◌, ◌||◌, nat_lt, if◌then◌else◌, List, [], ◌∷◌, map, take, codes}
use Rattle.clean_names.specs.Names.{is_space, skip}

-- control bytes (below 0x20, or 0x7f) become `?`
abbrev pub shown_byte : ℕ → ℕ
shown_byte b = if nat_lt b 32 || b == 127 then 63 else b

-- an empty name becomes `<name omitted>`
abbrev pub or_omitted : List ℕ → List ℕ
or_omitted [] = codes "<name omitted>"
or_omitted (b ∷ bytes) = b ∷ bytes

-- control bytes become `?`, leading spaces are dropped, the rest is cut off after `limit` bytes,
-- and an empty name becomes `<name omitted>`
unfoldable pub cleaned_upto : ℕ → List ℕ → List ℕ
cleaned_upto limit bytes = or_omitted (take limit (skip is_space (map shown_byte bytes)))

-- the cleaned name, which has at most 65,536 bytes
unfoldable pub cleaned : List ℕ → List ℕ
cleaned bytes = cleaned_upto 65536 bytes

-- cleaning changes none of the texts
abbrev pub AreClean : List (List ℕ) → Type 0
AreClean [] = Prim.Unit {0}
AreClean (text ∷ texts) = (cleaned text ≡ text) × AreClean texts
