-- The nearest mark. A mark is the place of a record with a key, which is the address at which the
-- record begins, or its number.
use Rattle.std.specs.Prelude.{ℕ, ◌==◌, nat_le, nat_lt, if◌then◌else◌, List, [], ◌∷◌, Option, None, Some}
use Rattle.sym_lookup.specs.declared.marks.Mark.{Mark}

-- the one of two marks with the greater key; if the keys are equal, the first
abbrev pub nearer_mark : Option Mark → Option Mark → Option Mark
nearer_mark None other = other
nearer_mark (Some m) None = Some m
nearer_mark (Some m) (Some other) = if nat_lt m.key other.key then Some other else Some m

-- the mark with the greatest key at or below a given key; among equal keys, the first
unfoldable pub mark_at : List Mark → ℕ → Option Mark
mark_at [] x = None
mark_at (m ∷ marks) x = nearer_mark (if nat_le m.key x then Some m else None) (mark_at marks x)

-- the place of the PUBLIC before an address, given the nearest PUBLIC and the nearest FUNC; none if
-- that FUNC begins at or after that PUBLIC
abbrev pub public_of : Option Mark → Option Mark → Option ℕ
public_of None func = None
public_of (Some m) None = Some m.place
public_of (Some m) (Some func) = if nat_le m.key func.key then None else Some m.place

-- the place of the nearest mark, if its key is the number n
abbrev pub numbered : ℕ → Option Mark → Option ℕ
numbered n None = None
numbered n (Some m) = if m.key == n then Some m.place else None
