-- Lists of members that are read one after another, up to the end of the list.
use Rattle.std.specs.Prelude.{◌≡◌, ℕ, zero, suc, ◌+◌, ◌≤◌, List, [], ◌∷◌, length, Option, None, Some, Result, Ok, Err}
use Rattle.sym_edges.specs.Results.{◌>>=◌}
use Rattle.leb_cursor.specs.Ahead.{Ahead}

-- a list, given its first reading. If that gave a member, the list is the member and the later
-- ones; otherwise the list is empty
abbrev pub list_by : {A E : Type 0} → Option A → Ahead → Result (List A × Ahead) E → Result (List A × Ahead) E
list_by None c later = Ok ([], c)
list_by (Some member) c later = later >>= λ rest. Ok (member ∷ rest.0, rest.1)

-- the list ahead, of which at most n members are read
unfoldable pub list_in : {A E : Type 0} → (Ahead → Result (Option A × Ahead) E) → ℕ → Ahead → Result (List A × Ahead) E
list_in read zero c = Ok ([], c)
list_in read (suc n) c = read c >>= λ first. list_by first.0 first.1 (list_in read n first.1)

-- the list ahead. Each reading gives a member or says that the list ends. A member has at least one
-- byte, so the readings are at most one more than the bytes
unfoldable pub list_at : {A E : Type 0} → (Ahead → Result (Option A × Ahead) E) → Ahead → Result (List A × Ahead) E
list_at read c = list_in read (suc (length c.bytes)) c

-- the same list as `list_at`, given by its first reading
abbrev pub list_cases : {A E : Type 0} → (Ahead → Result (Option A × Ahead) E) → Ahead → Result (List A × Ahead) E
list_cases read c = read c >>= λ first. list_by first.0 first.1 (list_at read first.1)

-- a reading that gives a member passes at least one byte. No reading that succeeds goes back, and the end stays where it was
abbrev pub GoesOn : {A E : Type 0} → Ahead → Result (Option A × Ahead) E → Type 0
GoesOn c (Ok (None, later)) =
    (length later.bytes ≤ length c.bytes) × (later.at + length later.bytes ≡ c.at + length c.bytes)
GoesOn c (Ok (Some member, later)) =
    (length later.bytes + 1 ≤ length c.bytes) × (later.at + length later.bytes ≡ c.at + length c.bytes)
GoesOn c (Err fault) = Unit {0}
