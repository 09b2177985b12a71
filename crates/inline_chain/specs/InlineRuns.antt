-- The inlined copies of functions on the chains of a piece's addresses (DWARF 5, 3.3.8; Breakpad's symbol_files.md, INLINE records).
use Rattle.std.specs.Prelude.{◌≡◌, ℕ, ◌<◌, ◌≤◌, ◌==◌, ◌&&◌, ◌||◌, Bool, true, false, nat_lt, nat_le, List, [], ◌∷◌, ◌++◌, map, filter, length}
use Rattle.std.specs.List.{slice_get, list_all}
use Rattle.std.specs.Option.{option_map_or}
use Rattle.sym_edges.specs.Addresses.{Range}
use Rattle.range_set.specs.Members.{holds_any}
use Rattle.range_set.specs.Canonical.{IsCanonical}
use Rattle.debug_units.specs.declared.unit_read.UnitRead.{UnitRead}
use Rattle.debug_units.specs.Owners.{entry_chain}
use Rattle.func_flatten.specs.declared.piece.Piece.{Piece}
use Rattle.func_flatten.specs.Publics.{is_inside}

-- an inlined copy: its level on the chain, the number of its entry, and addresses
pub record InlineParts : Type 0 where
  pub level : ℕ
  pub entry : ℕ
  pub spans : List Range

-- whether the address is in the piece, and the entry is on the chain of the address at the level
unfoldable pub is_on_chain : List UnitRead → Piece → ℕ → ℕ → ℕ → Bool
is_on_chain units piece level entry a =
    is_inside a piece && option_map_or (λ c. c.entry == entry) (slice_get (entry_chain units piece.unit piece.entry a) level) false

-- whether a copy is of the entry, at the level
abbrev pub is_of : ℕ → ℕ → InlineParts → Bool
is_of level entry r = (r.level == level) && (r.entry == entry)

-- the addresses of the copies of one entry at one level, in their order
abbrev pub spans_of : ℕ → ℕ → List InlineParts → List (List Range)
spans_of level entry runs = map (λ (r : InlineParts). r.spans) (filter (is_of level entry) runs)

unfoldable pub joined : List (List Range) → List Range
joined [] = []
joined (spans ∷ parts) = spans ++ joined parts

-- lists of 16,384 ranges each; the last list may have fewer, but at least one
abbrev pub AreParts : List (List Range) → Type 0
AreParts [] = Unit {0}
AreParts (spans ∷ []) = (0 < length spans) × (length spans ≤ 16384)
AreParts (spans ∷ more ∷ parts) = (length spans ≡ 16384) × AreParts (more ∷ parts)

-- the copies of one entry at one level have all addresses of the piece at which the entry is on the
-- chain at that level. Their ranges are maximal, and there are as few copies as possible
pub record IsCopy (units : List UnitRead) (piece : Piece) (runs : List InlineParts) (level entry : ℕ) : Type 0 where
  pub parts : AreParts (spans_of level entry runs)
  pub canonical : IsCanonical (joined (spans_of level entry runs))
  pub members : (a : ℕ) → holds_any (joined (spans_of level entry runs)) a ≡ is_on_chain units piece level entry a

abbrev pub first_address : List Range → ℕ
first_address [] = 0
first_address (range ∷ ranges) = range.start

-- the order of copies: by level, and in one level by the first address
abbrev pub is_before : InlineParts → InlineParts → Bool
is_before r s = nat_lt r.level s.level || ((r.level == s.level) && nat_le (first_address r.spans) (first_address s.spans))

abbrev pub IsOrdered : List InlineParts → Type 0
IsOrdered [] = Unit {0}
IsOrdered (r ∷ runs) = (list_all (is_before r) runs ≡ true) × IsOrdered runs

-- the inlined copies on the chains of a piece's addresses
pub record AreInlineRuns (units : List UnitRead) (piece : Piece) (runs : List InlineParts) : Type 0 where
  pub ordered : IsOrdered runs
  pub copies : (level entry : ℕ) → IsCopy units piece runs level entry
