-- The answer of a look-up of an address: the records of a symbol file that name the address
-- (Breakpad's symbol_files.md), as places in the file's list. The first record of a list has the
-- place 0.
use Rattle.std.specs.Prelude.{ℕ, zero, suc, ◌+◌, Bool, false, ◌&&◌, ◌==◌, nat_le, max, if◌then◌else◌, List, [], ◌∷◌, drop, Option, None, Some}
use Rattle.std.specs.List.{position, position_from, list_any}
use Rattle.std.specs.Option.{option_map_or, option_and_then}
use Rattle.sym_records.specs.declared.line.SymLine.{SymLine}
use Rattle.sym_records.specs.declared.line.SymLine.TheVariants.{Func, Public}
use Rattle.sym_meaning.specs.TextNames.{under, is_func_at, is_line_at, is_inline_at, level_count}
use Rattle.sym_lookup.specs.declared.answers.Answer.{Answer}
use Rattle.sym_lookup.specs.declared.answers.Answer.TheVariants as answer

-- for each of some levels, from `level` on, the place of the first INLINE record of that level that
-- covers the address. The list ends at the first level without one. The first record has the place
-- `first`
abbrev pub chain_from : ℕ → ℕ → ℕ → ℕ → List SymLine → List ℕ
chain_from first x level zero records = []
chain_from first x level (suc levels) records = option_map_or (λ place. place ∷ chain_from first x (level + 1) levels records) (position_from (is_inline_at level x) first records) []

-- the place of the first INLINE record of each level that covers the address, among the records
-- directly under the FUNC at the place `func`. The list goes from level 0 up to the first level
-- without one
unfoldable pub chain_places : List SymLine → ℕ → ℕ → List ℕ
chain_places lines func x = let records = under (drop (func + 1) lines) in chain_from (func + 1) x 0 (level_count records) records

-- the place of the first line record directly under that FUNC that covers the address
unfoldable pub line_place : List SymLine → ℕ → ℕ → Option ℕ
line_place lines func x = position_from (is_line_at x) (func + 1) (under (drop (func + 1) lines))

-- the place of the first FUNC that covers the address
unfoldable pub func_place : List SymLine → ℕ → Option ℕ
func_place lines x = position (is_func_at x) lines

abbrev pub greater : ℕ → Option ℕ → Option ℕ
greater a None = Some a
greater a (Some b) = Some (max a b)

-- the greater of `other` and the address of a PUBLIC. A PUBLIC above the address x does not count
abbrev pub nearer : ℕ → SymLine → Option ℕ → Option ℕ
nearer x (Public many address params name) other = if nat_le address x then greater address other else other
nearer x _ other = other

-- the greatest address of a PUBLIC at or below the address x
unfoldable pub nearest_public : List SymLine → ℕ → Option ℕ
nearest_public [] x = None
nearest_public (s ∷ lines) x = nearer x s (nearest_public lines x)

abbrev pub is_public_of : ℕ → SymLine → Bool
is_public_of a (Public many address params name) = address == a
is_public_of a _ = false

-- whether a record is a FUNC that begins at an address from `a` to `x`, both included
abbrev pub begins_between : ℕ → ℕ → SymLine → Bool
begins_between a x (Func many address size params name) = nat_le a address && nat_le address x
begins_between a x _ = false

-- the place of the first PUBLIC at that address; none if a FUNC begins at an address from there to
-- x
unfoldable pub public_place : List SymLine → ℕ → Option ℕ
public_place lines x = option_and_then (λ a. if list_any (begins_between a x) lines then None else position (is_public_of a) lines) (nearest_public lines x)

-- the answer at an address. If a FUNC covers it, this is the first such FUNC, with its INLINE
-- records and its line record there; otherwise it is the PUBLIC of `public_place`, or nothing
unfoldable pub answer_of : List SymLine → ℕ → Answer
answer_of lines x =
    option_map_or (λ func. answer.Function func (chain_places lines func x) (line_place lines func x))
    (func_place lines x)
    (option_map_or answer.Public (public_place lines x) answer.Nothing)
