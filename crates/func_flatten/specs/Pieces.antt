-- Which function owns which addresses (DWARF 5, 3.3), and which pieces are marked since their first
-- address has another function with another name.
use Rattle.std.specs.Prelude.{◌≡◌, ℕ, Bool, false, not, ◌&&◌, map, List, [], ◌∷◌, Option, None, Some}
use Rattle.std.specs.List.{list_any}
use Rattle.std.specs.Option.{option_map}
use Rattle.std.specs.Str.{bytes_eq}
use Rattle.range_set.specs.Members.{holds_any}
use Rattle.step_maps.specs.Runs.{Run, IsRuns}
use Rattle.debug_units.specs.declared.unit_read.UnitRead.{UnitRead}
use Rattle.die_walk.specs.EntryKinds.{is_function}
use Rattle.die_names.specs.Names.{entry_name}
use Rattle.debug_units.specs.Owners.{Covering, covering_from, owner}
use Rattle.debug_units.specs.declared.unit_read.EntryRef.{EntryRef}
use Rattle.func_flatten.specs.declared.piece.Piece.{Piece}

-- whether a function has the address
abbrev pub owns : ℕ → Covering → Bool
owns a c = is_function c.die && holds_any c.spans a

-- the numbers of an entry
abbrev pub place_of : Covering → EntryRef
place_of c = record { unit = c.unit; entry = c.entry }

-- the numbers of the function that owns an address
unfoldable pub owner_place : List UnitRead → ℕ → Option EntryRef
owner_place units a = option_map place_of (owner units a)

-- the name of a function, cleaned for records
abbrev pub covering_name : List UnitRead → Covering → List ℕ
covering_name units c = entry_name units c.unit c.entry

-- whether a function with another name than the owner's has the address
abbrev pub has_other : List UnitRead → ℕ → Option Covering → Bool
has_other units a None = false
has_other units a (Some c) = list_any (λ d. owns a d && not (bytes_eq (covering_name units d) (covering_name units c))) (covering_from 0 units)

unfoldable pub is_many : List UnitRead → ℕ → Bool
is_many units a = has_other units a (owner units a)

abbrev pub piece_run : Piece → Run EntryRef
piece_run p = record { start = p.start; end = p.end; value = record { unit = p.unit; entry = p.entry } }

-- the mark `many` of each piece says whether a function with another name than the owner's has the first address of the piece
abbrev pub AreMarked : List UnitRead → List Piece → Type 0
AreMarked units [] = Unit {0}
AreMarked units (p ∷ pieces) = (p.many ≡ is_many units p.start) × AreMarked units pieces

-- the pieces are the maximal runs of addresses with one owner, and are marked
pub record ArePieces (units : List UnitRead) (pieces : List Piece) : Type 0 where
  pub runs : IsRuns (owner_place units) (map piece_run pieces)
  pub marks : AreMarked units pieces
