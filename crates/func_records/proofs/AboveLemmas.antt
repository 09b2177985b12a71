-- Pieces begin at or above a base if no function owns an address below it; for the law
-- `pieces_begin_above`.
use Rattle.std.proofs.Common.{◌≡◌, ℕ, ◌≤◌, map, List, [], ◌∷◌, Option, None, Some, arith, refl}
use Rattle.std.specs.Option.{option_map}
use Rattle.step_maps.specs.Runs.{AreMaximal}
use Rattle.step_maps.proofs.MaximalLemmas.{maximal}
use Rattle.debug_units.specs.declared.unit_read.UnitRead.{UnitRead}
use Rattle.debug_units.specs.Owners.{Covering, owner}
use Rattle.debug_units.specs.declared.unit_read.EntryRef.{EntryRef}
use Rattle.func_flatten.specs.declared.piece.Piece.{Piece}
use Rattle.func_flatten.specs.Pieces.{place_of, owner_place, piece_run, ArePieces}
use Rattle.func_records.specs.FuncRecords.{BeginAbove}

place_above : (base a : ℕ) (parts : List UnitRead) (place : EntryRef) → ((c : Covering) → owner parts a ≡ Some c → base ≤ a) → owner_place parts a ≡ Some place → base ≤ a
unfolding owner_place
place_above base a parts place above is = go (owner parts a) refl is
  where
    go : (o : Option Covering) → owner parts a ≡ o → option_map place_of o ≡ Some place → base ≤ a
    go None found same = absurd (cc)
    go (Some c) found same = above c found

each_above : (base : ℕ) (parts : List UnitRead) (pieces : List Piece) → ((a : ℕ) (c : Covering) → owner parts a ≡ Some c → base ≤ a) → AreMaximal (owner_place parts) (map piece_run pieces) → BeginAbove base pieces
each_above base parts [] above all = tt
each_above base parts (p ∷ pieces) above all =
    (place_above base p.start parts (record { unit = p.unit; entry = p.entry }) (above p.start) (all.0.constant p.start (omega arith) all.0.some), each_above base parts pieces above all.1)

pub pieces_above : (base : ℕ) (parts : List UnitRead) (pieces : List Piece) → ((a : ℕ) (c : Covering) → owner parts a ≡ Some c → base ≤ a) → ArePieces parts pieces → BeginAbove base pieces
pieces_above base parts pieces above pieced = each_above base parts pieces above (maximal _ (map piece_run pieces) pieced.runs)
