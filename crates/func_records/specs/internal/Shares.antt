-- The shares of pieces, 512 each, which are the jobs of workers.
use Rattle.std.specs.Prelude.{◌≡◌, ℕ, ◌*◌, ◌<◌, ◌≤◌, ◌^◌, List, [], ◌∷◌, length, slice_index_or}
use Rattle.std.specs.List.{flat_map}
use Rattle.std.proofs.Common.{Bor}
use Rattle.unit_workers.specs.Shares.{share}
use Rattle.debug_units.specs.declared.unit_read.UnitRead.{UnitRead}
use Rattle.die_names.specs.declared.name_source.NameRef.{NameRef}
use Rattle.func_flatten.specs.declared.piece.Piece.{Piece}
use Rattle.inline_chain.specs.InlineRuns.{InlineParts}
use Rattle.func_records.specs.declared.numbers.Numbers.{Numbers}
use Rattle.func_records.specs.declared.path_list.PathRef.{PathRef}
use Rattle.func_records.specs.declared.found.FoundShare.{FoundShare}
use Rattle.func_records.specs.internal.Gathering.{AreHeld, has_path, Gathered}
use Rattle.func_records.specs.internal.Origins.{all_names, ref_numbers, RefsSay}
use Rattle.func_records.specs.internal.Parts.{AddsParts}

-- the input of the jobs that find, share by share, the copies of pieces and what they name: the
-- units and the pieces
pub record FinderParts : Type 0 where
  pub units : List UnitRead
  pub pieces : List Piece

-- what was found for some pieces: their copies, the entries that name the copies' functions, and
-- the paths that are named
pub record IsFound (units : List UnitRead) (pieces : List Piece) (found : FoundShare) : Type 0 where
  pub held : AreHeld units pieces found.held
  pub names : RefsSay units (record { refs = found.refs.items; places = found.places.items }) (all_names units pieces found.held)
  pub paths : Gathered units pieces found.held (has_path units found.paths.items)

-- what all shares have, one share after another
abbrev pub all_held : List FoundShare → List (List InlineParts)
all_held shares = flat_map (λ (f : FoundShare). f.held) shares

abbrev pub all_paths : List FoundShare → List PathRef
all_paths shares = flat_map (λ (f : FoundShare). f.paths.items) shares

-- what was found for each share is what the pieces of the share have
pub record AreFound (units : List UnitRead) (pieces : List Piece) (shares : List FoundShare) : Type 0 where
  pub enough : length pieces ≤ 512 * length shares
  pub few : length shares ≤ 2 ^ 32
  pub each : (k : ℕ) (d : FoundShare) → k < length shares → IsFound units (share 512 k pieces) (slice_index_or shares k d)

-- the input of the jobs that spell records share by share: pieces, what was found for them, and for
-- each share the numbers of its entries' names
pub record SpellerParts : Type 0 where
  pub base : ℕ
  pub units : List UnitRead
  pub numbers : Numbers
  pub pieces : List Piece
  pub shares : List FoundShare
  pub split : List (Bor (List ℕ))

-- the input of the jobs that make names share by share: the units, and the entries that give the
-- names
pub record MakerParts : Type 0 where
  pub units : List UnitRead
  pub refs : List NameRef

-- the numbers of the names that the entries of each share give
abbrev pub AreSplit : Numbers → List UnitRead → List FoundShare → List (Bor (List ℕ)) → Type 0
AreSplit numbers units [] [] = Unit {0}
AreSplit numbers units (f ∷ shares) (s ∷ split) = (s.now ≡ ref_numbers numbers units f.refs.items) × AreSplit numbers units shares split
AreSplit numbers units _ _ = ⊥

pub record CanSpell (s : SpellerParts) : Type 0 where
  pub found : AreFound s.units s.pieces s.shares
  pub numbered : AreSplit s.numbers s.units s.shares s.split

-- the text has the records of a share
abbrev pub AddsShare : SpellerParts → ℕ → List ℕ → Type 0
AddsShare s k text = (d : FoundShare) → k < length s.shares → AddsParts s.base s.numbers s.units (share 512 k s.pieces) (slice_index_or s.shares k d).held [] text
