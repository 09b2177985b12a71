-- The laws of pieces and lines.
use Rattle.std.proofs.Common.{◌≡◌, ℕ, Bool, map, List, [], ◌∷◌, Option, None, Some, refl, sym, ap, ◌∙◌}
use Rattle.std.specs.Option.{option_map}
use Rattle.std.specs.List.{slice_get}
use Rattle.step_maps.specs.Runs.{Run}
use Rattle.step_maps.proofs.OneRuns.{one_runs}
use Rattle.debug_units.specs.declared.unit_read.UnitRead.{UnitRead}
use Rattle.debug_units.specs.Owners.{Covering, owner, line, line_in, line_under}
use Rattle.debug_units.specs.declared.unit_read.EntryRef.{EntryRef}
use Rattle.func_flatten.specs.declared.piece.Piece.{Piece}
use Rattle.func_flatten.specs.Pieces.{place_of, owner_place, is_many, piece_run, AreMarked, ArePieces}
use Rattle.func_flatten.specs.LineRuns.{unit_line}

-- A piece, made from its run and its mark.
abbrev run_piece : Run EntryRef → Bool → Piece
run_piece r many = record { unit = r.value.unit; entry = r.value.entry; start = r.start; end = r.end; many = many }

alike : (units : List UnitRead) (xs ys : List Piece) → AreMarked units xs → AreMarked units ys → map piece_run xs ≡ map piece_run ys → xs ≡ ys
alike units [] [] p q same = refl
alike units [] (y ∷ ys) p q same = absurd (cc)
alike units (x ∷ xs) [] p q same = absurd (cc)
alike units (x ∷ xs) (y ∷ ys) p q same =
    let first : piece_run x ≡ piece_run y = cc in
    let rest : map piece_run xs ≡ map piece_run ys = cc in
    let start : x.start ≡ y.start = ap (λ r. r.start) first in
    let many : x.many ≡ y.many = p.0 ∙ ap (λ a. is_many units a) start ∙ sym q.0 in
    ap (λ r. run_piece r x.many ∷ xs) first ∙ ap (λ m. run_piece (piece_run y) m ∷ xs) many ∙ ap (λ l. y ∷ l) (alike units xs ys p.1 q.1 rest)

-- The units determine their pieces.
pub one_pieces : (units : List UnitRead) (xs ys : List Piece) → ArePieces units xs → ArePieces units ys → xs ≡ ys
one_pieces units xs ys p q = alike units xs ys p.marks q.marks (one_runs (owner_place units) (map piece_run xs) (map piece_run ys) p.runs q.runs)

under : (units : List UnitRead) (a : ℕ) (place : EntryRef) (o : Option Covering) → option_map place_of o ≡ Some place → line_under units a o ≡ line_in a (slice_get units place.unit)
under units a place None is = absurd (cc)
under units a place (Some c) is = (let same : place_of c ≡ place = cc in ap (λ p. line_in a (slice_get units p.unit)) same)

-- The line of an address is that in the table of its owner's unit.
pub line_of_owner : (units : List UnitRead) (a : ℕ) (place : EntryRef) → owner_place units a ≡ Some place → line units a ≡ unit_line units place.unit a
unfolding owner_place line unit_line
line_of_owner units a place is = under units a place (owner units a) is
