-- What is said of entries and their addresses does not depend on the line tables of their units.
use Rattle.std.proofs.Common.{◌≡◌, ℕ, ◌+◌, ◌==◌, ◌&&◌, not, false, map, List, [], ◌∷◌, ◌++◌, Option, None, Some, refl, sym, ap, ◌∙◌}
use Rattle.std.specs.List.{find, slice_get, list_any}
use Rattle.std.specs.Option.{option_map, option_map_or}
use Rattle.std.specs.Str.{bytes_eq}
use Rattle.std.proofs.lemmas.Option.{slice_get-map}
use Rattle.range_set.specs.Members.{holds_any}
use Rattle.debug_units.specs.declared.unit_read.UnitRead.{UnitRead}
use Rattle.die_walk.specs.EntryKinds.{is_function}
use Rattle.debug_units.specs.UnitEntries.{entry_in, entry_of}
use Rattle.die_names.specs.Names.{entry_name}
use Rattle.debug_units.specs.EntriesAlone.{entries_alone}
use Rattle.die_names.proofs.AloneLemmas.{alone, name_alone}
use Rattle.debug_units.specs.Owners.{Covering, unit_covering, covering_from, owner}
use Rattle.func_flatten.specs.declared.piece.Piece.{Piece}
use Rattle.func_flatten.specs.Pieces.{owns, place_of, owner_place, has_other, is_many, AreMarked, ArePieces}
use Rattle.func_flatten.specs.Publics.{is_inside}
use Rattle.debug_units.specs.Owners.{chain_by, entry_chain}
use Rattle.inline_chain.specs.InlineRuns.{InlineParts, is_on_chain, AreInlineRuns}
use Rattle.debug_read.specs.Each.{Match}
use Rattle.line_program.specs.LineMaps.{no_lines}
use Rattle.debug_read.specs.SameUnits.{SameUnit}

-- The unit without its line table.
abbrev pub bare : UnitRead → UnitRead
bare u = record { die = u.die; spans = u.spans; lines = no_lines }

abbrev pub bares : List UnitRead → List UnitRead
bares us = map bare us

pub same_bares : (us ws : List UnitRead) → Match SameUnit us ws → bares us ≡ bares ws
same_bares [] [] same = refl
same_bares [] (w ∷ ws) same = absurd same
same_bares (u ∷ us) [] same = absurd same
same_bares (u ∷ us) (w ∷ ws) same = (let later : bares us ≡ bares ws = same_bares us ws same.1 in λ i. record { die = same.0.die i; spans = same.0.spans i; lines = no_lines } ∷ later i)

-- Names depend on the entries alone, and these are the same.
alone_bares : (us : List UnitRead) → alone (bares us) ≡ alone us
alone_bares [] = refl
alone_bares (u ∷ us) = ap (λ ws. entries_alone u ∷ ws) (alone_bares us)

in_bare : (unit entry : ℕ) (o : Option UnitRead) → entry_in unit entry o ≡ entry_in unit entry (option_map bare o)
in_bare unit entry None = refl
in_bare unit entry (Some part) = refl

pub entry_bare : (us : List UnitRead) (unit entry : ℕ) → entry_of us unit entry ≡ entry_of (bares us) unit entry
unfolding entry_of
entry_bare us unit entry = in_bare unit entry (slice_get us unit) ∙ ap (entry_in unit entry) (sym (slice_get-map bare us unit))

pub name_bare : (us : List UnitRead) (unit entry : ℕ) → entry_name us unit entry ≡ entry_name (bares us) unit entry
name_bare us unit entry = name_alone us unit entry ∙ ap (λ ws. entry_name ws unit entry) (sym (alone_bares us)) ∙ sym (name_alone (bares us) unit entry)

-- Owners.
covering_bare : (unit : ℕ) (us : List UnitRead) → covering_from unit us ≡ covering_from unit (bares us)
covering_bare unit [] = refl
covering_bare unit (u ∷ us) = ap (λ l. unit_covering unit 0 u.die.dies u.spans ++ l) (covering_bare (unit + 1) us)

owner_bare : (us : List UnitRead) (a : ℕ) → owner us a ≡ owner (bares us) a
unfolding owner
owner_bare us a = ap (find (λ (c : Covering). is_function c.die && holds_any c.spans a)) (covering_bare 0 us)

pub place_bare : (us : List UnitRead) (a : ℕ) → owner_place us a ≡ owner_place (bares us) a
unfolding owner_place
place_bare us a = ap (option_map place_of) (owner_bare us a)

other_bare : (us : List UnitRead) (a : ℕ) (o : Option Covering) → has_other us a o ≡ has_other (bares us) a o
other_bare us a None = refl
other_bare us a (Some c) = λ i. list_any (λ (d : Covering). owns a d && not (bytes_eq (name_bare us d.unit d.entry i) (name_bare us c.unit c.entry i))) (covering_bare 0 us i)

many_bare : (us : List UnitRead) (a : ℕ) → is_many us a ≡ is_many (bares us) a
unfolding is_many
many_bare us a = ap (has_other us a) (owner_bare us a) ∙ other_bare us a (owner (bares us) a)

marked_bare : (us : List UnitRead) (pieces : List Piece) → AreMarked us pieces → AreMarked (bares us) pieces
marked_bare us [] marked = tt
marked_bare us (p ∷ pieces) marked = (marked.0 ∙ many_bare us p.start, marked_bare us pieces marked.1)

pub pieces_bare : (us : List UnitRead) (pieces : List Piece) → ArePieces us pieces → ArePieces (bares us) pieces
pieces_bare us pieces are = record { runs = record { apart = are.runs.apart; values = λ a. are.runs.values a ∙ place_bare us a }; marks = marked_bare us pieces are.marks }

-- Chains.
by_bare : (unit entry a : ℕ) (o : Option UnitRead) → chain_by unit entry a o ≡ chain_by unit entry a (option_map bare o)
by_bare unit entry a None = refl
by_bare unit entry a (Some part) = refl

chain_bare : (us : List UnitRead) (unit entry a : ℕ) → entry_chain us unit entry a ≡ entry_chain (bares us) unit entry a
unfolding entry_chain
chain_bare us unit entry a = by_bare unit entry a (slice_get us unit) ∙ ap (chain_by unit entry a) (sym (slice_get-map bare us unit))

on_chain_bare : (us : List UnitRead) (piece : Piece) (level entry a : ℕ) → is_on_chain us piece level entry a ≡ is_on_chain (bares us) piece level entry a
unfolding is_on_chain
on_chain_bare us piece level entry a = ap (λ chain. is_inside a piece && option_map_or (λ (c : Covering). c.entry == entry) (slice_get chain level) false) (chain_bare us piece.unit piece.entry a)

pub runs_bare : (us : List UnitRead) (piece : Piece) (runs : List InlineParts) → AreInlineRuns us piece runs → AreInlineRuns (bares us) piece runs
runs_bare us piece runs are = record {
  ordered = are.ordered;
  copies = λ level entry. record {
    parts = (are.copies level entry).parts;
    canonical = (are.copies level entry).canonical;
    members = λ a. (are.copies level entry).members a ∙ on_chain_bare us piece level entry a;
  };
}
