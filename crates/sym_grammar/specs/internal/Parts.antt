-- What holds between the calls of a reader.
use Rattle.std.specs.Prelude.{◌≡◌, ℕ, ◌≤◌, true, List, ◌++◌, length, None, Err}
use Rattle.std.specs.List.{list_all}
use Rattle.sym_rules.specs.Cuts.{is_within_line}
use Rattle.sym_records.specs.Validity.{first_bad_from, place_behind}
use Rattle.sym_records.specs.Reading.{Seen, with_lines}
use Rattle.sym_records.specs.declared.line.SymLine.{SymLine}
use Rattle.sym_records.specs.declared.place.Place.{Place}
use Rattle.sym_records.specs.declared.place.Place.TheVariants.{Start}
use Rattle.sym_rules.specs.declared.text_fault.TextFault.{TextFault}
use Rattle.sym_grammar.specs.Answer.{Part, outcome, whole_lines, open_line}
use Rattle.sym_grammar.specs.Input.{decided}

-- the start of a line: it has no LF and is not too long
pub record IsFront (limit : ℕ) (held : List ℕ) : Type 0 where
  pub one_line : list_all is_within_line held ≡ true
  pub short : length held ≤ limit

-- valid records, and the place after them
pub record AreGood (lines : List SymLine) (place : Place) : Type 0 where
  pub valid : first_bad_from 0 Start lines ≡ None
  pub after : place ≡ place_behind Start lines

abbrev pub part_of : Seen → List ℕ → Part
part_of seen held = record { seen = seen; held = held }

-- some of the bytes were read, and `rest` is left; the outcome does not change
pub record GoesOn (limit : ℕ) (old : Part) (bytes : List ℕ) (new : Part) (rest : List ℕ) : Type 0 where
  pub same : (more : List ℕ) → outcome limit new (rest ++ more) ≡ outcome limit old (bytes ++ more)
  pub lines : with_lines limit new.seen (whole_lines (new.held ++ rest)) ≡ with_lines limit old.seen (whole_lines (old.held ++ bytes))
  pub held : open_line (new.held ++ rest) ≡ open_line (old.held ++ bytes)

-- the bytes decide this fault, whatever follows them
pub record Faults (limit : ℕ) (old : Part) (bytes : List ℕ) (fault : TextFault) : Type 0 where
  pub always : (more : List ℕ) → outcome limit old (bytes ++ more) ≡ Err fault
  pub decides : decided limit old bytes ≡ Err fault
