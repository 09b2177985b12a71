-- What an index of a list of records contains: at each address of 64 bits it gives the records that
-- a scan of the list finds.
use Rattle.std.specs.Prelude.{◌≡◌, ℕ, List, length}
use Rattle.std.specs.List.{position}
use Rattle.std.specs.List.Sorted.{IsNonDecreasingBy}
use Rattle.sym_records.specs.declared.line.SymLine.{SymLine}
use Rattle.cfi_eval.specs.Inits.{init_place}
use Rattle.sym_lookup.specs.declared.marks.Mark.{Mark}
use Rattle.sym_lookup.specs.declared.index.Index.{Index}
use Rattle.sym_meaning.specs.TextNames.{is_file, is_origin}
use Rattle.sym_lookup.specs.declared.numbers.Numbers.{Numbers}
use Rattle.sym_lookup.specs.Answers.{func_place, public_place}
use Rattle.sym_lookup.specs.UnderOf.{AreUnders}
use Rattle.sym_lookup.specs.internal.HeldUnders.{AreHeld}
use Rattle.sym_lookup.specs.PlaceMaps.{IsPlaceMap}
use Rattle.sym_lookup.specs.NearestMarks.{mark_at, public_of, numbered}

-- marks of FUNC and of PUBLIC records, sorted by their keys, that give the result of `public_place`
-- at each address
pub record AreMarksOf (lines : List SymLine) (starts publics : List Mark) : Type 0 where
  pub starts_sorted : IsNonDecreasingBy (λ m. m.key) starts
  pub publics_sorted : IsNonDecreasingBy (λ m. m.key) publics
  pub public : (x : ℕ) → public_of (mark_at publics x) (mark_at starts x) ≡ public_place lines x

-- marks, sorted by their keys, that give the first FILE and the first INLINE_ORIGIN of each number
pub record AreNumbersOf (lines : List SymLine) (numbers : Numbers) : Type 0 where
  pub files_sorted : IsNonDecreasingBy (λ m. m.key) numbers.files.items
  pub origins_sorted : IsNonDecreasingBy (λ m. m.key) numbers.origins.items
  pub file : (n : ℕ) → numbered n (mark_at numbers.files.items n) ≡ position (is_file n) lines
  pub origin : (n : ℕ) → numbered n (mark_at numbers.origins.items n) ≡ position (is_origin n) lines

-- an index has, for each address, the first FUNC and the first INIT there; the marks; what is under
-- FUNC records; and the records of each number. `held` says for which FUNC records the index stores
-- what is under them; only speed depends on that
pub record IsIndexOf (lines : List SymLine) (index : Index) : Type 0 where
  pub funcs : IsPlaceMap (func_place lines) index.funcs
  pub inits : IsPlaceMap (init_place lines) index.inits
  pub marks : AreMarksOf lines index.starts.items index.publics.items
  pub unders : AreUnders lines index.unders.items
  pub held : AreHeld lines 0 (length lines) index.unders.items
  pub numbers : AreNumbersOf lines index.numbers
