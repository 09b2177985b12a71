-- Worked examples: which function owns which addresses. There is a character for each address, in
-- order: the number of the owner's entry, or a point.
use Rattle.std.proofs.Common.{◌≡◌, ℕ, ◌+◌, ◌-◌, ◌*◌, ◌^◌, Bool, true, false, map, List, [], ◌∷◌, Option, Some, None, codes, rules}
use Rattle.std.specs.List.{range_with_len}
use Prim.Native.String.{String}
use Rattle.sym_edges.specs.Addresses.{Range}
use Rattle.sym_edges.proofs.Shown.{shown}
use Rattle.die_walk.specs.EntryTable.{DieFields}
use Rattle.debug_units.specs.declared.unit_read.UnitRead.{UnitRead}
use Rattle.debug_units.specs.declared.unit_read.EntryRef.{EntryRef}
use Rattle.debug_units.proofs.MadeUnits.{bare_entry, bare_unit}
use Rattle.func_flatten.specs.Pieces.{owner_place, is_many}
use Rattle.func_flatten.proofs.Computing.{func_flatten_computes}

-- An entry, given its tag, whether it is a declaration, its name and its addresses.
record Made : Type 0 where
  die : DieFields
  spans : List Range

unfoldable entry : ℕ → Bool → Option (List ℕ) → List Range → Made
entry tag declaration name spans = record {
  die = record (bare_entry tag) { parent = Some 0; declaration = declaration; linkage = name };
  spans = spans;
}

-- A function with this name and these addresses.
unfoldable function : List ℕ → List Range → Made
function name spans = entry 0x2e false (Some name) spans

abbrev on : ℕ → ℕ → Range
on start end = record { start = start; end = end }

unfoldable unit : List Made → UnitRead
unit entries = bare_unit (map (λ m. m.die) entries) (map (λ m. m.spans) entries)

abbrev digit : Option EntryRef → ℕ
digit None = 46
digit (Some p) = 48 + p.entry + p.unit * 4

-- A plus sign if a function with another name has the address too, otherwise a minus sign.
abbrev sign : Bool → ℕ
sign true = 43
sign false = 45

unfoldable owners : List UnitRead → ℕ → ℕ → String
owners units from count = shown (map (λ a. digit (owner_place units a)) (range_with_len from count))

unfoldable marks : List UnitRead → ℕ → ℕ → String
marks units from count = shown (map (λ a. sign (is_many units a)) (range_with_len from count))

-- The first entry of the unit is its root.
abbrev root : Made
root = entry 0x11 false None []

unfoldable one : List Made → List UnitRead
one entries = unit (root ∷ entries) ∷ []

-- Two functions with the same addresses.
unfoldable same : List UnitRead
same = one (function (codes "a") (on 2 5 ∷ []) ∷ function (codes "b") (on 2 5 ∷ []) ∷ [])

-- Of two functions that overlap, the later one owns the rest.
unfoldable later : List UnitRead
later = one (function (codes "a") (on 0x1000 0x1010 ∷ []) ∷ function (codes "b") (on 0x1008 0x1018 ∷ []) ∷ [])

-- The later function is inside the earlier one, and begins at the same address.
unfoldable within : List UnitRead
within = one (function (codes "a") (on 0x1000 0x1010 ∷ []) ∷ function (codes "b") (on 0x1000 0x1008 ∷ []) ∷ [])

-- Nested functions, the inner one first; two functions that touch; one with several ranges, and one
-- without ranges.
unfoldable several : List UnitRead
several = one (function (codes "inner") (on 3 5 ∷ []) ∷ function (codes "outer") (on 1 7 ∷ on 8 9 ∷ []) ∷ function (codes "next") (on 7 8 ∷ []) ∷ function (codes "none") [] ∷ [])

-- Two functions with the same name, and with names that are equal after cleaning.
unfoldable alike : List ℕ → List UnitRead
alike name = one (function (codes "?") (on 2 5 ∷ []) ∷ function name (on 2 5 ∷ []) ∷ [])

-- A declaration and an inlined copy own nothing.
unfoldable passed : List UnitRead
passed = one (entry 0x2e true (Some (codes "d")) (on 2 5 ∷ []) ∷ entry 0x1d false (Some (codes "i")) (on 2 5 ∷ []) ∷ function (codes "f") (on 3 5 ∷ []) ∷ [])

-- Units, in the order of the section.
unfoldable units : List UnitRead
units = unit (root ∷ function (codes "a") (on 2 4 ∷ []) ∷ []) ∷ unit (root ∷ function (codes "b") (on 0 4 ∷ []) ∷ []) ∷ []

-- No range has the address 2^64 - 1.
unfoldable last : List UnitRead
last = one (function (codes "a") (on (2 ^ 64 - 3) (2 ^ 64 - 1) ∷ []) ∷ [])

record Owned : Type 0 where
  same_owners : owners same 0 7 ≡ "..111.."
  same_marks : marks same 0 7 ≡ "--+++--"
  later_owners : owners later 0x0ffe 0x1c ≡ "..111111111111111122222222.."
  -- Where the later function begins there is another name; where its own part begins there is none.
  later_marks : marks later 0x1006 0x14 ≡ "--++++++++----------"
  within_owners : owners within 0x0fff 0x12 ≡ ".1111111111111111."
  within_marks : marks within 0x1000 0x10 ≡ "++++++++--------"
  several_owners : owners several 0 11 ≡ ".22112232.."
  alike_marks : marks (alike (codes "?")) 0 7 ≡ "-------"
  cleaned_alike : marks (alike (32 ∷ 9 ∷ [])) 0 7 ≡ "-------"
  not_alike : marks (alike (codes "??")) 0 7 ≡ "--+++--"
  passed_owners : owners passed 0 7 ≡ "...33.."
  passed_marks : marks passed 0 7 ≡ "-------"
  units_owners : owners units 0 5 ≡ "5511."
  last_owners : owners last (2 ^ 64 - 4) 6 ≡ ".11..."

owned : Owned
unfolding owners same one function entry unit func_flatten_computes marks later within several alike passed units last
owned = search rules
