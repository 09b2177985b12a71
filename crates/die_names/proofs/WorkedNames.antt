-- Worked examples: the names of entries.
use Rattle.std.proofs.Common.{◌≡◌, ℕ, List, [], ◌∷◌, map, Option, Some, None, codes, suc, zero, ◌+◌, true, rules}
use Rattle.die_walk.specs.EntryTable.{DieFields}
use Rattle.debug_units.specs.declared.unit_read.UnitRead.{UnitRead}
use Rattle.die_names.specs.Names.{entry_name}
use Rattle.die_names.proofs.Computing.{die_names_computes}
use Rattle.debug_units.proofs.MadeUnits.{bare_entry, bare_unit}

-- An entry, given its place, its tag, its parent, its links and its names.
unfoldable die : ℕ → ℕ → Option ℕ → Option ℕ → Option ℕ → Option (List ℕ) → Option (List ℕ) → DieFields
die at tag parent origin spec name linkage = record (bare_entry tag) { at = at; parent = parent; origin = origin; spec = spec; name = name; linkage = linkage }

unfoldable unit : List DieFields → UnitRead
unit dies = bare_unit dies (map (λ (d : DieFields). []) dies)

-- The root of a unit, without a name.
unfoldable root : ℕ → DieFields
root at = die at 0x11 None None None None None

-- A method, whose specification is in a structure in a namespace.
unfoldable method : List UnitRead
method = unit (
    root 11
    ∷ die 20 0x39 (Some 0) None None (Some (codes "n")) None
    ∷ die 30 0x13 (Some 1) None None (Some (codes "S")) None
    ∷ die 40 0x2e (Some 2) None None (Some (codes "f")) None
    ∷ die 50 0x2e (Some 0) None (Some 40) None None
    ∷ []) ∷ []

-- Two entries without names, each of which is the origin of the other.
unfoldable ring : List UnitRead
ring = unit (root 11 ∷ die 20 0x2e (Some 0) (Some 30) None None None ∷ die 30 0x2e (Some 0) (Some 20) None None None ∷ []) ∷ []

-- A chain of entries at the places 100, 101 and so on. The origin of each is the next one; only the
-- last one has a name.
unfoldable links : ℕ → ℕ → List DieFields
links at zero = die at 0x2e (Some 0) None None (Some (codes "last")) None ∷ []
links at (suc more) = die at 0x2e (Some 0) (Some (at + 1)) None None None ∷ links (at + 1) more

-- The same chain with specifications instead of origins.
unfoldable specified : ℕ → ℕ → List DieFields
specified at zero = die at 0x2e (Some 0) None None (Some (codes "last")) None ∷ []
specified at (suc more) = die at 0x2e (Some 0) None (Some (at + 1)) None None ∷ specified (at + 1) more

-- Entries with a link into another unit, to no entry, and to the byte after the start of an entry.
unfoldable leading : ℕ → List UnitRead
leading place = unit (root 11 ∷ die 20 0x2e (Some 0) (Some place) None None None ∷ []) ∷ unit (root 111 ∷ die 120 0x39 (Some 0) None None (Some (codes "m")) None ∷ die 130 0x2e (Some 1) None None (Some (codes "g")) None ∷ []) ∷ []

-- If the origin leads to no entry, the way ends, and the specification is not followed.
unfoldable both : ℕ → List UnitRead
both origin = unit (root 11 ∷ die 20 0x2e (Some 0) (Some origin) (Some 40) None None ∷ die 30 0x2e (Some 0) None None (Some (codes "o")) None ∷ die 40 0x2e (Some 0) None None (Some (codes "s")) None ∷ []) ∷ []

-- A linkage name later on the way comes before a name, even if it is empty.
unfoldable linkage_behind : List ℕ → List UnitRead
linkage_behind linkage = unit (root 11 ∷ die 20 0x2e (Some 0) (Some 30) None (Some (codes "near")) None ∷ die 30 0x2e (Some 0) None None (Some (codes "far")) (Some linkage) ∷ []) ∷ []

-- Scopes without a name and with an empty name. Functions and other entries around an entry give no
-- prefix.
unfoldable scoped : Option (List ℕ) → ℕ → List UnitRead
scoped name tag = unit (root 11 ∷ die 20 0x02 (Some 0) None None (Some (codes "C")) None ∷ die 30 tag (Some 1) None None name None ∷ die 40 0x2e (Some 2) None None (Some (codes "f")) None ∷ []) ∷ []

-- A scope whose name is in a supplementary file that was not read.
unfoldable elsewhere : ℕ → List UnitRead
elsewhere tag = unit (root 11 ∷ record (die 20 tag (Some 0) None None None None) { name_elsewhere = true } ∷ die 30 0x2e (Some 1) None None (Some (codes "f")) None ∷ []) ∷ []

unfoldable scoped_elsewhere : ℕ → List UnitRead
scoped_elsewhere tag = unit (root 11 ∷ die 20 0x02 (Some 0) None None (Some (codes "C")) None ∷ record (die 30 tag (Some 1) None None None None) { name_elsewhere = true } ∷ die 40 0x2e (Some 2) None None (Some (codes "f")) None ∷ []) ∷ []

record Named : Type 0 where
  of_a_method : entry_name method 0 4 ≡ codes "n::S::f"
  of_a_ring : entry_name ring 0 1 ≡ codes "<name omitted>"
  -- Sixteen links are followed.
  of_sixteen_links : entry_name (unit (root 11 ∷ links 100 16) ∷ []) 0 1 ≡ codes "last"
  -- A seventeenth link is not followed.
  of_seventeen_links : entry_name (unit (root 11 ∷ links 100 17) ∷ []) 0 1 ≡ codes "<name omitted>"
  of_sixteen_specifications : entry_name (unit (root 11 ∷ specified 100 16) ∷ []) 0 1 ≡ codes "last"
  of_seventeen_specifications : entry_name (unit (root 11 ∷ specified 100 17) ∷ []) 0 1 ≡ codes "<name omitted>"
  into_another_unit : entry_name (leading 130) 0 1 ≡ codes "m::g"
  one_byte_beside : entry_name (leading 131) 0 1 ≡ codes "<name omitted>"
  behind_the_section : entry_name (leading 1000) 0 1 ≡ codes "<name omitted>"
  origin_before_specification : entry_name (both 30) 0 1 ≡ codes "o"
  origin_without_an_entry : entry_name (both 31) 0 1 ≡ codes "<name omitted>"
  linkage_first : entry_name (linkage_behind (codes "_Z3farv")) 0 1 ≡ codes "_Z3farv"
  empty_linkage : entry_name (linkage_behind []) 0 1 ≡ codes "<name omitted>"
  unnamed_scope : entry_name (scoped None 0x17) 0 3 ≡ codes "C::(anonymous)::f"
  outermost_elsewhere : entry_name (elsewhere 0x39) 0 2 ≡ codes "<name omitted>::f"
  scope_elsewhere : entry_name (scoped_elsewhere 0x39) 0 3 ≡ codes "C::<name omitted>::f"
  a_function_elsewhere : entry_name (scoped_elsewhere 0x2e) 0 2 ≡ codes "<name omitted>"
  empty_scope : entry_name (scoped (Some []) 0x39) 0 3 ≡ codes "C::::f"
  inside_a_function : entry_name (scoped (Some (codes "outer")) 0x2e) 0 3 ≡ codes "C::f"
  -- Names are cleaned.
  unclean : entry_name (scoped (Some (9 ∷ 32 ∷ [])) 0x13) 0 2 ≡ codes "C::? "
  control_bytes : entry_name (scoped (Some (31 ∷ 65 ∷ 127 ∷ [])) 0x13) 0 2 ≡ codes "C::?A?"
  leading_spaces : entry_name (linkage_behind (codes "  f g")) 0 1 ≡ codes "f g"
  -- There is no entry with these numbers.
  no_such_entry : entry_name method 0 9 ≡ codes "<name omitted>"

named : Named
unfolding die_names_computes method root unit die ring links specified leading both linkage_behind scoped elsewhere scoped_elsewhere
named = search rules
