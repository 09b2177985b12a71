-- The addresses that functions own are code; for the law `owners_are_code`.
use Rattle.std.proofs.Common.{◌≡◌, ℕ, ◌+◌, ◌≤◌, Bool, true, ◌&&◌, List, [], ◌∷◌, ◌++◌, Some, arith}
use Rattle.std.proofs.lemmas.Bool.Decides.{nat_tests}
use Rattle.std.specs.List.{find, list_any}
use Rattle.sym_edges.specs.Addresses.{Range}
use Rattle.elf_sections.specs.Image.{ImageParts}
use Rattle.range_set.specs.Enclosing.{encloses}
use Rattle.range_set.specs.Members.{holds_any}
use Rattle.range_set.specs.Starts.{AllFrom}
use Rattle.range_lists.specs.EntryRanges.{in_pairs}
use Rattle.die_walk.specs.EntryTable.{DieFields}
use Rattle.debug_units.specs.declared.unit_read.UnitRead.{UnitRead}
use Rattle.die_walk.specs.EntryKinds.{is_function}
use Rattle.debug_units.specs.Owners.{Covering, unit_covering, covering_from, owner}
use Rattle.debug_read.specs.Each.{Match}
use Rattle.debug_read.specs.UnitSays.{UnitSays}
use Rattle.debug_read.specs.UnitsRead.{IsSet, IsUnitRead}
use Rattle.debug_read.specs.DebugSays.{IsDebugRead}
use Rattle.debug_read.specs.declared.found.DebugRead.{DebugRead}
use Rattle.debug_read.proofs.KeptLemmas.{kept}

-- An address of a function is code, so it is not below the base.
code_above : (base start end : ℕ) (code : List Range) → AllFrom base code → encloses code start end ≡ true → base ≤ start
unfolding encloses
code_above base start end [] above is = absurd (cc)
code_above base start end (range ∷ code) above is = grind (arith, nat_tests, above.0, is, code_above base start end code above.1)

pairs_above : (base a : ℕ) (code pairs : List Range) → AllFrom base code → in_pairs code pairs a ≡ true → base ≤ a
pairs_above base a code [] above is = absurd (cc)
pairs_above base a code (pair ∷ pairs) above is = grind (arith, nat_tests, is, code_above base pair.start pair.end code above, pairs_above base a code pairs above)

-- The entries of a unit, and of all units.
abbrev owns : ℕ → Covering → Bool
owns a c = is_function c.die && holds_any c.spans a

unit_above : (base a : ℕ) (code : List Range) (unit entry : ℕ) (dies : List DieFields) (pairs sets : List (List Range)) (rest : List Covering) → AllFrom base code → Match (IsSet code) pairs sets → list_any (owns a) (unit_covering unit entry dies sets ++ rest) ≡ true → (list_any (owns a) rest ≡ true → base ≤ a) → base ≤ a
unit_above base a code unit entry [] pairs sets rest above are is later = later is
unit_above base a code unit entry (die ∷ dies) pairs [] rest above are is later = later is
unit_above base a code unit entry (die ∷ dies) [] (set ∷ sets) rest above are is later = absurd are
unit_above base a code unit entry (die ∷ dies) (own ∷ pairs) (set ∷ sets) rest above are is later =
    let next : list_any (owns a) (unit_covering unit (entry + 1) dies sets ++ rest) ≡ true → base ≤ a = λ more. unit_above base a code unit (entry + 1) dies pairs sets rest above are.1 more later in
    grind (arith, nat_tests, is, are.0.each a, pairs_above base a code own above, next)

all_above : (base a : ℕ) (code : List Range) (unit : ℕ) (says : List UnitSays) (parts : List UnitRead) → AllFrom base code → Match (IsUnitRead code) says parts → list_any (owns a) (covering_from unit parts) ≡ true → base ≤ a
all_above base a code unit says [] above are is = absurd (cc)
all_above base a code unit [] (part ∷ parts) above are is = absurd are
all_above base a code unit (s ∷ says) (part ∷ parts) above are is =
    unit_above base a code unit 0 part.die.dies s.pairs part.spans (covering_from (unit + 1) parts) above are.0.spans is (λ later. all_above base a code (unit + 1) says parts above are.1 later)

found_any : (p : Covering → Bool) (all : List Covering) (c : Covering) → find p all ≡ Some c → list_any p all ≡ true
found_any p [] c is = absurd (cc)
found_any p (x ∷ all) c is = grind (arith, nat_tests, is, found_any p all c)

owner_above : (base a : ℕ) (code : List Range) (says : List UnitSays) (parts : List UnitRead) (c : Covering) → AllFrom base code → Match (IsUnitRead code) says parts → owner parts a ≡ Some c → base ≤ a
unfolding owner
owner_above base a code says parts c above are is = all_above base a code 0 says parts above are (found_any (owns a) (covering_from 0 parts) c is)

pub owners_above : (image : ImageParts) (read : DebugRead) → IsDebugRead image read → AllFrom image.base image.code → (a : ℕ) (c : Covering) → owner read.units a ≡ Some c → image.base ≤ a
owners_above image read is above a c owned = let k = kept image read is in owner_above image.base a image.code k.says.units read.units c above k.units owned
