-- Where a call is, given its unit and its entry.
use Rattle.std.proofs.Common.{◌≡◌, ℕ, zero, suc, ◌<◌, length, List, [], ◌∷◌, arith, Option, None, Some, unwrap_or, option_and_then, refl, sym, ap, ◌∙◌, IfSome}
use Rattle.std.specs.List.{slice_get}
use Rattle.std.specs.Option.{option_map, option_map_or}
use Rattle.die_walk.specs.EntryTable.{DieFields}
use Rattle.line_program.specs.LineMaps.{LineMap, numbered_file}
use Rattle.debug_units.specs.declared.unit_read.UnitRead.{UnitRead}
use Rattle.debug_units.specs.UnitEntries.{Placed, entry_in, entry_of}
use Rattle.func_flatten.specs.LineRuns.{paths_in, unit_paths}
use Rattle.func_records.specs.declared.calls.CallSite.{CallSite}
use Rattle.debug_units.specs.CallPaths.{no_path, file_path, file_path_in, path_of_call}
use Rattle.func_records.specs.internal.Calls.{file_number_in, number_by, call_number, path_or, IsPathed, IsSite}

-- The entry does not exist.
lost_site : (units : List UnitRead) (unit entry : ℕ) → entry_of units unit entry ≡ None → IsSite units unit entry (record { path = None; line = 0 })
unfolding call_number
lost_site units unit entry none = record {
  number = sym (ap (option_and_then (number_by units unit)) none);
  line = sym (ap (λ o. option_map_or (λ (p : Placed). p.die.call_line) o 0) none);
  known = record {
    pathed = rw none tt;
    path = ap (λ o. option_map_or (λ (p : Placed). path_of_call units unit p.die) o no_path) none ∙ sym (ap (λ o. path_or units unit (option_and_then (number_by units unit) o)) none);
  };
}

pub site_without_unit : (units : List UnitRead) (unit entry : ℕ) (site : CallSite) → site ≡ record { path = None; line = 0 } → None ≡ slice_get units unit → IsSite units unit entry site
unfolding entry_of
site_without_unit units unit entry site is none = rw is (lost_site units unit entry (ap (entry_in unit entry) (sym none)))

pub site_without_entry : (units : List UnitRead) (unit entry : ℕ) (site : CallSite) (part : UnitRead) → site ≡ record { path = None; line = 0 } → Some part ≡ slice_get units unit → None ≡ slice_get part.die.dies entry → IsSite units unit entry site
unfolding entry_of
site_without_entry units unit entry site part is there none =
    rw is (lost_site units unit entry (ap (entry_in unit entry) (sym there) ∙ ap (option_map (λ (die : DieFields). record { unit = unit; entry = entry; die = die })) (sym none)))

-- The entry exists.
either_default : {X : Type 0} (xs : List X) (k : ℕ) (d e : X) → k < length xs → unwrap_or (slice_get xs k) d ≡ unwrap_or (slice_get xs k) e
either_default [] k d e below = absurd (omega arith)
either_default (x ∷ xs) zero d e below = refl
either_default (x ∷ xs) (suc k) d e below = either_default xs k d e (omega arith)

numbered_path : (table : LineMap) (o : Option ℕ) → IfSome o (λ k. k < length table.paths) → unwrap_or (option_and_then (slice_get table.paths) o) no_path ≡ option_map_or (λ k. unwrap_or (slice_get table.paths k) []) o no_path
numbered_path table None known = refl
numbered_path table (Some k) known = either_default table.paths k no_path [] known

filed_path : (table : LineMap) (file : Option ℕ) → IfSome (option_and_then (numbered_file table) file) (λ k. k < length table.paths) → unwrap_or (option_and_then (file_path table) file) no_path ≡ option_map_or (λ k. unwrap_or (slice_get table.paths k) []) (option_and_then (numbered_file table) file) no_path
filed_path table None known = refl
filed_path table (Some file) known = numbered_path table (numbered_file table file) known

path_or_by : (units : List UnitRead) (unit : ℕ) (o : Option ℕ) → path_or units unit o ≡ option_map_or (λ k. unwrap_or (slice_get (unit_paths units unit) k) []) o no_path
path_or_by units unit None = refl
path_or_by units unit (Some k) = refl

pathed_by : (units : List UnitRead) (unit : ℕ) (o : Option ℕ) → IfSome o (λ k. k < length (unit_paths units unit)) → IsPathed units unit o
pathed_by units unit None known = tt
pathed_by units unit (Some k) known = known

pub site_there : (units : List UnitRead) (unit entry : ℕ) (site : CallSite) (part : UnitRead) (die : DieFields) → Some part ≡ slice_get units unit → Some die ≡ slice_get part.die.dies entry → site.path ≡ option_and_then (numbered_file part.lines) die.call_file → IfSome site.path (λ k. k < length part.lines.paths) → site.line ≡ die.call_line → IsSite units unit entry site
unfolding entry_of unit_paths call_number path_of_call
site_there units unit entry site part die unit_is die_is path known line =
    let placed : Placed = record { unit = unit; entry = entry; die = die } in
    let is : entry_of units unit entry ≡ Some placed = ap (entry_in unit entry) (sym unit_is) ∙ ap (option_map (λ (d : DieFields). record { unit = unit; entry = entry; die = d })) (sym die_is) in
    let number : call_number units unit entry ≡ site.path
    = ap (option_and_then (number_by units unit)) is ∙ ap (λ u. option_and_then (λ file. file_number_in file u) die.call_file) (sym unit_is) ∙ sym path in
    let table : unit_paths units unit ≡ part.lines.paths = ap paths_in (sym unit_is) in
    let within : IfSome (option_and_then (numbered_file part.lines) die.call_file) (λ k. k < length part.lines.paths) = rw path at known in
    record {
      number = sym number;
      line = line ∙ sym (ap (λ o. option_map_or (λ (p : Placed). p.die.call_line) o 0) is);
      known = record {
        pathed = rw number (pathed_by units unit site.path (rw table known));
        path = ap (λ o. option_map_or (λ (p : Placed). path_of_call units unit p.die) o no_path) is
            ∙ ap (λ u. unwrap_or (option_and_then (λ file. file_path_in file u) die.call_file) no_path) (sym unit_is)
            ∙ filed_path part.lines die.call_file within
            ∙ ap (λ o. option_map_or (λ k. unwrap_or (slice_get part.lines.paths k) []) o no_path) (sym path)
            ∙ ap (λ (ps : List (List ℕ)). option_map_or (λ k. unwrap_or (slice_get ps k) []) site.path no_path) (sym table)
            ∙ sym (path_or_by units unit site.path)
            ∙ ap (path_or units unit) (sym number);
      };
    }
