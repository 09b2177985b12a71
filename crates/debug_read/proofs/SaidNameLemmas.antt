-- What is kept of units gives the same names of entries and paths of calls as what the units say;
-- for the law.
use Rattle.std.proofs.Common.{◌≡◌, ℕ, ◌+◌, Bool, true, false, List, [], ◌∷◌, codes, map, Option, None, Some, unwrap_or, option_and_then, arith, refl, sym, ap, ◌∙◌}
use Rattle.std.proofs.lemmas.Bool.Decides.{nat_tests}
use Rattle.std.specs.List.{find, slice_get}
use Rattle.sym_edges.specs.Addresses.{Range}
use Rattle.die_walk.specs.EntryTable.{DieFields, EntryTable}
use Rattle.line_program.specs.LineAt.{Lines, path_of}
use Rattle.line_program.specs.LineMaps.{LineMap, no_lines, numbered_file}
use Rattle.debug_units.specs.declared.unit_read.UnitRead.{UnitRead}
use Rattle.die_names.specs.Names.{entry_name}
use Rattle.debug_units.specs.EntriesAlone.{with_entries}
use Rattle.debug_units.specs.CallPaths.{no_path, file_path, file_path_in, path_of_call}
use Rattle.debug_units.specs.Owners.{Covering, unit_covering, chain_from, chain_by, chain_under, entry_chain, chain, owner}
use Rattle.die_names.proofs.AloneLemmas.{alone, name_alone}
use Rattle.debug_read.specs.Each.{Match}
use Rattle.debug_read.specs.UnitSays.{UnitSays}
use Rattle.debug_read.specs.UnitsRead.{IsUnitRead, KeepsLines, has_function}
use Rattle.debug_read.specs.SaidOwners.{SaidEntry, said_entries, said_owner, said_under, said_chain, said_place, kept_place}
use Rattle.debug_read.specs.SaidNames.{said_entries_alone, said_name, said_file_in, said_call_path}
use Rattle.debug_read.proofs.SaidLemmas.{said_owns, BothAlike, owners_alike, BothRead, both_read, under_alike, HasFunction, owner_function}

-- Names depend on the entries alone.
alone_said : (code : List Range) (says : List UnitSays) (units : List UnitRead) → Match (IsUnitRead code) says units → map said_entries_alone says ≡ alone units
alone_said code [] [] are = refl
alone_said code [] (part ∷ units) are = absurd are
alone_said code (said ∷ says) [] are = absurd are
alone_said code (said ∷ says) (part ∷ units) are =
    ap (λ (t : EntryTable). with_entries t ∷ map said_entries_alone says) (sym are.0.die) ∙ ap (λ (later : List UnitRead). with_entries part.die ∷ later) (alone_said code says units are.1)

pub names_same : (code : List Range) (says : List UnitSays) (units : List UnitRead) (unit entry : ℕ) → Match (IsUnitRead code) says units → said_name says unit entry ≡ entry_name units unit entry
unfolding said_name
names_same code says units unit entry are = ap (λ us. entry_name us unit entry) (alone_said code says units are) ∙ sym (name_alone units unit entry)

-- The path of a file, in a unit that has a function.
no_file : (o : Option ℕ) → None ≡ option_and_then (slice_get no_lines.paths) o
no_file None = refl
no_file (Some k) = refl

file_kept : (code : List Range) (some : Bool) (lines : Option Lines) (kept : LineMap) (file : ℕ) → some ≡ true → KeepsLines code some lines kept → option_and_then (λ l. path_of l.first l.files file) lines ≡ file_path kept file
file_kept code true (Some lines) kept file is keeps = sym (keeps.file file)
file_kept code true None kept file is keeps = no_file (numbered_file no_lines file) ∙ ap (λ (t : LineMap). file_path t file) (sym keeps)
file_kept code false lines kept file is keeps = absurd (cc)

file_by : (code : List Range) (file : ℕ) (said : Option UnitSays) (part : Option UnitRead) → ((s : UnitSays) → said ≡ Some s → has_function s.table.dies ≡ true) → BothRead code said part → said_file_in file said ≡ file_path_in file part
file_by code file None None some are = refl
file_by code file None (Some part) some are = absurd are
file_by code file (Some said) None some are = absurd are
file_by code file (Some said) (Some part) some are = file_kept code (has_function said.table.dies) said.lines part.lines file (some said refl) are.lines

-- The path of a call, given the numbers of its entry.
abbrev Place : Type 0
Place = ℕ × ℕ × DieFields

abbrev said_path : List UnitSays → Place → List ℕ
said_path says p = unwrap_or (option_and_then (λ file. said_file_in file (slice_get says p.0)) p.2.call_file) (codes "<name omitted>")

abbrev kept_path : List UnitRead → Covering → List ℕ
kept_path units c = path_of_call units c.unit c.die

path_by : (code : List Range) (says : List UnitSays) (units : List UnitRead) (n : ℕ) (file : Option ℕ) → HasFunction says n → Match (IsUnitRead code) says units
    → unwrap_or (option_and_then (λ f. said_file_in f (slice_get says n)) file) (codes "<name omitted>") ≡ unwrap_or (option_and_then (λ f. file_path_in f (slice_get units n)) file) no_path
unfolding no_path
path_by code says units n None some are = refl
path_by code says units n (Some f) some are = ap (λ o. unwrap_or o (codes "<name omitted>")) (file_by code f (slice_get says n) (slice_get units n) some (both_read code says units n are))

said_paths : (says : List UnitSays) (es : List SaidEntry) → map (said_call_path says) es ≡ map (said_path says) (map said_place es)
unfolding said_call_path
said_paths says [] = refl
said_paths says (e ∷ es) = ap (λ l. said_path says (said_place e) ∷ l) (said_paths says es)

-- All copies of a chain are in one unit.
abbrev AllIn : ℕ → List Covering → Type 0
AllIn n [] = Unit {0}
AllIn n (c ∷ cs) = (c.unit ≡ n) × AllIn n cs

covering_in : (unit entry : ℕ) (dies : List DieFields) (sets : List (List Range)) → AllIn unit (unit_covering unit entry dies sets)
covering_in unit entry [] sets = tt
covering_in unit entry (die ∷ dies) [] = tt
covering_in unit entry (die ∷ dies) (set ∷ sets) = (refl, covering_in unit (entry + 1) dies sets)

chain_in : (n : ℕ) (dies : List DieFields) (a entry : ℕ) (cs : List Covering) → AllIn n cs → AllIn n (chain_from dies a entry cs)
chain_in n dies a entry [] all = tt
chain_in n dies a entry (c ∷ cs) all = grind (arith, nat_tests, all.0, chain_in n dies a c.entry cs all.1, chain_in n dies a entry cs all.1)

by_in : (unit entry a : ℕ) (part : Option UnitRead) → AllIn unit (chain_by unit entry a part)
by_in unit entry a None = tt
by_in unit entry a (Some part) = chain_in unit part.die.dies a entry (unit_covering unit 0 part.die.dies part.spans) (covering_in unit 0 part.die.dies part.spans)

kept_paths : (code : List Range) (says : List UnitSays) (units : List UnitRead) (n : ℕ) (cs : List Covering) → HasFunction says n → Match (IsUnitRead code) says units → AllIn n cs → map (said_path says) (map kept_place cs) ≡ map (kept_path units) cs
unfolding path_of_call
kept_paths code says units n [] some are all = refl
kept_paths code says units n (c ∷ cs) some are all =
    let here : said_path says (kept_place c) ≡ kept_path units c =
    ap (λ k. unwrap_or (option_and_then (λ f. said_file_in f (slice_get says k)) c.die.call_file) (codes "<name omitted>")) all.0
    ∙ path_by code says units n c.die.call_file some are
    ∙ ap (λ k. unwrap_or (option_and_then (λ f. file_path_in f (slice_get units k)) c.die.call_file) no_path) (sym all.0) in
    ap (λ p. p ∷ map (said_path says) (map kept_place cs)) here ∙ ap (λ l. kept_path units c ∷ l) (kept_paths code says units n cs some are all.1)

calls_by : (code : List Range) (says : List UnitSays) (units : List UnitRead) (a : ℕ) (e : Option SaidEntry) (c : Option Covering) → find (said_owns code a) (said_entries 0 says) ≡ e → Match (IsUnitRead code) says units → BothAlike code a e c
    → map (said_call_path says) (said_under code says a e) ≡ map (kept_path units) (chain_under units a c)
unfolding entry_chain
calls_by code says units a None None found are is = refl
calls_by code says units a None (Some c) found are is = absurd is
calls_by code says units a (Some e) None found are is = absurd is
calls_by code says units a (Some e) (Some c) found are is =
    let unit : e.unit ≡ c.unit = ap (λ (p : Place). p.0) is.place in
    said_paths says (said_under code says a (Some e))
    ∙ ap (map (said_path says)) (under_alike code says units a (Some e) (Some c) are is)
    ∙ kept_paths code says units c.unit (chain_by c.unit c.entry a (slice_get units c.unit)) ((owner_function code a 0 says e found c.unit).1 (omega (arith, unit))) are (by_in c.unit c.entry a (slice_get units c.unit))

pub calls_same : (code : List Range) (says : List UnitSays) (units : List UnitRead) (a : ℕ) → Match (IsUnitRead code) says units → map (said_call_path says) (said_chain code says a) ≡ map (kept_path units) (chain units a)
unfolding said_chain said_owner chain
calls_same code says units a are = calls_by code says units a (find (said_owns code a) (said_entries 0 says)) (owner units a) refl are (owners_alike code says units a are)
