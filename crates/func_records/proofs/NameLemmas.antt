-- In a text with the records of functions, a look-up names the owner, the inlined copies and the
-- line of each address.
use Rattle.std.proofs.Common.{◌≡◌, ℕ, ◌+◌, ◌-◌, ◌<◌, ◌≤◌, Bool, true, false, ◌&&◌, ◌||◌, nat_le, nat_lt, if◌then◌else◌, map, List, [], ◌∷◌, ◌++◌, Option, None, Some, arith, refl, sym, ap, ◌∙◌, append_assoc, append-nil}
use Rattle.std.proofs.lemmas.Bool.Decides.{nat_tests}
use Rattle.std.proofs.lemmas.Slice.Eq.{bytes_eq-Decides}
use Rattle.std.specs.List.{find, slice_get, list_any}
use Rattle.std.specs.Str.{bytes_eq}
use Rattle.std.specs.Option.{option_map, option_map_or, option_and_then}
use Rattle.step_maps.specs.Runs.{Run, has, value_in, AreRuns, between}
use Rattle.step_maps.proofs.MaximalLemmas.{maximal}
use Rattle.sym_records.specs.declared.line.SymLine.{SymLine}
use Rattle.sym_meaning.specs.TextNames.{is_within, is_line_at, under, Found, text_func, func_name, text_owner, line_under, text_line, text_path, path_and_line, text_origin, Call, call_of, level_count, inlines_from, inlines_under, text_chain}
use Rattle.sym_meaning.specs.Plain.{ArePlain, HaveNoFile, HaveNoOrigin}
use Rattle.sym_meaning.proofs.TextLemmas.{func_behind, none_under}
use Rattle.debug_units.specs.declared.unit_read.UnitRead.{UnitRead}
use Rattle.die_names.specs.Names.{entry_name}
use Rattle.debug_units.specs.Owners.{Covering, owner, chain, entry_chain, chain_under, line, line_in, line_under as owner_line}
use Rattle.debug_units.specs.declared.unit_read.EntryRef.{EntryRef}
use Rattle.func_flatten.specs.declared.piece.Piece.{Piece}
use Rattle.func_flatten.specs.declared.line_run.LineRun.{LineRun}
use Rattle.func_flatten.specs.Pieces.{piece_run, place_of, owner_place, ArePieces}
use Rattle.func_flatten.specs.LineRuns.{path_line, path_run, unit_line, unit_paths, AreLineRuns}
use Rattle.inline_chain.specs.InlineRuns.{InlineParts}
use Rattle.func_records.specs.FuncRecords.{Part, pieces_of, path_in, call_path, number_in, file_lines, origin_lines, func_record, line_record, inline_record, part_lines, AreLined, AreInlined, BeginAbove, names_path, names_origin, AreFuncRecords}
use Rattle.func_records.specs.TextNames.{name_of, call_in, found_line, Names}
use Rattle.func_records.proofs.FoundLemmas.{path_found, origin_found}
use Rattle.func_records.proofs.CallLemmas.{below, line_past, part_calls, HasPaths, HasOrigins}
use Rattle.func_records.proofs.ListLemmas.{or_left, or_right}
use Rattle.func_records.proofs.RunLemmas.{AreBetween, AreFrom, are_between, from_between}

-- Earlier records that are no FUNC.
no_func : (behind : List SymLine) (x : ℕ) → ArePlain behind → text_func behind x ≡ None
no_func behind x plain = ap (λ l. text_func l x) (sym (append-nil behind)) ∙ func_behind behind [] x plain

func_files : (k : ℕ) (paths : List (List ℕ)) (rest : List SymLine) (x : ℕ) → text_func (file_lines k paths ++ rest) x ≡ text_func rest x
func_files k [] rest x = refl
func_files k (path ∷ paths) rest x = func_files (k + 1) paths rest x

func_origins : (k : ℕ) (names : List (List ℕ)) (rest : List SymLine) (x : ℕ) → text_func (origin_lines k names ++ rest) x ≡ text_func rest x
func_origins k [] rest x = refl
func_origins k (name ∷ names) rest x = func_origins (k + 1) names rest x

func_copies : (base : ℕ) (paths names : List (List ℕ)) (units : List UnitRead) (unit : ℕ) (copies : List InlineParts) (rest : List SymLine) (x : ℕ) → text_func (map (inline_record base paths names units unit) copies ++ rest) x ≡ text_func rest x
func_copies base paths names units unit [] rest x = refl
func_copies base paths names units unit (r ∷ copies) rest x = func_copies base paths names units unit copies rest x

func_lines : (base : ℕ) (paths : List (List ℕ)) (units : List UnitRead) (unit : ℕ) (runs : List LineRun) (rest : List SymLine) (x : ℕ) → text_func (map (line_record base paths units unit) runs ++ rest) x ≡ text_func rest x
func_lines base paths units unit [] rest x = refl
func_lines base paths units unit (r ∷ runs) rest x = func_lines base paths units unit runs rest x

under_lines : (base : ℕ) (paths : List (List ℕ)) (units : List UnitRead) (unit : ℕ) (runs : List LineRun) (rest : List SymLine) → under rest ≡ [] → under (map (line_record base paths units unit) runs ++ rest) ≡ map (line_record base paths units unit) runs
under_lines base paths units unit [] rest none = none
under_lines base paths units unit (r ∷ runs) rest none = ap (λ k. line_record base paths units unit r ∷ k) (under_lines base paths units unit runs rest none)

under_copies : (base : ℕ) (paths names : List (List ℕ)) (units : List UnitRead) (unit : ℕ) (copies : List InlineParts) (rest : List SymLine) → under (map (inline_record base paths names units unit) copies ++ rest) ≡ map (inline_record base paths names units unit) copies ++ under rest
under_copies base paths names units unit [] rest = refl
under_copies base paths names units unit (r ∷ copies) rest = ap (λ k. inline_record base paths names units unit r ∷ k) (under_copies base paths names units unit copies rest)

-- A record covers an address of the text exactly if its run has the address.
within_run : (base start end x : ℕ) → base ≤ start → start < end → is_within (start - base) (end - start) x ≡ (nat_le start (x + base) && nat_lt (x + base) end)
within_run base start end x above some = grind (arith, nat_tests)

-- At an address between the two.
between_in : (low high a : ℕ) (f : ℕ → Option (List ℕ × ℕ)) → low ≤ a → a < high → between low high f a ≡ f a
between_in low high a f above below =
    let inside : (nat_le low a && nat_lt a high) ≡ true = grind (arith, nat_tests) in
    ap (λ b. if b then f a else None) inside

-- The path that is found by its number, and the line.
abbrev numbered : List SymLine → List (List ℕ) → List ℕ × ℕ → Option (List ℕ) × ℕ
numbered records paths m = (text_path records (number_in paths m.0), m.1)

-- The line record that is found is that of the run.
line_found : (base : ℕ) (paths : List (List ℕ)) (units : List UnitRead) (unit low x : ℕ) (records : List SymLine) (runs : List LineRun) → base ≤ low → AreFrom low (map (path_run (unit_paths units unit)) runs) → AreRuns (map (path_run (unit_paths units unit)) runs) → option_map (path_and_line records) (find (is_line_at x) (map (line_record base paths units unit) runs)) ≡ option_map (numbered records paths) (value_in (map (path_run (unit_paths units unit)) runs) (x + base))
line_found base paths units unit low x records [] above from apart = refl
line_found base paths units unit low x records (r ∷ runs) above from apart =
    ap (λ b. option_map (path_and_line records) (if b then Some (line_record base paths units unit r) else find (is_line_at x) (map (line_record base paths units unit) runs))) (within_run base r.start r.end x (omega (arith, from.0)) apart.0)
    ∙ go (has (path_run (unit_paths units unit) r) (x + base)) (line_found base paths units unit low x records runs above from.1 apart.2)
  where
    go : (b : Bool) → option_map (path_and_line records) (find (is_line_at x) (map (line_record base paths units unit) runs)) ≡ option_map (numbered records paths) (value_in (map (path_run (unit_paths units unit)) runs) (x + base))
        → option_map (path_and_line records) (if b then Some (line_record base paths units unit r) else find (is_line_at x) (map (line_record base paths units unit) runs)) ≡ option_map (numbered records paths) (if b then Some (path_line (unit_paths units unit) (r.path, r.line)) else value_in (map (path_run (unit_paths units unit)) runs) (x + base))
    go true is = refl
    go false is = is

-- The lines of a part are inside its piece.
pub lines_between : (units : List UnitRead) (p : Part) → AreLineRuns units p.piece p.lines → AreBetween p.piece.start p.piece.end (map (path_run (unit_paths units p.piece.unit)) p.lines)
lines_between units p lined =
    are_between p.piece.start p.piece.end (unit_line units p.piece.unit) (map (path_run (unit_paths units p.piece.unit)) p.lines) (maximal _ (map (path_run (unit_paths units p.piece.unit)) p.lines) lined.paths)

-- No line record comes after a part.
none_after : (base : ℕ) (paths names : List (List ℕ)) (units : List UnitRead) (parts : List Part) (behind : List SymLine) → ArePlain behind → under (part_lines base paths names units parts ++ behind) ≡ []
none_after base paths names units [] behind plain = none_under behind plain
none_after base paths names units (p ∷ parts) behind plain = refl

-- The records after the FUNC of a part.
abbrev pub after : ℕ → List (List ℕ) → List (List ℕ) → List UnitRead → Part → List Part → List SymLine → List SymLine
after base paths names units p parts behind = (map (inline_record base paths names units p.piece.unit) p.copies ++ (map (line_record base paths units p.piece.unit) p.lines ++ part_lines base paths names units parts)) ++ behind

pub regroup : (base : ℕ) (paths names : List (List ℕ)) (units : List UnitRead) (p : Part) (parts : List Part) (behind : List SymLine) → after base paths names units p parts behind ≡ map (inline_record base paths names units p.piece.unit) p.copies ++ (map (line_record base paths units p.piece.unit) p.lines ++ (part_lines base paths names units parts ++ behind))
regroup base paths names units p parts behind =
    append_assoc (map (inline_record base paths names units p.piece.unit) p.copies) (map (line_record base paths units p.piece.unit) p.lines ++ part_lines base paths names units parts) behind
    ∙ ap (λ l. map (inline_record base paths names units p.piece.unit) p.copies ++ l) (append_assoc (map (line_record base paths units p.piece.unit) p.lines) (part_lines base paths names units parts) behind)

pub under_part : (base : ℕ) (paths names : List (List ℕ)) (units : List UnitRead) (p : Part) (parts : List Part) (behind : List SymLine) → ArePlain behind → under (after base paths names units p parts behind) ≡ below base paths names units p
under_part base paths names units p parts behind plain =
    ap (λ l. under l) (regroup base paths names units p parts behind)
    ∙ under_copies base paths names units p.piece.unit p.copies (map (line_record base paths units p.piece.unit) p.lines ++ (part_lines base paths names units parts ++ behind))
    ∙ ap (λ l. map (inline_record base paths names units p.piece.unit) p.copies ++ l) (under_lines base paths units p.piece.unit p.lines (part_lines base paths names units parts ++ behind) (none_after base paths names units parts behind plain))

func_after : (base : ℕ) (paths names : List (List ℕ)) (units : List UnitRead) (p : Part) (parts : List Part) (behind : List SymLine) (x : ℕ) → text_func (after base paths names units p parts behind) x ≡ text_func (part_lines base paths names units parts ++ behind) x
func_after base paths names units p parts behind x =
    ap (λ l. text_func l x) (regroup base paths names units p parts behind)
    ∙ func_copies base paths names units p.piece.unit p.copies (map (line_record base paths units p.piece.unit) p.lines ++ (part_lines base paths names units parts ++ behind)) x
    ∙ func_lines base paths units p.piece.unit p.lines (part_lines base paths names units parts ++ behind) x

-- The line of an address that a function owns, with the path that is found by its number.
abbrev numbered_at : List SymLine → List (List ℕ) → List UnitRead → ℕ → Option EntryRef → Option (Option (List ℕ) × ℕ)
numbered_at records paths units a None = None
numbered_at records paths units a (Some p) = option_map (numbered records paths) (unit_line units p.unit a)

-- The calls at an address that a function owns.
abbrev calls_at : List UnitRead → ℕ → Option EntryRef → List Call
calls_at units a None = []
calls_at units a (Some p) = map (call_in units) (entry_chain units p.unit p.entry a)

abbrev place_name : List UnitRead → EntryRef → List ℕ
place_name units p = entry_name units p.unit p.entry

-- The FUNC that is found is that of the piece, and its inlined copies and lines come after it.
record Shows (base : ℕ) (paths : List (List ℕ)) (units : List UnitRead) (records : List SymLine) (x : ℕ) (found : Option Found) (place : Option EntryRef) : Type 0 where
  function : option_map (λ f. func_name f.func) found ≡ option_map (place_name units) place
  chain : map (call_of records) (option_map_or (inlines_under x) found []) ≡ calls_at units (x + base) place
  line : option_map (path_and_line records) (option_and_then (line_under x) found) ≡ numbered_at records paths units (x + base) place

-- The numbers of paths and names in the records of parts lead to the paths and names.
abbrev pub FindPaths : List SymLine → List (List ℕ) → List UnitRead → List Part → Type 0
FindPaths records paths units parts = (path : List ℕ) → list_any (names_path units path) parts ≡ true → text_path records (number_in paths path) ≡ Some path

abbrev pub FindNames : List SymLine → List (List ℕ) → List UnitRead → List Part → Type 0
FindNames records names units parts = (name : List ℕ) → list_any (names_origin units name) parts ≡ true → text_origin records (number_in names name) ≡ Some name

paths_here : (records : List SymLine) (paths : List (List ℕ)) (units : List UnitRead) (p : Part) (parts : List Part) → FindPaths records paths units (p ∷ parts) → HasPaths records paths units p.piece.unit p.copies
paths_here records paths units p parts each path had =
    each path (or_left (names_path units path p) (list_any (names_path units path) parts) (or_right (list_any (λ (r : LineRun). bytes_eq path (path_in units p.piece.unit r.path)) p.lines) (list_any (λ (r : InlineParts). bytes_eq path (call_path units p.piece.unit r.entry)) p.copies) had))

names_here : (records : List SymLine) (names : List (List ℕ)) (units : List UnitRead) (p : Part) (parts : List Part) → FindNames records names units (p ∷ parts) → HasOrigins records names units p.piece.unit p.copies
names_here records names units p parts each name had = each name (or_left (names_origin units name p) (list_any (names_origin units name) parts) had)

part_shows : (base : ℕ) (paths names : List (List ℕ)) (units : List UnitRead) (records : List SymLine) (x : ℕ) (p : Part) (parts : List Part) (behind : List SymLine) → ArePlain behind → base ≤ p.piece.start → AreLined units (p ∷ parts) → AreInlined units (p ∷ parts) → FindPaths records paths units (p ∷ parts) → FindNames records names units (p ∷ parts) → has (piece_run p.piece) (x + base) ≡ true
    → Shows base paths units records x (Some (record { func = func_record base units p.piece; behind = after base paths names units p parts behind })) (Some (record { unit = p.piece.unit; entry = p.piece.entry }))
part_shows base paths names units records x p parts behind plain above lined inlined pathed named here =
    let low : p.piece.start ≤ x + base = grind (arith, nat_tests) in
    let high : x + base < p.piece.end = grind (arith, nat_tests) in
    let own = under_part base paths names units p parts behind plain in
    record {
      function = refl;
      chain = ap (λ l. map (call_of records) (inlines_from x 0 (level_count l) l)) own
          ∙ part_calls base paths names units records x p above inlined.0 here (paths_here records paths units p parts pathed) (names_here records names units p parts named);
      line =
          ap (λ l. option_map (path_and_line records) (find (is_line_at x) l)) own
          ∙ ap (option_map (path_and_line records)) (line_past base paths names units p.piece.unit x p.copies (map (line_record base paths units p.piece.unit) p.lines))
          ∙ line_found base paths units p.piece.unit p.piece.start x records p.lines above (from_between p.piece.start p.piece.start p.piece.end (map (path_run (unit_paths units p.piece.unit)) p.lines) (omega arith) (lines_between units p lined.0)) lined.0.paths.apart
          ∙ ap (λ o. option_map (numbered records paths) o) (lined.0.paths.values (x + base) ∙ between_in p.piece.start p.piece.end (x + base) (unit_line units p.piece.unit) low high);
    }

none_shows : (base : ℕ) (paths : List (List ℕ)) (units : List UnitRead) (records : List SymLine) (x : ℕ) → Shows base paths units records x None None
none_shows base paths units records x = record { function = refl; chain = refl; line = refl }

abbrev pub part_runs : List Part → List (Run EntryRef)
part_runs parts = map piece_run (pieces_of parts)

parts_show : (base : ℕ) (paths names : List (List ℕ)) (units : List UnitRead) (records : List SymLine) (x : ℕ) (parts : List Part) (behind : List SymLine) → ArePlain behind → BeginAbove base (pieces_of parts) → AreLined units parts → AreInlined units parts → FindPaths records paths units parts → FindNames records names units parts → AreRuns (part_runs parts) → Shows base paths units records x (text_func (part_lines base paths names units parts ++ behind) x) (value_in (part_runs parts) (x + base))
parts_show base paths names units records x [] behind plain above lined inlined pathed named apart = rw (no_func behind x plain) (none_shows base paths units records x)
parts_show base paths names units records x (p ∷ parts) behind plain above lined inlined pathed named apart =
    let later = func_after base paths names units p parts behind x in
    rw (within_run base p.piece.start p.piece.end x above.0 apart.0)
    (go (has (piece_run p.piece) (x + base)) refl (rw later (parts_show base paths names units records x parts behind plain above.1 lined.1 inlined.1
    (λ path had. pathed path (or_right (names_path units path p) (list_any (names_path units path) parts) had))
    (λ name had. named name (or_right (names_origin units name p) (list_any (names_origin units name) parts) had)) apart.2)))
  where
    go : (b : Bool) → has (piece_run p.piece) (x + base) ≡ b
        → Shows base paths units records x (text_func (after base paths names units p parts behind) x) (value_in (part_runs parts) (x + base))
        → Shows base paths units records x
        (if b then Some (record { func = func_record base units p.piece; behind = after base paths names units p parts behind }) else text_func (after base paths names units p parts behind) x)
        (if b then Some (record { unit = p.piece.unit; entry = p.piece.entry }) else value_in (part_runs parts) (x + base))
    go true here is = part_shows base paths names units records x p parts behind plain above.0 lined inlined pathed named here
    go false other is = is

-- The path of a line that is found is one of those in use.
run_named : (units : List UnitRead) (unit a : ℕ) (m : List ℕ × ℕ) (runs : List LineRun) → value_in (map (path_run (unit_paths units unit)) runs) a ≡ Some m → list_any (λ (r : LineRun). bytes_eq m.0 (path_in units unit r.path)) runs ≡ true
run_named units unit a m [] is = absurd (cc)
run_named units unit a m (r ∷ runs) is = go (has (path_run (unit_paths units unit) r) a) is (λ later. run_named units unit a m runs later)
  where
    go : (b : Bool) → (if b then Some (path_line (unit_paths units unit) (r.path, r.line)) else value_in (map (path_run (unit_paths units unit)) runs) a) ≡ Some m
        → (value_in (map (path_run (unit_paths units unit)) runs) a ≡ Some m → list_any (λ (r : LineRun). bytes_eq m.0 (path_in units unit r.path)) runs ≡ true)
        → (bytes_eq m.0 (path_in units unit r.path) || list_any (λ (r : LineRun). bytes_eq m.0 (path_in units unit r.path)) runs) ≡ true
    go true same later =
        let path : path_in units unit r.path ≡ m.0 = cc in
        or_left (bytes_eq m.0 (path_in units unit r.path)) (list_any (λ (s : LineRun). bytes_eq m.0 (path_in units unit s.path)) runs) ((bytes_eq-Decides m.0 (path_in units unit r.path)).1 (sym path))
    go false same later = or_right (bytes_eq m.0 (path_in units unit r.path)) (list_any (λ (s : LineRun). bytes_eq m.0 (path_in units unit s.path)) runs) (later same)

part_named : (units : List UnitRead) (a : ℕ) (place : EntryRef) (m : List ℕ × ℕ) (parts : List Part) → AreLined units parts → value_in (part_runs parts) a ≡ Some place → unit_line units place.unit a ≡ Some m → list_any (names_path units m.0) parts ≡ true
part_named units a place m [] are is line = absurd (cc)
part_named units a place m (p ∷ parts) are is line =
    go (has (piece_run p.piece) a) refl is (λ later. part_named units a place m parts are.1 later line)
  where
    here : has (piece_run p.piece) a ≡ true → place ≡ record { unit = p.piece.unit; entry = p.piece.entry } → names_path units m.0 p ≡ true
    here inside same =
        let low : p.piece.start ≤ a = grind (arith, nat_tests) in
        let high : a < p.piece.end = grind (arith, nat_tests) in
        let unit : place.unit ≡ p.piece.unit = ap (λ (q : EntryRef). q.unit) same in
        let there : unit_line units p.piece.unit a ≡ Some m = ap (λ u. unit_line units u a) (sym unit) ∙ line in
        or_left (list_any (λ (r : LineRun). bytes_eq m.0 (path_in units p.piece.unit r.path)) p.lines) (list_any (λ (r : InlineParts). bytes_eq m.0 (call_path units p.piece.unit r.entry)) p.copies)
        (run_named units p.piece.unit a m p.lines (are.0.paths.values a ∙ between_in p.piece.start p.piece.end a (unit_line units p.piece.unit) low high ∙ there))

    go : (b : Bool) → has (piece_run p.piece) a ≡ b → (if b then Some (record { unit = p.piece.unit; entry = p.piece.entry }) else value_in (part_runs parts) a) ≡ Some place
        → (value_in (part_runs parts) a ≡ Some place → list_any (names_path units m.0) parts ≡ true)
        → (names_path units m.0 p || list_any (names_path units m.0) parts) ≡ true
    go true inside same later =
        let owned : place ≡ record { unit = p.piece.unit; entry = p.piece.entry } = cc in
        or_left (names_path units m.0 p) (list_any (names_path units m.0) parts) (here inside owned)
    go false inside same later = or_right (names_path units m.0 p) (list_any (names_path units m.0) parts) (later same)

-- The line of an address, given its owner, and the line record that is found for it.
found_by : (records : List SymLine) (paths : List (List ℕ)) (o : Option (List ℕ × ℕ)) → ((m : List ℕ × ℕ) → o ≡ Some m → text_path records (number_in paths m.0) ≡ Some m.0) → option_map (numbered records paths) o ≡ option_map found_line o
found_by records paths None each = refl
found_by records paths (Some m) each = ap (λ (q : Option (List ℕ)). Some (q, m.1)) (each m refl)

line_by_owner : (records : List SymLine) (paths : List (List ℕ)) (units : List UnitRead) (a : ℕ) (o : Option Covering) → ((p : EntryRef) → option_map place_of o ≡ Some p → (m : List ℕ × ℕ) → unit_line units p.unit a ≡ Some m → text_path records (number_in paths m.0) ≡ Some m.0) → numbered_at records paths units a (option_map place_of o) ≡ option_map found_line (owner_line units a o)
unfolding unit_line
line_by_owner records paths units a None each = refl
line_by_owner records paths units a (Some c) each = found_by records paths (line_in a (slice_get units c.unit)) (each (place_of c) refl)

name_by_owner : (units : List UnitRead) (o : Option Covering) → option_map (place_name units) (option_map place_of o) ≡ option_map (name_of units) o
name_by_owner units None = refl
name_by_owner units (Some c) = refl

-- The chain of an address, given its owner.
chain_by_owner : (units : List UnitRead) (a : ℕ) (o : Option Covering) → calls_at units a (option_map place_of o) ≡ map (call_in units) (chain_under units a o)
chain_by_owner units a None = refl
chain_by_owner units a (Some c) = refl

-- The records of functions, among other records.
abbrev pub around : ℕ → List UnitRead → List (List ℕ) → List (List ℕ) → List Part → List SymLine → List SymLine → List SymLine
around base units paths names parts front behind = front ++ (file_lines 0 paths ++ (origin_lines 0 names ++ (part_lines base paths names units parts ++ behind)))

pub around_is : (base : ℕ) (units : List UnitRead) (pieces : List Piece) (front records behind : List SymLine) (are : AreFuncRecords base units pieces records) → front ++ (records ++ behind) ≡ around base units are.paths are.names are.parts front behind
around_is base units pieces front records behind are =
    ap (λ (r : List SymLine). front ++ (r ++ behind)) are.whole
    ∙ ap (λ (r : List SymLine). front ++ r) (append_assoc (file_lines 0 are.paths) (origin_lines 0 are.names ++ part_lines base are.paths are.names units are.parts) behind
    ∙ ap (λ (r : List SymLine). file_lines 0 are.paths ++ r) (append_assoc (origin_lines 0 are.names) (part_lines base are.paths are.names units are.parts) behind))

-- Each number of a path or a name in a record leads to the path or the name.
pub paths_found : (base : ℕ) (units : List UnitRead) (pieces : List Piece) (front records behind : List SymLine) (are : AreFuncRecords base units pieces records) → HaveNoFile front → FindPaths (around base units are.paths are.names are.parts front behind) are.paths units are.parts
paths_found base units pieces front records behind are none path named = path_found front are.paths (origin_lines 0 are.names ++ (part_lines base are.paths are.names units are.parts ++ behind)) path none (are.used.same path ∙ named)

pub names_found : (base : ℕ) (units : List UnitRead) (pieces : List Piece) (front records behind : List SymLine) (are : AreFuncRecords base units pieces records) → HaveNoOrigin front → FindNames (around base units are.paths are.names are.parts front behind) are.names units are.parts
names_found base units pieces front records behind are none name named = origin_found front are.paths are.names (part_lines base are.paths are.names units are.parts ++ behind) name none (are.origins.same name ∙ named)

-- In a text with the records of functions, among other records, a look-up names the owner, the
-- inlined copies and the line of each address.
pub all_named : (base : ℕ) (units : List UnitRead) (pieces : List Piece) (front records behind : List SymLine) → ArePieces units pieces → BeginAbove base pieces → AreFuncRecords base units pieces records → ArePlain front → HaveNoFile front → HaveNoOrigin front → ArePlain behind → (x : ℕ) → Names base units (front ++ (records ++ behind)) x
unfolding text_owner text_chain text_line owner_place chain line
all_named base units pieces front records behind pieced above are plain no_file no_origin last x =
    let parts = are.parts in
    let paths = are.paths in
    let names = are.names in
    let functions : List SymLine = part_lines base paths names units parts ++ behind in
    let all : List SymLine = around base units paths names parts front behind in
    let same : front ++ (records ++ behind) ≡ all = around_is base units pieces front records behind are in
    let found : text_func all x ≡ text_func functions x = func_behind front (file_lines 0 paths ++ (origin_lines 0 names ++ functions)) x plain ∙ func_files 0 paths (origin_lines 0 names ++ functions) x ∙ func_origins 0 names functions x in
    let runs : part_runs parts ≡ map piece_run pieces = ap (λ (ps : List Piece). map piece_run ps) are.pieces_are in
    let apart : AreRuns (part_runs parts) = rw runs pieced.runs.apart in
    let value : value_in (part_runs parts) (x + base) ≡ owner_place units (x + base) = ap (λ (rs : List (Run EntryRef)). value_in rs (x + base)) runs ∙ pieced.runs.values (x + base) in
    let high : BeginAbove base (pieces_of parts) = rw are.pieces_are above in
    let path : FindPaths all paths units parts = paths_found base units pieces front records behind are no_file in
    let name : FindNames all names units parts = names_found base units pieces front records behind are no_origin in
    let shows = parts_show base paths names units all x parts behind last high are.lines_are are.inlined path name apart in
    rw same (record {
      function = ap (λ f. option_map (λ g. func_name g.func) f) found ∙ shows.function ∙ ap (option_map (place_name units)) value ∙ name_by_owner units (owner units (x + base));
      chain = ap (λ f. map (call_of all) (option_map_or (inlines_under x) f [])) found ∙ shows.chain ∙ ap (calls_at units (x + base)) value ∙ chain_by_owner units (x + base) (owner units (x + base));
      line = ap (λ f. option_map (path_and_line all) (option_and_then (line_under x) f)) found ∙ shows.line ∙ ap (numbered_at all paths units (x + base)) value
          ∙ line_by_owner all paths units (x + base) (owner units (x + base)) (λ p is m lined.
          path m.0 (part_named units (x + base) p m parts are.lines_are (value ∙ is) lined));
    })
