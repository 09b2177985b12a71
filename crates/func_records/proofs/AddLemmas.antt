-- The whole text: the records of the paths and the names in use, and those of all pieces.
use Rattle.std.proofs.Common.{◌≡◌, ℕ, zero, suc, ◌<◌, ◌-◌, Bool, true, ◌||◌, cond, map, length, List, [], ◌∷◌, ◌++◌, Option, None, Some, unwrap_or, arith, refl, sym, ap, subst, ◌∙◌, Bor, append_assoc}
use Rattle.std.specs.List.{slice_get, list_any}
use Rattle.std.specs.List.Sorted.{IsStrictlySortedBy}
use Rattle.std.specs.Str.{bytes_eq}
use Rattle.std.proofs.lemmas.List.Folds.{list_any-append}
use Rattle.step_maps.specs.Runs.{Run}
use Rattle.step_maps.proofs.OneRuns.{one_runs}
use Rattle.sym_records.specs.Canon.{canon_text}
use Rattle.sym_records.specs.Validity.{first_bad_from}
use Rattle.sym_records.specs.declared.place.Place.TheVariants.{Inside}
use Rattle.sym_records.specs.declared.line.SymLine.{SymLine}
use Rattle.sym_records.specs.declared.line.SymLine.TheVariants.{Inline, Line}
use Rattle.sym_records.proofs.JoiningLemmas.{join_behind}
use Rattle.debug_units.specs.declared.unit_read.UnitRead.{UnitRead}
use Rattle.die_names.specs.Names.{entry_name}
use Rattle.func_flatten.specs.declared.piece.Piece.{Piece}
use Rattle.func_flatten.specs.declared.line_run.LineRun.{LineRun}
use Rattle.func_flatten.specs.LineRuns.{paths_in, path_run, unit_number_line, unit_paths, AreStarted, AreLineRuns}
use Rattle.inline_chain.specs.InlineRuns.{InlineParts}
use Rattle.func_records.specs.declared.numbers.Numbers.{Numbers}
use Rattle.func_records.specs.internal.Texts.{text_cmp, SameTexts}
use Rattle.func_records.specs.FuncRecords.{Part, pieces_of, path_in, call_path, call_line, number_in, file_lines, origin_lines, extent, func_record, inline_record, line_record, part_lines, AreLined, names_path, names_origin}
use Rattle.debug_units.specs.CallPaths.{no_path}
use Rattle.func_records.specs.internal.Calls.{call_number, path_or, IsPathed, IsKnown, AreKnown, AreAllKnown}
use Rattle.func_records.specs.internal.Gathering.{bytes_of, has_text, ArePathed, AreHeld, Gathered, copies_of}
use Rattle.func_records.specs.internal.Spelling.{number_or_0, unit_numbers, line_by, row_of}
use Rattle.func_records.proofs.RowLemmas.{numbers_in, row_is}
use Rattle.func_records.specs.internal.Origins.{made_name, entry_names, all_names, all_refs, beside, name_number, AddsNames}
use Rattle.func_records.specs.internal.Parts.{file_by, inline_by, parts_by, AddsParts}
use Rattle.func_records.specs.Adding.{AddsFunctions}
use Rattle.func_records.proofs.PathLemmas.{all_pathed}
use Rattle.func_records.proofs.CanonLemmas.{canon_join}
use Rattle.func_records.proofs.HoldLemmas.{held_inlined}
use Rattle.func_records.proofs.UsedLemmas.{bytes_sorted, same_used}
use Rattle.func_records.proofs.ListLemmas.{same_bytes, or_left, or_right}
use Rattle.func_records.proofs.OriginLemmas.{number_beside}

-- Runs that begin and end alike and have the same number at each start are the same.
one_each : (paths : List (List ℕ)) (f : ℕ → Option (ℕ × ℕ)) (xs ys : List LineRun) → map (path_run paths) xs ≡ map (path_run paths) ys → AreStarted f xs → AreStarted f ys → xs ≡ ys
one_each paths f [] [] same first second = refl
one_each paths f [] (y ∷ ys) same first second = absurd (cc)
one_each paths f (x ∷ xs) [] same first second = absurd (cc)
one_each paths f (x ∷ xs) (y ∷ ys) same first second =
    let run : path_run paths x ≡ path_run paths y = cc in
    let later : map (path_run paths) xs ≡ map (path_run paths) ys = cc in
    let start : x.start ≡ y.start = ap (λ (r : Run (List ℕ × ℕ)). r.start) run in
    let end : x.end ≡ y.end = ap (λ (r : Run (List ℕ × ℕ)). r.end) run in
    let at : Some (x.path, x.line) ≡ Some (y.path, y.line) = sym first.0 ∙ ap f start ∙ second.0 in
    let mark : (x.path, x.line) ≡ (y.path, y.line) = cc in
    ap (λ a. record { start = a; end = x.end; path = x.path; line = x.line } ∷ xs) start
    ∙ ap (λ b. record { start = y.start; end = b; path = x.path; line = x.line } ∷ xs) end
    ∙ ap (λ (m : ℕ × ℕ). record { start = y.start; end = y.end; path = m.0; line = m.1 } ∷ xs) mark
    ∙ ap (λ rs. y ∷ rs) (one_each paths f xs ys later first.1 second.1)

one_lines : (units : List UnitRead) (piece : Piece) (xs ys : List LineRun) → AreLineRuns units piece xs → AreLineRuns units piece ys → xs ≡ ys
one_lines units piece xs ys first second =
    let paths : List (List ℕ) = unit_paths units piece.unit in
    one_each paths (unit_number_line units piece.unit) xs ys (one_runs _ (map (path_run paths) xs) (map (path_run paths) ys) first.paths second.paths) first.starts second.starts

-- The parts of the pieces, in one list.
abbrev first_of : {X : Type 0} → X → List X → X
first_of other [] = other
first_of other (x ∷ xs) = x

abbrev rest_of : {X : Type 0} → List X → List X
rest_of [] = []
rest_of (x ∷ xs) = xs

part_is : (p q : Part) → p.piece ≡ q.piece → p.copies ≡ q.copies → p.lines ≡ q.lines → p ≡ q
part_is p q piece copies lines =
    ap (λ (x : Piece). record { piece = x; copies = p.copies; lines = p.lines }) piece
    ∙ ap (λ (cs : List InlineParts). record { piece = q.piece; copies = cs; lines = p.lines }) copies
    ∙ ap (λ (ls : List LineRun). record { piece = q.piece; copies = q.copies; lines = ls }) lines

one_parts : (units : List UnitRead) (xs ys : List Part) → pieces_of xs ≡ pieces_of ys → copies_of xs ≡ copies_of ys → AreLined units xs → AreLined units ys → xs ≡ ys
one_parts units [] [] same held first second = refl
one_parts units [] (y ∷ ys) same held first second = absurd (cc)
one_parts units (x ∷ xs) [] same held first second = absurd (cc)
one_parts units (x ∷ xs) (y ∷ ys) same held first second =
    let piece : x.piece ≡ y.piece = ap (first_of x.piece) same in
    let copies : x.copies ≡ y.copies = ap (first_of x.copies) held in
    let lines : x.lines ≡ y.lines = one_lines units y.piece x.lines y.lines (subst (λ (p : Piece). AreLineRuns units p x.lines) piece first.0) second.0 in
    ap (λ p. p ∷ xs) (part_is x y piece copies lines) ∙ ap (λ ps. y ∷ ps) (one_parts units xs ys (ap rest_of same) (ap rest_of held) first.1 second.1)

-- The number of the path of a run.
number_there : (paths : List (List ℕ)) (path : List ℕ) → list_any (bytes_eq path) paths ≡ true → number_or_0 paths path ≡ number_in paths path
number_there paths path had = ap (λ b. cond b (number_in paths path) 0) had

row_by : (paths table : List (List ℕ)) (k : ℕ) → k < length table → list_any (bytes_eq (unwrap_or (slice_get table k) [])) paths ≡ true → unwrap_or (slice_get (map (number_or_0 paths) table) k) 0 ≡ number_in paths (unwrap_or (slice_get table k) [])
row_by paths [] k below had = absurd (omega arith)
row_by paths (t ∷ table) zero below had = number_there paths t had
row_by paths (t ∷ table) (suc k) below had = row_by paths table k (omega arith) had

number_by : (paths : List (List ℕ)) (u : Option UnitRead) (k : ℕ) → k < length (paths_in u) → list_any (bytes_eq (unwrap_or (slice_get (paths_in u) k) [])) paths ≡ true → unwrap_or (slice_get (numbers_in paths u) k) 0 ≡ number_in paths (unwrap_or (slice_get (paths_in u) k) [])
number_by paths None k below had = absurd (omega arith)
number_by paths (Some u) k below had = row_by paths u.lines.paths k below had

number_is : (paths : List (List ℕ)) (units : List UnitRead) (unit k : ℕ) → k < length (unit_paths units unit) → list_any (bytes_eq (path_in units unit k)) paths ≡ true → unwrap_or (slice_get (row_of (unit_numbers paths units) unit) k) 0 ≡ number_in paths (path_in units unit k)
unfolding unit_paths
number_is paths units unit k below had =
    ap (λ row. unwrap_or (slice_get row k) 0) (row_is paths units unit) ∙ number_by paths (slice_get units unit) k below had

lines_same : (base : ℕ) (paths : List (List ℕ)) (units : List UnitRead) (unit : ℕ) (runs : List LineRun) → ArePathed units unit runs → ((path : List ℕ) → list_any (λ (r : LineRun). bytes_eq path (path_in units unit r.path)) runs ≡ true → list_any (bytes_eq path) paths ≡ true) → map (line_by base (row_of (unit_numbers paths units) unit)) runs ≡ map (line_record base paths units unit) runs
lines_same base paths units unit [] pathed used = refl
lines_same base paths units unit (r ∷ runs) pathed used =
    let named = used (path_in units unit r.path) (or_left (bytes_eq (path_in units unit r.path) (path_in units unit r.path)) (list_any (λ (s : LineRun). bytes_eq (path_in units unit r.path) (path_in units unit s.path)) runs) (same_bytes (path_in units unit r.path))) in
    ap (λ n. Line (r.start - base) (r.end - r.start) r.line n ∷ map (line_by base (row_of (unit_numbers paths units) unit)) runs) (number_is paths units unit r.path pathed.0 named)
    ∙ ap (λ rest. line_record base paths units unit r ∷ rest) (lines_same base paths units unit runs pathed.1 (λ path had. used path (or_right (bytes_eq path (path_in units unit r.path)) (list_any (λ (s : LineRun). bytes_eq path (path_in units unit s.path)) runs) had)))

-- The number of the path of a call.
abbrev HasCalls : List (List ℕ) → List UnitRead → ℕ → List InlineParts → Type 0
HasCalls paths units unit copies = (path : List ℕ) → list_any (λ (r : InlineParts). bytes_eq path (call_path units unit r.entry)) copies ≡ true → list_any (bytes_eq path) paths ≡ true

abbrev HasNames : List (List ℕ) → List UnitRead → ℕ → List InlineParts → Type 0
HasNames names units unit copies = (name : List ℕ) → list_any (λ (r : InlineParts). bytes_eq name (entry_name units unit r.entry)) copies ≡ true → list_any (bytes_eq name) names ≡ true

file_is : (paths : List (List ℕ)) (units : List UnitRead) (unit : ℕ) (o : Option ℕ) → IsPathed units unit o → list_any (bytes_eq (path_or units unit o)) paths ≡ true → file_by (row_of (unit_numbers paths units) unit) (number_or_0 paths no_path) o ≡ number_in paths (path_or units unit o)
file_is paths units unit None pathed had = number_there paths no_path had
file_is paths units unit (Some k) pathed had = number_is paths units unit k pathed had

call_is : (paths : List (List ℕ)) (units : List UnitRead) (unit entry : ℕ) → IsKnown units unit entry → list_any (bytes_eq (call_path units unit entry)) paths ≡ true → file_by (row_of (unit_numbers paths units) unit) (number_or_0 paths no_path) (call_number units unit entry) ≡ number_in paths (call_path units unit entry)
call_is paths units unit entry known had =
    file_is paths units unit (call_number units unit entry) known.pathed (ap (λ path. list_any (bytes_eq path) paths) (sym known.path) ∙ had)
    ∙ ap (number_in paths) (sym known.path)

-- The numbers of the names in use.
abbrev AreBeside : Numbers → List UnitRead → List (List ℕ) → Type 0
AreBeside numbers units names = (name : List ℕ) → list_any (bytes_eq name) names ≡ true → name_number numbers units name ≡ number_in names name

copies_same : (base : ℕ) (paths names : List (List ℕ)) (numbers : Numbers) (units : List UnitRead) (unit : ℕ) (copies : List InlineParts) → numbers.rows.now ≡ unit_numbers paths units → numbers.omitted ≡ number_or_0 paths no_path → AreBeside numbers units names → AreKnown units unit copies → HasCalls paths units unit copies → HasNames names units unit copies → map (inline_by base numbers units unit) copies ≡ map (inline_record base paths names units unit) copies
copies_same base paths names numbers units unit [] rows omitted named known calls origins = refl
copies_same base paths names numbers units unit (r ∷ copies) rows omitted named known calls origins =
    let path : List ℕ = call_path units unit r.entry in
    let name : List ℕ = entry_name units unit r.entry in
    let has_path = calls path (or_left (bytes_eq path path) (list_any (λ (s : InlineParts). bytes_eq path (call_path units unit s.entry)) copies) (same_bytes path)) in
    let has_name = origins name (or_left (bytes_eq name name) (list_any (λ (s : InlineParts). bytes_eq name (entry_name units unit s.entry)) copies) (same_bytes name)) in
    let file : file_by (row_of numbers.rows.now unit) numbers.omitted (call_number units unit r.entry) ≡ number_in paths path
    = ap (λ (rs : List (List ℕ)). file_by (row_of rs unit) numbers.omitted (call_number units unit r.entry)) rows
    ∙ ap (λ n. file_by (row_of (unit_numbers paths units) unit) n (call_number units unit r.entry)) omitted
    ∙ call_is paths units unit r.entry known.0 has_path in
    let origin : name_number numbers units name ≡ number_in names name = named name has_name in
    ap (λ n. Inline r.level (call_line units unit r.entry) n (name_number numbers units name) (map (extent base) r.spans) ∷ map (inline_by base numbers units unit) copies) file
    ∙ ap (λ n. Inline r.level (call_line units unit r.entry) (number_in paths path) n (map (extent base) r.spans) ∷ map (inline_by base numbers units unit) copies) origin
    ∙ ap (λ rest. inline_record base paths names units unit r ∷ rest)
    (copies_same base paths names numbers units unit copies rows omitted named known.1
    (λ p had. calls p (or_right (bytes_eq p path) (list_any (λ (s : InlineParts). bytes_eq p (call_path units unit s.entry)) copies) had))
    (λ n had. origins n (or_right (bytes_eq n name) (list_any (λ (s : InlineParts). bytes_eq n (entry_name units unit s.entry)) copies) had)))

parts_same : (base : ℕ) (paths names : List (List ℕ)) (numbers : Numbers) (units : List UnitRead) (parts : List Part) → numbers.rows.now ≡ unit_numbers paths units → numbers.omitted ≡ number_or_0 paths no_path → AreBeside numbers units names → AreLined units parts → AreAllKnown units parts → ((path : List ℕ) → list_any (names_path units path) parts ≡ true → list_any (bytes_eq path) paths ≡ true) → ((name : List ℕ) → list_any (names_origin units name) parts ≡ true → list_any (bytes_eq name) names ≡ true) → parts_by base numbers units parts ≡ part_lines base paths names units parts
parts_same base paths names numbers units [] rows omitted named lined known used origins = refl
parts_same base paths names numbers units (p ∷ parts) rows omitted named lined known used origins =
    let unit = p.piece.unit in
    let by_run : List ℕ → Bool = λ path. list_any (λ (r : LineRun). bytes_eq path (path_in units unit r.path)) p.lines in
    let by_call : List ℕ → Bool = λ path. list_any (λ (r : InlineParts). bytes_eq path (call_path units unit r.entry)) p.copies in
    let copies : map (inline_by base numbers units unit) p.copies ≡ map (inline_record base paths names units unit) p.copies
    = copies_same base paths names numbers units unit p.copies rows omitted named known.0
    (λ path had. used path (or_left (names_path units path p) (list_any (names_path units path) parts) (or_right (by_run path) (by_call path) had)))
    (λ name had. origins name (or_left (names_origin units name p) (list_any (names_origin units name) parts) had)) in
    let lines : map (line_by base (row_of numbers.rows.now unit)) p.lines ≡ map (line_record base paths units unit) p.lines
    = ap (λ (rs : List (List ℕ)). map (line_by base (row_of rs unit)) p.lines) rows
    ∙ lines_same base paths units unit p.lines (all_pathed units p.piece p.lines lined.0) (λ path had. used path (or_left (names_path units path p) (list_any (names_path units path) parts) (or_left (by_run path) (by_call path) had))) in
    let later : parts_by base numbers units parts ≡ part_lines base paths names units parts
    = parts_same base paths names numbers units parts rows omitted named lined.1 known.1
    (λ path had. used path (or_right (names_path units path p) (list_any (names_path units path) parts) had))
    (λ name had. origins name (or_right (names_origin units name p) (list_any (names_origin units name) parts) had)) in
    ap (λ cs. func_record base units p.piece ∷ ((cs ++ map (line_by base (row_of numbers.rows.now unit)) p.lines) ++ parts_by base numbers units parts)) copies
    ∙ ap (λ ls. func_record base units p.piece ∷ ((map (inline_record base paths names units unit) p.copies ++ ls) ++ parts_by base numbers units parts)) lines
    ∙ ap (λ rest. func_record base units p.piece ∷ rest) (append_assoc (map (inline_record base paths names units unit) p.copies) (map (line_record base paths units unit) p.lines) (parts_by base numbers units parts))
    ∙ ap (λ rest. func_record base units p.piece ∷ (map (inline_record base paths names units unit) p.copies ++ (map (line_record base paths units unit) p.lines ++ rest))) later

-- The names of all inlined copies.
any_name : (units : List UnitRead) (unit : ℕ) (name : List ℕ) (copies : List InlineParts) → list_any (bytes_eq name) (entry_names units unit copies) ≡ list_any (λ (r : InlineParts). bytes_eq name (entry_name units unit r.entry)) copies
any_name units unit name [] = refl
any_name units unit name (r ∷ copies) = ap (λ b. bytes_eq name (entry_name units unit r.entry) || b) (any_name units unit name copies)

names_in_parts : (units : List UnitRead) (name : List ℕ) (parts : List Part) → list_any (bytes_eq name) (all_names units (pieces_of parts) (copies_of parts)) ≡ list_any (names_origin units name) parts
names_in_parts units name [] = refl
names_in_parts units name (p ∷ parts) =
    list_any-append (bytes_eq name) (entry_names units p.piece.unit p.copies) (all_names units (pieces_of parts) (copies_of parts))
    ∙ ap (λ b. b || list_any (bytes_eq name) (all_names units (pieces_of parts) (copies_of parts))) (any_name units p.piece.unit name p.copies)
    ∙ ap (λ b. names_origin units name p || b) (names_in_parts units name parts)

-- The numbers beside the names that entries give are the numbers of the names.
names_beside : (units : List UnitRead) (numbers : Numbers) (old new : List ℕ) → (added : AddsNames units (all_refs numbers.entries.now) numbers.numbers.now old new) → AreBeside numbers units added.names
names_beside units numbers old new added name has =
    ap (λ ns. beside (map (made_name units) (all_refs numbers.entries.now)) ns name) added.are
    ∙ number_beside (number_or_0 added.names) (map (made_name units) (all_refs numbers.entries.now)) name (sym (added.same name) ∙ has)
    ∙ number_there added.names name has

-- The whole text.
pub functions_added : (base : ℕ) (units : List UnitRead) (pieces : List Piece) (held : List (List InlineParts)) (used sorted : List (Bor (List ℕ))) (numbers : Numbers) (old filed named new : List ℕ) → AreHeld units pieces held → Gathered units pieces held (has_text used) → IsStrictlySortedBy text_cmp sorted → SameTexts used sorted
    → ((name : List ℕ) → list_any (bytes_eq name) (map (made_name units) (all_refs numbers.entries.now)) ≡ list_any (bytes_eq name) (all_names units pieces held))
    → numbers.rows.now ≡ unit_numbers (bytes_of sorted) units → numbers.omitted ≡ number_or_0 (bytes_of sorted) no_path
    → filed ≡ old ++ canon_text (file_lines 0 (bytes_of sorted)) → first_bad_from 0 Inside (file_lines 0 (bytes_of sorted)) ≡ None → AddsNames units (all_refs numbers.entries.now) numbers.numbers.now filed named
    → AddsParts base numbers units pieces held named new → AddsFunctions base units pieces old new
functions_added base units pieces held used sorted numbers old filed named new are gathered strict same all_texts rows omitted files files_fit origins adds =
    let paths : List (List ℕ) = bytes_of sorted in
    let owners : List (List ℕ) = origins.names in
    let parts : gathered.parts ≡ adds.parts = one_parts units gathered.parts adds.parts (gathered.pieces_are ∙ sym adds.pieces_are) (gathered.copies_are ∙ sym adds.copies_are) gathered.lines_are adds.lines_are in
    let known : AreAllKnown units adds.parts = subst (λ (ps : List Part). AreAllKnown units ps) parts gathered.known in
    let inlined = held_inlined units adds.parts (rw adds.pieces_are (rw adds.copies_are are)) in
    let path_same : (path : List ℕ) → list_any (bytes_eq path) paths ≡ list_any (names_path units path) adds.parts
    = λ path. same_used used sorted path same ∙ gathered.same path ∙ ap (list_any (names_path units path)) parts in
    let name_same : (name : List ℕ) → list_any (bytes_eq name) owners ≡ list_any (names_origin units name) adds.parts
    = λ name. origins.same name ∙ all_texts name
    ∙ ap (λ (ps : List Piece). list_any (bytes_eq name) (all_names units ps held)) (sym adds.pieces_are)
    ∙ ap (λ (cs : List (List InlineParts)). list_any (bytes_eq name) (all_names units (pieces_of adds.parts) cs)) (sym adds.copies_are)
    ∙ names_in_parts units name adds.parts in
    let spelled : parts_by base numbers units adds.parts ≡ part_lines base paths owners units adds.parts
    = parts_same base paths owners numbers units adds.parts rows omitted (names_beside units numbers filed named origins) adds.lines_are known (λ path had. path_same path ∙ had) (λ name had. name_same name ∙ had) in
    let functions : List SymLine = part_lines base paths owners units adds.parts in
    record {
      records = file_lines 0 paths ++ (origin_lines 0 owners ++ functions);
      are = record {
        parts = adds.parts;
        paths = paths;
        names = owners;
        whole = refl;
        pieces_are = adds.pieces_are;
        inlined = inlined;
        lines_are = adds.lines_are;
        used = record { sorted = bytes_sorted sorted strict; same = path_same };
        origins = record { sorted = origins.sorted; same = name_same };
      };
      text = adds.text ∙ ap (λ ls. named ++ canon_text ls) spelled ∙ ap (λ t. t ++ canon_text functions) origins.text ∙ append_assoc filed (canon_text (origin_lines 0 owners)) (canon_text functions)
          ∙ ap (λ t. filed ++ t) (sym (canon_join (origin_lines 0 owners) functions)) ∙ ap (λ t. t ++ canon_text (origin_lines 0 owners ++ functions)) files
          ∙ append_assoc old (canon_text (file_lines 0 paths)) (canon_text (origin_lines 0 owners ++ functions))
          ∙ ap (λ t. old ++ t) (sym (canon_join (file_lines 0 paths) (origin_lines 0 owners ++ functions)));
      fit = join_behind (file_lines 0 paths) (origin_lines 0 owners ++ functions) files_fit (join_behind (origin_lines 0 owners) functions origins.fit (ap (first_bad_from 0 Inside) (sym spelled) ∙ adds.fit));
      below = adds.below;
    }
