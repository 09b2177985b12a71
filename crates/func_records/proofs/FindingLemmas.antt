-- In a text with the records of functions a checker finds nothing.
use Rattle.std.proofs.Common.{◌≡◌, ℕ, ◌+◌, ◌-◌, ◌<◌, ◌≤◌, ◌^◌, Bool, true, false, ◌&&◌, ◌||◌, ◌==◌, nat_le, nat_lt, cond, map, List, [], ◌∷◌, ◌++◌, Some, arith, refl, sym, ap, subst, ◌∙◌, append_assoc}
use Rattle.std.proofs.lemmas.Bool.Decides.{nat_tests}
use Rattle.std.proofs.lemmas.Slice.Eq.{bytes_eq-Decides}
use Rattle.std.specs.List.{find, list_any, list_all, flat_map}
use Rattle.std.specs.Str.{bytes_eq}
use Rattle.std.specs.Option.{option_map}
use Rattle.sym_edges.specs.Addresses.{Range}
use Rattle.step_maps.specs.Runs.{AreRuns}
use Rattle.sym_records.specs.declared.line.Extent.{Extent}
use Rattle.sym_records.specs.declared.line.SymLine.{SymLine}
use Rattle.sym_records.specs.declared.line.SymLine.TheVariants.{File, Origin}
use Rattle.sym_meaning.specs.TextNames.{is_file, file_name, is_origin, origin_name}
use Rattle.sym_meaning.specs.Plain.{ArePlain, HaveNoFile, HaveNoOrigin}
use Rattle.sym_meaning.specs.Findings.{run_of, func_run, line_run, runs_of, AreGivenOnce, has_file, has_origin, is_sized, are_sized, AreApart, holds_run, EachFunc, LieInside, HaveLinesApart, HasNoFuncFindings}
use Rattle.sym_meaning.proofs.FindingLemmas.{all_both, plain_files, plain_origins, once_behind, none_given, no_file, no_origin, func_runs_behind, no_func_runs, each_behind, each_plain}
use Rattle.debug_units.specs.declared.unit_read.UnitRead.{UnitRead}
use Rattle.die_names.specs.Names.{entry_name}
use Rattle.func_flatten.specs.declared.piece.Piece.{Piece}
use Rattle.func_flatten.specs.declared.line_run.LineRun.{LineRun}
use Rattle.func_flatten.specs.Pieces.{piece_run, ArePieces}
use Rattle.func_flatten.specs.LineRuns.{path_run, unit_paths, AreLineRuns}
use Rattle.inline_chain.specs.InlineRuns.{InlineParts, AreInlineRuns}
use Rattle.func_records.specs.FuncRecords.{Part, pieces_of, path_in, call_path, number_in, numbered_lines, file_lines, origin_lines, extent, func_record, line_record, inline_record, part_lines, AreLined, AreInlined, BeginAbove, EndBelow, names_path, names_origin, AreFuncRecords}
use Rattle.func_records.proofs.FoundLemmas.{Numbers, file_numbers, origin_numbers}
use Rattle.func_records.proofs.ListLemmas.{or_left, or_right}
use Rattle.func_records.proofs.ChainLemmas.{AllRanges, AllOfRuns, Good, copies_good}
use Rattle.func_records.proofs.CallLemmas.{below}
use Rattle.func_records.proofs.RunLemmas.{AreBetween, AreFrom, from_between, text_run, runs_apart}
use Rattle.func_records.proofs.NameLemmas.{after, regroup, under_part, FindPaths, FindNames, part_runs, around, around_is, paths_found, names_found, lines_between}

-- What still holds after one record was put in front holds after several.
mapped : {X : Type 0} (P : List SymLine → Type 0) (f : X → SymLine) (xs : List X) (rest : List SymLine) → ((x : X) (later : List SymLine) → P later → P (f x ∷ later)) → P rest → P (map f xs ++ rest)
mapped P f [] rest more is = is
mapped P f (x ∷ xs) rest more is = more x (map f xs ++ rest) (mapped P f xs rest more is)

over_parts : (P : List SymLine → Type 0) (base : ℕ) (paths names : List (List ℕ)) (units : List UnitRead) (parts : List Part) (behind : List SymLine)
    → ((p : Part) (later : List SymLine) → P later → P (func_record base units p.piece ∷ later))
    → ((unit : ℕ) (r : InlineParts) (later : List SymLine) → P later → P (inline_record base paths names units unit r ∷ later))
    → ((unit : ℕ) (r : LineRun) (later : List SymLine) → P later → P (line_record base paths units unit r ∷ later))
    → P behind → P (part_lines base paths names units parts ++ behind)
over_parts P base paths names units [] behind func inline line is = is
over_parts P base paths names units (p ∷ parts) behind func inline line is =
    func p (after base paths names units p parts behind)
    (subst P (sym (regroup base paths names units p parts behind))
    (mapped P (inline_record base paths names units p.piece.unit) p.copies (map (line_record base paths units p.piece.unit) p.lines ++ (part_lines base paths names units parts ++ behind)) (inline p.piece.unit)
    (mapped P (line_record base paths units p.piece.unit) p.lines (part_lines base paths names units parts ++ behind) (line p.piece.unit)
    (over_parts P base paths names units parts behind func inline line is))))

-- Each number is given once.
numbers_above : {is : ℕ → SymLine → Bool} {made : ℕ → List ℕ → SymLine} {said : SymLine → List ℕ} → Numbers is made said → (n k : ℕ) (texts : List (List ℕ)) (rest : List SymLine) → n < k → list_any (is n) rest ≡ false → list_any (is n) (numbered_lines made k texts ++ rest) ≡ false
numbers_above numbers n k [] rest above none = none
numbers_above {is} {made} numbers n k (text ∷ texts) rest above none =
    let other : (k == n) ≡ false = grind (arith, nat_tests) in
    ap (λ b. b || list_any (is n) (numbered_lines made (k + 1) texts ++ rest)) (numbers.tells n k text ∙ other) ∙ numbers_above numbers n (k + 1) texts rest (omega arith) none

numbers_once : {is : ℕ → SymLine → Bool} {made : ℕ → List ℕ → SymLine} {said : SymLine → List ℕ} → Numbers is made said → ((k : ℕ) (text : List ℕ) (rest : List SymLine) → list_any (is k) rest ≡ false → AreGivenOnce rest → AreGivenOnce (made k text ∷ rest)) → (k : ℕ) (texts : List (List ℕ)) (rest : List SymLine) → ((n : ℕ) → list_any (is n) rest ≡ false) → AreGivenOnce rest → AreGivenOnce (numbered_lines made k texts ++ rest)
numbers_once numbers more k [] rest none once = once
numbers_once numbers more k (text ∷ texts) rest none once = more k text _ (numbers_above numbers k (k + 1) texts rest (omega arith) (none k)) (numbers_once numbers more (k + 1) texts rest none once)

origins_no_file : (n k : ℕ) (names : List (List ℕ)) (rest : List SymLine) → list_any (is_file n) (origin_lines k names ++ rest) ≡ list_any (is_file n) rest
origins_no_file n k [] rest = refl
origins_no_file n k (name ∷ names) rest = origins_no_file n (k + 1) names rest

all_once : (base : ℕ) (units : List UnitRead) (paths names : List (List ℕ)) (parts : List Part) (front behind : List SymLine) → HaveNoFile front → HaveNoOrigin front → HaveNoFile behind → HaveNoOrigin behind → AreGivenOnce (around base units paths names parts front behind)
all_once base units paths names parts front behind file origin last_file last_origin =
    let functions : List SymLine = part_lines base paths names units parts ++ behind in
    let files : HaveNoFile functions = over_parts (λ (l : List SymLine). HaveNoFile l) base paths names units parts behind (λ p later is. (tt, is)) (λ unit r later is. (tt, is)) (λ unit r later is. (tt, is)) last_file in
    let origins : HaveNoOrigin functions = over_parts (λ (l : List SymLine). HaveNoOrigin l) base paths names units parts behind (λ p later is. (tt, is)) (λ unit r later is. (tt, is)) (λ unit r later is. (tt, is)) last_origin in
    once_behind front (file_lines 0 paths ++ (origin_lines 0 names ++ functions)) file origin
    (numbers_once file_numbers (λ k text rest none once. (none, once)) 0 paths (origin_lines 0 names ++ functions) (λ n. origins_no_file n 0 names functions ∙ no_file n functions files)
    (numbers_once origin_numbers (λ k text rest none once. (none, once)) 0 names functions (λ n. no_origin n functions origins) (none_given functions files origins)))

-- A test that all records pass.
numbered_all : (q : SymLine → Bool) (made : ℕ → List ℕ → SymLine) (k : ℕ) (texts : List (List ℕ)) → ((n : ℕ) (text : List ℕ) → q (made n text) ≡ true) → list_all q (numbered_lines made k texts) ≡ true
numbered_all q made k [] each = refl
numbered_all q made k (text ∷ texts) each = ap (λ b. b && list_all q (numbered_lines made (k + 1) texts)) (each k text) ∙ numbered_all q made (k + 1) texts each

abbrev Pass : (SymLine → Bool) → ℕ → List (List ℕ) → List (List ℕ) → List UnitRead → List Part → Type 0
Pass q base paths names units [] = Unit {0}
Pass q base paths names units (p ∷ parts) = ((q (func_record base units p.piece) ≡ true) × (list_all q (below base paths names units p) ≡ true)) × Pass q base paths names units parts

parts_pass : (q : SymLine → Bool) (base : ℕ) (paths names : List (List ℕ)) (units : List UnitRead) (parts : List Part) → Pass q base paths names units parts → list_all q (part_lines base paths names units parts) ≡ true
parts_pass q base paths names units [] pass = refl
parts_pass q base paths names units (p ∷ parts) pass =
    let copies : List SymLine = map (inline_record base paths names units p.piece.unit) p.copies in
    let lines : List SymLine = map (line_record base paths units p.piece.unit) p.lines in
    let later : List SymLine = part_lines base paths names units parts in
    ap (λ b. b && list_all q (copies ++ (lines ++ later))) pass.0.0
    ∙ ap (list_all q) (sym (append_assoc copies lines later))
    ∙ all_both q (copies ++ lines) later pass.0.1 (parts_pass q base paths names units parts pass.1)

all_pass : (q : SymLine → Bool) (base : ℕ) (units : List UnitRead) (paths names : List (List ℕ)) (parts : List Part) (front behind : List SymLine) → list_all q front ≡ true → ((n : ℕ) (text : List ℕ) → q (File n text) ≡ true) → ((n : ℕ) (text : List ℕ) → q (Origin n text) ≡ true) → Pass q base paths names units parts → list_all q behind ≡ true → list_all q (around base units paths names parts front behind) ≡ true
all_pass q base units paths names parts front behind first files origins pass last =
    let functions : List SymLine = part_lines base paths names units parts ++ behind in
    all_both q front (file_lines 0 paths ++ (origin_lines 0 names ++ functions)) first
    (all_both q (file_lines 0 paths) (origin_lines 0 names ++ functions) (numbered_all q File 0 paths files)
    (all_both q (origin_lines 0 names) functions (numbered_all q Origin 0 names origins)
    (all_both q (part_lines base paths names units parts) behind (parts_pass q base paths names units parts pass) last)))

-- What a record names is there.
found_any : {Y : Type 0} (g : SymLine → Y) (q : SymLine → Bool) (all : List SymLine) (y : Y) → option_map g (find q all) ≡ Some y → list_any q all ≡ true
found_any g q [] y is = absurd (cc)
found_any {Y = Y} g q (s ∷ all) y is = go (q s) is (found_any g q all y)
  where
    go : (b : Bool) → option_map g (cond b (Some s) (find q all)) ≡ Some y → (option_map g (find q all) ≡ Some y → list_any q all ≡ true) → (b || list_any q all) ≡ true
    go true same later = refl
    go false same later = later same

same_text : (text : List ℕ) → bytes_eq text text ≡ true
same_text text = (bytes_eq-Decides text text).1 refl

-- Each of some records names a text.
mapped_pass : {X : Type 0} (q : SymLine → Bool) (f : X → SymLine) (text : X → List ℕ) (xs : List X) → ((x : X) → list_any (λ y. bytes_eq (text x) (text y)) xs ≡ true → q (f x) ≡ true) → list_all q (map f xs) ≡ true
mapped_pass q f text [] each = refl
mapped_pass q f text (x ∷ xs) each =
    ap (λ b. b && list_all q (map f xs)) (each x (or_left (bytes_eq (text x) (text x)) (list_any (λ y. bytes_eq (text x) (text y)) xs) (same_text (text x))))
    ∙ mapped_pass q f text xs (λ z had. each z (or_right (bytes_eq (text z) (text x)) (list_any (λ y. bytes_eq (text z) (text y)) xs) had))

always_pass : {X : Type 0} (q : SymLine → Bool) (f : X → SymLine) (xs : List X) → ((x : X) → q (f x) ≡ true) → list_all q (map f xs) ≡ true
always_pass q f [] each = refl
always_pass q f (x ∷ xs) each = ap (λ b. b && list_all q (map f xs)) (each x) ∙ always_pass q f xs each

files_pass : (base : ℕ) (paths names : List (List ℕ)) (units : List UnitRead) (all : List SymLine) (parts : List Part) → FindPaths all paths units parts → Pass (has_file all) base paths names units parts
files_pass base paths names units all [] found = tt
files_pass base paths names units all (p ∷ parts) found =
    let unit = p.piece.unit in
    let by_run : List ℕ → Bool = λ path. list_any (λ (r : LineRun). bytes_eq path (path_in units unit r.path)) p.lines in
    let by_call : List ℕ → Bool = λ path. list_any (λ (r : InlineParts). bytes_eq path (call_path units unit r.entry)) p.copies in
    let there : (path : List ℕ) → names_path units path p ≡ true → list_any (is_file (number_in paths path)) all ≡ true
    = λ path had. found_any file_name (is_file (number_in paths path)) all path (found path (or_left (names_path units path p) (list_any (names_path units path) parts) had)) in (
      (
        refl,
        all_both (has_file all) (map (inline_record base paths names units unit) p.copies) (map (line_record base paths units unit) p.lines)
            (mapped_pass (has_file all) (inline_record base paths names units unit) (λ (r : InlineParts). call_path units unit r.entry) p.copies
            (λ r had. there (call_path units unit r.entry) (or_right (by_run (call_path units unit r.entry)) (by_call (call_path units unit r.entry)) had)))
            (mapped_pass (has_file all) (line_record base paths units unit) (λ (r : LineRun). path_in units unit r.path) p.lines
            (λ r had. there (path_in units unit r.path) (or_left (by_run (path_in units unit r.path)) (by_call (path_in units unit r.path)) had))),
      ),
      files_pass base paths names units all parts (λ path had. found path (or_right (names_path units path p) (list_any (names_path units path) parts) had)),
    )

origins_pass : (base : ℕ) (paths names : List (List ℕ)) (units : List UnitRead) (all : List SymLine) (parts : List Part) → FindNames all names units parts → Pass (has_origin all) base paths names units parts
origins_pass base paths names units all [] found = tt
origins_pass base paths names units all (p ∷ parts) found =
    let unit = p.piece.unit in
    let there : (name : List ℕ) → names_origin units name p ≡ true → list_any (is_origin (number_in names name)) all ≡ true
    = λ name had. found_any origin_name (is_origin (number_in names name)) all name (found name (or_left (names_origin units name p) (list_any (names_origin units name) parts) had)) in (
      (
        refl,
        all_both (has_origin all) (map (inline_record base paths names units unit) p.copies) (map (line_record base paths units unit) p.lines)
            (mapped_pass (has_origin all) (inline_record base paths names units unit) (λ (r : InlineParts). entry_name units unit r.entry) p.copies
            (λ r had. there (entry_name units unit r.entry) had))
            (always_pass (has_origin all) (line_record base paths units unit) p.lines (λ r. refl)),
      ),
      origins_pass base paths names units all parts (λ name had. found name (or_right (names_origin units name p) (list_any (names_origin units name) parts) had)),
    )

-- A test that each run between two addresses passes, with the base subtracted.
abbrev PassBetween : (Extent → Bool) → ℕ → ℕ → ℕ → Type 0
PassBetween t base low high = (start end : ℕ) → low ≤ start → start < end → end ≤ high → t (run_of (start - base) (end - start)) ≡ true

abbrev all_runs : (Extent → Bool) → SymLine → Bool
all_runs t s = list_all t (runs_of s)

ranges_pass : (t : Extent → Bool) (base low high : ℕ) (ranges : List Range) → PassBetween t base low high → AllRanges (Good low high) ranges → list_all t (map (extent base) ranges) ≡ true
ranges_pass t base low high [] pass good = refl
ranges_pass t base low high (range ∷ ranges) pass good =
    ap (λ b. b && list_all t (map (extent base) ranges)) (pass range.start range.end good.0.0 good.0.1 good.0.2) ∙ ranges_pass t base low high ranges pass good.1

copies_pass : (t : Extent → Bool) (base low high : ℕ) (paths names : List (List ℕ)) (units : List UnitRead) (unit : ℕ) (copies : List InlineParts) → PassBetween t base low high → AllOfRuns (Good low high) copies → list_all (all_runs t) (map (inline_record base paths names units unit) copies) ≡ true
copies_pass t base low high paths names units unit [] pass good = refl
copies_pass t base low high paths names units unit (r ∷ copies) pass good =
    ap (λ b. b && list_all (all_runs t) (map (inline_record base paths names units unit) copies)) (ranges_pass t base low high r.spans pass good.0) ∙ copies_pass t base low high paths names units unit copies pass good.1

lines_pass : (t : Extent → Bool) (base low high : ℕ) (paths table : List (List ℕ)) (units : List UnitRead) (unit : ℕ) (lines : List LineRun) → PassBetween t base low high → AreBetween low high (map (path_run table) lines) → list_all (all_runs t) (map (line_record base paths units unit) lines) ≡ true
lines_pass t base low high paths table units unit [] pass between = refl
lines_pass t base low high paths table units unit (r ∷ lines) pass between =
    ap (λ b. (b && true) && list_all (all_runs t) (map (line_record base paths units unit) lines)) (pass r.start r.end between.0.0 between.0.1 between.0.2) ∙ lines_pass t base low high paths table units unit lines pass between.1

below_pass : (t : Extent → Bool) (base : ℕ) (paths names : List (List ℕ)) (units : List UnitRead) (p : Part) → PassBetween t base p.piece.start p.piece.end → AreLineRuns units p.piece p.lines → AreInlineRuns units p.piece p.copies → list_all (all_runs t) (below base paths names units p) ≡ true
below_pass t base paths names units p pass lined inlined =
    all_both (all_runs t) (map (inline_record base paths names units p.piece.unit) p.copies) (map (line_record base paths units p.piece.unit) p.lines)
    (copies_pass t base p.piece.start p.piece.end paths names units p.piece.unit p.copies pass (copies_good units p.piece p.copies inlined))
    (lines_pass t base p.piece.start p.piece.end paths (unit_paths units p.piece.unit) units p.piece.unit p.lines pass (lines_between units p lined))

sized_by : (limit base start end : ℕ) → start < end → end < limit → (nat_lt 0 (end - start) && nat_lt ((start - base) + (end - start)) limit) ≡ true
sized_by limit base start end some small = grind (arith, nat_tests)

sized_pass : (base : ℕ) (paths names : List (List ℕ)) (units : List UnitRead) (parts : List Part) → EndBelow (2 ^ 64) (pieces_of parts) → AreRuns (part_runs parts) → AreLined units parts → AreInlined units parts → Pass are_sized base paths names units parts
sized_pass base paths names units [] small apart lined inlined = tt
sized_pass base paths names units (p ∷ parts) small apart lined inlined = (
  (
    ap (λ b. b && true) (sized_by (2 ^ 64) base p.piece.start p.piece.end apart.0 small.0),
    below_pass is_sized base paths names units p (λ start end low some high. sized_by (2 ^ 64) base start end some (within end p.piece.end (2 ^ 64) high small.0)) lined.0 inlined.0,
  ),
  sized_pass base paths names units parts small.1 apart.2 lined.1 inlined.1,
)
  where
    within : (a b c : ℕ) → a ≤ b → b < c → a < c
    within a b c first second = omega arith

-- The FUNC records have the addresses of the pieces.
func_runs_numbered : (made : ℕ → List ℕ → SymLine) (k : ℕ) (texts : List (List ℕ)) (rest : List SymLine) → ((n : ℕ) (text : List ℕ) → func_run (made n text) ≡ []) → flat_map func_run (numbered_lines made k texts ++ rest) ≡ flat_map func_run rest
func_runs_numbered made k [] rest none = refl
func_runs_numbered made k (text ∷ texts) rest none = ap (λ (l : List Extent). l ++ flat_map func_run (numbered_lines made (k + 1) texts ++ rest)) (none k text) ∙ func_runs_numbered made (k + 1) texts rest none

func_runs_parts : (base : ℕ) (paths names : List (List ℕ)) (units : List UnitRead) (parts : List Part) (behind : List SymLine) → flat_map func_run behind ≡ [] → flat_map func_run (part_lines base paths names units parts ++ behind) ≡ map (text_run base) (part_runs parts)
func_runs_parts base paths names units [] behind none = none
func_runs_parts base paths names units (p ∷ parts) behind none =
    let later : List SymLine = part_lines base paths names units parts ++ behind in
    let rest : flat_map func_run later ≡ map (text_run base) (part_runs parts) = func_runs_parts base paths names units parts behind none in
    let P : List SymLine → Type 0 = λ l. flat_map func_run l ≡ map (text_run base) (part_runs parts) in
    ap (λ (l : List Extent). run_of (p.piece.start - base) (p.piece.end - p.piece.start) ∷ l)
    (subst P (sym (regroup base paths names units p parts behind))
    (mapped P (inline_record base paths names units p.piece.unit) p.copies (map (line_record base paths units p.piece.unit) p.lines ++ later) (λ r l is. is)
    (mapped P (line_record base paths units p.piece.unit) p.lines later (λ r l is. is) rest)))

pieces_from : (base : ℕ) (pieces : List Piece) → BeginAbove base pieces → AreFrom base (map piece_run pieces)
pieces_from base [] above = tt
pieces_from base (p ∷ pieces) above = (above.0, pieces_from base pieces above.1)

functions_apart : (base : ℕ) (units : List UnitRead) (paths names : List (List ℕ)) (parts : List Part) (front behind : List SymLine) → BeginAbove base (pieces_of parts) → AreRuns (part_runs parts) → ArePlain front → ArePlain behind → AreApart (flat_map func_run (around base units paths names parts front behind))
functions_apart base units paths names parts front behind above apart plain last =
    let functions : List SymLine = part_lines base paths names units parts ++ behind in
    let runs : flat_map func_run (around base units paths names parts front behind) ≡ map (text_run base) (part_runs parts)
    = func_runs_behind front (file_lines 0 paths ++ (origin_lines 0 names ++ functions)) plain
    ∙ func_runs_numbered File 0 paths (origin_lines 0 names ++ functions) (λ n text. refl)
    ∙ func_runs_numbered Origin 0 names functions (λ n text. refl)
    ∙ func_runs_parts base paths names units parts behind (no_func_runs behind last) in
    subst (λ (l : List Extent). AreApart l) (sym runs) (runs_apart base (part_runs parts) (pieces_from base (pieces_of parts) above) apart)

-- What holds for each FUNC and the records under it.
abbrev EachPart : (Extent → List SymLine → Type 0) → ℕ → List (List ℕ) → List (List ℕ) → List UnitRead → List Part → Type 0
EachPart P base paths names units [] = Unit {0}
EachPart P base paths names units (p ∷ parts) = P (text_run base (piece_run p.piece)) (below base paths names units p) × EachPart P base paths names units parts

each_part : (P : Extent → List SymLine → Type 0) (base : ℕ) (paths names : List (List ℕ)) (units : List UnitRead) (parts : List Part) (behind : List SymLine) → ArePlain behind → EachPart P base paths names units parts → EachFunc P (part_lines base paths names units parts ++ behind)
each_part P base paths names units [] behind plain each = each_plain P behind plain
each_part P base paths names units (p ∷ parts) behind plain each =
    let later : List SymLine = part_lines base paths names units parts ++ behind in
    let Q : List SymLine → Type 0 = λ l. EachFunc P l in
    let R : List SymLine → Type 0 = λ l. P (text_run base (piece_run p.piece)) l in (
      subst R (sym (under_part base paths names units p parts behind plain)) each.0,
      subst Q (sym (regroup base paths names units p parts behind))
          (mapped Q (inline_record base paths names units p.piece.unit) p.copies (map (line_record base paths units p.piece.unit) p.lines ++ later) (λ r l is. is)
          (mapped Q (line_record base paths units p.piece.unit) p.lines later (λ r l is. is) (each_part P base paths names units parts behind plain each.1))),
    )

each_numbered : (P : Extent → List SymLine → Type 0) (base k : ℕ) (paths names : List (List ℕ)) (rest : List SymLine) → EachFunc P rest → EachFunc P (file_lines k paths ++ (origin_lines 0 names ++ rest))
each_numbered P base k [] names rest each = origins 0 names
  where
    origins : (n : ℕ) (others : List (List ℕ)) → EachFunc P (origin_lines n others ++ rest)
    origins n [] = each
    origins n (name ∷ others) = origins (n + 1) others
each_numbered P base k (path ∷ paths) names rest each = each_numbered P base (k + 1) paths names rest each

each_around : (P : Extent → List SymLine → Type 0) (base : ℕ) (units : List UnitRead) (paths names : List (List ℕ)) (parts : List Part) (front behind : List SymLine) → ArePlain front → ArePlain behind → EachPart P base paths names units parts → EachFunc P (around base units paths names parts front behind)
each_around P base units paths names parts front behind plain last each =
    let functions : List SymLine = part_lines base paths names units parts ++ behind in
    each_behind P front (file_lines 0 paths ++ (origin_lines 0 names ++ functions)) plain
    (each_numbered P base 0 paths names functions (each_part P base paths names units parts behind last each))

held_by : (base low high start end : ℕ) → base ≤ low → low ≤ start → start < end → end ≤ high → (nat_le (low - base) (start - base) && nat_le ((start - base) + (end - start)) ((low - base) + (high - low))) ≡ true
held_by base low high start end above from some to = grind (arith, nat_tests)

parts_inside : (base : ℕ) (paths names : List (List ℕ)) (units : List UnitRead) (parts : List Part) → BeginAbove base (pieces_of parts) → AreLined units parts → AreInlined units parts → EachPart LieInside base paths names units parts
parts_inside base paths names units [] above lined inlined = tt
parts_inside base paths names units (p ∷ parts) above lined inlined = (
  below_pass (holds_run (text_run base (piece_run p.piece))) base paths names units p (λ start end low some high. held_by base p.piece.start p.piece.end start end above.0 low some high) lined.0 inlined.0,
  parts_inside base paths names units parts above.1 lined.1 inlined.1,
)

-- The line records have the addresses of the lines.
line_runs_are : (base : ℕ) (paths table : List (List ℕ)) (units : List UnitRead) (unit : ℕ) (lines : List LineRun) → flat_map line_run (map (line_record base paths units unit) lines) ≡ map (text_run base) (map (path_run table) lines)
line_runs_are base paths table units unit [] = refl
line_runs_are base paths table units unit (r ∷ lines) = ap (λ (l : List Extent). run_of (r.start - base) (r.end - r.start) ∷ l) (line_runs_are base paths table units unit lines)

copies_no_line : (base : ℕ) (paths names : List (List ℕ)) (units : List UnitRead) (unit : ℕ) (copies : List InlineParts) (rest : List SymLine) → flat_map line_run (map (inline_record base paths names units unit) copies ++ rest) ≡ flat_map line_run rest
copies_no_line base paths names units unit [] rest = refl
copies_no_line base paths names units unit (r ∷ copies) rest = copies_no_line base paths names units unit copies rest

parts_lines_apart : (base : ℕ) (paths names : List (List ℕ)) (units : List UnitRead) (parts : List Part) → BeginAbove base (pieces_of parts) → AreLined units parts → EachPart HaveLinesApart base paths names units parts
parts_lines_apart base paths names units [] above lined = tt
parts_lines_apart base paths names units (p ∷ parts) above lined =
    let table : List (List ℕ) = unit_paths units p.piece.unit in
    let runs : flat_map line_run (below base paths names units p) ≡ map (text_run base) (map (path_run table) p.lines)
    = copies_no_line base paths names units p.piece.unit p.copies (map (line_record base paths units p.piece.unit) p.lines) ∙ line_runs_are base paths table units p.piece.unit p.lines in (
      subst (λ (l : List Extent). AreApart l) (sym runs)
          (runs_apart base (map (path_run table) p.lines) (from_between base p.piece.start p.piece.end (map (path_run table) p.lines) above.0 (lines_between units p lined.0)) lined.0.paths.apart),
      parts_lines_apart base paths names units parts above.1 lined.1,
    )

-- In a text with the records of functions, among other records, a checker finds nothing about
-- files, functions, inlined copies and lines.
pub none_found : (base : ℕ) (units : List UnitRead) (pieces : List Piece) (front records behind : List SymLine) → ArePieces units pieces → BeginAbove base pieces → EndBelow (2 ^ 64) pieces → AreFuncRecords base units pieces records → ArePlain front → HaveNoFile front → HaveNoOrigin front → list_all are_sized front ≡ true → ArePlain behind → HaveNoFile behind → HaveNoOrigin behind → list_all are_sized behind ≡ true → HasNoFuncFindings (front ++ (records ++ behind))
none_found base units pieces front records behind pieced above small are plain first_file first_origin first_sized last last_file last_origin last_sized =
    let parts = are.parts in
    let paths = are.paths in
    let names = are.names in
    let all : List SymLine = around base units paths names parts front behind in
    let runs : part_runs parts ≡ map piece_run pieces = ap (λ (ps : List Piece). map piece_run ps) are.pieces_are in
    let apart : AreRuns (part_runs parts) = rw runs pieced.runs.apart in
    let high : BeginAbove base (pieces_of parts) = rw are.pieces_are above in
    let ends : EndBelow (2 ^ 64) (pieces_of parts) = rw are.pieces_are small in
    rw (around_is base units pieces front records behind are) (record {
      given_once = all_once base units paths names parts front behind first_file first_origin last_file last_origin;
      files = all_pass (has_file all) base units paths names parts front behind (plain_files all front plain) (λ n text. refl) (λ n text. refl)
          (files_pass base paths names units all parts (paths_found base units pieces front records behind are first_file)) (plain_files all behind last);
      origins = all_pass (has_origin all) base units paths names parts front behind (plain_origins all front plain) (λ n text. refl) (λ n text. refl)
          (origins_pass base paths names units all parts (names_found base units pieces front records behind are first_origin)) (plain_origins all behind last);
      sized = all_pass are_sized base units paths names parts front behind first_sized (λ n text. refl) (λ n text. refl)
          (sized_pass base paths names units parts ends apart are.lines_are are.inlined) last_sized;
      functions_apart = functions_apart base units paths names parts front behind high apart plain last;
      inside = each_around LieInside base units paths names parts front behind plain last (parts_inside base paths names units parts high are.lines_are are.inlined);
      lines_apart = each_around HaveLinesApart base units paths names parts front behind plain last (parts_lines_apart base paths names units parts high are.lines_are);
    })
