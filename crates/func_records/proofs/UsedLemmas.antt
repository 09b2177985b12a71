-- The texts in use: they are sorted, they are the texts that were gathered, and they are cleaned.
use Rattle.std.proofs.Common.{◌≡◌, ℕ, zero, suc, ◌<◌, Bool, true, false, ◌||◌, map, length, List, [], ◌∷◌, Option, None, Some, unwrap_or, arith, refl, sym, ap, ◌∙◌, Bor}
use Rattle.std.specs.List.{slice_get, list_any, AllByRecursion}
use Rattle.std.specs.List.Sorted.{IsStrictlySortedBy}
use Rattle.std.specs.Ordering.{nat_cmp}
use Rattle.std.specs.declared.cmp.Ordering.TheVariants.{Less}
use Rattle.std.specs.Cmp.Lexicographic.{slice_cmp}
use Rattle.std.specs.Str.{bytes_eq}
use Rattle.std.proofs.lemmas.Slice.Eq.{bytes_eq-Decides}
use Rattle.std.proofs.lemmas.List.Folds.{Any-from_list_any, list_any-from_Any}
use Rattle.clean_names.specs.Cleaning.{cleaned}
use Rattle.debug_units.specs.declared.unit_read.UnitRead.{UnitRead}
use Rattle.die_names.specs.declared.name_source.NameRef.{NameRef}
use Rattle.die_names.specs.NameRefs.{name_bytes}
use Rattle.func_flatten.specs.declared.piece.Piece.{Piece}
use Rattle.func_flatten.specs.declared.line_run.LineRun.{LineRun}
use Rattle.func_flatten.specs.LineRuns.{unit_paths}
use Rattle.inline_chain.specs.InlineRuns.{InlineParts}
use Rattle.func_records.specs.declared.path_list.PathRef.{PathRef}
use Rattle.func_records.specs.internal.Texts.{text_cmp, SameTexts}
use Rattle.func_records.specs.FuncRecords.{Part, path_in, call_path, AreLined, names_path}
use Rattle.debug_units.specs.CallPaths.{no_path}
use Rattle.func_records.specs.internal.Calls.{call_number, path_or, IsPathed, AreKnown, AreAllKnown}
use Rattle.func_records.specs.internal.Gathering.{bytes_of, has_text, path_at, has_path, ArePathed, Gathered}
use Rattle.clean_names.specs.Cleaning.{AreClean}
use Rattle.debug_units.specs.CleanPaths.{HaveCleanPaths}
use Rattle.func_records.specs.internal.Origins.{made_name}
use Rattle.clean_names.proofs.CleanLemmas.{cleaned_again, omitted_again}
use Rattle.func_records.proofs.PathLemmas.{all_pathed}
use Rattle.func_records.proofs.ListLemmas.{same_bytes, or_left, or_right}

omitted_clean : cleaned no_path ≡ no_path
unfolding cleaned no_path
omitted_clean = omitted_again 65536 (omega arith)

-- Sorted texts are sorted by their bytes.
all_below : (x : Bor (List ℕ)) (xs : List (Bor (List ℕ))) → AllByRecursion (λ y. text_cmp x y ≡ Less) xs → AllByRecursion (λ y. slice_cmp nat_cmp x.now y ≡ Less) (bytes_of xs)
all_below x [] below = tt
all_below x (y ∷ xs) below = (below.0, all_below x xs below.1)

pub bytes_sorted : (xs : List (Bor (List ℕ))) → IsStrictlySortedBy text_cmp xs → IsStrictlySortedBy (slice_cmp nat_cmp) (bytes_of xs)
unfolding IsStrictlySortedBy
bytes_sorted [] sorted = tt
bytes_sorted (x ∷ xs) sorted = (all_below x xs sorted.0, bytes_sorted xs sorted.1)

pub bytes_had : (xs : List (Bor (List ℕ))) (path : List ℕ) → list_any (bytes_eq path) (bytes_of xs) ≡ has_text xs path
bytes_had [] path = refl
bytes_had (x ∷ xs) path = ap (λ b. bytes_eq path x.now || b) (bytes_had xs path)

-- The texts of paths.
pub paths_had : (units : List UnitRead) (refs : List PathRef) (used : List (Bor (List ℕ))) (path : List ℕ) → bytes_of used ≡ map (path_at units) refs → has_text used path ≡ has_path units refs path
paths_had units refs used path are = sym (bytes_had used path) ∙ ap (list_any (bytes_eq path)) are ∙ any_mapped refs
  where
    any_mapped : (rs : List PathRef) → list_any (bytes_eq path) (map (path_at units) rs) ≡ has_path units rs path
    any_mapped [] = refl
    any_mapped (r ∷ rs) = ap (λ b. bytes_eq path (path_at units r) || b) (any_mapped rs)

pub texts_gathered : (units : List UnitRead) (pieces : List Piece) (held : List (List InlineParts)) (refs : List PathRef) (used : List (Bor (List ℕ))) → ((path : List ℕ) → has_text used path ≡ has_path units refs path) → Gathered units pieces held (has_path units refs) → Gathered units pieces held (has_text used)
texts_gathered units pieces held refs used are so = record { parts = so.parts; pieces_are = so.pieces_are; copies_are = so.copies_are; lines_are = so.lines_are; known = so.known; same = λ path. are path ∙ so.same path }

-- Both lists have the same texts.
same_true : (a b : Bool) → (a ≡ true → b ≡ true) → (b ≡ true → a ≡ true) → a ≡ b
same_true true true there back = refl
same_true true false there back = sym (there refl)
same_true false true there back = back refl
same_true false false there back = refl

had_from : (xs ys : List (Bor (List ℕ))) (path : List ℕ) → SameTexts xs ys → has_text ys path ≡ true → has_text xs path ≡ true
had_from xs ys path same had =
    let any = Any-from_list_any (λ (t : Bor (List ℕ)). bytes_eq path t.now) ys had in
    let has = same.from any.1 (any.0, any.2, any.3) in
    list_any-from_Any (λ (t : Bor (List ℕ)). bytes_eq path t.now) xs (has.0, any.1, has.1, has.2, any.4)

had_all : (xs ys : List (Bor (List ℕ))) (path : List ℕ) → SameTexts xs ys → has_text xs path ≡ true → has_text ys path ≡ true
had_all xs ys path same had =
    let any = Any-from_list_any (λ (t : Bor (List ℕ)). bytes_eq path t.now) xs had in
    let other = same.all any.1 (any.0, any.2, any.3) in
    let alike : path ≡ other.1.now = (bytes_eq-Decides path any.1.now).0 any.4 ∙ (bytes_eq-Decides any.1.now other.1.now).0 other.4 in
    list_any-from_Any (λ (t : Bor (List ℕ)). bytes_eq path t.now) ys (other.0, other.1, other.2, other.3, (bytes_eq-Decides path other.1.now).1 alike)

pub same_used : (xs ys : List (Bor (List ℕ))) (path : List ℕ) → SameTexts xs ys → list_any (bytes_eq path) (bytes_of ys) ≡ has_text xs path
same_used xs ys path same = bytes_had ys path ∙ same_true (has_text ys path) (has_text xs path) (had_from xs ys path same) (had_all xs ys path same)

-- The paths that records name are cleaned.
clean_at : (paths : List (List ℕ)) (n : ℕ) → n < length paths → AreClean paths → cleaned (unwrap_or (slice_get paths n) []) ≡ unwrap_or (slice_get paths n) []
clean_at [] n below clean = absurd (omega arith)
clean_at (p ∷ paths) zero below clean = clean.0
clean_at (p ∷ paths) (suc n) below clean = clean_at paths n (omega arith) clean.1

clean_in : (units : List UnitRead) (unit k : ℕ) → k < length (unit_paths units unit) → HaveCleanPaths units → cleaned (path_in units unit k) ≡ path_in units unit k
unfolding unit_paths
clean_in [] unit k below clean = absurd (omega arith)
clean_in (u ∷ units) zero k below clean = clean_at u.lines.paths k below clean.0
clean_in (u ∷ units) (suc unit) k below clean = clean_in units unit k below clean.1

or_either : (b c : Bool) (P : Type 0) → (b || c) ≡ true → (b ≡ true → P) → (c ≡ true → P) → P
or_either true c P is first second = first refl
or_either false c P is first second = second is

run_clean : (units : List UnitRead) (unit : ℕ) (runs : List LineRun) (path : List ℕ) → HaveCleanPaths units → ArePathed units unit runs → list_any (λ (r : LineRun). bytes_eq path (path_in units unit r.path)) runs ≡ true → cleaned path ≡ path
run_clean units unit [] path clean pathed had = absurd (cc)
run_clean units unit (r ∷ runs) path clean pathed had =
    or_either (bytes_eq path (path_in units unit r.path)) (list_any (λ (s : LineRun). bytes_eq path (path_in units unit s.path)) runs) (cleaned path ≡ path) had
    (λ same. let alike : path ≡ path_in units unit r.path = (bytes_eq-Decides path (path_in units unit r.path)).0 same in
    ap cleaned alike ∙ clean_in units unit r.path pathed.0 clean ∙ sym alike)
    (λ later. run_clean units unit runs path clean pathed.1 later)

numbered_clean : (units : List UnitRead) (unit : ℕ) (o : Option ℕ) → HaveCleanPaths units → IsPathed units unit o → cleaned (path_or units unit o) ≡ path_or units unit o
numbered_clean units unit None clean pathed = omitted_clean
numbered_clean units unit (Some k) clean pathed = clean_in units unit k pathed clean

call_clean : (units : List UnitRead) (unit : ℕ) (copies : List InlineParts) (path : List ℕ) → HaveCleanPaths units → AreKnown units unit copies → list_any (λ (r : InlineParts). bytes_eq path (call_path units unit r.entry)) copies ≡ true → cleaned path ≡ path
call_clean units unit [] path clean known had = absurd (cc)
call_clean units unit (r ∷ copies) path clean known had =
    or_either (bytes_eq path (call_path units unit r.entry)) (list_any (λ (s : InlineParts). bytes_eq path (call_path units unit s.entry)) copies) (cleaned path ≡ path) had
    (λ same. let alike : path ≡ path_or units unit (call_number units unit r.entry) = (bytes_eq-Decides path (call_path units unit r.entry)).0 same ∙ known.0.path in
    ap cleaned alike ∙ numbered_clean units unit (call_number units unit r.entry) clean known.0.pathed ∙ sym alike)
    (λ later. call_clean units unit copies path clean known.1 later)

part_clean : (units : List UnitRead) (parts : List Part) (path : List ℕ) → HaveCleanPaths units → AreLined units parts → AreAllKnown units parts → list_any (names_path units path) parts ≡ true → cleaned path ≡ path
part_clean units [] path clean lined known had = absurd (cc)
part_clean units (p ∷ parts) path clean lined known had =
    or_either (names_path units path p) (list_any (names_path units path) parts) (cleaned path ≡ path) had
    (λ here. or_either (list_any (λ (r : LineRun). bytes_eq path (path_in units p.piece.unit r.path)) p.lines) (list_any (λ (r : InlineParts). bytes_eq path (call_path units p.piece.unit r.entry)) p.copies) (cleaned path ≡ path) here
    (λ run. run_clean units p.piece.unit p.lines path clean (all_pathed units p.piece p.lines lined.0) run)
    (λ call. call_clean units p.piece.unit p.copies path clean known.0 call))
    (λ later. part_clean units parts path clean lined.1 known.1 later)

each_clean : (texts : List (List ℕ)) → ((text : List ℕ) → list_any (bytes_eq text) texts ≡ true → cleaned text ≡ text) → AreClean texts
each_clean [] each = tt
each_clean (t ∷ texts) each =
    (each t (or_left (bytes_eq t t) (list_any (bytes_eq t) texts) (same_bytes t)), each_clean texts (λ text had. each text (or_right (bytes_eq text t) (list_any (bytes_eq text) texts) had)))

pub paths_clean : (units : List UnitRead) (pieces : List Piece) (held : List (List InlineParts)) (used sorted : List (Bor (List ℕ))) → HaveCleanPaths units → Gathered units pieces held (has_text used) → SameTexts used sorted → AreClean (bytes_of sorted)
paths_clean units pieces held used sorted clean gathered same =
    each_clean (bytes_of sorted) (λ path had. part_clean units gathered.parts path clean gathered.lines_are gathered.known (sym (gathered.same path) ∙ sym (same_used used sorted path same) ∙ had))

-- The names that entries give are cleaned.
any_clean : (texts : List (List ℕ)) (text : List ℕ) → AreClean texts → list_any (bytes_eq text) texts ≡ true → cleaned text ≡ text
any_clean [] text clean had = absurd (cc)
any_clean (t ∷ texts) text clean had =
    or_either (bytes_eq text t) (list_any (bytes_eq text) texts) (cleaned text ≡ text) had
    (λ same. let alike : text ≡ t = (bytes_eq-Decides text t).0 same in ap cleaned alike ∙ clean.0 ∙ sym alike)
    (λ later. any_clean texts text clean.1 later)

made_clean : (units : List UnitRead) (refs : List NameRef) → AreClean (map (made_name units) refs)
made_clean units [] = tt
made_clean units (r ∷ refs) = (cleaned_again (name_bytes units r), made_clean units refs)

pub names_clean : (units : List UnitRead) (refs : List NameRef) (slices sorted : List (Bor (List ℕ))) → ((name : List ℕ) → list_any (bytes_eq name) (bytes_of slices) ≡ list_any (bytes_eq name) (map (made_name units) refs)) → SameTexts slices sorted → AreClean (bytes_of sorted)
names_clean units refs slices sorted made same =
    each_clean (bytes_of sorted) (λ name had.
    any_clean (map (made_name units) refs) name (made_clean units refs)
    (sym (made name) ∙ (bytes_had slices name ∙ (sym (same_used slices sorted name same) ∙ had))))
