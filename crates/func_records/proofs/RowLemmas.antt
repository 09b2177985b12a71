-- The FILE number of a path, given its unit and its number in the unit's line table.
use Rattle.std.proofs.Common.{◌≡◌, ℕ, zero, suc, ◌<◌, ◌≤◌, length, map, List, [], ◌∷◌, ◌++◌, Option, None, Some, Bor, get_or, unwrap_or, arith, refl, sym, ap, subst, ◌∙◌}
use Rattle.std.specs.List.{slice_get, All}
use Rattle.std.proofs.lemmas.List.Elements.{All-append}
use Rattle.debug_units.specs.declared.unit_read.UnitRead.{UnitRead}
use Rattle.func_flatten.specs.LineRuns.{paths_in, unit_paths}
use Rattle.func_records.specs.FuncRecords.{path_in}
use Rattle.func_records.specs.declared.path_list.PathRef.{PathRef}
use Rattle.func_records.specs.internal.Gathering.{bytes_of, path_at}
use Rattle.func_records.specs.internal.Spelling.{number_or_0, unit_numbers, row_of, IsNumbered}
use Rattle.func_records.specs.declared.path_numbers.NumberedPath.{NumberedPath}

-- The numbers of the paths of a unit, if there is one.
abbrev pub numbers_in : List (List ℕ) → Option UnitRead → List ℕ
numbers_in paths None = []
numbers_in paths (Some u) = map (number_or_0 paths) u.lines.paths

pub row_is : (paths : List (List ℕ)) (units : List UnitRead) (unit : ℕ) → row_of (unit_numbers paths units) unit ≡ numbers_in paths (slice_get units unit)
row_is paths [] unit = refl
row_is paths (u ∷ units) zero = refl
row_is paths (u ∷ units) (suc unit) = row_is paths units unit

-- What the row of a unit has for a path is what the unit gives.
row_number : (paths : List (List ℕ)) (units : List UnitRead) (unit path : ℕ) (part : Option UnitRead) → part ≡ slice_get units unit → unwrap_or (slice_get (row_of (unit_numbers paths units) unit) path) 0 ≡ unwrap_or (slice_get (numbers_in paths part) path) 0
row_number paths units unit path part is = ap (λ row. unwrap_or (slice_get row path) 0) (row_is paths units unit ∙ ap (numbers_in paths) (sym is))

-- Without a unit the number is 0.
pub no_unit : (paths : List (List ℕ)) (units : List UnitRead) (unit path : ℕ) → None ≡ slice_get units unit → 0 ≡ unwrap_or (slice_get (row_of (unit_numbers paths units) unit) path) 0
no_unit paths units unit path none = sym (row_number paths units unit path None none)

past : (f : List ℕ → ℕ) (table : List (List ℕ)) (path : ℕ) → length table ≤ path → 0 ≡ unwrap_or (slice_get (map f table) path) 0
past f [] path beyond = refl
past f (t ∷ table) zero beyond = absurd (omega (arith, beyond))
past f (t ∷ table) (suc path) beyond = past f table path (omega (arith, beyond))

-- Without such a path the number is 0.
pub no_path_there : (paths : List (List ℕ)) (units : List UnitRead) (unit path : ℕ) (part : UnitRead) → Some part ≡ slice_get units unit → length part.lines.paths ≤ path → 0 ≡ unwrap_or (slice_get (row_of (unit_numbers paths units) unit) path) 0
no_path_there paths units unit path part is beyond = past (number_or_0 paths) part.lines.paths path beyond ∙ sym (row_number paths units unit path (Some part) is)

there : (f : List ℕ → ℕ) (table : List (List ℕ)) (path : ℕ) (text : List ℕ) → Some text ≡ slice_get table path → f text ≡ unwrap_or (slice_get (map f table) path) 0
there f [] path text is = absurd (cc)
there f (t ∷ table) zero text is = ap f (let same : text ≡ t = cc in same)
there f (t ∷ table) (suc path) text is = there f table path text is

-- The number of a path is that of its text.
pub path_numbered : (paths : List (List ℕ)) (units : List UnitRead) (unit path : ℕ) (part : UnitRead) (text : List ℕ) → Some part ≡ slice_get units unit → Some text ≡ slice_get part.lines.paths path → number_or_0 paths text ≡ unwrap_or (slice_get (row_of (unit_numbers paths units) unit) path) 0
path_numbered paths units unit path part text is has = there (number_or_0 paths) part.lines.paths path text has ∙ sym (row_number paths units unit path (Some part) is)

-- The number of a path that is given by its unit and its number, with its text.
pub ref_numbered : (paths : List (List ℕ)) (units : List UnitRead) (unit path : ℕ) (part : UnitRead) (text : List ℕ) → Some part ≡ slice_get units unit → path < length part.lines.paths → text ≡ path_in units unit path → number_or_0 paths text ≡ unwrap_or (slice_get (row_of (unit_numbers paths units) unit) path) 0
unfolding unit_paths
ref_numbered paths units unit path part text is inside at =
    path_numbered paths units unit path part text is
    (ap Some (at ∙ ap (λ (o : Option UnitRead). unwrap_or (slice_get (paths_in o) path) []) (sym is)) ∙ sym (got part.lines.paths path inside))
  where
    got : (table : List (List ℕ)) (k : ℕ) → k < length table → slice_get table k ≡ Some (unwrap_or (slice_get table k) [])
    got [] k below = absurd (omega arith)
    got (t ∷ table) zero below = refl
    got (t ∷ table) (suc k) below = got table k (omega arith)

-- The text of a path among the texts of several.
pub text_of_ref : (units : List UnitRead) (refs : List PathRef) (texts : List (Bor (List ℕ))) (k : ℕ) (d : PathRef) (e : Bor (List ℕ)) → k < length refs → bytes_of texts ≡ map (path_at units) refs → (get_or texts k e).now ≡ path_at units (get_or refs k d)
text_of_ref units [] texts k d e inside are = absurd (omega arith)
text_of_ref units (r ∷ refs) [] k d e inside are = absurd (cc)
text_of_ref units (r ∷ refs) (t ∷ texts) zero d e inside are = (let same : t.now ≡ path_at units r = cc in same)
text_of_ref units (r ∷ refs) (t ∷ texts) (suc k) d e inside are = text_of_ref units refs texts k d e (omega arith) (let same : bytes_of texts ≡ map (path_at units) refs = cc in same)

-- A list of numbered paths with one more.
pub numbered_more : (rows : List (List ℕ)) (list after : List NumberedPath) (one : NumberedPath) → All (IsNumbered rows) list → IsNumbered rows one → after ≡ list ++ one ∷ [] → All (IsNumbered rows) after
numbered_more rows list after one all is added = subst (All (IsNumbered rows)) (sym added) (All-append (IsNumbered rows) list (one ∷ []) all alone)
  where
    alone : All (IsNumbered rows) (one ∷ [])
    alone zero d below = is
    alone (suc k) d below = absurd (omega (arith, below))
