-- A table that gives lines with path numbers is a model of a line table with paths.
use Rattle.std.proofs.Common.{◌≡◌, ◌≢◌, ◌<◌, ◌≤◌, ◌^◌, ℕ, ◌-◌, ◌==◌, ◌&&◌, nat_lt, nat_le, Bool, true, false, cond, List, [], ◌∷◌, length, Option, Some, None, Result, Ok, refl, sym, ◌∙◌, ap, subst, arith}
use Rattle.std.specs.List.{slice_get}
use Rattle.std.specs.Option.{option_map, option_and_then}
use Rattle.std.proofs.lemmas.Bool.Decides.{nat_tests}
use Rattle.std.proofs.lemmas.Option.{slice_get_past}
use Rattle.sym_edges.specs.Addresses.{Range}
use Rattle.range_set.specs.Enclosing.{encloses}
use Rattle.step_maps.specs.Stepping.{Stepping, held_from, value_at}
use Rattle.line_program.specs.declared.path_line.PathLine.{PathLine}
use Rattle.line_program.specs.declared.row.Row.{Row}
use Rattle.line_program.specs.Faults.{Fault}
use Rattle.line_program.specs.LineRows.{Sequence}
use Rattle.line_program.specs.LineAt.{Lines, least_address, covers_from, covers, row_at, row_in, path_of, line_of, line_at}
use Rattle.line_program.specs.LineMaps.{LineMap, no_line, shown, named_line, file_number, AreNamed, SaysLines, EncloseAlike}
use Rattle.line_program.specs.LineTables.{Says}
use Rattle.line_program.specs.internal.Numbered.{numbered_line_by, numbered_line_of, numbered_at}

-- The path with a file's number is the path of that file.
got_by : (t : Bool) (paths : List (List ℕ)) (k : ℕ) → nat_lt k (length paths) ≡ t → option_and_then (slice_get paths) (cond t (Some k) None) ≡ slice_get paths k
got_by true paths k is = refl
got_by false paths k is = sym (slice_get_past paths k (let past : length paths ≤ k = grind (arith, nat_tests) in past))

filed_by : (t : Bool) (paths : List (List ℕ)) (k : ℕ) → option_and_then (slice_get paths) (cond t None (cond (nat_lt k (length paths)) (Some k) None)) ≡ cond t None (slice_get paths k)
filed_by true paths k = refl
filed_by false paths k = got_by (nat_lt k (length paths)) paths k refl

filed : (first : ℕ) (paths : List (List ℕ)) (file : ℕ) → option_and_then (slice_get paths) (file_number first (length paths) file) ≡ path_of first paths file
filed first paths file = filed_by (nat_lt file first) paths (file - first)

line_by_number : (t : Bool) (paths : List (List ℕ)) (n line : ℕ) → (line == 0) ≡ t → named_line paths (shown (cond t no_line (record { path = n; line = line }))) ≡ cond t None (option_map (λ path. (path, line)) (slice_get paths n))
line_by_number true paths n line is = refl
line_by_number false paths n line is = ap (λ b. named_line paths (cond b None (Some (n, line)))) is

none_by : (t : Bool) → (let none : Option (List ℕ × ℕ) = None in none) ≡ cond t None None
none_by true = refl
none_by false = refl

line_by : (paths : List (List ℕ)) (number : Option ℕ) (path : Option (List ℕ)) (line : ℕ) → option_and_then (slice_get paths) number ≡ path → named_line paths (shown (numbered_line_by line number)) ≡ cond (line == 0) None (option_map (λ p. (p, line)) path)
line_by paths None path line is = none_by (line == 0) ∙ ap (λ o. cond (line == 0) None (option_map (λ p. (p, line)) o)) is
line_by paths (Some n) path line is = line_by_number (line == 0) paths n line refl ∙ ap (λ o. cond (line == 0) None (option_map (λ p. (p, line)) o)) is

row_says : (first : ℕ) (paths : List (List ℕ)) (row : Option Row) → named_line paths (shown (numbered_line_of first (length paths) row)) ≡ line_of first paths row
row_says first paths None = refl
row_says first paths (Some r) = line_by paths (file_number first (length paths) r.file) (path_of first paths r.file) r.line (filed first paths r.file)

-- The lines of a table say what those of all sequences say.
abbrev Painted : (ℕ → ℕ → Bool) → List Sequence → ℕ → ℕ → Stepping PathLine → Type 0
Painted code sequences first count lines = (a : ℕ) → a < 2 ^ 64 → value_at no_line lines a ≡ numbered_at code sequences first count a

says_lines : (code : ℕ → ℕ → Bool) (sequences : List Sequence) (first : ℕ) (paths : List (List ℕ)) (lines : Stepping PathLine) → Painted code sequences first (length paths) lines
    → SaysLines code (record { sequences = sequences; first = first; files = paths }) (record { lines = lines; first = first; paths = paths })
unfolding line_at numbered_at
says_lines code sequences first paths lines painted = record {
  line = λ a low. ap (λ v. named_line paths (shown v)) (painted a low) ∙ row_says first paths (row_in code sequences a);
  file = filed first paths;
  paths = refl;
}

-- If there is a line, its path number is below a bound.
IsNamed : ℕ → PathLine → Type 0
IsNamed bound at = at.line ≢ 0 → at.path < bound

named_by : (t : Bool) (bound n line : ℕ) → n < bound → IsNamed bound (cond t no_line (record { path = n; line = line }))
unfolding IsNamed
named_by true bound n line below some = absurd (some refl)
named_by false bound n line below some = below

named_number : (bound line : ℕ) (number : Option ℕ) → ((n : ℕ) → number ≡ Some n → n < bound) → IsNamed bound (numbered_line_by line number)
unfolding IsNamed
named_number bound line None below some = absurd (some refl)
named_number bound line (Some n) below some = named_by (line == 0) bound n line (below n refl) some

below_by : (t u : Bool) (k count n : ℕ) → nat_lt k count ≡ u → cond t None (cond u (Some k) None) ≡ Some n → n < count
below_by true u k count n less is = cc
below_by false false k count n less is = cc
below_by false true k count n less is = (let same : k ≡ n = cc in subst (λ j. j < count) same (let inside : k < count = grind (arith, nat_tests) in inside))

named_row : (first count : ℕ) (row : Option Row) → IsNamed count (numbered_line_of first count row)
unfolding IsNamed
named_row first count None some = absurd (some refl)
named_row first count (Some r) some = named_number count r.line (file_number first count r.file) (λ n is. below_by (nat_lt r.file first) (nat_lt (r.file - first) count) (r.file - first) count n refl is) some

named_lines : (code : ℕ → ℕ → Bool) (sequences : List Sequence) (first : ℕ) (paths : List (List ℕ)) (lines : Stepping PathLine) → Painted code sequences first (length paths) lines → AreNamed lines paths
unfolding numbered_at IsNamed
named_lines code sequences first paths lines painted a low = subst (IsNamed (length paths)) (sym (painted a low)) (named_row first (length paths) (row_in code sequences a))

-- A table without lines and files is consistent.
pub no_line_map : (lines : Stepping PathLine) (paths : List (List ℕ)) → lines ≡ record { stops = []; values = [] } → paths ≡ [] → AreNamed lines paths × (length paths < 2 ^ 32)
unfolding held_from
no_line_map lines paths no_lines no_paths = (
  subst (λ (l : Stepping PathLine). AreNamed l paths) (sym no_lines) (λ a low some. absurd (some refl)),
  omega (arith, ap (λ (l : List (List ℕ)). length l) no_paths),
)

-- Only what the ranges of code enclose matters.
covers_alike : (code other : ℕ → ℕ → Bool) (s : Sequence) (start : Option ℕ) (a : ℕ) → ((x y : ℕ) → code x y ≡ other x y) → covers_from code s.end start a ≡ covers_from other s.end start a
covers_alike code other s None a alike = refl
covers_alike code other s (Some start) a alike = ap (λ b. (nat_lt start s.end && b) && (nat_le start a && nat_lt a s.end)) (alike start s.end)

row_alike : (code other : ℕ → ℕ → Bool) (sequences : List Sequence) (a : ℕ) → ((x y : ℕ) → code x y ≡ other x y) → row_in code sequences a ≡ row_in other sequences a
unfolding row_in
row_alike code other [] a alike = refl
row_alike code other (s ∷ sequences) a alike =
    ap (λ b. cond b (row_at s.rows a) (row_in code sequences a)) (covers_alike code other s (least_address s.rows) a alike)
    ∙ ap (λ o. cond (covers other s a) (row_at s.rows a) o) (row_alike code other sequences a alike)

says_alike : (code other : ℕ → ℕ → Bool) (lines : Lines) (table : LineMap) → ((x y : ℕ) → code x y ≡ other x y) → SaysLines code lines table → SaysLines other lines table
unfolding line_at
says_alike code other lines table alike says = record {
  line = λ a low. says.line a low ∙ ap (line_of lines.first lines.files) (row_alike code other lines.sequences a alike);
  file = says.file;
  paths = says.paths;
}

-- A model holds for any spans that enclose the same ranges.
pub says_read : (code : List Range) (read : Result Lines Fault) (lines : Lines) (table : LineMap) → read ≡ Ok lines → SaysLines (encloses code) lines table → (spans : List Range) → EncloseAlike code spans → Says (encloses spans) read table
says_read code read lines table is says spans alike = subst (λ r. Says (encloses spans) r table) (sym is) (says_alike (encloses code) (encloses spans) lines table alike says)

pub of_says : (code : ℕ → ℕ → Bool) (sequences : List Sequence) (first : ℕ) (paths : List (List ℕ)) (count : ℕ) (lines : Stepping PathLine) (read : Lines)
    → record { sequences = sequences; first = first; files = paths } ≡ read → count ≡ length paths → Painted code sequences first count lines → SaysLines code read (record { lines = lines; first = first; paths = paths })
of_says code sequences first paths count lines read is_read is_count painted =
    subst (λ (l : Lines). SaysLines code l (record { lines = lines; first = first; paths = paths })) is_read
    (says_lines code sequences first paths lines (subst (λ n. Painted code sequences first n lines) is_count painted))

pub of_map : (code : ℕ → ℕ → Bool) (sequences : List Sequence) (first : ℕ) (paths : List (List ℕ)) (count : ℕ) (lines : Stepping PathLine)
    → count ≡ length paths → count < 2 ^ 32 → Painted code sequences first count lines → AreNamed lines paths × (length paths < 2 ^ 32)
of_map code sequences first paths count lines is_count few painted =
    (named_lines code sequences first paths lines (subst (λ n. Painted code sequences first n lines) is_count painted), subst (λ n. n < 2 ^ 32) is_count few)
