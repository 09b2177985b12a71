-- Rows as they are stored give the same lines as the rows themselves (for `lines`).
use Rattle.std.proofs.Common.{◌≡◌, ◌<◌, ◌≤◌, ℕ, ◌+◌, ◌-◌, ◌^◌, ◌==◌, min, nat_le, Bool, true, false, cond, List, [], ◌∷◌, map, length, Option, Some, None, Result, Ok, Err, refl, sym, ◌∙◌, ap, arith}
use Rattle.std.proofs.lemmas.Bool.{le-ltb}
use Rattle.std.proofs.lemmas.Bool.Decides.{nat_tests}
use Rattle.std.proofs.lemmas.Option.{slice_get_past}
use Rattle.std.specs.List.{slice_get}
use Rattle.std.specs.Option.{option_map}
use Rattle.sym_edges.specs.Results.{◌>>=◌}
use Rattle.line_program.specs.declared.row.Row.{Row}
use Rattle.line_program.specs.Faults.{Fault}
use Rattle.line_program.specs.FileTables.{Tables}
use Rattle.line_program.specs.LineRows.{Sequence, State}
use Rattle.line_program.specs.LineAt.{Lines, or_least, least_address, covers_from, covers, later_row, row_at, row_in, path_of, line_of, line_at}
use Rattle.line_program.specs.LineMaps.{LineMap, SaysLines}
use Rattle.line_program.specs.LineTables.{lines_of}
use Rattle.line_program.specs.internal.KeptRows.{kept_row, kept_sequence, kept_state, kept_lines, or_kept_state, or_kept_lines}

least_kept : (rows : List Row) → least_address (map kept_row rows) ≡ least_address rows
unfolding least_address
least_kept [] = refl
least_kept (r ∷ rows) = ap (or_least r.address) (least_kept rows)

covers_kept : (code : ℕ → ℕ → Bool) (s : Sequence) (a : ℕ) → covers code (kept_sequence s) a ≡ covers code s a
covers_kept code s a = ap (λ start. covers_from code s.end start a) (least_kept s.rows)

cond_kept : (b : Bool) (r s : Row) → (let kept : Option Row = cond b (Some (kept_row r)) (Some (kept_row s)) in kept) ≡ option_map kept_row (cond b (Some r) (Some s))
cond_kept true r s = refl
cond_kept false r s = refl

later_kept : (r s : Option Row) → later_row (option_map kept_row r) (option_map kept_row s) ≡ option_map kept_row (later_row r s)
later_kept None s = refl
later_kept (Some r) None = refl
later_kept (Some r) (Some s) = cond_kept (nat_le r.address s.address) s r

below_kept : (b : Bool) (r : Row) → (let kept : Option Row = cond b (Some (kept_row r)) None in kept) ≡ option_map kept_row (cond b (Some r) None)
below_kept true r = refl
below_kept false r = refl

row_kept : (rows : List Row) (a : ℕ) → row_at (map kept_row rows) a ≡ option_map kept_row (row_at rows a)
unfolding row_at
row_kept [] a = refl
row_kept (r ∷ rows) a =
    ap (λ o. later_row o (row_at (map kept_row rows) a)) (below_kept (nat_le r.address a) r)
    ∙ ap (later_row (option_map kept_row (cond (nat_le r.address a) (Some r) None))) (row_kept rows a)
    ∙ later_kept (cond (nat_le r.address a) (Some r) None) (row_at rows a)

either_kept : (b : Bool) (r s : Option Row) → cond b (option_map kept_row r) (option_map kept_row s) ≡ option_map kept_row (cond b r s)
either_kept true r s = refl
either_kept false r s = refl

rows_kept : (code : ℕ → ℕ → Bool) (sequences : List Sequence) (a : ℕ) → row_in code (map kept_sequence sequences) a ≡ option_map kept_row (row_in code sequences a)
unfolding row_in
rows_kept code [] a = refl
rows_kept code (s ∷ sequences) a =
    ap (λ b. cond b (row_at (map kept_row s.rows) a) (row_in code (map kept_sequence sequences) a)) (covers_kept code s a)
    ∙ ap (λ o. cond (covers code s a) o (row_in code (map kept_sequence sequences) a)) (row_kept s.rows a)
    ∙ ap (cond (covers code s a) (option_map kept_row (row_at s.rows a))) (rows_kept code sequences a)
    ∙ either_kept (covers code s a) (row_at s.rows a) (row_in code sequences a)

min_low : (n m : ℕ) → n ≤ m → min n m ≡ n
min_low n m low = omega arith

-- A file number above those of the table has no path.
no_file : (first : ℕ) (files : List (List ℕ)) (file : ℕ) → first + length files ≤ file → path_of first files file ≡ None
no_file first files file above =
    ap (λ b. cond b None (slice_get files (file - first))) (le-ltb file first (omega arith))
    ∙ slice_get_past files (file - first) (omega arith)

path_by : (b : Bool) (first : ℕ) (files : List (List ℕ)) (file : ℕ) → nat_le file (2 ^ 32 - 1) ≡ b → first + length files < 2 ^ 32 → path_of first files (min file (2 ^ 32 - 1)) ≡ path_of first files file
path_by true first files file is few = ap (path_of first files) (min_low file (2 ^ 32 - 1) (grind (arith, nat_tests)))
path_by false first files file is few =
    let above : 2 ^ 32 - 1 < file = grind (arith, nat_tests) in
    no_file first files (min file (2 ^ 32 - 1)) (omega arith) ∙ sym (no_file first files file (omega arith))

path_kept : (first : ℕ) (files : List (List ℕ)) (file : ℕ) → first + length files < 2 ^ 32 → path_of first files (min file (2 ^ 32 - 1)) ≡ path_of first files file
path_kept first files file few = path_by (nat_le file (2 ^ 32 - 1)) first files file refl few

line_kept : (first : ℕ) (files : List (List ℕ)) (row : Option Row) → first + length files < 2 ^ 32 → line_of first files (option_map kept_row row) ≡ line_of first files row
line_kept first files None few = refl
line_kept first files (Some r) few = ap (λ path. cond (r.line == 0) None (option_map (λ p. (p, r.line)) path)) (path_kept first files r.file few)

same_line : (code : ℕ → ℕ → Bool) (lines : Lines) (a : ℕ) → lines.first + length lines.files < 2 ^ 32 → line_at code (kept_lines lines) a ≡ line_at code lines a
unfolding line_at
same_line code lines a few = ap (line_of lines.first lines.files) (rows_kept code lines.sequences a) ∙ line_kept lines.first lines.files (row_in code lines.sequences a) few

pub says_kept : (code : ℕ → ℕ → Bool) (lines : Lines) (table : LineMap) → lines.first + length lines.files < 2 ^ 32 → SaysLines code (kept_lines lines) table → SaysLines code lines table
says_kept code lines table few says = record {
  line = λ a low. says.line a low ∙ same_line code lines a few;
  file = says.file;
  paths = says.paths;
}

-- The stored state gives the stored rows of the table.
named_kept : (comp_dir : List ℕ) (version : ℕ) (tables : Tables) (state : State) → lines_of comp_dir version tables (kept_state state) ≡ kept_lines (lines_of comp_dir version tables state)
unfolding lines_of
named_kept comp_dir version tables state = refl

same_state : (r s : State) → (let read : Result State Fault = Ok r in read) ≡ Ok s → r ≡ s
same_state r s is = cc

pub lines_read : (comp_dir : List ℕ) (version : ℕ) (tables : Tables) (machine : State) (lines : Lines) (run : Result State Fault) → Ok machine ≡ or_kept_state run → lines ≡ lines_of comp_dir version tables machine → Ok lines ≡ or_kept_lines (run >>= λ state. Ok (lines_of comp_dir version tables state))
lines_read comp_dir version tables machine lines (Ok state) is named = ap Ok (named ∙ ap (lines_of comp_dir version tables) (same_state machine (kept_state state) is) ∙ named_kept comp_dir version tables state)
lines_read comp_dir version tables machine lines (Err fault) is named = cc

pub lines_refused : (comp_dir : List ℕ) (version : ℕ) (tables : Tables) (fault : Fault) (run : Result State Fault) → Err fault ≡ or_kept_state run → (let refused : Result Lines Fault = Err fault in refused) ≡ or_kept_lines (run >>= λ state. Ok (lines_of comp_dir version tables state))
lines_refused comp_dir version tables fault (Ok state) is = cc
lines_refused comp_dir version tables fault (Err other) is = cc
