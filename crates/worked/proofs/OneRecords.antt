-- The records of functions: units that say the same have the same records.
use Rattle.std.proofs.Common.{◌≡◌, ℕ, zero, suc, ◌-◌, ◌<◌, ◌≤◌, ◌^◌, ◌&&◌, ◌||◌, cond, Bool, true, false, nat_le, nat_lt, map, List, [], ◌∷◌, ◌++◌, Option, None, unwrap_or, option_and_then, refl, sym, ap, subst, ◌∙◌}
use Rattle.std.specs.List.{slice_get, list_any}
use Rattle.std.specs.Option.{option_map_or}
use Rattle.std.specs.Str.{bytes_eq}
use Rattle.std.proofs.lemmas.Bool.{leb-true, ltb-true}
use Rattle.step_maps.specs.Runs.{Run, between, AreMaximal}
use Rattle.step_maps.proofs.OneRuns as steps
use Rattle.step_maps.proofs.MaximalLemmas.{maximal}
use Rattle.sym_records.specs.declared.line.SymLine.{SymLine}
use Rattle.sym_records.specs.declared.line.SymLine.TheVariants.{Func, Inline, Line}
use Rattle.die_walk.specs.EntryTable.{DieFields}
use Rattle.debug_units.specs.declared.unit_read.UnitRead.{UnitRead}
use Rattle.debug_units.specs.UnitEntries.{Placed, entry_of}
use Rattle.die_names.specs.Names.{entry_name}
use Rattle.debug_units.specs.Owners.{line_in}
use Rattle.func_flatten.specs.declared.piece.Piece.{Piece}
use Rattle.func_flatten.specs.declared.line_run.LineRun.{LineRun}
use Rattle.func_flatten.specs.Pieces.{owner_place, piece_run, ArePieces}
use Rattle.func_flatten.specs.LineRuns.{unit_line, unit_paths, path_run, AreLineRuns}
use Rattle.func_flatten.proofs.LawLemmas.{one_pieces}
use Rattle.inline_chain.specs.InlineRuns.{InlineParts, AreInlineRuns}
use Rattle.inline_chain.proofs.LawLemmas as inlines
use Rattle.func_records.specs.FuncRecords.{Part, pieces_of, path_in, call_path, call_line, number_in, file_lines, origin_lines, line_record, extent, part_lines, AreLined, AreInlined, names_path, names_origin, AreUsed, AreFuncRecords}
use Rattle.debug_units.specs.CallPaths.{no_path, file_path_in, path_of_call}
use Rattle.debug_read.specs.Each.{Match}
use Rattle.worked.proofs.OneUnits.{AreSmall, owned_small}
use Rattle.debug_read.specs.SameUnits.{SameUnit}
use Rattle.worked.proofs.OneTexts.{one_texts}
use Rattle.worked.proofs.BareLemmas.{bares, same_bares, entry_bare, name_bare, pieces_bare, runs_bare}

-- Entries, names, files and lines are the same.
same_entry : (us ws : List UnitRead) → Match SameUnit us ws → (unit entry : ℕ) → entry_of us unit entry ≡ entry_of ws unit entry
same_entry us ws same unit entry = entry_bare us unit entry ∙ ap (λ bs. entry_of bs unit entry) (same_bares us ws same) ∙ sym (entry_bare ws unit entry)

same_name : (us ws : List UnitRead) → Match SameUnit us ws → (unit entry : ℕ) → entry_name us unit entry ≡ entry_name ws unit entry
same_name us ws same unit entry = name_bare us unit entry ∙ ap (λ bs. entry_name bs unit entry) (same_bares us ws same) ∙ sym (name_bare ws unit entry)

same_file : (us ws : List UnitRead) → Match SameUnit us ws → (unit file : ℕ) → file_path_in file (slice_get us unit) ≡ file_path_in file (slice_get ws unit)
same_file [] [] same unit file = refl
same_file [] (w ∷ ws) same unit file = absurd same
same_file (u ∷ us) [] same unit file = absurd same
same_file (u ∷ us) (w ∷ ws) same zero file = same.0.lines.file file
same_file (u ∷ us) (w ∷ ws) same (suc unit) file = same_file us ws same.1 unit file

same_at : (us ws : List UnitRead) → Match SameUnit us ws → (unit a : ℕ) → a < 2 ^ 64 → line_in a (slice_get us unit) ≡ line_in a (slice_get ws unit)
same_at [] [] same unit a small = refl
same_at [] (w ∷ ws) same unit a small = absurd same
same_at (u ∷ us) [] same unit a small = absurd same
same_at (u ∷ us) (w ∷ ws) same zero a small = same.0.lines.line a small
same_at (u ∷ us) (w ∷ ws) same (suc unit) a small = same_at us ws same.1 unit a small

same_line : (us ws : List UnitRead) → Match SameUnit us ws → (unit a : ℕ) → a < 2 ^ 64 → unit_line us unit a ≡ unit_line ws unit a
unfolding unit_line
same_line us ws same unit a small = same_at us ws same unit a small

same_call : (us ws : List UnitRead) → Match SameUnit us ws → (unit : ℕ) (die : DieFields) → path_of_call us unit die ≡ path_of_call ws unit die
unfolding path_of_call
same_call us ws same unit die = λ i. unwrap_or (option_and_then (λ (file : ℕ). same_file us ws same unit file i) die.call_file) no_path

same_path : (us ws : List UnitRead) → Match SameUnit us ws → (unit entry : ℕ) → call_path us unit entry ≡ call_path ws unit entry
same_path us ws same unit entry = λ i. option_map_or (λ (p : Placed). same_call us ws same unit p.die i) (same_entry us ws same unit entry i) no_path

same_number : (us ws : List UnitRead) → Match SameUnit us ws → (unit entry : ℕ) → call_line us unit entry ≡ call_line ws unit entry
same_number us ws same unit entry = ap (λ o. option_map_or (λ (p : Placed). p.die.call_line) o 0) (same_entry us ws same unit entry)

-- Pieces are the same, and end below 2^64.
pub same_pieces : (us ws : List UnitRead) (ps qs : List Piece) → Match SameUnit us ws → ArePieces us ps → ArePieces ws qs → ps ≡ qs
same_pieces us ws ps qs same p q = one_pieces (bares ws) ps qs (subst (λ bs. ArePieces bs ps) (same_bares us ws same) (pieces_bare us ps p)) (pieces_bare ws qs q)

abbrev EndInside : List Piece → Type 0
EndInside [] = Prim.Unit {0}
EndInside (p ∷ pieces) = ((a : ℕ) → p.start ≤ a → a < p.end → a < 2 ^ 64) × EndInside pieces

maximal_inside : (us : List UnitRead) (pieces : List Piece) → AreSmall us → AreMaximal (owner_place us) (map piece_run pieces) → EndInside pieces
maximal_inside us [] small are = tt
maximal_inside us (p ∷ pieces) small are = (λ a low high. owned_small us a (piece_run p).value small (are.0.constant a low high), maximal_inside us pieces small are.1)

end_inside : (us : List UnitRead) (pieces : List Piece) → AreSmall us → ArePieces us pieces → EndInside pieces
end_inside us pieces small are = maximal_inside us pieces small (maximal (owner_place us) (map piece_run pieces) are.runs)

-- Copies are the same, and lines are the same by their paths.
same_copies : (us ws : List UnitRead) (piece : Piece) (xs ys : List InlineParts) → Match SameUnit us ws → AreInlineRuns us piece xs → AreInlineRuns ws piece ys → xs ≡ ys
same_copies us ws piece xs ys same p q =
    inlines.one_runs (bares ws) piece xs ys (subst (λ bs. AreInlineRuns bs piece xs) (same_bares us ws same) (runs_bare us piece xs p)) (runs_bare ws piece ys q)

same_between : {V : Type 0} (f g : ℕ → Option V) (start end a : ℕ) → (start ≤ a → a < end → f a ≡ g a) → between start end f a ≡ between start end g a
same_between f g start end a same = go (nat_le start a) (nat_lt a end) (λ is. leb-true start a is) (λ is. ltb-true a end is)
  where
    go : (b c : Bool) → (b ≡ true → start ≤ a) → (c ≡ true → a < end) → cond (b && c) (f a) None ≡ cond (b && c) (g a) None
    go true true low high = same (low refl) (high refl)
    go true false low high = refl
    go false c low high = refl

same_lines : (us ws : List UnitRead) (piece : Piece) (xs ys : List LineRun) → Match SameUnit us ws → ((a : ℕ) → piece.start ≤ a → a < piece.end → a < 2 ^ 64) → AreLineRuns us piece xs → AreLineRuns ws piece ys
    → map (path_run (unit_paths us piece.unit)) xs ≡ map (path_run (unit_paths ws piece.unit)) ys
same_lines us ws piece xs ys same inside p q =
    steps.one_list (map (path_run (unit_paths us piece.unit)) xs) (map (path_run (unit_paths ws piece.unit)) ys) p.paths.apart q.paths.apart
    (λ a. p.paths.values a
    ∙ same_between (unit_line us piece.unit) (unit_line ws piece.unit) piece.start piece.end a (λ low high. same_line us ws same piece.unit a (inside a low high))
    ∙ sym (q.paths.values a))

-- Parts that say the same.
record SamePart (us ws : List UnitRead) (x y : Part) : Type 0 where
  pub piece : x.piece ≡ y.piece
  pub copies : x.copies ≡ y.copies
  pub lines : map (path_run (unit_paths us x.piece.unit)) x.lines ≡ map (path_run (unit_paths ws y.piece.unit)) y.lines

same_part : (us ws : List UnitRead) (x y : Part) → Match SameUnit us ws → x.piece ≡ y.piece → ((a : ℕ) → x.piece.start ≤ a → a < x.piece.end → a < 2 ^ 64)
    → AreInlineRuns us x.piece x.copies → AreInlineRuns ws y.piece y.copies → AreLineRuns us x.piece x.lines → AreLineRuns ws y.piece y.lines → SamePart us ws x y
same_part us ws x y same piece inside c d l m = record {
  piece = piece;
  copies = same_copies us ws x.piece x.copies y.copies same c (subst (λ p. AreInlineRuns ws p y.copies) (sym piece) d);
  lines = same_lines us ws x.piece x.lines y.lines same inside l (subst (λ p. AreLineRuns ws p y.lines) (sym piece) m)
      ∙ ap (λ (p : Piece). map (path_run (unit_paths ws p.unit)) y.lines) piece;
}

first_same : (x y : Piece) (xs ys : List Piece) → x ∷ xs ≡ y ∷ ys → x ≡ y
first_same x y xs ys is = cc

later_same : (x y : Piece) (xs ys : List Piece) → x ∷ xs ≡ y ∷ ys → xs ≡ ys
later_same x y xs ys is = cc

same_parts : (us ws : List UnitRead) (xs ys : List Part) → Match SameUnit us ws → pieces_of xs ≡ pieces_of ys → EndInside (pieces_of xs)
    → AreInlined us xs → AreInlined ws ys → AreLined us xs → AreLined ws ys → Match (SamePart us ws) xs ys
same_parts us ws [] [] same pieces inside c d l m = tt
same_parts us ws [] (y ∷ ys) same pieces inside c d l m = absurd (cc)
same_parts us ws (x ∷ xs) [] same pieces inside c d l m = absurd (cc)
same_parts us ws (x ∷ xs) (y ∷ ys) same pieces inside c d l m = (
  same_part us ws x y same (first_same x.piece y.piece (pieces_of xs) (pieces_of ys) pieces) inside.0 c.0 d.0 l.0 m.0,
  same_parts us ws xs ys same (later_same x.piece y.piece (pieces_of xs) (pieces_of ys) pieces) inside.1 c.1 d.1 l.1 m.1,
)

-- Such parts name the same paths and functions.
any_run : (us : List UnitRead) (unit : ℕ) (text : List ℕ) (runs : List LineRun)
    → list_any (λ (r : LineRun). bytes_eq text (path_in us unit r.path)) runs ≡ list_any (λ (r : Run (List ℕ × ℕ)). bytes_eq text r.value.0) (map (path_run (unit_paths us unit)) runs)
any_run us unit text [] = refl
any_run us unit text (r ∷ runs) = ap (λ b. bytes_eq text (path_in us unit r.path) || b) (any_run us unit text runs)

same_names_path : (us ws : List UnitRead) (text : List ℕ) (x y : Part) → Match SameUnit us ws → SamePart us ws x y → names_path us text x ≡ names_path ws text y
same_names_path us ws text x y same part =
    let by_lines : list_any (λ (r : LineRun). bytes_eq text (path_in us x.piece.unit r.path)) x.lines ≡ list_any (λ (r : LineRun). bytes_eq text (path_in ws y.piece.unit r.path)) y.lines
    = any_run us x.piece.unit text x.lines ∙ ap (list_any (λ (r : Run (List ℕ × ℕ)). bytes_eq text r.value.0)) part.lines ∙ sym (any_run ws y.piece.unit text y.lines) in
    let by_copies : list_any (λ (r : InlineParts). bytes_eq text (call_path us x.piece.unit r.entry)) x.copies ≡ list_any (λ (r : InlineParts). bytes_eq text (call_path ws y.piece.unit r.entry)) y.copies
    = λ i. list_any (λ (r : InlineParts). bytes_eq text (same_path us ws same (part.piece i).unit r.entry i)) (part.copies i) in
    λ i. by_lines i || by_copies i

same_names_origin : (us ws : List UnitRead) (text : List ℕ) (x y : Part) → Match SameUnit us ws → SamePart us ws x y → names_origin us text x ≡ names_origin ws text y
same_names_origin us ws text x y same part = λ i. list_any (λ (r : InlineParts). bytes_eq text (same_name us ws same (part.piece i).unit r.entry i)) (part.copies i)

any_path : (us ws : List UnitRead) (text : List ℕ) (xs ys : List Part) → Match SameUnit us ws → Match (SamePart us ws) xs ys → list_any (names_path us text) xs ≡ list_any (names_path ws text) ys
any_path us ws text [] [] same parts = refl
any_path us ws text [] (y ∷ ys) same parts = absurd parts
any_path us ws text (x ∷ xs) [] same parts = absurd parts
any_path us ws text (x ∷ xs) (y ∷ ys) same parts = λ i. same_names_path us ws text x y same parts.0 i || any_path us ws text xs ys same parts.1 i

any_origin : (us ws : List UnitRead) (text : List ℕ) (xs ys : List Part) → Match SameUnit us ws → Match (SamePart us ws) xs ys → list_any (names_origin us text) xs ≡ list_any (names_origin ws text) ys
any_origin us ws text [] [] same parts = refl
any_origin us ws text [] (y ∷ ys) same parts = absurd parts
any_origin us ws text (x ∷ xs) [] same parts = absurd parts
any_origin us ws text (x ∷ xs) (y ∷ ys) same parts = λ i. same_names_origin us ws text x y same parts.0 i || any_origin us ws text xs ys same parts.1 i

same_used : (xs ys : List Part) (named other : List ℕ → Part → Bool) (texts others : List (List ℕ)) → AreUsed named xs texts → AreUsed other ys others
    → ((text : List ℕ) → list_any (named text) xs ≡ list_any (other text) ys) → texts ≡ others
same_used xs ys named other texts others p q same = one_texts texts others p.sorted q.sorted (λ text. p.same text ∙ same text ∙ sym (q.same text))

-- The records of such parts are the same.
abbrev run_line : ℕ → List (List ℕ) → Run (List ℕ × ℕ) → SymLine
run_line base paths r = Line (r.start - base) (r.end - r.start) r.value.1 (number_in paths r.value.0)

by_runs : (base : ℕ) (paths : List (List ℕ)) (us : List UnitRead) (unit : ℕ) (runs : List LineRun) → map (line_record base paths us unit) runs ≡ map (run_line base paths) (map (path_run (unit_paths us unit)) runs)
by_runs base paths us unit [] = refl
by_runs base paths us unit (r ∷ runs) = ap (λ l. line_record base paths us unit r ∷ l) (by_runs base paths us unit runs)

same_part_lines : (base : ℕ) (paths names : List (List ℕ)) (us ws : List UnitRead) (xs ys : List Part) → Match SameUnit us ws → Match (SamePart us ws) xs ys → part_lines base paths names us xs ≡ part_lines base paths names ws ys
same_part_lines base paths names us ws [] [] same parts = refl
same_part_lines base paths names us ws [] (y ∷ ys) same parts = absurd parts
same_part_lines base paths names us ws (x ∷ xs) [] same parts = absurd parts
same_part_lines base paths names us ws (x ∷ xs) (y ∷ ys) same parts =
    let piece : x.piece ≡ y.piece = parts.0.piece in
    let lines : map (line_record base paths us x.piece.unit) x.lines ≡ map (line_record base paths ws y.piece.unit) y.lines
    = by_runs base paths us x.piece.unit x.lines ∙ ap (map (run_line base paths)) parts.0.lines ∙ sym (by_runs base paths ws y.piece.unit y.lines) in
    let later : part_lines base paths names us xs ≡ part_lines base paths names ws ys = same_part_lines base paths names us ws xs ys same parts.1 in
    λ i. Func (piece i).many ((piece i).start - base) ((piece i).end - (piece i).start) 0 (same_name us ws same (piece i).unit (piece i).entry i)
    ∷ (map (λ (r : InlineParts). Inline r.level (same_number us ws same (piece i).unit r.entry i) (number_in paths (same_path us ws same (piece i).unit r.entry i)) (number_in names (same_name us ws same (piece i).unit r.entry i)) (map (extent base) r.spans)) (parts.0.copies i)
    ++ (lines i ++ later i))

pub same_records : (base : ℕ) (us ws : List UnitRead) (ps qs : List Piece) (xs ys : List SymLine) → Match SameUnit us ws → AreSmall us → ArePieces us ps → ArePieces ws qs
    → AreFuncRecords base us ps xs → AreFuncRecords base ws qs ys → xs ≡ ys
same_records base us ws ps qs xs ys same small p q are others =
    let pieces : pieces_of are.parts ≡ pieces_of others.parts = are.pieces_are ∙ same_pieces us ws ps qs same p q ∙ sym others.pieces_are in
    let parts : Match (SamePart us ws) are.parts others.parts
    = same_parts us ws are.parts others.parts same pieces (subst EndInside (sym are.pieces_are) (end_inside us ps small p)) are.inlined others.inlined are.lines_are others.lines_are in
    let paths : are.paths ≡ others.paths = same_used are.parts others.parts (names_path us) (names_path ws) are.paths others.paths are.used others.used (λ text. any_path us ws text are.parts others.parts same parts) in
    let names : are.names ≡ others.names = same_used are.parts others.parts (names_origin us) (names_origin ws) are.names others.names are.origins others.origins (λ text. any_origin us ws text are.parts others.parts same parts) in
    are.whole
    ∙ (λ i. file_lines 0 (paths i) ++ (origin_lines 0 (names i) ++ part_lines base (paths i) (names i) us are.parts))
    ∙ ap (λ l. file_lines 0 others.paths ++ (origin_lines 0 others.names ++ l)) (same_part_lines base others.paths others.names us ws are.parts others.parts same parts)
    ∙ sym others.whole
