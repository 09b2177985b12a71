-- The number of a path or a name leads to its FILE or INLINE_ORIGIN record.
use Rattle.std.proofs.Common.{◌≡◌, ℕ, ◌+◌, Bool, true, false, ◌||◌, ◌==◌, if◌then◌else◌, cond, List, [], ◌∷◌, ◌++◌, Some, arith, refl, sym, ap, ◌∙◌}
use Rattle.std.proofs.lemmas.Bool.Decides.{nat_tests}
use Rattle.std.proofs.lemmas.Slice.Eq.{bytes_eq-Decides}
use Rattle.std.specs.List.{find, list_any}
use Rattle.std.specs.Str.{bytes_eq}
use Rattle.std.specs.Option.{option_map}
use Rattle.sym_records.specs.declared.line.SymLine.{SymLine}
use Rattle.sym_records.specs.declared.line.SymLine.TheVariants.{File, Origin}
use Rattle.sym_meaning.specs.TextNames.{is_file, file_name, text_path, is_origin, origin_name, text_origin}
use Rattle.sym_meaning.specs.Plain.{HaveNoFile, HaveNoOrigin}
use Rattle.sym_meaning.proofs.TextLemmas.{file_behind, origin_behind}
use Rattle.func_records.specs.FuncRecords.{number_in, numbered_lines, file_lines, origin_lines}

-- Records that give numbers to texts.
pub record Numbers (is : ℕ → SymLine → Bool) (made : ℕ → List ℕ → SymLine) (said : SymLine → List ℕ) : Type 0 where
  pub tells : (n k : ℕ) (text : List ℕ) → is n (made k text) ≡ (k == n)
  pub says : (k : ℕ) (text : List ℕ) → said (made k text) ≡ text

pub file_numbers : Numbers is_file File file_name
file_numbers = record { tells = λ n k text. refl; says = λ k text. refl }

pub origin_numbers : Numbers is_origin Origin origin_name
origin_numbers = record { tells = λ n k text. refl; says = λ k text. refl }

-- The first record with the number of a text has that text.
numbered_by : {is : ℕ → SymLine → Bool} {made : ℕ → List ℕ → SymLine} {said : SymLine → List ℕ} → Numbers is made said → (k : ℕ) (text q : List ℕ) (texts : List (List ℕ)) (rest : List SymLine) (same : Bool) → bytes_eq q text ≡ same → ((same ≡ false) → option_map said (find (is (k + 1 + number_in texts text)) (numbered_lines made (k + 1) texts ++ rest)) ≡ Some text) → option_map said (find (is (k + cond same 0 (number_in texts text + 1))) (numbered_lines made k (q ∷ texts) ++ rest)) ≡ Some text
numbered_by {is} {made} {said} numbers k text q texts rest true same later =
    let here : (k == (k + 0)) ≡ true = grind (arith, nat_tests) in
    ap (λ b. option_map said (if b then Some (made k q) else find (is (k + 0)) (numbered_lines made (k + 1) texts ++ rest))) (numbers.tells (k + 0) k q ∙ here)
    ∙ ap Some (numbers.says k q ∙ (bytes_eq-Decides q text).0 same)
numbered_by {is} {made} {said} numbers k text q texts rest false same later =
    let past : (k == (k + (number_in texts text + 1))) ≡ false = grind (arith, nat_tests) in
    ap (λ b. option_map said (if b then Some (made k q) else find (is (k + (number_in texts text + 1))) (numbered_lines made (k + 1) texts ++ rest))) (numbers.tells (k + (number_in texts text + 1)) k q ∙ past)
    ∙ ap (λ n. option_map said (find (is n) (numbered_lines made (k + 1) texts ++ rest))) (omega arith)
    ∙ later refl

had_by : (path q : List ℕ) (paths : List (List ℕ)) → bytes_eq q path ≡ false → list_any (bytes_eq path) (q ∷ paths) ≡ true → list_any (bytes_eq path) paths ≡ true
had_by path q paths other had = go (bytes_eq path q) refl had
  where
    go : (b : Bool) → bytes_eq path q ≡ b → (b || list_any (bytes_eq path) paths) ≡ true → list_any (bytes_eq path) paths ≡ true
    go true is all =
        let alike : path ≡ q = (bytes_eq-Decides path q).0 is in
        let again : bytes_eq q path ≡ true = (bytes_eq-Decides q path).1 (sym alike) in
        cc
    go false is all = all

numbered_at : {is : ℕ → SymLine → Bool} {made : ℕ → List ℕ → SymLine} {said : SymLine → List ℕ} → Numbers is made said → (k : ℕ) (text : List ℕ) (texts : List (List ℕ)) (rest : List SymLine) → list_any (bytes_eq text) texts ≡ true → option_map said (find (is (k + number_in texts text)) (numbered_lines made k texts ++ rest)) ≡ Some text
unfolding number_in
numbered_at numbers k text [] rest had = cc
numbered_at numbers k text (q ∷ texts) rest had =
    numbered_by numbers k text q texts rest (bytes_eq q text) refl (λ other. numbered_at numbers (k + 1) text texts rest (had_by text q texts other had))

pub path_found : (front : List SymLine) (paths : List (List ℕ)) (rest : List SymLine) (path : List ℕ) → HaveNoFile front → list_any (bytes_eq path) paths ≡ true → text_path (front ++ (file_lines 0 paths ++ rest)) (number_in paths path) ≡ Some path
path_found front paths rest path none had =
    ap (λ o. option_map file_name o) (file_behind front (file_lines 0 paths ++ rest) (number_in paths path) none)
    ∙ ap (λ m. option_map file_name (find (is_file m) (file_lines 0 paths ++ rest))) (omega arith)
    ∙ numbered_at file_numbers 0 path paths rest had

files_no_origin : (k n : ℕ) (paths : List (List ℕ)) (rest : List SymLine) → find (is_origin n) (file_lines k paths ++ rest) ≡ find (is_origin n) rest
files_no_origin k n [] rest = refl
files_no_origin k n (path ∷ paths) rest = files_no_origin (k + 1) n paths rest

pub origin_found : (front : List SymLine) (paths names : List (List ℕ)) (rest : List SymLine) (name : List ℕ) → HaveNoOrigin front → list_any (bytes_eq name) names ≡ true → text_origin (front ++ (file_lines 0 paths ++ (origin_lines 0 names ++ rest))) (number_in names name) ≡ Some name
origin_found front paths names rest name none had =
    ap (λ o. option_map origin_name o) (origin_behind front (file_lines 0 paths ++ (origin_lines 0 names ++ rest)) (number_in names name) none ∙ files_no_origin 0 (number_in names name) paths (origin_lines 0 names ++ rest))
    ∙ ap (λ m. option_map origin_name (find (is_origin m) (origin_lines 0 names ++ rest))) (omega arith)
    ∙ numbered_at origin_numbers 0 name names rest had
