-- The directories of a table by their numbers.
use Rattle.std.proofs.Common.{◌≡◌, ◌≢◌, ℕ, zero, suc, ◌-◌, ◌==◌, Bool, true, false, cond, List, [], ◌∷◌, map, Some, None, refl, sym, ◌∙◌, ap, arith}
use Rattle.std.specs.List.{slice_get}
use Rattle.std.specs.Option.{option_map}
use Rattle.std.proofs.lemmas.Option.{slice_get-map}
use Rattle.line_program.specs.FileFields.{FileFields}
use Rattle.line_program.specs.Paths.{joined, rooted_directories, directories_of, path_under}
use Rattle.line_program.specs.internal.Directories.{directories_in}

there : (some : Bool) (root : List ℕ) (entries : List FileFields) (view : List (List ℕ)) → directories_in some root entries ≡ view → some ≡ true → view ≡ root ∷ map (λ d. joined root d.path) entries
there some root entries view is holds = sym is ∙ ap (λ b. directories_in b root entries) holds

pub none_there : (some : Bool) (root : List ℕ) (entries : List FileFields) (view : List (List ℕ)) (n : ℕ) (path : List ℕ) → directories_in some root entries ≡ view → some ≡ false → path_under (slice_get view n) path ≡ path
none_there some root entries view n path is fails = ap (λ v. path_under (slice_get v n) path) (sym is ∙ ap (λ b. directories_in b root entries) fails)

pub root_there : (some : Bool) (root : List ℕ) (entries : List FileFields) (view : List (List ℕ)) (n : ℕ) (path : List ℕ) → directories_in some root entries ≡ view → some ≡ true → n ≡ 0 → path_under (slice_get view n) path ≡ joined root path
root_there some root entries view n path is holds first =
    ap (λ v. path_under (slice_get v n) path) (there some root entries view is holds) ∙ ap (λ k. path_under (slice_get (root ∷ map (λ d. joined root d.path) entries) k) path) first

behind_root : (root : List ℕ) (entries : List FileFields) (n : ℕ) → n ≢ 0 → slice_get (root ∷ map (λ d. joined root d.path) entries) n ≡ option_map (λ d. joined root d.path) (slice_get entries (n - 1))
behind_root root entries zero some = absurd (some refl)
behind_root root entries (suc n) some = slice_get-map (λ d. joined root d.path) entries n ∙ ap (λ k. option_map (λ d. joined root d.path) (slice_get entries k)) (let same : n ≡ suc n - 1 = omega arith in same)

pub entry_there : (some : Bool) (root : List ℕ) (entries : List FileFields) (view : List (List ℕ)) (n : ℕ) (path : List ℕ) (entry : FileFields) → directories_in some root entries ≡ view → some ≡ true → n ≢ 0 → Some entry ≡ slice_get entries (n - 1) → path_under (slice_get view n) path ≡ joined (joined root entry.path) path
entry_there some root entries view n path entry is holds later at =
    ap (λ v. path_under (slice_get v n) path) (there some root entries view is holds)
    ∙ ap (λ o. path_under o path) (behind_root root entries n later ∙ ap (λ o. option_map (λ (d : FileFields). joined root d.path) o) (sym at))

pub entry_missing : (some : Bool) (root : List ℕ) (entries : List FileFields) (view : List (List ℕ)) (n : ℕ) (path : List ℕ) → directories_in some root entries ≡ view → some ≡ true → n ≢ 0 → None ≡ slice_get entries (n - 1) → path_under (slice_get view n) path ≡ path
entry_missing some root entries view n path is holds later at =
    ap (λ v. path_under (slice_get v n) path) (there some root entries view is holds)
    ∙ ap (λ o. path_under o path) (behind_root root entries n later ∙ ap (λ o. option_map (λ (d : FileFields). joined root d.path) o) (sym at))

-- The directories that the code stores are those of the table.
pub kept_none : (version : ℕ) (comp_dir root : List ℕ) (entries : List FileFields) → (version == 5) ≡ true → entries ≡ [] → directories_in false root entries ≡ directories_of version comp_dir entries
unfolding directories_of
kept_none version comp_dir root entries new none =
    sym (ap (λ b. cond b (rooted_directories comp_dir entries) (comp_dir ∷ map (λ (d : FileFields). joined comp_dir d.path) entries)) new ∙ ap (rooted_directories comp_dir) none)
