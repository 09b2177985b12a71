-- A checker finds the same in records with other names, for `names_alone_change`.
use Rattle.std.proofs.Common.{◌≡◌, ℕ, ◌+◌, ◌||◌, not, Bool, false, List, [], ◌∷◌, ◌++◌, map, refl, ◌∙◌, ap}
use Rattle.std.specs.List.{list_any, flat_map}
use Rattle.std.specs.Option.{option_map, option_map_or}
use Rattle.sym_records.specs.declared.line.Extent.{Extent}
use Rattle.sym_records.specs.declared.line.SymLine.{SymLine}
use Rattle.sym_records.specs.declared.line.SymLine.TheVariants.{File, Origin, Func, Inline, Line, Init, Change}
use Rattle.sym_meaning.specs.TextNames.{is_file, is_origin}
use Rattle.sym_meaning.specs.Findings.{run_of, func_run, has_file, has_origin, are_sized}
use Rattle.sym_findings.specs.declared.kind.FindingKind.{FindingKind}
use Rattle.sym_findings.specs.declared.kind.FindingKind.TheVariants as kind
use Rattle.sym_findings.specs.declared.records_before.OpenInit.{OpenInit}
use Rattle.sym_findings.specs.FindingWords.{kinds}
use Rattle.sym_findings.specs.Findings.{meets_any, is_given_before, meets_func, OpenFunc, with_line, open_func, leave, leaves_func, meets_line, init_run, meets_init, open_init, goes_on, is_outside, is_found, finding_if, findings_at, findings_from, findings}
use Rattle.rust_names.specs.ShownRecords.{renamed}
use Rattle.rust_names.proofs.LookupLemmas.{each_record, file_at, origin_at}

any_same : (f : List ℕ → List ℕ) (p : SymLine → Bool) (lines : List SymLine) → ((s : SymLine) → p (renamed f s) ≡ p s) → list_any p (map (renamed f) lines) ≡ list_any p lines
any_same f p [] same = refl
any_same f p (s ∷ lines) same = ap (λ t. t || list_any p (map (renamed f) lines)) (same s) ∙ ap (λ t. p s || t) (any_same f p lines same)

runs_same : (f : List ℕ → List ℕ) (runs : SymLine → List Extent) (lines : List SymLine) → ((s : SymLine) → runs (renamed f s) ≡ runs s) → flat_map runs (map (renamed f) lines) ≡ flat_map runs lines
runs_same f runs [] same = refl
runs_same f runs (s ∷ lines) same = ap (λ xs. xs ++ flat_map runs (map (renamed f) lines)) (same s) ∙ ap (λ xs. runs s ++ xs) (runs_same f runs lines same)

func_same : (f : List ℕ → List ℕ) (s : SymLine) → func_run (renamed f s) ≡ func_run s
func_same f s = each_record f s (λ a b. func_run a ≡ func_run b) (λ _ _ _ _ _. refl) (λ _ _. refl) (λ _ _ _ _. refl) (λ _. refl)

init_same : (f : List ℕ → List ℕ) (s : SymLine) → init_run (renamed f s) ≡ init_run s
init_same f s = each_record f s (λ a b. init_run a ≡ init_run b) (λ _ _ _ _ _. refl) (λ _ _. refl) (λ _ _ _ _. refl) (λ _. refl)

size_same : (f : List ℕ → List ℕ) (s : SymLine) → are_sized (renamed f s) ≡ are_sized s
size_same f s = each_record f s (λ a b. are_sized a ≡ are_sized b) (λ _ _ _ _ _. refl) (λ _ _. refl) (λ _ _ _ _. refl) (λ _. refl)

given_same : (f : List ℕ → List ℕ) (before : List SymLine) (s : SymLine) → is_given_before (map (renamed f) before) (renamed f s) ≡ is_given_before before s
given_same f before (File number name) = any_same f (is_file number) before (file_at f number)
given_same f before (Origin number name) = any_same f (is_origin number) before (origin_at f number)
given_same f before s = refl

has_file_same : (f : List ℕ → List ℕ) (all : List SymLine) (s : SymLine) → has_file (map (renamed f) all) (renamed f s) ≡ has_file all s
has_file_same f all (Inline level line file origin ranges) = any_same f (is_file file) all (file_at f file)
has_file_same f all (Line address size line file) = any_same f (is_file file) all (file_at f file)
has_file_same f all s = refl

has_origin_same : (f : List ℕ → List ℕ) (all : List SymLine) (s : SymLine) → has_origin (map (renamed f) all) (renamed f s) ≡ has_origin all s
has_origin_same f all (Inline level line file origin ranges) = any_same f (is_origin origin) all (origin_at f origin)
has_origin_same f all s = refl

meets_func_same : (f : List ℕ → List ℕ) (before : List SymLine) (s : SymLine) → meets_func (map (renamed f) before) (renamed f s) ≡ meets_func before s
meets_func_same f before (Func many address size params name) = ap (λ runs. meets_any runs (run_of address size)) (runs_same f func_run before (func_same f))
meets_func_same f before s = refl

meets_init_same : (f : List ℕ → List ℕ) (before : List SymLine) (s : SymLine) → meets_init (map (renamed f) before) (renamed f s) ≡ meets_init before s
meets_init_same f before (Init address size rules) = ap (λ runs. meets_any runs (run_of address size)) (runs_same f init_run before (init_same f))
meets_init_same f before s = refl

open_func_same : (f : List ℕ → List ℕ) (before : List SymLine) → open_func (map (renamed f) before) ≡ open_func before
open_func_same f [] = refl
open_func_same f (Inline level line file origin ranges ∷ before) = open_func_same f before
open_func_same f (Line address size line file ∷ before) = ap (option_map (with_line (run_of address size))) (open_func_same f before)
open_func_same f (s ∷ before) = refl

open_init_same : (f : List ℕ → List ℕ) (before : List SymLine) → open_init (map (renamed f) before) ≡ open_init before
open_init_same f [] = refl
open_init_same f (Change address rules ∷ before) = ap (option_map (λ (o : OpenInit). record o { last = address })) (open_init_same f before)
open_init_same f (s ∷ before) = refl

leaves_same : (f : List ℕ → List ℕ) (before : List SymLine) (s : SymLine) → leaves_func (map (renamed f) before) (renamed f s) ≡ leaves_func before s
leaves_same f before (Inline level line file origin ranges) = ap (λ o. option_map_or (leave ranges) o false) (open_func_same f before)
leaves_same f before (Line address size line file) = ap (λ o. option_map_or (leave (run_of address size ∷ [])) o false) (open_func_same f before)
leaves_same f before s = refl

meets_line_same : (f : List ℕ → List ℕ) (before : List SymLine) (s : SymLine) → meets_line (map (renamed f) before) (renamed f s) ≡ meets_line before s
meets_line_same f before (Line address size line file) = ap (λ o. option_map_or (λ (a : OpenFunc). meets_any a.lines (run_of address size)) o false) (open_func_same f before)
meets_line_same f before s = refl

outside_same : (f : List ℕ → List ℕ) (before : List SymLine) (s : SymLine) → is_outside (map (renamed f) before) (renamed f s) ≡ is_outside before s
outside_same f before (Change address rules) = ap (λ o. not (option_map_or (goes_on address) o false)) (open_init_same f before)
outside_same f before s = refl

found_same : (f : List ℕ → List ℕ) (all before : List SymLine) (s : SymLine) (k : FindingKind) → is_found (map (renamed f) all) (map (renamed f) before) (renamed f s) k ≡ is_found all before s k
found_same f all before s kind.GivenAgain = given_same f before s
found_same f all before s kind.NoFile = ap not (has_file_same f all s)
found_same f all before s kind.NoOrigin = ap not (has_origin_same f all s)
found_same f all before s kind.BadSize = ap not (size_same f s)
found_same f all before s kind.FuncMeets = meets_func_same f before s
found_same f all before s kind.LeavesFunc = leaves_same f before s
found_same f all before s kind.LineMeets = meets_line_same f before s
found_same f all before s kind.InitMeets = meets_init_same f before s
found_same f all before s kind.ChangeOutside = outside_same f before s

kinds_same : (f : List ℕ → List ℕ) (all before : List SymLine) (index : ℕ) (s : SymLine) (ks : List FindingKind) →
    flat_map (λ k. finding_if (is_found (map (renamed f) all) (map (renamed f) before) (renamed f s) k) k index) ks ≡ flat_map (λ k. finding_if (is_found all before s k) k index) ks
kinds_same f all before index s [] = refl
kinds_same f all before index s (k ∷ ks) =
    ap (λ t. finding_if t k index ++ flat_map (λ k. finding_if (is_found (map (renamed f) all) (map (renamed f) before) (renamed f s) k) k index) ks) (found_same f all before s k)
    ∙ ap (λ rest. finding_if (is_found all before s k) k index ++ rest) (kinds_same f all before index s ks)

at_same : (f : List ℕ → List ℕ) (all before : List SymLine) (index : ℕ) (s : SymLine) → findings_at (map (renamed f) all) (map (renamed f) before) index (renamed f s) ≡ findings_at all before index s
unfolding findings_at
at_same f all before index s = kinds_same f all before index s kinds

from_same : (f : List ℕ → List ℕ) (all before : List SymLine) (index : ℕ) (lines : List SymLine) → findings_from (map (renamed f) all) (map (renamed f) before) index (map (renamed f) lines) ≡ findings_from all before index lines
unfolding findings_from
from_same f all before index [] = refl
from_same f all before index (s ∷ lines) =
    ap (λ xs. xs ++ findings_from (map (renamed f) all) (map (renamed f) (s ∷ before)) (index + 1) (map (renamed f) lines)) (at_same f all before index s)
    ∙ ap (λ rest. findings_at all before index s ++ rest) (from_same f all (s ∷ before) (index + 1) lines)

pub same_findings : (f : List ℕ → List ℕ) (lines : List SymLine) → findings (map (renamed f) lines) ≡ findings lines
unfolding findings
same_findings f lines = from_same f lines [] 0 lines
