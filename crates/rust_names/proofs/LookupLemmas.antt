-- Look-ups over records with other names, for `names_alone_change`.
use Rattle.std.proofs.Common.{◌≡◌, ℕ, nat_le, cond, Bool, true, false, List, [], ◌∷◌, ◌++◌, map, Option, Some, None, refl, ◌∙◌, ap}
use Rattle.std.specs.List.{find}
use Rattle.std.specs.Option.{option_map, option_map_or, option_and_then}
use Rattle.sym_rules.proofs.BoolLemmas.{elim_bool}
use Rattle.sym_records.specs.declared.line.SymLine.{SymLine}
use Rattle.sym_records.specs.declared.line.SymLine.TheVariants.{File, Origin, Func, Inline, Line, Public, Init, Change}
use Rattle.cfi_eval.specs.declared.registers.Regs.{Regs}
use Rattle.cfi_eval.specs.declared.memory.MemRun.{MemRun}
use Rattle.cfi_eval.specs.TextRules.{covers, changes_until, text_rules}
use Rattle.cfi_eval.specs.TextValue.{frame_of, text_frame}
use Rattle.sym_meaning.specs.TextNames.{Found, is_func_at, text_func, func_name, text_owner, under, is_file, file_name, text_path, path_and_line, line_under, text_line, is_line_at, is_origin, origin_name, text_origin, call_of, level_count, inlines_from, inlines_under, text_chain}
use Rattle.rust_names.specs.ShownRecords.{renamed, renamed_found, renamed_call}

-- What holds for the record with another name in place of a FUNC, an INLINE_ORIGIN, a PUBLIC and
-- any other record, holds for all records.
pub each_record : (f : List ℕ → List ℕ) (s : SymLine) (P : SymLine → SymLine → Type 0)
    → ((many : Bool) (address size params : ℕ) (name : List ℕ) → P (Func many address size params (f name)) (Func many address size params name))
    → ((number : ℕ) (name : List ℕ) → P (Origin number (f name)) (Origin number name))
    → ((many : Bool) (address params : ℕ) (name : List ℕ) → P (Public many address params (f name)) (Public many address params name))
    → ((other : SymLine) → P other other) → P (renamed f s) s
each_record f (Origin number name) P func origin public stays = origin number name
each_record f (Func many address size params name) P func origin public stays = func many address size params name
each_record f (Public many address params name) P func origin public stays = public many address params name
each_record f s P func origin public stays = stays s

-- The FUNC at an address.

func_at : (f : List ℕ → List ℕ) (x : ℕ) (s : SymLine) → is_func_at x (renamed f s) ≡ is_func_at x s
func_at f x s = each_record f s (λ a b. is_func_at x a ≡ is_func_at x b) (λ _ _ _ _ _. refl) (λ _ _. refl) (λ _ _ _ _. refl) (λ _. refl)

found_by : (f : List ℕ → List ℕ) (test : Bool) (a : Found) (r : Option Found) → cond test (Some (renamed_found f a)) (option_map (renamed_found f) r) ≡ option_map (renamed_found f) (cond test (Some a) r)
found_by f true a r = refl
found_by f false a r = refl

pub same_func : (f : List ℕ → List ℕ) (lines : List SymLine) (x : ℕ) → text_func (map (renamed f) lines) x ≡ option_map (renamed_found f) (text_func lines x)
same_func f [] x = refl
same_func f (s ∷ lines) x =
    ap (λ t. cond t (Some (renamed_found f (record { func = s; behind = lines }))) (text_func (map (renamed f) lines) x)) (func_at f x s)
    ∙ ap (λ r. cond (is_func_at x s) (Some (renamed_found f (record { func = s; behind = lines }))) r) (same_func f lines x)
    ∙ found_by f (is_func_at x s) (record { func = s; behind = lines }) (text_func lines x)

-- Only a FUNC is found.

-- The records under the FUNC.

same_under : (f : List ℕ → List ℕ) (lines : List SymLine) → under (map (renamed f) lines) ≡ under lines
same_under f [] = refl
same_under f (Inline level line file origin ranges ∷ lines) = ap (λ rest. Inline level line file origin ranges ∷ rest) (same_under f lines)
same_under f (Line address size line file ∷ lines) = ap (λ rest. Line address size line file ∷ rest) (same_under f lines)
same_under f (s ∷ lines) = refl

-- The name of the FUNC.

abbrev is_func : SymLine → Bool
is_func (Func many address size params name) = true
is_func s = false

func_is : (x : ℕ) (s : SymLine) → is_func_at x s ≡ true → is_func s ≡ true
func_is x (Func many address size params name) is = refl
func_is x s is = cc

name_is : (f : List ℕ → List ℕ) (s : SymLine) → is_func s ≡ true → func_name (renamed f s) ≡ f (func_name s)
name_is f (Func many address size params name) is = refl
name_is f s is = cc

owner_by : (f : List ℕ → List ℕ) (lines : List SymLine) (x : ℕ) → option_map (λ (a : Found). func_name a.func) (option_map (renamed_found f) (text_func lines x)) ≡ option_map f (option_map (λ (a : Found). func_name a.func) (text_func lines x))
owner_by f [] x = refl
owner_by f (s ∷ lines) x =
    elim_bool (is_func_at x s) (λ t. is_func_at x s ≡ t →
    option_map (λ (a : Found). func_name a.func) (option_map (renamed_found f) (cond t (Some (record { func = s; behind = lines })) (text_func lines x)))
    ≡ option_map f (option_map (λ (a : Found). func_name a.func) (cond t (Some (record { func = s; behind = lines })) (text_func lines x))))
    (λ is _. ap Some (name_is f s (func_is x s is)))
    (λ _ _. owner_by f lines x) refl

pub same_owner : (f : List ℕ → List ℕ) (lines : List SymLine) (x : ℕ) → text_owner (map (renamed f) lines) x ≡ option_map f (text_owner lines x)
unfolding text_owner
same_owner f lines x = ap (option_map (λ (a : Found). func_name a.func)) (same_func f lines x) ∙ owner_by f lines x

-- The path of a FILE, and the name of an INLINE_ORIGIN.

pub file_at : (f : List ℕ → List ℕ) (n : ℕ) (s : SymLine) → is_file n (renamed f s) ≡ is_file n s
file_at f n s = each_record f s (λ a b. is_file n a ≡ is_file n b) (λ _ _ _ _ _. refl) (λ _ _. refl) (λ _ _ _ _. refl) (λ _. refl)

pub origin_at : (f : List ℕ → List ℕ) (n : ℕ) (s : SymLine) → is_origin n (renamed f s) ≡ is_origin n s
origin_at f n s = each_record f s (λ a b. is_origin n a ≡ is_origin n b) (λ _ _ _ _ _. refl) (λ _ _. refl) (λ _ _ _ _. refl) (λ _. refl)

path_is : (f : List ℕ → List ℕ) (n : ℕ) (s : SymLine) → is_file n s ≡ true → file_name (renamed f s) ≡ file_name s
path_is f n (File number name) is = refl
path_is f n s is = cc

origin_is : (f : List ℕ → List ℕ) (n : ℕ) (s : SymLine) → is_origin n s ≡ true → origin_name (renamed f s) ≡ f (origin_name s)
origin_is f n (Origin number name) is = refl
origin_is f n s is = cc

pub same_path : (f : List ℕ → List ℕ) (lines : List SymLine) (n : ℕ) → text_path (map (renamed f) lines) n ≡ text_path lines n
same_path f [] n = refl
same_path f (s ∷ lines) n =
    ap (λ t. option_map file_name (cond t (Some (renamed f s)) (find (is_file n) (map (renamed f) lines)))) (file_at f n s)
    ∙ elim_bool (is_file n s) (λ t. is_file n s ≡ t → option_map file_name (cond t (Some (renamed f s)) (find (is_file n) (map (renamed f) lines))) ≡ option_map file_name (cond t (Some s) (find (is_file n) lines)))
    (λ is _. ap Some (path_is f n s is)) (λ _ _. same_path f lines n) refl

pub same_origin : (f : List ℕ → List ℕ) (lines : List SymLine) (n : ℕ) → text_origin (map (renamed f) lines) n ≡ option_map f (text_origin lines n)
same_origin f [] n = refl
same_origin f (s ∷ lines) n =
    ap (λ t. option_map origin_name (cond t (Some (renamed f s)) (find (is_origin n) (map (renamed f) lines)))) (origin_at f n s)
    ∙ elim_bool (is_origin n s) (λ t. is_origin n s ≡ t → option_map origin_name (cond t (Some (renamed f s)) (find (is_origin n) (map (renamed f) lines))) ≡ option_map f (option_map origin_name (cond t (Some s) (find (is_origin n) lines))))
    (λ is _. ap Some (origin_is f n s is)) (λ _ _. same_origin f lines n) refl

-- The line.

says_line : (f : List ℕ → List ℕ) (lines : List SymLine) (s : SymLine) → path_and_line (map (renamed f) lines) s ≡ path_and_line lines s
says_line f lines (Line address size line file) = ap (λ path. (path, line)) (same_path f lines file)
says_line f lines s = refl

line_says : (f : List ℕ → List ℕ) (lines : List SymLine) (o : Option SymLine) → option_map (path_and_line (map (renamed f) lines)) o ≡ option_map (path_and_line lines) o
line_says f lines None = refl
line_says f lines (Some s) = ap Some (says_line f lines s)

line_by : (f : List ℕ → List ℕ) (lines : List SymLine) (x : ℕ) (o : Option Found) → option_map (path_and_line (map (renamed f) lines)) (option_and_then (line_under x) (option_map (renamed_found f) o)) ≡ option_map (path_and_line lines) (option_and_then (line_under x) o)
line_by f lines x None = refl
line_by f lines x (Some a) =
    ap (λ records. option_map (path_and_line (map (renamed f) lines)) (find (is_line_at x) records)) (same_under f a.behind) ∙ line_says f lines (find (is_line_at x) (under a.behind))

pub same_line : (f : List ℕ → List ℕ) (lines : List SymLine) (x : ℕ) → text_line (map (renamed f) lines) x ≡ text_line lines x
unfolding text_line
same_line f lines x = ap (λ o. option_map (path_and_line (map (renamed f) lines)) (option_and_then (line_under x) o)) (same_func f lines x) ∙ line_by f lines x (text_func lines x)

-- The chain.

says_call : (f : List ℕ → List ℕ) (lines : List SymLine) (s : SymLine) → call_of (map (renamed f) lines) s ≡ renamed_call f (call_of lines s)
says_call f lines (Inline level line file origin ranges) =
    ap (λ name. record { name = name; path = text_path (map (renamed f) lines) file; line = line }) (same_origin f lines origin)
    ∙ ap (λ path. record { name = option_map f (text_origin lines origin); path = path; line = line }) (same_path f lines file)
says_call f lines s = refl

calls_by : (f : List ℕ → List ℕ) (lines records : List SymLine) → map (call_of (map (renamed f) lines)) records ≡ map (renamed_call f) (map (call_of lines) records)
calls_by f lines [] = refl
calls_by f lines (s ∷ records) = ap (λ c. c ∷ map (call_of (map (renamed f) lines)) records) (says_call f lines s) ∙ ap (λ rest. renamed_call f (call_of lines s) ∷ rest) (calls_by f lines records)

inlines_by : (f : List ℕ → List ℕ) (x : ℕ) (o : Option Found) → option_map_or (inlines_under x) (option_map (renamed_found f) o) [] ≡ option_map_or (inlines_under x) o []
inlines_by f x None = refl
inlines_by f x (Some a) = ap (λ records. inlines_from x 0 (level_count records) records) (same_under f a.behind)

pub same_chain : (f : List ℕ → List ℕ) (lines : List SymLine) (x : ℕ) → text_chain (map (renamed f) lines) x ≡ map (renamed_call f) (text_chain lines x)
unfolding text_chain
same_chain f lines x =
    ap (λ o. map (call_of (map (renamed f) lines)) (option_map_or (inlines_under x) o [])) (same_func f lines x)
    ∙ ap (map (call_of (map (renamed f) lines))) (inlines_by f x (text_func lines x))
    ∙ calls_by f lines (option_map_or (inlines_under x) (text_func lines x) [])

-- Frame rules.

same_changes : (f : List ℕ → List ℕ) (x : ℕ) (lines : List SymLine) → changes_until x (map (renamed f) lines) ≡ changes_until x lines
unfolding changes_until
same_changes f x [] = refl
same_changes f x (Change address rules ∷ lines) = ap (λ later. cond (nat_le address x) rules [] ++ later) (same_changes f x lines)
same_changes f x (s ∷ lines) = refl

same_rules : (f : List ℕ → List ℕ) (lines : List SymLine) (x : ℕ) → text_rules (map (renamed f) lines) x ≡ text_rules lines x
unfolding text_rules
same_rules f [] x = refl
same_rules f (Init address size rules ∷ lines) x =
    ap (λ changes. cond (covers x address size) (Some (rules ++ changes)) (text_rules (map (renamed f) lines) x)) (same_changes f x lines)
    ∙ ap (λ later. cond (covers x address size) (Some (rules ++ changes_until x lines)) later) (same_rules f lines x)
same_rules f (s ∷ lines) x = same_rules f lines x

pub same_frame : (f : List ℕ → List ℕ) (lines : List SymLine) (x : ℕ) (regs : Regs) (memory : List MemRun) → text_frame (map (renamed f) lines) x regs memory ≡ text_frame lines x regs memory
unfolding text_frame
same_frame f lines x regs memory = ap (option_map (frame_of regs memory)) (same_rules f lines x)
