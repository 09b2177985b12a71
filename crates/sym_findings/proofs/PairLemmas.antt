-- Records have no findings of C1 to C5 and C8 exactly if a checker finds none (for the law
-- `nothing_found`).
use Rattle.std.proofs.Common.{◌≡◌, ℕ, ◌+◌, ◌&&◌, ◌==◌, not, nat_lt, min, max, Bool, true, false, List, [], ◌∷◌, ◌++◌, refl, ap, sym, ◌∙◌, arith}
use Rattle.std.specs.List.{list_any, list_all, flat_map}
use Rattle.std.proofs.lemmas.Bool.{or_parts, or_from, and_parts}
use Rattle.std.proofs.lemmas.Bool.Decides.{nat_tests}
use Rattle.sym_records.specs.declared.line.Extent.{Extent}
use Rattle.sym_records.specs.declared.line.SymLine.{SymLine}
use Rattle.sym_records.specs.declared.line.SymLine.TheVariants.{File, Origin, Func, Init}
use Rattle.sym_meaning.specs.Findings.{func_run, AreGivenOnce, meet, AreApart}
use Rattle.sym_findings.specs.declared.kind.FindingKind.{FindingKind}
use Rattle.sym_findings.specs.declared.kind.FindingKind.TheVariants as kind
use Rattle.sym_findings.specs.declared.kind.Finding.{Finding}
use Rattle.sym_findings.specs.internal.Numbers.{has_number, file_number, origin_number}
use Rattle.sym_findings.proofs.NumberLemmas.{files_given, origins_given}
use Rattle.sym_findings.specs.Findings.{is_given_before, meets_func, init_run, meets_init, is_found, finding_if, findings_at, findings_from}

-- The test of a record and the records before it is false for each of the later records.
abbrev pub NoneOf : (List SymLine → SymLine → Bool) → List SymLine → List SymLine → Type 0
NoneOf q before [] = Unit {0}
NoneOf q before (s ∷ lines) = (q before s ≡ false) × NoneOf q (s ∷ before) lines

-- The findings at a record.
nil_parts : (b : Bool) (k : FindingKind) (index : ℕ) (rest : List Finding) → (finding_if b k index ++ rest) ≡ [] → (b ≡ false) × (rest ≡ [])
nil_parts true k index rest is = absurd (let none : record { kind = k; index = index } ∷ rest ≡ [] = is in cc)
nil_parts false k index rest is = (refl, is)

nil_more : (b : Bool) (k : FindingKind) (index : ℕ) (rest : List Finding) → b ≡ false → rest ≡ [] → (finding_if b k index ++ rest) ≡ []
nil_more true k index rest isnt none = absurd (let false_is : true ≡ false = isnt in cc)
nil_more false k index rest isnt none = none

-- No finding of some kinds.
kinds_none : (q : FindingKind → Bool) (index : ℕ) (ks : List FindingKind) → ((k : FindingKind) → q k ≡ false) → flat_map (λ k. finding_if (q k) k index) ks ≡ []
kinds_none q index [] none = refl
kinds_none q index (k ∷ ks) none = nil_more (q k) k index (flat_map (λ j. finding_if (q j) j index) ks) (none k) (kinds_none q index ks none)

pub at_none : (all before : List SymLine) (index : ℕ) (s : SymLine) → ((k : FindingKind) → is_found all before s k ≡ false) → findings_at all before index s ≡ []
unfolding findings_at
at_none all before index s none = kinds_none (is_found all before s) index (kind.GivenAgain ∷ kind.NoFile ∷ kind.NoOrigin ∷ kind.BadSize ∷ kind.FuncMeets ∷ kind.LeavesFunc ∷ kind.LineMeets ∷ kind.InitMeets ∷ kind.ChangeOutside ∷ []) none

-- The findings of the other kinds, without one kind.
rest_of : (q : FindingKind → Bool) (index : ℕ) (k : FindingKind) (ks : List FindingKind) → flat_map (λ j. finding_if (q j) j index) (k ∷ ks) ≡ [] → (q k ≡ false) × (flat_map (λ j. finding_if (q j) j index) ks ≡ [])
rest_of q index k ks none = nil_parts (q k) k index (flat_map (λ j. finding_if (q j) j index) ks) none

nine_none : (q : FindingKind → Bool) (index : ℕ) → flat_map (λ j. finding_if (q j) j index) (kind.GivenAgain ∷ kind.NoFile ∷ kind.NoOrigin ∷ kind.BadSize ∷ kind.FuncMeets ∷ kind.LeavesFunc ∷ kind.LineMeets ∷ kind.InitMeets ∷ kind.ChangeOutside ∷ []) ≡ [] → (k : FindingKind) → q k ≡ false
nine_none q index none k =
    let first = rest_of q index kind.GivenAgain (kind.NoFile ∷ kind.NoOrigin ∷ kind.BadSize ∷ kind.FuncMeets ∷ kind.LeavesFunc ∷ kind.LineMeets ∷ kind.InitMeets ∷ kind.ChangeOutside ∷ []) none in
    let second = rest_of q index kind.NoFile (kind.NoOrigin ∷ kind.BadSize ∷ kind.FuncMeets ∷ kind.LeavesFunc ∷ kind.LineMeets ∷ kind.InitMeets ∷ kind.ChangeOutside ∷ []) first.1 in
    let third = rest_of q index kind.NoOrigin (kind.BadSize ∷ kind.FuncMeets ∷ kind.LeavesFunc ∷ kind.LineMeets ∷ kind.InitMeets ∷ kind.ChangeOutside ∷ []) second.1 in
    let fourth = rest_of q index kind.BadSize (kind.FuncMeets ∷ kind.LeavesFunc ∷ kind.LineMeets ∷ kind.InitMeets ∷ kind.ChangeOutside ∷ []) third.1 in
    let fifth = rest_of q index kind.FuncMeets (kind.LeavesFunc ∷ kind.LineMeets ∷ kind.InitMeets ∷ kind.ChangeOutside ∷ []) fourth.1 in
    let sixth = rest_of q index kind.LeavesFunc (kind.LineMeets ∷ kind.InitMeets ∷ kind.ChangeOutside ∷ []) fifth.1 in
    let seventh = rest_of q index kind.LineMeets (kind.InitMeets ∷ kind.ChangeOutside ∷ []) sixth.1 in
    let eighth = rest_of q index kind.InitMeets (kind.ChangeOutside ∷ []) seventh.1 in
    let ninth = rest_of q index kind.ChangeOutside [] eighth.1 in
    elim k as (λ j. q j ≡ false) [
      | kind.GivenAgain ↦ first.0
      | kind.NoFile ↦ second.0
      | kind.NoOrigin ↦ third.0
      | kind.BadSize ↦ fourth.0
      | kind.FuncMeets ↦ fifth.0
      | kind.LeavesFunc ↦ sixth.0
      | kind.LineMeets ↦ seventh.0
      | kind.InitMeets ↦ eighth.0
      | kind.ChangeOutside ↦ ninth.0
    ]

pub none_at : (all before : List SymLine) (index : ℕ) (s : SymLine) → findings_at all before index s ≡ [] → (k : FindingKind) → is_found all before s k ≡ false
unfolding findings_at
none_at all before index s none k = nine_none (is_found all before s) index none k

both_nil : (xs ys : List Finding) → (xs ++ ys) ≡ [] → (xs ≡ []) × (ys ≡ [])
both_nil [] ys is = (refl, is)
both_nil (x ∷ xs) ys is = absurd (let none : x ∷ (xs ++ ys) ≡ [] = is in cc)

pub none_from : (all before : List SymLine) (index : ℕ) (lines : List SymLine) (k : FindingKind) → findings_from all before index lines ≡ [] → NoneOf (λ b s. is_found all b s k) before lines
unfolding findings_from
none_from all before index [] k none = tt
none_from all before index (s ∷ lines) k none =
    let parts = both_nil (findings_at all before index s) (findings_from all (s ∷ before) (index + 1) lines) none in
    (none_at all before index s parts.0 k, none_from all (s ∷ before) (index + 1) lines k parts.1)

pub from_none : (all before : List SymLine) (index : ℕ) (lines : List SymLine) → ((k : FindingKind) → NoneOf (λ b s. is_found all b s k) before lines) → findings_from all before index lines ≡ []
unfolding findings_from
from_none all before index [] none = refl
from_none all before index (s ∷ lines) none =
    ap (λ l. l ++ findings_from all (s ∷ before) (index + 1) lines) (at_none all before index s (λ k. (none k).0))
    ∙ from_none all (s ∷ before) (index + 1) lines (λ k. (none k).1)

-- A test of the record alone.
pub not_false : (b : Bool) → not b ≡ false → b ≡ true
not_false true isnt = refl
not_false false isnt = absurd (let false_is : true ≡ false = isnt in cc)

pub true_not : (b : Bool) → b ≡ true → not b ≡ false
true_not b is = ap not is

pub all_of : (q : SymLine → Bool) (before lines : List SymLine) → NoneOf (λ b s. not (q s)) before lines → list_all q lines ≡ true
all_of q before [] none = refl
all_of q before (s ∷ lines) none = ap (λ t. t && list_all q lines) (not_false (q s) none.0) ∙ all_of q (s ∷ before) lines none.1

pub of_all : (q : SymLine → Bool) (before lines : List SymLine) → list_all q lines ≡ true → NoneOf (λ b s. not (q s)) before lines
of_all q before [] all = tt
of_all q before (s ∷ lines) all =
    let parts = and_parts (q s) (list_all q lines) all in
    (true_not (q s) parts.0, of_all q (s ∷ before) lines parts.1)

-- No two members of a list pass a test: each with those before it, or each with those after it.
abbrev pub NoneBefore : {X : Type 0} → (X → X → Bool) → List X → List X → Type 0
NoneBefore p before [] = Unit {0}
NoneBefore p before (x ∷ xs) = (list_any (p x) before ≡ false) × NoneBefore p (x ∷ before) xs

abbrev pub NoneBehind : {X : Type 0} → (X → X → Bool) → List X → Type 0
NoneBehind p [] = Unit {0}
NoneBehind p (x ∷ xs) = (list_any (p x) xs ≡ false) × NoneBehind p xs

-- No member of one list and no member of another pass a test together.
abbrev NoneAcross : {X : Type 0} → (X → X → Bool) → List X → List X → Type 0
NoneAcross p before [] = Unit {0}
NoneAcross p before (x ∷ xs) = (list_any (p x) before ≡ false) × NoneAcross p before xs

across_parts : {X : Type 0} (p : X → X → Bool) → ((x y : X) → p x y ≡ p y x) → (x : X) (before xs : List X) → NoneAcross p (x ∷ before) xs → (list_any (p x) xs ≡ false) × NoneAcross p before xs
across_parts p same x before [] none = (refl, tt)
across_parts p same x before (y ∷ xs) none =
    let parts = or_parts (p y x) (list_any (p y) before) none.0 in
    let later = across_parts p same x before xs none.1 in
    (or_from (p x y) (list_any (p x) xs) (same x y ∙ parts.0) later.0, (parts.1, later.1))

across_more : {X : Type 0} (p : X → X → Bool) → ((x y : X) → p x y ≡ p y x) → (x : X) (before xs : List X) → list_any (p x) xs ≡ false → NoneAcross p before xs → NoneAcross p (x ∷ before) xs
across_more p same x before [] none across = tt
across_more p same x before (y ∷ xs) none across =
    let parts = or_parts (p x y) (list_any (p x) xs) none in
    (or_from (p y x) (list_any (p y) before) (same y x ∙ parts.0) across.0, across_more p same x before xs parts.1 across.1)

before_behind : {X : Type 0} (p : X → X → Bool) → ((x y : X) → p x y ≡ p y x) → (before xs : List X) → NoneBefore p before xs → NoneBehind p xs × NoneAcross p before xs
before_behind p same before [] none = (tt, tt)
before_behind p same before (x ∷ xs) none =
    let later = before_behind p same (x ∷ before) xs none.1 in
    let parts = across_parts p same x before xs later.1 in
    ((parts.0, later.0), (none.0, parts.1))

behind_before : {X : Type 0} (p : X → X → Bool) → ((x y : X) → p x y ≡ p y x) → (before xs : List X) → NoneBehind p xs → NoneAcross p before xs → NoneBefore p before xs
behind_before p same before [] none across = tt
behind_before p same before (x ∷ xs) none across = (across.0, behind_before p same (x ∷ before) xs none.1 (across_more p same x before xs none.0 across.1))

across_none : {X : Type 0} (p : X → X → Bool) (xs : List X) → NoneAcross p [] xs
across_none p [] = tt
across_none p (x ∷ xs) = (refl, across_none p xs)

pub behind_all : {X : Type 0} (p : X → X → Bool) → ((x y : X) → p x y ≡ p y x) → (xs : List X) → NoneBefore p [] xs → NoneBehind p xs
behind_all p same xs none = (before_behind p same [] xs none).0

pub before_all : {X : Type 0} (p : X → X → Bool) → ((x y : X) → p x y ≡ p y x) → (xs : List X) → NoneBehind p xs → NoneBefore p [] xs
before_all p same xs none = behind_before p same [] xs none (across_none p xs)

-- Overlapping is symmetric.
meet_turns : (a s b t : ℕ) → nat_lt (max a b) (min (a + s) (b + t)) ≡ nat_lt (max b a) (min (b + t) (a + s))
meet_turns a s b t = grind (arith, nat_tests)

meet_same : (e f : Extent) → meet e f ≡ meet f e
meet_same e f = meet_turns e.address e.size f.address f.size

apart_of : (runs : List Extent) → NoneBehind meet runs → AreApart runs
apart_of [] none = tt
apart_of (e ∷ runs) none = (none.0, apart_of runs none.1)

of_apart : (runs : List Extent) → AreApart runs → NoneBehind meet runs
of_apart [] apart = tt
of_apart (e ∷ runs) apart = (apart.0, of_apart runs apart.1)

pub apart_all : (runs : List Extent) → NoneBefore meet [] runs → AreApart runs
apart_all runs none = apart_of runs (behind_all meet meet_same runs none)

pub all_apart : (runs : List Extent) → AreApart runs → NoneBefore meet [] runs
all_apart runs apart = before_all meet meet_same runs (of_apart runs apart)

-- Whether two numbers are equal.
abbrev same_number : ℕ → ℕ → Bool
same_number n m = m == n

number_turns : (n m : ℕ) → same_number n m ≡ same_number m n
number_turns n m = grind (arith, nat_tests)

-- C1: the numbers of FILE records.
files_before : (before lines : List SymLine) → NoneOf is_given_before before lines → NoneBefore same_number (flat_map file_number before) (flat_map file_number lines)
unfolding has_number
files_before before [] none = tt
files_before before (File n name ∷ lines) none = (files_given n before ∙ none.0, files_before (File n name ∷ before) lines none.1)
files_before before (s ∷ lines) none = files_before (s ∷ before) lines none.1

-- C1: the numbers of INLINE_ORIGIN records.
origins_before : (before lines : List SymLine) → NoneOf is_given_before before lines → NoneBefore same_number (flat_map origin_number before) (flat_map origin_number lines)
unfolding has_number
origins_before before [] none = tt
origins_before before (Origin n name ∷ lines) none = (origins_given n before ∙ none.0, origins_before (Origin n name ∷ before) lines none.1)
origins_before before (s ∷ lines) none = origins_before (s ∷ before) lines none.1

numbers_none : (before lines : List SymLine) → NoneBefore same_number (flat_map file_number before) (flat_map file_number lines) → NoneBefore same_number (flat_map origin_number before) (flat_map origin_number lines) → NoneOf is_given_before before lines
unfolding has_number
numbers_none before [] files origins = tt
numbers_none before (File n name ∷ lines) files origins = (sym (files_given n before) ∙ files.0, numbers_none (File n name ∷ before) lines files.1 origins)
numbers_none before (Origin n name ∷ lines) files origins = (sym (origins_given n before) ∙ origins.0, numbers_none (Origin n name ∷ before) lines files origins.1)
numbers_none before (s ∷ lines) files origins = (refl, numbers_none (s ∷ before) lines files origins)

once_of : (lines : List SymLine) → NoneBehind same_number (flat_map file_number lines) → NoneBehind same_number (flat_map origin_number lines) → AreGivenOnce lines
unfolding has_number
once_of [] files origins = tt
once_of (File n name ∷ lines) files origins = (sym (files_given n lines) ∙ files.0, once_of lines files.1 origins)
once_of (Origin n name ∷ lines) files origins = (sym (origins_given n lines) ∙ origins.0, once_of lines files origins.1)
once_of (s ∷ lines) files origins = (refl, once_of lines files origins)

files_once : (lines : List SymLine) → AreGivenOnce lines → NoneBehind same_number (flat_map file_number lines)
unfolding has_number
files_once [] once = tt
files_once (File n name ∷ lines) once = (files_given n lines ∙ once.0, files_once lines once.1)
files_once (s ∷ lines) once = files_once lines once.1

origins_once : (lines : List SymLine) → AreGivenOnce lines → NoneBehind same_number (flat_map origin_number lines)
unfolding has_number
origins_once [] once = tt
origins_once (Origin n name ∷ lines) once = (origins_given n lines ∙ once.0, origins_once lines once.1)
origins_once (s ∷ lines) once = origins_once lines once.1

pub given_once : (lines : List SymLine) → NoneOf is_given_before [] lines → AreGivenOnce lines
given_once lines none =
    once_of lines
    (behind_all same_number number_turns (flat_map file_number lines) (files_before [] lines none))
    (behind_all same_number number_turns (flat_map origin_number lines) (origins_before [] lines none))

pub once_given : (lines : List SymLine) → AreGivenOnce lines → NoneOf is_given_before [] lines
once_given lines once =
    numbers_none [] lines
    (before_all same_number number_turns (flat_map file_number lines) (files_once lines once))
    (before_all same_number number_turns (flat_map origin_number lines) (origins_once lines once))

-- C5: the addresses of FUNC records.
funcs_before : (before lines : List SymLine) → NoneOf meets_func before lines → NoneBefore meet (flat_map func_run before) (flat_map func_run lines)
funcs_before before [] none = tt
funcs_before before (Func many address size params name ∷ lines) none = (none.0, funcs_before (Func many address size params name ∷ before) lines none.1)
funcs_before before (s ∷ lines) none = funcs_before (s ∷ before) lines none.1

funcs_none : (before lines : List SymLine) → NoneBefore meet (flat_map func_run before) (flat_map func_run lines) → NoneOf meets_func before lines
funcs_none before [] none = tt
funcs_none before (Func many address size params name ∷ lines) none = (none.0, funcs_none (Func many address size params name ∷ before) lines none.1)
funcs_none before (s ∷ lines) none = (refl, funcs_none (s ∷ before) lines none)

pub funcs_apart : (lines : List SymLine) → NoneOf meets_func [] lines → AreApart (flat_map func_run lines)
funcs_apart lines none = apart_all (flat_map func_run lines) (funcs_before [] lines none)

pub apart_funcs : (lines : List SymLine) → AreApart (flat_map func_run lines) → NoneOf meets_func [] lines
apart_funcs lines apart = funcs_none [] lines (all_apart (flat_map func_run lines) apart)

-- C8: the addresses of INIT records.
inits_before : (before lines : List SymLine) → NoneOf meets_init before lines → NoneBefore meet (flat_map init_run before) (flat_map init_run lines)
inits_before before [] none = tt
inits_before before (Init address size rules ∷ lines) none = (none.0, inits_before (Init address size rules ∷ before) lines none.1)
inits_before before (s ∷ lines) none = inits_before (s ∷ before) lines none.1

inits_none : (before lines : List SymLine) → NoneBefore meet (flat_map init_run before) (flat_map init_run lines) → NoneOf meets_init before lines
inits_none before [] none = tt
inits_none before (Init address size rules ∷ lines) none = (none.0, inits_none (Init address size rules ∷ before) lines none.1)
inits_none before (s ∷ lines) none = (refl, inits_none (s ∷ before) lines none)

pub inits_apart : (lines : List SymLine) → NoneOf meets_init [] lines → AreApart (flat_map init_run lines)
inits_apart lines none = apart_all (flat_map init_run lines) (inits_before [] lines none)

pub apart_inits : (lines : List SymLine) → AreApart (flat_map init_run lines) → NoneOf meets_init [] lines
apart_inits lines apart = inits_none [] lines (all_apart (flat_map init_run lines) apart)
