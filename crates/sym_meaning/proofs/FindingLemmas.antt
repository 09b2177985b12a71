-- Records of other kinds before a list do not change what a checker finds.
use Rattle.std.proofs.Common.{◌≡◌, ℕ, Bool, true, false, ◌&&◌, List, [], ◌∷◌, ◌++◌, refl, sym, ap, ◌∙◌, subst, append-nil}
use Rattle.std.proofs.lemmas.List.Folds.{list_all-append}
use Rattle.std.specs.List.{list_any, list_all, flat_map}
use Rattle.sym_records.specs.declared.line.Extent.{Extent}
use Rattle.sym_records.specs.declared.line.SymLine.{SymLine}
use Rattle.sym_records.specs.declared.line.SymLine.TheVariants.{File, Origin, Func, Inline, Line}
use Rattle.sym_meaning.specs.Plain.{IsPlain, ArePlain, HaveNoFile, HaveNoOrigin}
use Rattle.sym_meaning.specs.TextNames.{is_file, is_origin}
use Rattle.sym_meaning.specs.Findings.{func_run, AreGivenOnce, has_file, has_origin, EachFunc}

pub all_both : {X : Type 0} (q : X → Bool) (xs ys : List X) → list_all q xs ≡ true → list_all q ys ≡ true → list_all q (xs ++ ys) ≡ true
all_both q xs ys first second = list_all-append q xs ys ∙ ap (λ b. b && list_all q ys) first ∙ second

-- Plain records refer to nothing.
plain_all : (q : SymLine → Bool) (lines : List SymLine) → ((s : SymLine) → IsPlain s → q s ≡ true) → ArePlain lines → list_all q lines ≡ true
plain_all q [] each plain = refl
plain_all q (s ∷ lines) each plain = ap (λ b. b && list_all q lines) (each s plain.0) ∙ plain_all q lines each plain.1

plain_file : (all : List SymLine) (s : SymLine) → IsPlain s → has_file all s ≡ true
plain_file all (Func many address size params name) plain = absurd plain
plain_file all (Inline level line file origin ranges) plain = absurd plain
plain_file all (Line address size line file) plain = absurd plain
plain_file all s plain = refl

pub plain_files : (all lines : List SymLine) → ArePlain lines → list_all (has_file all) lines ≡ true
plain_files all lines plain = plain_all (has_file all) lines (plain_file all) plain

plain_origin : (all : List SymLine) (s : SymLine) → IsPlain s → has_origin all s ≡ true
plain_origin all (Func many address size params name) plain = absurd plain
plain_origin all (Inline level line file origin ranges) plain = absurd plain
plain_origin all (Line address size line file) plain = absurd plain
plain_origin all s plain = refl

pub plain_origins : (all lines : List SymLine) → ArePlain lines → list_all (has_origin all) lines ≡ true
plain_origins all lines plain = plain_all (has_origin all) lines (plain_origin all) plain

-- Records without FILE and INLINE_ORIGIN give no number.
pub once_behind : (front rest : List SymLine) → HaveNoFile front → HaveNoOrigin front → AreGivenOnce rest → AreGivenOnce (front ++ rest)
once_behind [] rest file origin once = once
once_behind (File number name ∷ front) rest file origin once = absurd file.0
once_behind (Origin number name ∷ front) rest file origin once = absurd origin.0
once_behind (s ∷ front) rest file origin once = (refl, once_behind front rest file.1 origin.1 once)

pub none_given : (lines : List SymLine) → HaveNoFile lines → HaveNoOrigin lines → AreGivenOnce lines
none_given lines file origin = subst (λ (l : List SymLine). AreGivenOnce l) (append-nil lines) (once_behind lines [] file origin tt)

pub no_file : (n : ℕ) (lines : List SymLine) → HaveNoFile lines → list_any (is_file n) lines ≡ false
no_file n [] none = refl
no_file n (File number name ∷ lines) none = absurd none.0
no_file n (s ∷ lines) none = no_file n lines none.1

pub no_origin : (n : ℕ) (lines : List SymLine) → HaveNoOrigin lines → list_any (is_origin n) lines ≡ false
no_origin n [] none = refl
no_origin n (Origin number name ∷ lines) none = absurd none.0
no_origin n (s ∷ lines) none = no_origin n lines none.1

-- Plain records have no range of a FUNC.
pub func_runs_behind : (front rest : List SymLine) → ArePlain front → flat_map func_run (front ++ rest) ≡ flat_map func_run rest
func_runs_behind [] rest plain = refl
func_runs_behind (Func many address size params name ∷ front) rest plain = absurd plain.0
func_runs_behind (Inline level line file origin ranges ∷ front) rest plain = absurd plain.0
func_runs_behind (Line address size line file ∷ front) rest plain = absurd plain.0
func_runs_behind (s ∷ front) rest plain = func_runs_behind front rest plain.1

pub each_behind : (P : Extent → List SymLine → Type 0) (front rest : List SymLine) → ArePlain front → EachFunc P rest → EachFunc P (front ++ rest)
each_behind P [] rest plain each = each
each_behind P (Func many address size params name ∷ front) rest plain each = absurd plain.0
each_behind P (Inline level line file origin ranges ∷ front) rest plain each = absurd plain.0
each_behind P (Line address size line file ∷ front) rest plain each = absurd plain.0
each_behind P (s ∷ front) rest plain each = each_behind P front rest plain.1 each

pub each_plain : (P : Extent → List SymLine → Type 0) (lines : List SymLine) → ArePlain lines → EachFunc P lines
each_plain P lines plain = subst (λ (l : List SymLine). EachFunc P l) (append-nil lines) (each_behind P lines [] plain tt)

pub no_func_runs : (lines : List SymLine) → ArePlain lines → flat_map func_run lines ≡ []
no_func_runs lines plain = ap (λ (l : List SymLine). flat_map func_run l) (sym (append-nil lines)) ∙ func_runs_behind lines [] plain
