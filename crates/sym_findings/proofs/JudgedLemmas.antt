-- The findings at one more record, and what is stored of it (for `judge` and the functions of each
-- keyword).
use Rattle.std.proofs.Common.{◌≡◌, ℕ, ◌&&◌, ◌||◌, ◌==◌, not, Bool, true, false, List, [], ◌∷◌, ◌++◌, Option, None, Some, refl, ap, sym, ◌∙◌, subst, append_assoc, append-nil, ◌⊎◌, inl, inr}
use Rattle.std.specs.List.{list_any, list_all, flat_map}
use Rattle.std.specs.Option.{is_some, option_map, option_map_or}
use Rattle.std.proofs.Math.Bool.{or_comm}
use Rattle.sym_records.specs.declared.line.Extent.{Extent}
use Rattle.sym_records.specs.declared.line.Binary.{Binary}
use Rattle.sym_records.specs.declared.line.SymLine.{SymLine}
use Rattle.sym_records.specs.declared.line.SymLine.TheVariants.{Module, Info, Public}
use Rattle.sym_meaning.specs.TextNames.{is_file, is_origin}
use Rattle.sym_meaning.specs.Findings.{func_run, is_sized, meet}
use Rattle.sym_edges.specs.Addresses.{Range}
use Rattle.sym_findings.specs.declared.kind.FindingKind.{FindingKind}
use Rattle.sym_findings.specs.declared.kind.FindingKind.TheVariants as kind
use Rattle.sym_findings.specs.declared.kind.Finding.{Finding}
use Rattle.sym_findings.specs.declared.records_before.Preceding.{Preceding}
use Rattle.sym_findings.specs.declared.records_before.Known.{Known}
use Rattle.sym_findings.specs.Findings.{OpenFunc, with_line, meets_any, open_func, open_init, init_run, leave, finding_if, findings_at}
use Rattle.sym_findings.specs.internal.Numbers.{has_number}
use Rattle.sym_findings.specs.internal.Ranges.{is_met}
use Rattle.sym_findings.specs.internal.Preceding.{KeepsLines, func_of, Keeps, Knows, leaves_open, Judged}

-- What is stored before the first record.
pub none_kept : (files origins : List ℕ) (functions lines inits : List Range) → files ≡ [] → origins ≡ [] → ((e : Extent) → is_met functions e ≡ false) → ((e : Extent) → is_met inits e ≡ false) →
    Keeps [] (record { files = files; origins = origins; functions = functions; func = None; lines = lines; inits = inits; init = None })
unfolding has_number
none_kept files origins functions lines inits no_file no_origin no_function no_init = record {
  files = λ n. ap (λ ns. list_any (λ m. m == n) ns) no_file;
  origins = λ n. ap (λ ns. list_any (λ m. m == n) ns) no_origin;
  functions = no_function;
  func = refl;
  lines = tt;
  inits = no_init;
  init = refl;
}

-- The findings of a record, one kind after another.
pub last_one : (old a : List Finding) → (old ++ a) ≡ (old ++ (a ++ []))
last_one old a = ap (λ l. old ++ l) (sym (append-nil a))

pub last_two : (old a b : List Finding) → ((old ++ a) ++ b) ≡ (old ++ (a ++ (b ++ [])))
last_two old a b = append_assoc old a b ∙ ap (λ l. old ++ (a ++ l)) (sym (append-nil b))

pub last_four : (old a b c d : List Finding) → ((((old ++ a) ++ b) ++ c) ++ d) ≡ (old ++ (a ++ (b ++ (c ++ (d ++ [])))))
last_four old a b c d = simp (append_assoc, append-nil)

pub four_noted : (old first second third new : List Finding) (a b c d p q r s : Bool) (j k l m : FindingKind) (index i i' i'' : ℕ) → first ≡ old ++ finding_if a j index → i ≡ index → second ≡ first ++ finding_if b k i → i' ≡ i → third ≡ second ++ finding_if c l i' → i'' ≡ i' → new ≡ third ++ finding_if d m i'' →
    a ≡ p → b ≡ q → c ≡ r → d ≡ s → new ≡ (((old ++ finding_if p j index) ++ finding_if q k index) ++ finding_if r l index) ++ finding_if s m index
four_noted old first second third new a b c d p q r s j k l m index i i' i'' one one_is two two_is three three_is four e f g h = cc (one, one_is, two, two_is, three, three_is, four, e, f, g, h)

pub and_true : (t : Bool) → (t && true) ≡ t
and_true true = refl
and_true false = refl

-- `are_sized` of one range.
pub one_sized : (e : Extent) (index : ℕ) → finding_if (not (is_sized e)) kind.BadSize index ≡ finding_if (not (list_all is_sized (e ∷ []))) kind.BadSize index
one_sized e index = ap (λ t. finding_if (not t) kind.BadSize index) (sym (and_true (is_sized e)))

-- The ranges with those of one more record.
pub more_met : (ranges new : List Range) (runs : List Extent) (f : Extent) → ((e : Extent) → is_met ranges e ≡ meets_any runs e) → ((e : Extent) → is_met new e ≡ (is_met ranges e || meet e f)) → (e : Extent) → is_met new e ≡ meets_any (f ∷ runs) e
more_met ranges new runs f same more e = more e ∙ ap (λ t. t || meet e f) (same e) ∙ or_comm (meets_any runs e) (meet e f)

-- The open FUNC, as the code stores it.
pub leaves_same : (runs : List Extent) (func : Option Extent) (o : Option OpenFunc) → func ≡ option_map func_of o → leaves_open runs func ≡ option_map_or (leave runs) o false
leaves_same runs func None is = ap (leaves_open runs) is
leaves_same runs func (Some f) is = ap (leaves_open runs) is

pub line_same : (lines : List Range) (func : Option Extent) (o : Option OpenFunc) (e : Extent) → func ≡ option_map func_of o → KeepsLines lines o → (is_some func && is_met lines e) ≡ option_map_or (λ f. meets_any f.lines e) o false
line_same lines func None e is keeps = ap (λ o. is_some o && is_met lines e) is
line_same lines func (Some f) e is keeps = ap (λ o. is_some o && is_met lines e) is ∙ keeps e

pub line_kept : (lines new : List Range) (o : Option OpenFunc) (f : Extent) → KeepsLines lines o → ((e : Extent) → is_met new e ≡ (is_met lines e || meet e f)) → KeepsLines new (option_map (with_line f) o)
line_kept lines new None f keeps more = tt
line_kept lines new (Some o) f keeps more = more_met lines new o.lines f keeps more

pub line_func : (o : Option OpenFunc) (f : Extent) → option_map func_of o ≡ option_map func_of (option_map (with_line f) o)
line_func None f = refl
line_func (Some o) f = refl

-- A record of another keyword has no finding.
pub closed : (before : List SymLine) (s : SymLine) (p : Preceding) → Keeps before p → ((n : ℕ) → is_file n s ≡ false) → ((n : ℕ) → is_origin n s ≡ false) → func_run s ≡ [] → init_run s ≡ [] → open_func (s ∷ before) ≡ None → open_init (s ∷ before) ≡ None →
    Keeps (s ∷ before) (record p { func = None; init = None })
closed before s p keeps no_file no_origin no_func no_init func init = record {
  files = λ n. keeps.files n ∙ ap (λ t. t || list_any (is_file n) before) (sym (no_file n));
  origins = λ n. keeps.origins n ∙ ap (λ t. t || list_any (is_origin n) before) (sym (no_origin n));
  functions = λ e. keeps.functions e ∙ ap (λ runs. meets_any (runs ++ flat_map func_run before) e) (sym no_func);
  func = ap (option_map func_of) (sym func);
  lines = subst (KeepsLines p.lines) (sym func) tt;
  inits = λ e. keeps.inits e ∙ ap (λ runs. meets_any (runs ++ flat_map init_run before) e) (sym no_init);
  init = sym init;
}

pub of_record : (k : Known) (p q : Preceding) (index : ℕ) (s r : SymLine) (old new : List Finding) → s ≡ r → ((all before : List SymLine) → Knows all k → Keeps before p → Judged all before index r old new q)
    → (all before : List SymLine) → Knows all k → Keeps before p → Judged all before index s old new q
of_record k p q index s r old new is told all before knows keeps = subst (λ (x : SymLine). Judged all before index x old new q) (sym is) (told all before knows keeps)

-- A record of another keyword.
abbrev pub IsOther : SymLine → Type 0
IsOther s = ((binary : Binary) × s ≡ Module binary) ⊎ (((text : List ℕ) × s ≡ Info text) ⊎ ((many : Bool) × (address : ℕ) × (params : ℕ) × (name : List ℕ) × s ≡ Public many address params name))

other : (all before : List SymLine) (index : ℕ) (s r : SymLine) (p : Preceding) (old : List Finding) → s ≡ r → findings_at all before index r ≡ [] → Keeps (r ∷ before) p → Judged all before index s old old p
other all before index s r p old is none keeps = subst (λ (x : SymLine). Judged all before index x old old p) (sym is) (record { found = sym (append-nil old) ∙ ap (λ l. old ++ l) (sym none); keeps = keeps })

other_judged : (all before : List SymLine) (index : ℕ) (s : SymLine) (p : Preceding) (old : List Finding) → IsOther s → Keeps before p → Judged all before index s old old (record p { func = None; init = None })
unfolding findings_at
other_judged all before index s p old (inl m) keeps = other all before index s (Module m.0) _ old m.1 refl (closed before (Module m.0) p keeps (λ n. refl) (λ n. refl) refl refl refl refl)
other_judged all before index s p old (inr (inl i)) keeps = other all before index s (Info i.0) _ old i.1 refl (closed before (Info i.0) p keeps (λ n. refl) (λ n. refl) refl refl refl refl)
other_judged all before index s p old (inr (inr r)) keeps = other all before index s (Public r.0 r.1 r.2 r.3) _ old r.4 refl (closed before (Public r.0 r.1 r.2 r.3) p keeps (λ n. refl) (λ n. refl) refl refl refl refl)

pub judged_other : (all before : List SymLine) (index : ℕ) (s : SymLine) (p q : Preceding) (old : List Finding) → IsOther s → q ≡ record p { func = None; init = None } → Keeps before p → Judged all before index s old old q
judged_other all before index s p q old is closes keeps = subst (λ (r : Preceding). Judged all before index s old old r) (sym closes) (other_judged all before index s p old is keeps)
