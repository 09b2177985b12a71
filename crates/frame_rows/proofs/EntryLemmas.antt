-- The rows of an entry, from the states after its CIE's and its own instructions. The lemmas are
-- for `begin`, `check_rows_behind`, `new` and `rows_are_sound`.
use Rattle.std.proofs.Common.{◌≡◌, ℕ, not, Bool, true, false, List, Option, Some, None, Err, refl, sym, ◌∙◌, ap}
use Rattle.std.specs.List.{list_any}
use Rattle.sym_edges.specs.Outside.{MatchStop}
use Rattle.sym_edges.specs.declared.fault.Stop.{Stop}
use Rattle.sym_edges.specs.declared.fault.Stop.TheVariants.{Fault, NoMemory}
use Rattle.sym_edges.specs.declared.reason.Reason.{Reason}
use Rattle.sym_edges.specs.declared.reason.Reason.TheVariants as reason
use Rattle.frame_entries.specs.FdeFields.{FdeFields}
use Rattle.frame_rows.specs.declared.row.RowAt.{RowAt}
use Rattle.sym_edges.specs.Results.{unless}
use Rattle.std.specs.Option.{option_or}
use Rattle.frame_rows.specs.Steps.{has_cfa}
use Rattle.frame_rows.specs.Rows.{first_fault, cie_context, cie_items, cie_begin, own_context, own_items, own_begin, instruction_fault, lacks_cfa, rows_fault, AreRows, HasCfa, IsSound, row_at}
use Rattle.frame_rows.proofs.TestLemmas.{neither}
use Rattle.frame_rows.proofs.CfaLemmas.{none_lacks, some_lacks, has_not_lacks, not_lacks_has}
use Rattle.frame_rows.proofs.SoundLemmas.{entry_sound}

-- What is known once all instructions of the CIE and of the entry are executed.
pub record Walked (e : FdeFields) (rows : List RowAt) : Type 0 where
  pub cie : first_fault (cie_context e) (cie_items e) (cie_begin e) ≡ None
  pub own : first_fault (own_context e) (own_items e) (own_begin e) ≡ None
  pub are : AreRows e rows

pub fine : (e : FdeFields) (rows : List RowAt) → Walked e rows → instruction_fault e ≡ None
unfolding instruction_fault
fine e rows w = ap (λ o. option_or o (first_fault (own_context e) (own_items e) (own_begin e))) w.cie ∙ w.own

pub walked_by : (e : FdeFields) (rows : List RowAt) → instruction_fault e ≡ None → AreRows e rows → Walked e rows
unfolding instruction_fault
walked_by e rows good are =
    let both = neither (first_fault (cie_context e) (cie_items e) (cie_begin e)) (first_fault (own_context e) (own_items e) (own_begin e)) good in
    record { cie = both.0; own = both.1; are = are }

-- Each row has a rule for the CFA.
pub none_refused : (e : FdeFields) (rows : List RowAt) (b : _) → Walked e rows → b ≡ false → b ≡ list_any (λ r. not (has_cfa r.row)) rows → rows_fault e ≡ None
unfolding rows_fault
none_refused e rows b w none is =
    ap (λ o. option_or o (unless (not (lacks_cfa e)) reason.Cfa)) (fine e rows w) ∙ ap (λ t. unless (not t) reason.Cfa) (has_not_lacks e (none_lacks e rows w.are (sym is ∙ none)))

-- Some row has no rule for the CFA.
pub some_refused : (e : FdeFields) (rows : List RowAt) (b : _) → Walked e rows → b ≡ true → b ≡ list_any (λ r. not (has_cfa r.row)) rows → rows_fault e ≡ Some reason.Cfa
unfolding rows_fault
some_refused e rows b w some is =
    ap (λ o. option_or o (unless (not (lacks_cfa e)) reason.Cfa)) (fine e rows w) ∙ ap (λ t. unless (not t) reason.Cfa) (some_lacks e rows w.are (sym is ∙ some))

-- An entry that has rows lacks no rule for the CFA.
lacks_none : (b : Bool) → unless (not b) reason.Cfa ≡ None → b ≡ false
lacks_none true none = cc
lacks_none false none = refl

pub rows_good : (e : FdeFields) → rows_fault e ≡ None → instruction_fault e ≡ None
unfolding rows_fault
rows_good e none = (neither (instruction_fault e) (unless (not (lacks_cfa e)) reason.Cfa) none).0

pub rows_have : (e : FdeFields) → rows_fault e ≡ None → HasCfa e
unfolding rows_fault
rows_have e none = not_lacks_has e (lacks_none (lacks_cfa e) (neither (instruction_fault e) (unless (not (lacks_cfa e)) reason.Cfa) none).1)

pub rows_sound : (e : FdeFields) (a : ℕ) → rows_fault e ≡ None → IsSound e (row_at e a)
rows_sound e a none = entry_sound e a (rows_good e none)

-- An instruction of the CIE, or of the entry, is bad.
pub cie_bad : (e : FdeFields) (why : Reason) → first_fault (cie_context e) (cie_items e) (cie_begin e) ≡ Some why → rows_fault e ≡ Some why
unfolding rows_fault instruction_fault
cie_bad e why bad = ap (λ o. option_or (option_or o (first_fault (own_context e) (own_items e) (own_begin e))) (unless (not (lacks_cfa e)) reason.Cfa)) bad

pub bad_instruction : (e : FdeFields) (why : Reason) → instruction_fault e ≡ Some why → rows_fault e ≡ Some why
unfolding rows_fault
bad_instruction e why bad = ap (λ o. option_or o (unless (not (lacks_cfa e)) reason.Cfa)) bad

pub own_bad : (e : FdeFields) (why : Reason) → first_fault (cie_context e) (cie_items e) (cie_begin e) ≡ None → first_fault (own_context e) (own_items e) (own_begin e) ≡ Some why → rows_fault e ≡ Some why
unfolding rows_fault instruction_fault
own_bad e why cie bad =
    ap (λ o. option_or (option_or o (first_fault (own_context e) (own_items e) (own_begin e))) (unless (not (lacks_cfa e)) reason.Cfa)) cie ∙ ap (λ o. option_or o (unless (not (lacks_cfa e)) reason.Cfa)) bad

-- A pass over the entry's rows ends without an answer.
pub pass_stopped : (A B : Type 0) (stop : Stop Reason) (e : FdeFields) (fault : Option Reason) → fault ≡ instruction_fault e → MatchStop {A = A} {F = Reason} (Err stop) (λ _. fault ≡ None) (λ why. fault ≡ Some why) (Unit {0}) → MatchStop {A = B} {F = Reason} (Err stop) (λ _. rows_fault e ≡ None) (λ why. rows_fault e ≡ Some why) (Unit {0})
pass_stopped A B (Fault why) e fault is bad = bad_instruction e why (sym is ∙ bad)
pass_stopped A B NoMemory e fault is bad = tt
