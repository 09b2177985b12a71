-- Lemmas about the forms of long rules, which are cached.
use Rattle.std.proofs.Common.{◌≡◌, ◌<◌, ℕ, Bool, List, length, get_or, Some, sym, ap, subst, ◌∙◌}
use Rattle.sym_records.specs.declared.line.SymLine.{SymLine}
use Rattle.sym_rules.specs.declared.rules.Token.{Token}
use Rattle.sym_judge.specs.Forms.{form_of}
use Rattle.sym_judge.specs.declared.held_forms.HeldForm.{HeldForm}
use Rattle.sym_judge.specs.internal.HeldForms.{IsHeldForm, AreHeldForms}
use Rattle.sym_judge.specs.internal.Stacks.{form_view}
use Rattle.sym_judge.specs.internal.Tables.{words_at}
use Rattle.sym_judge.proofs.SameLemmas.{some_is}

pub form_held : (lines : List SymLine) (held : HeldForm) (words : List Token) → words_at lines held.place ≡ Some words → form_view held.form ≡ form_of held.inside words → IsHeldForm lines held
form_held lines held words there is = λ others e. is ∙ ap (form_of held.inside) (some_is (sym there ∙ e))

pub form_there : (forms : List HeldForm) (at : ℕ) (held : HeldForm) (line rule : ℕ) (inside : Bool) → held ≡ get_or forms at held → at < length forms → held.place.line ≡ line → held.place.rule ≡ rule → held.inside ≡ inside
    → (lines : List SymLine) (words : List Token) → AreHeldForms lines forms → words_at lines (record { line = line; rule = rule }) ≡ Some words → form_view held.form ≡ form_of inside words
form_there forms at held line rule inside is l p q e lines words are there =
    let one : IsHeldForm lines held = subst (IsHeldForm lines) (sym is) (are at held l) in
    one words (ap (λ n. words_at lines (record { line = n; rule = held.place.rule })) p ∙ ap (λ n. words_at lines (record { line = line; rule = n })) q ∙ there) ∙ ap (λ b. form_of b words) e
