-- The forms of rules, by the places of the rules.
use Rattle.std.specs.Prelude.{◌≡◌, List, Some}
use Rattle.std.specs.List.{All}
use Rattle.sym_records.specs.declared.line.SymLine.{SymLine}
use Rattle.sym_rules.specs.declared.rules.Token.{Token}
use Rattle.sym_judge.specs.Forms.{form_of}
use Rattle.sym_judge.specs.declared.held_forms.HeldForm.{HeldForm}
use Rattle.sym_judge.specs.internal.Stacks.{form_view}
use Rattle.sym_judge.specs.internal.Tables.{words_at}

-- the words at the place have the stored form
abbrev pub IsHeldForm : List SymLine → HeldForm → Type 0
IsHeldForm lines held = (words : List Token) → words_at lines held.place ≡ Some words → form_view held.form ≡ form_of held.inside words

abbrev pub AreHeldForms : List SymLine → List HeldForm → Type 0
AreHeldForms lines forms = All (IsHeldForm lines) forms
