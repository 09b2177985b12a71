-- When two symbol files say the same at an address (Breakpad's symbol_files.md): if they name the same function, the same inlined calls and the same
-- line there, and their frame rules have the same forms. What `PUBLIC`, `MODULE` and `INFO` say is not compared.
use Rattle.std.specs.Prelude.{ℕ, ◌==◌, ◌&&◌, Bool, true, false, not, List, [], ◌∷◌, ◌++◌, map, Option, None, Some}
use Rattle.std.specs.List.{find, range_with_len}
use Rattle.std.specs.Str.{bytes_eq}
use Rattle.sym_records.specs.declared.line.SymLine.{SymLine}
use Rattle.sym_rules.specs.declared.rules.Target.{Target}
use Rattle.sym_rules.specs.declared.rules.Target.TheVariants as target
use Rattle.sym_rules.specs.declared.rules.RuleText.{RuleText}
use Rattle.sym_meaning.specs.TextNames.{Call, text_owner, text_chain, text_line}
use Rattle.cfi_eval.specs.TextRules.{text_rules}
use Rattle.sym_lookup.specs.AnswerTexts.{call_name}
use Rattle.sym_judge.specs.Forms.{rule_form, same_form}
use Rattle.sym_judge.specs.declared.ruling.Aspect.{Aspect}
use Rattle.sym_judge.specs.declared.ruling.Aspect.TheVariants.{Func, Chain, Line, Init, Cfa, Ra, Reg}

abbrev pub same_option : {A : Type 0} → (A → A → Bool) → Option A → Option A → Bool
same_option same None None = true
same_option same (Some a) (Some b) = same a b
same_option same _ _ = false

abbrev pub same_list : {A : Type 0} → (A → A → Bool) → List A → List A → Bool
same_list same [] [] = true
same_list same (a ∷ front) (b ∷ back) = same a b && same_list same front back
same_list same _ _ = false

-- two lines are the same if their paths are the same or both unknown, and their numbers are the same
abbrev pub same_line : Option (List ℕ) × ℕ → Option (List ℕ) × ℕ → Bool
same_line a b = same_option bytes_eq a.0 b.0 && (a.1 == b.1)

-- two inlined calls are the same if the names of their functions are the same, and the paths and
-- lines of the calls are. A missing name is `<name omitted>`
abbrev pub same_call : Call → Call → Bool
same_call a b = bytes_eq (call_name a) (call_name b) && same_line (a.path, a.line) (b.path, b.line)

-- the rules of a target in two lists of rules have the same form
abbrev pub same_rules : Target → List RuleText → List RuleText → Bool
same_rules t a b = same_form (rule_form t a) (rule_form t b)

abbrev pub both : List RuleText → List RuleText → Bool
both a b = true

-- whether two files agree in an aspect at an address
unfoldable pub agrees : List SymLine → List SymLine → ℕ → Aspect → Bool
agrees own other x Func = same_option bytes_eq (text_owner own x) (text_owner other x)
agrees own other x Chain = same_list same_call (text_chain own x) (text_chain other x)
agrees own other x Line = same_option same_line (text_line own x) (text_line other x)
agrees own other x Init = same_option both (text_rules own x) (text_rules other x)
agrees own other x Cfa = same_option (same_rules target.Cfa) (text_rules own x) (text_rules other x)
agrees own other x Ra = same_option (same_rules target.Ra) (text_rules own x) (text_rules other x)
agrees own other x (Reg register) = same_option (same_rules (target.Reg register)) (text_rules own x) (text_rules other x)

-- the aspects in their order: names, then whether an INIT covers the address, then its rules
abbrev pub name_aspects : List Aspect
name_aspects = Func ∷ Chain ∷ Line ∷ []

unfoldable pub rule_aspects : List Aspect
rule_aspects = Cfa ∷ Ra ∷ map Reg (range_with_len 0 16)

unfoldable pub frame_aspects : List Aspect
frame_aspects = Init ∷ rule_aspects

abbrev pub differs : List SymLine → List SymLine → ℕ → Aspect → Bool
differs own other x aspect = not (agrees own other x aspect)

-- the first aspect in which two files differ at an address
unfoldable pub first_unlike : List SymLine → List SymLine → ℕ → Option Aspect
first_unlike own other x = find (differs own other x) (name_aspects ++ frame_aspects)
