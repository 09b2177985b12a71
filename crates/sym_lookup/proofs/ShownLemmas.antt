-- The text of an answer shows the names that `sym_meaning` defines.
use Rattle.std.proofs.Common.{◌≡◌, ◌++◌, ℕ, List, [], ◌∷◌, map, reverse, Option, None, Some, refl, sym, ap, ◌∙◌}
use Rattle.std.proofs.lemmas.List.{reverse-append, map-append}
use Rattle.sym_records.specs.declared.line.SymLine.{SymLine}
use Rattle.sym_meaning.specs.TextNames.{text_owner, text_line, text_chain, Call}
use Rattle.sym_lookup.specs.declared.answers.Answer.{Answer}
use Rattle.sym_lookup.specs.declared.answers.Answer.TheVariants as answer
use Rattle.sym_lookup.specs.Answers.{answer_of}
use Rattle.sym_lookup.specs.AnswerTexts.{func_name_at, call_at, line_at, line_spot, frames_text, answer_text, owner_of, calls_of, line_of}
use Rattle.sym_lookup.proofs.NameLemmas.{owner_named, line_named, chain_named}

calls_reversed : (f : ℕ → Call) (places : List ℕ) → map f (reverse places) ≡ reverse (map f places)
calls_reversed f [] = refl
calls_reversed f (place ∷ places) =
    ap (map f) (reverse-append (place ∷ []) places)
    ∙ map-append f (reverse places) (place ∷ [])
    ∙ ap (λ calls. calls ++ f place ∷ []) (calls_reversed f places)
    ∙ sym (reverse-append (f place ∷ []) (map f places))

value_of : List ℕ → Option (List ℕ) → List ℕ
value_of d None = d
value_of d (Some x) = x

shown_of : (lines : List SymLine) (found : Answer) (owner : List ℕ) → owner_of lines found ≡ Some owner → answer_text lines found ≡ frames_text owner (line_spot (line_of lines found)) (reverse (calls_of lines found))
unfolding answer_text owner_of line_of calls_of value_of
shown_of lines (answer.Function func chain line) owner h =
    let name : func_name_at lines func ≡ owner = ap (value_of []) h in
    ap (λ calls. frames_text (func_name_at lines func) (line_spot (line_at lines line)) calls) (calls_reversed (call_at lines) chain)
    ∙ ap (λ n. frames_text n (line_spot (line_at lines line)) (reverse (map (call_at lines) chain))) name
shown_of lines (answer.Public index) owner h = cc
shown_of lines answer.Nothing owner h = cc

pub frames_shown : (lines : List SymLine) (x : ℕ) (owner : List ℕ) → text_owner lines x ≡ Some owner → answer_text lines (answer_of lines x) ≡ frames_text owner (line_spot (text_line lines x)) (reverse (text_chain lines x))
frames_shown lines x owner h =
    shown_of lines (answer_of lines x) owner (sym (owner_named lines x) ∙ h)
    ∙ ap (λ line. frames_text owner (line_spot line) (reverse (calls_of lines (answer_of lines x)))) (sym (line_named lines x))
    ∙ ap (λ calls. frames_text owner (line_spot (text_line lines x)) (reverse calls)) (sym (chain_named lines x))
