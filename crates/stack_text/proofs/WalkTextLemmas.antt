-- The lines of a walk, for `add_steps`.
use Rattle.std.proofs.Common.{◌≡◌, ℕ, zero, suc, ◌+◌, ◌<◌, ◌≤◌, List, [], ◌∷◌, ◌++◌, length, get_or, drop, refl, sym, ap, ◌∙◌, arith, append_assoc, append-nil, drop-cons}
use Rattle.sym_records.specs.declared.line.SymLine.{SymLine}
use Rattle.stack_walk.specs.declared.steps.WalkStep.{WalkStep}
use Rattle.stack_text.specs.WalkText.{step_text, steps_text}

-- One step more.
pub steps_more : (lines : List SymLine) (number : ℕ) (steps : List WalkStep) (step : WalkStep) (text next all : List ℕ) → text ++ steps_text lines number (drop number steps) ≡ all → step ≡ get_or steps number step → number < length steps → next ≡ text ++ step_text lines number step
    → next ++ steps_text lines (number + 1) (drop (number + 1) steps) ≡ all
unfolding steps_text
steps_more lines number steps step text next all is at few more =
    let one : number + 1 ≡ suc number = omega arith in
    let cut : drop number steps ≡ step ∷ drop (number + 1) steps = drop-cons steps number step few ∙ ap (λ s. s ∷ drop (suc number) steps) (sym at) ∙ ap (λ n. step ∷ drop n steps) (sym one) in
    ap (λ t. t ++ steps_text lines (number + 1) (drop (number + 1) steps)) more
    ∙ append_assoc text (step_text lines number step) (steps_text lines (number + 1) (drop (number + 1) steps))
    ∙ ap (λ rest. text ++ steps_text lines number rest) (sym cut)
    ∙ is

none_left : (steps : List WalkStep) (number : ℕ) → length steps ≤ number → drop number steps ≡ []
none_left [] zero l = refl
none_left [] (suc number) l = refl
none_left (s ∷ steps) zero l = absurd (omega arith)
none_left (s ∷ steps) (suc number) l = none_left steps number (omega arith)

pub steps_all : (lines : List SymLine) (number : ℕ) (steps : List WalkStep) (text all : List ℕ) → text ++ steps_text lines number (drop number steps) ≡ all → length steps ≤ number → text ≡ all
unfolding steps_text
steps_all lines number steps text all is past = sym (append-nil text) ∙ ap (λ rest. text ++ steps_text lines number rest) (sym (none_left steps number past)) ∙ is
