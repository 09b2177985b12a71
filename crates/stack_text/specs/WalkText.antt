-- The text of a walk by the records of one symbol file: for each step its number, its address, and the lines of `lookup`; and last why the walk ends.
use Rattle.std.specs.Prelude.{ℕ, ◌+◌, List, [], ◌∷◌, ◌++◌, codes, decimal}
use Rattle.sym_records.specs.Canon.{spaced}
use Rattle.sym_records.specs.Fields.{hex}
use Rattle.sym_records.specs.declared.line.SymLine.{SymLine}
use Rattle.sym_lookup.specs.AnswerTexts.{answer_text}
use Rattle.stack_walk.specs.declared.steps.Walk.{Walk}
use Rattle.stack_walk.specs.declared.steps.WalkStep.{WalkStep}
use Rattle.stack_walk.specs.declared.steps.WalkEnd.{WalkEnd}
use Rattle.stack_walk.specs.declared.steps.WalkEnd.TheVariants.{NoModule, NoSymbols, NoRules, CfaUndefined, CfaFailed, CfaLow, RaUndefined, RaFailed, RaZero, Limit}
use Rattle.stack_text.specs.Lines.{line}
use Rattle.stack_text.specs.FrameText.{cause_text}

-- a step: its number in decimal and its address in hexadecimal, and then the lines of its answer
abbrev pub step_head : ℕ → ℕ → List ℕ
step_head number rip = line (spaced (decimal number) (hex rip ∷ []))

abbrev pub step_text : List SymLine → ℕ → WalkStep → List ℕ
step_text lines number step = step_head number step.rip ++ answer_text lines step.answer

-- the lines of steps, of which the first has the number `number`
unfoldable pub steps_text : List SymLine → ℕ → List WalkStep → List ℕ
steps_text lines number [] = []
steps_text lines number (step ∷ steps) = step_text lines number step ++ steps_text lines (number + 1) steps

-- why a walk ends; a cause is spelled as `frame` spells it, and a low CFA comes after the CFA of
-- the step before
abbrev pub end_text : WalkEnd → List ℕ
end_text NoModule = codes "no-module"
end_text NoSymbols = codes "no-symbols"
end_text NoRules = codes "no-rules"
end_text CfaUndefined = codes "cfa-undefined"
end_text (CfaFailed why) = codes "cfa-failed " ++ cause_text why
end_text (CfaLow before cfa) = codes "cfa-low " ++ (hex before ++ 32 ∷ hex cfa)
end_text RaUndefined = codes "ra-undefined"
end_text (RaFailed why) = codes "ra-failed " ++ cause_text why
end_text RaZero = codes "ra-zero"
end_text Limit = codes "limit"

abbrev pub end_line : WalkEnd → List ℕ
end_line end = line (codes "end " ++ end_text end)

abbrev pub walk_text : List SymLine → Walk → List ℕ
walk_text lines walk = steps_text lines 0 walk.steps ++ end_line walk.end
