-- The verdict of a walk, for `judge_walk`.
use Rattle.std.proofs.Common.{◌≡◌, ℕ, List, None, Some, sym, ap, ◌∙◌}
use Rattle.std.specs.Option.{option_map}
use Rattle.sym_records.specs.declared.line.SymLine.{SymLine}
use Rattle.state_file.specs.declared.state.State.{State}
use Rattle.stack_walk.specs.declared.steps.Walk.{Walk}
use Rattle.stack_walk.specs.Walk.{walk_from, first_place, process_of, walk_of}
use Rattle.dumpsyms_cmd.specs.Judgement.{judgement_verdict}
use Rattle.dumpsyms_cmd.specs.commands.Walk.{no_rip_line, walk_or_refused, walk_answer}
use Rattle.dumpsyms_cmd.specs.internal.Judged.{Refuses}
use Rattle.dumpsyms_cmd.specs.declared.judgement.Judgement.{Judgement}
use Rattle.dumpsyms_cmd.proofs.AnswerLemmas.{refuses_verdict}

-- The verdict of a walk, and that on a state without rip.
pub walk_judged : (lines : List SymLine) (state : State) (walk : Walk) (j : Judgement) → walk_of lines state ≡ Some walk → judgement_verdict j ≡ walk_or_refused lines (Some walk) → judgement_verdict j ≡ walk_answer lines state
walk_judged lines state walk j is says = says ∙ ap (walk_or_refused lines) (sym is)

no_rip : (lines : List SymLine) (state : State) → state.regs.rip ≡ None → walk_of lines state ≡ None
unfolding walk_of
no_rip lines state none = ap (option_map (λ rip. walk_from (process_of lines state.memory) 1024 (first_place state.regs rip))) none

pub no_rip_judged : (lines : List SymLine) (state : State) (j : Judgement) (text : List ℕ) → state.regs.rip ≡ None → text ≡ no_rip_line → Refuses j text → judgement_verdict j ≡ walk_answer lines state
no_rip_judged lines state j text none same refuses = refuses_verdict j text no_rip_line same refuses ∙ ap (walk_or_refused lines) (sym (no_rip lines state none))
