use Rattle.std.proofs.Common.{◌≡◌, ◌∙◌, refl}
use Rattle.module_stacks.specs.Walking.{IsPathOf}
use Rattle.dumpsyms_cmd.proofs.StacksLemmas.{symbols_asked, core_judged}
use Rattle.dumpsyms_cmd.proofs.stacks.judge_stacks.Goals as goal

pub returns-in_err-texts-clause-asked : goal.returns-in_err-texts-clause-asked
returns-in_err-texts-clause-asked g c = symbols_asked c.in_ok-walker.walker _ _ _ c.in_ok-walker.ensures.parts.1 c.spell_stacks.ensures.asks

pub returns-clause-asked : goal.returns-clause-asked
returns-clause-asked g c = symbols_asked c.in_ok-walker.walker _ _ _ c.in_ok-walker.ensures.parts.1 c.spell_stacks.ensures.asks

pub returns-clause-judged : goal.returns-clause-judged
returns-clause-judged g c = core_judged (IsPathOf c.in_ok-walker.walker) _ c.in_ok-walker.walker c.spell_stacks.new.walker _ _ _ _ _ _ _ _ _ c.in_ok-walker.ensures.parts.1 c.in_ok-walker.ensures.parts.0 c.in_ok-walker.ensures.none c.in_ok-texts.ensures.learns c.in_ok-texts.ensures.out c.in_ok-texts.ensures.err refl
