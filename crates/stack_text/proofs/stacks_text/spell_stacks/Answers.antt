use Rattle.std.proofs.Common.{◌++◌, [], ◌∙◌, ap}
use Rattle.core_file.specs.Core.{CoreParts}
use Rattle.stack_text.specs.StacksText.{signal_text, threads_lacks}
use Rattle.stack_text.proofs.StacksTextLemmas.{all_text, all_lacks}
use Rattle.stack_text.proofs.stacks_text.spell_stacks.Goals as goal

pub returns-clause-out : goal.returns-clause-out
returns-clause-out g c = λ got agrees.
    all_text got c.args.walker.now.folder c.args.walker.now.core c.new-text.result _ _ _ c.new-text.ensures (c.in_ok-add_signal.ensures ∙ ap (λ threads. c.new-text.result ++ signal_text threads) (c.threads.ensures ∙ ap (λ (k : CoreParts). k.threads) c.core.ensures)) c.in_ok-add_modules.ensures
    ((c.in_ok-add_threads.ensures.spelled [] c.new-said.ensures).text_is got agrees)

pub returns-clause-err : goal.returns-clause-err
returns-clause-err g c = λ got agrees. all_lacks got c.args.walker.now.folder c.args.walker.now.core c.into_text.result (c.into_text.ensures (threads_lacks got c.args.walker.now.folder c.args.walker.now.core c.args.walker.now.core.threads) ((c.in_ok-add_threads.ensures.spelled [] c.new-said.ensures).lacks got agrees))
