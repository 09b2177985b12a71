use Rattle.std.proofs.lemmas.Result.{IfOk-weaker}
use Rattle.rule_postfix.proofs.DecidedLemmas.{bad_too}
use Rattle.rule_postfix.proofs.progress.put_entry.Goals as goal

pub returns-in-Bad-clause-shown : goal.returns-in-Bad-clause-shown
returns-in-Bad-clause-shown c =
    IfOk-weaker c.leave_out.result _ _ (λ _ more. bad_too c.args.setting.base c.args.setting.code.now c.args.progress.now c.leave_out.new.progress c.args.entry.now c.in-Bad.reason c.in-Bad.is more)
    c.leave_out.ensures
