use Rattle.std.proofs.Common.{append-nil}
use Rattle.cfi_eval.specs.TextRules.{changes_until}
use Rattle.cfi_eval.proofs.rules.RulesAt.plain.Goals as goal

pub returns : goal.returns
unfolding changes_until
returns c = append-nil c.args.rules.now
