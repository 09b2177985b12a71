use Rattle.std.proofs.Common.{◌≡◌, length}
use Rattle.sym_judge.specs.Alike.{same_list}
use Rattle.sym_judge.specs.internal.Blocks.{same_rule_text}
use Rattle.sym_judge.proofs.blocks.are_same_rule_texts.Given as goal

abbrev pub invariant-rules : goal.invariant-rules
invariant-rules l = same_list same_rule_text l.a l.b ≡ same_list same_rule_text l.front l.back

abbrev pub decreases-rules : goal.decreases-rules
decreases-rules l = length l.front
