use Rattle.std.proofs.Common.{◌≡◌, drop, reverse}
use Rattle.cfi_eval.specs.Postfix.{rule_value, postfix_from}
use Rattle.cfi_eval.proofs.postfix.eval.Given as goal

abbrev pub invariant-tokens : goal.invariant-tokens
invariant-tokens g l = rule_value l.regs (g.M.ByteMemory.runs l.memory) l.cfa l.tokens ≡ postfix_from l.regs (g.M.ByteMemory.runs l.memory) l.cfa (drop l.token-index l.tokens) (reverse l.stack.items)
