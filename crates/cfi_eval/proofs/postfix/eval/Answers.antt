use Rattle.std.proofs.Common.{◌≡◌, ◌∙◌, sym, ap, reverse, Ok}
use Rattle.cfi_eval.specs.Postfix.{postfix_from, one_value, with_token}
use Rattle.cfi_eval.proofs.StackLemmas.{rule_defined, words_more, words_fail, words_end, push_reversed}
use Rattle.cfi_eval.proofs.postfix.eval.Goals as goal

pub tokens-init : goal.tokens-init
tokens-init g c =
    rule_defined c.args.regs.now (g.M.ByteMemory.runs c.args.memory.now) c.args.cfa c.args.tokens.now (sym c.if-is_undefined.ensures)
    ∙ ap (λ stack. postfix_from c.args.regs.now (g.M.ByteMemory.runs c.args.memory.now) c.args.cfa c.args.tokens.now (reverse stack)) (sym c.new-stack.ensures.items)

pub returns-in-Err : goal.returns-in-Err
returns-in-Err g c =
    sym (c.tokens.invariant ∙ words_fail c.args.regs.now (g.M.ByteMemory.runs c.args.memory.now) c.args.cfa c.args.tokens.now c.tokens.token-index c.token-item.result (reverse c.tokens.stack.items) c.in-Err.why c.tokens-test.true c.token-item.is c.in-Err.ensures)

pub tokens-preserved : goal.tokens-preserved
tokens-preserved g c =
    let next : with_token c.args.regs.now (g.M.ByteMemory.runs c.args.memory.now) c.args.cfa c.token-item.result (reverse c.tokens.stack.items) ≡ Ok (reverse c.push.new.self.items) =
    c.in-Ok.ensures ∙ ap Ok (push_reversed c.token_value.new.stack.items c.in-Ok.value ∙ ap reverse (sym c.in_ok-push-in-Ok.ensures.items)) in
    c.tokens.invariant ∙ words_more c.args.regs.now (g.M.ByteMemory.runs c.args.memory.now) c.args.cfa c.args.tokens.now c.tokens.token-index c.token-item.result (reverse c.tokens.stack.items) (reverse c.push.new.self.items) c.tokens-test.true c.token-item.is next

pub returns : goal.returns
returns g c =
    sym (c.tokens.invariant ∙ words_end c.args.regs.now (g.M.ByteMemory.runs c.args.memory.now) c.args.cfa c.args.tokens.now c.tokens.token-index (reverse c.tokens.stack.items) c.tokens-test.false
    ∙ ap (λ stack. one_value (reverse stack)) (sym c.as_slice.ensures.value) ∙ sym c.one_value.ensures)
