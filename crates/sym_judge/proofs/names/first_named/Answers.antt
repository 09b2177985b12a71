use Rattle.std.proofs.Common.{◌∙◌, sym}
use Rattle.sym_judge.specs.Alike.{same_option, same_list, same_line, same_call}
use Rattle.sym_judge.proofs.NameLemmas.{func_met, chain_met, line_met, none_met, same_both}
use Rattle.sym_judge.proofs.names.first_named.Goals as goal

pub returns-then-not-same_owner : goal.returns-then-not-same_owner
returns-then-not-same_owner c = sym (func_met c.args.both.now.own c.args.both.now.other c.args.a.now c.args.b.now (sym c.requires ∙ c.if-not-same_owner.true))

pub returns-then-not-are_same_calls : goal.returns-then-not-are_same_calls
returns-then-not-are_same_calls c =
    let calls = c.are_same_calls.ensures ∙ same_both (same_list same_call) _ _ _ _ (c.chain_of.ensures c.args.both.now.own) (c.chain_of-2.ensures c.args.both.now.other) in
    sym (chain_met c.args.both.now.own c.args.both.now.other c.args.a.now c.args.b.now (sym c.requires ∙ c.if-not-same_owner.false) (sym calls ∙ c.if-not-are_same_calls.true))

pub returns-then-not-is_same_line : goal.returns-then-not-is_same_line
returns-then-not-is_same_line c =
    let calls = c.are_same_calls.ensures ∙ same_both (same_list same_call) _ _ _ _ (c.chain_of.ensures c.args.both.now.own) (c.chain_of-2.ensures c.args.both.now.other) in
    let lines = c.is_same_line.ensures ∙ same_both (same_option same_line) _ _ _ _ (c.line_of.ensures c.args.both.now.own) (c.line_of-2.ensures c.args.both.now.other) in
    sym (line_met c.args.both.now.own c.args.both.now.other c.args.a.now c.args.b.now (sym c.requires ∙ c.if-not-same_owner.false) (sym calls ∙ c.if-not-are_same_calls.false) (sym lines ∙ c.if-not-is_same_line.true))

pub returns : goal.returns
returns c =
    let calls = c.are_same_calls.ensures ∙ same_both (same_list same_call) _ _ _ _ (c.chain_of.ensures c.args.both.now.own) (c.chain_of-2.ensures c.args.both.now.other) in
    let lines = c.is_same_line.ensures ∙ same_both (same_option same_line) _ _ _ _ (c.line_of.ensures c.args.both.now.own) (c.line_of-2.ensures c.args.both.now.other) in
    sym (none_met c.args.both.now.own c.args.both.now.other c.args.a.now c.args.b.now (sym c.requires ∙ c.if-not-same_owner.false) (sym calls ∙ c.if-not-are_same_calls.false) (sym lines ∙ c.if-not-is_same_line.false))
