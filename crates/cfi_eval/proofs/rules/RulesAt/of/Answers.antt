use Rattle.std.proofs.Common.{◌∙◌, ◌+◌, ◌-◌, ◌++◌, length, take, drop, Some, sym, ap}
use Rattle.std.proofs.lemmas.List.{take_rest}
use Rattle.cfi_eval.specs.TextRules.{changes_until}
use Rattle.cfi_eval.proofs.InitLemmas.{init_rules, init_is_init}
use Rattle.cfi_eval.proofs.rules.RulesAt.of.Goals as goal

pub unreachable-requires : goal.unreachable-requires
unreachable-requires c = init_is_init c.args.lines.now c.args.address c.args.init c.index-lines-init.result c.requires.first c.index-lines-init.is c.in_default.not-Init

pub returns : goal.returns
returns c =
    init_rules c.args.lines.now c.args.address c.args.init c.index-lines-init.result c.in-Init.address c.in-Init.size c.in-Init.rules c.requires.first c.index-lines-init.is c.in-Init.is
    ∙ ap (λ behind. Some (c.in-Init.rules ++ changes_until c.args.address behind)) (sym (take_rest c.args.lines.now (c.args.init + 1)))
    ∙ ap (λ first. Some (first ++ changes_until c.args.address (take (length c.args.lines.now - (c.args.init + 1)) (drop (c.args.init + 1) c.args.lines.now)))) (sym c.as_slice-first.ensures)
