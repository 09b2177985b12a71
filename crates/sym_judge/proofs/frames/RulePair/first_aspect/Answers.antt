use Rattle.std.proofs.Common.{◌∙◌, sym, ap, subst}
use Rattle.cfi_eval.specs.Inits.{init_place}
use Rattle.sym_judge.specs.internal.Blocks.{TwoFiles}
use Rattle.sym_judge.specs.internal.Tables.{IsTableAt}
use Rattle.sym_judge.proofs.FrameLemmas.{alone_is, own_alone, covered_is}
use Rattle.sym_judge.proofs.frames.RulePair.first_aspect.Goals as goal

pub returns-in_default : goal.returns-in_default
returns-in_default c = alone_is c.args.self.now.own c.args.self.now.other c.args.address c.init_at-in_default.result c.alone.result
    (ap (λ (two : TwoFiles). init_place two.own c.args.address) (sym c.self.view_is) ∙ sym c.init_at.ensures.place ∙ c.in_default.is)
    (c.init_at-in_default.ensures.place ∙ ap (λ (two : TwoFiles). init_place two.other c.args.address) c.self.view_is) c.alone.ensures

pub returns-in_default-init_at : goal.returns-in_default-init_at
returns-in_default-init_at c = own_alone c.args.self.now.own c.args.self.now.other c.args.address c.in-Some.first
    (ap (λ (two : TwoFiles). init_place two.own c.args.address) (sym c.self.view_is) ∙ sym c.init_at.ensures.place ∙ c.in-Some.is)
    (ap (λ (two : TwoFiles). init_place two.other c.args.address) (sym c.self.view_is) ∙ sym c.init_at-2.ensures.place ∙ c.in_default-init_at.is)

pub returns : goal.returns
returns c = covered_is c.args.self.now.own c.args.self.now.other c.args.address c.table_at-a.result c.table_at-b.result c.first_rule.result
    (subst (λ (two : TwoFiles). IsTableAt two.own c.args.address c.table_at-a.result) c.self.view_is c.table_at-a.ensures)
    (subst (λ (two : TwoFiles). IsTableAt two.other c.args.address c.table_at-b.result) c.self.view_is c.table_at-b.ensures) c.first_rule.ensures
