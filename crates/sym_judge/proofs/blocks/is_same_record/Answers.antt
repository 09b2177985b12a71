use Rattle.std.proofs.Common.{sym, ap, ◌∙◌}
use Rattle.sym_records.specs.declared.line.SymLine.TheVariants as record_line
use Rattle.sym_judge.specs.internal.Blocks.{same_record}
use Rattle.sym_judge.proofs.blocks.is_same_record.Goals as goal

pub returns-in-Change : goal.returns-in-Change
returns-in-Change c =
    c.is_change_like.ensures c.args.both.now.own c.args.both.now.other
    ∙ ap (λ rules. same_record c.args.both.now.own c.args.both.now.other (record_line.Change c.in-Change.address rules) c.args.b.now) c.as_slice-in-Change.ensures
    ∙ ap (λ s. same_record c.args.both.now.own c.args.both.now.other s c.args.b.now) (sym c.in-Change.is)
