use Rattle.sym_judge.proofs.BlockLemmas.{line_like}
use Rattle.sym_judge.proofs.blocks.is_line_like.Goals as goal

pub returns-then-is_same_run : goal.returns-then-is_same_run
returns-then-is_same_run c =
    line_like c.args.both.now.own c.args.both.now.other c.args.found.now c.args.run.address c.args.run.size c.args.line c.args.file c.in-Line.address c.in-Line.size c.in-Line.number c.in-Line.path c.is_same_run.result c.is_same_source.result
    c.in-Line.is c.is_same_run.ensures c.if-is_same_run.true c.is_same_source.ensures
