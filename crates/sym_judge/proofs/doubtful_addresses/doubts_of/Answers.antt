use Rattle.std.proofs.Common.{false, sym, subst}
use Rattle.sym_judge.proofs.DoubtLemmas.{AreDoubtsTo, nothing_doubted}
use Rattle.sym_judge.proofs.doubtful_addresses.doubts_of.Goals as goal

pub runs-init : goal.runs-init
runs-init c = subst (λ d. AreDoubtsTo c.args.half c.args.both.now.own c.args.both.now.other 0 false d) (sym c.new-doubts.ensures) (nothing_doubted c.args.half c.args.both.now.own c.args.both.now.other)
