use Rattle.std.proofs.Common.{arith}
use Rattle.sym_judge.proofs.StopLemmas.{stops_more, stops_end}
use Rattle.sym_judge.proofs.judgement.with_stops.Goals as goal

pub stops-preserved : goal.stops-preserved
stops-preserved c = record {
  is = stops_more c.args.compared.now.half c.args.compared.now.own c.args.compared.now.other c.stops.known c.in_ok-known.known _ c.args.stops.now c.stops.at _ c.stops.invariant.is (omega arith) c.in_ok-known.ensures.is;
  fits = c.in_ok-known.ensures.fits c.stops.invariant.fits;
}

pub returns-clause-is : goal.returns-clause-is
returns-clause-is c = stops_end c.args.compared.now.half c.args.compared.now.own c.args.compared.now.other c.stops.known _ c.args.stops.now c.stops.at c.stops.invariant.is (omega arith)
