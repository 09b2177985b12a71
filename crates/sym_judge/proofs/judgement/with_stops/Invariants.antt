use Rattle.std.proofs.Common.{◌≡◌, drop}
use Rattle.sym_judge.specs.declared.ruling.Ruling.TheVariants.{Yes}
use Rattle.sym_judge.specs.internal.Stops.{with_stops, Fits}
use Rattle.sym_judge.proofs.judgement.with_stops.Given as goal

abbrev pub invariant-stops : goal.invariant-stops
invariant-stops l = record {
  is : with_stops l.compared.half l.compared.own l.compared.other l.known (drop l.at l.stops) ≡ with_stops l.compared.half l.compared.own l.compared.other Yes l.stops;
  fits : Fits l.known;
}
