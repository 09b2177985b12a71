use Rattle.std.proofs.Common.{◌∙◌}
use Rattle.sym_judge.proofs.StopLemmas.{half_told}
use Rattle.sym_judge.proofs.judgement.half_ruling.Goals as goal

pub returns : goal.returns
returns c =
    half_told c.args.half c.args.both.now.own c.args.both.now.other c.lines.result.now c.lines-2.result.now _ c.in_ok-doubts.doubts _ _ _ c.in_ok-compared.ensures (c.lines.ensures ∙ c.own.ensures) (c.lines-2.ensures ∙ c.other.ensures) c.in_ok-doubts.ensures
    c.in_ok-stops.ensures c.as_slice-2.ensures.value c.in_ok-ruling.ensures.is c.in_ok-ruling.ensures.fits
