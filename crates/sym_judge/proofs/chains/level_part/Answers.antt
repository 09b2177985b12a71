use Rattle.std.proofs.Common.{ap, sym, subst, ◌∷◌, []}
use Rattle.std.specs.Option.{is_some}
use Rattle.sym_judge.specs.internal.Chains.{IsPart, calls_there}
use Rattle.sym_judge.proofs.ChainLemmas.{one_call}
use Rattle.sym_judge.proofs.chains.level_part.Goals as goal

pub returns-clause-part : goal.returns-clause-part
returns-clause-part c =
    subst (λ o. IsPart c.args.calls.now.own c.call_number.new.numbers.entries.items (calls_there c.args.calls.now.other o) (is_some o) c.numbered.result) (sym c.in-Some.is)
    (c.numbered.ensures _ _ _ (one_call c.args.calls.now.own _ _ c.in-Some-at.call _ (ap (λ call. call ∷ []) (sym c.in-Some-at.ensures)) c.in_ok-number.ensures.number))
