use Rattle.std.proofs.Common.{◌≡◌, ◌++◌, sym, ◌∙◌, ap, arith, take, append_assoc}
use Rattle.std.proofs.lemmas.Grind.{common_steps}
use Rattle.sym_edges.specs.Outside.{append_told}
use Rattle.sym_edges.proofs.WritingLemmas.{told_twice, adds_front}
use Rattle.sym_edges.proofs.output.write_all.Goals as goal

pub pieces-preserved : goal.pieces-preserved
pieces-preserved g c =
    let taken = c.in-Ok.ensures.taken in
    let whole : c.pieces.rest.now ≡ take c.in-Ok.count c.pieces.rest.now ++ c.split_at.result.1.now = grind (arith, common_steps) in
    let told = g.O.Sink.taken c.args.sink.now in
    record {
      faults = omega arith;
      rest = ap (λ t. append_told t c.split_at.result.1.now) taken
          ∙ told_twice (g.O.Sink.taken c.pieces.sink) (take c.in-Ok.count c.pieces.rest.now) c.split_at.result.1.now
          ∙ ap (append_told (g.O.Sink.taken c.pieces.sink)) (sym whole) ∙ c.pieces.invariant.rest;
      front = (
        c.pieces.invariant.front.0 ++ take c.in-Ok.count c.pieces.rest.now,
        c.pieces.invariant.front.1 ∙ ap (λ r. c.pieces.invariant.front.0 ++ r) whole ∙ sym (append_assoc c.pieces.invariant.front.0 (take c.in-Ok.count c.pieces.rest.now) c.split_at.result.1.now),
        taken ∙ ap (λ t. append_told t (take c.in-Ok.count c.pieces.rest.now)) c.pieces.invariant.front.2
            ∙ told_twice told c.pieces.invariant.front.0 (take c.in-Ok.count c.pieces.rest.now),
      );
    }

pub returns-in-Err-clause-front : goal.returns-in-Err-clause-front
returns-in-Err-clause-front g c =
    adds_front _ _ _ c.pieces.invariant.front.0 c.pieces.rest.now c.pieces.invariant.front.1 (c.in-Err.ensures.refused ∙ c.pieces.invariant.front.2)
