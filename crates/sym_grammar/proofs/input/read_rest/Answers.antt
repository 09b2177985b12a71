use Rattle.std.proofs.Common.{rules, ◌≡◌, refl, ◌∙◌, arith, length}
use Rattle.std.specs.Prelude.{⊤}
use Rattle.sym_grammar.proofs.InputLemmas.{start_read, next_read, stopped_read, ended_read, longer_read}
use Rattle.sym_grammar.proofs.input.read_rest.Goals as goal

pub pieces-init : goal.pieces-init
pieces-init g c = record {
  asked = refl;
  files = refl;
  faults = omega arith;
  steady = refl;
  room = search rules;
  read = start_read c.args.limit _ c.new-reader.result c.new-reader.ensures.reads c.new-reader.ensures.nothing;
}

pub returns-then-read-eq0-clause-read : goal.returns-then-read-eq0-clause-read
returns-then-read-eq0-clause-read g c =
    ended_read c.args.limit _ _ _ c.pieces.reader c.pieces.count _ _ _ c.end.result _ _ c.pieces.invariant.read c.in-Ok.ensures.taken c.if-read-eq0.true (omega (arith, c.pieces.invariant.room, c.requires.some)) (omega (arith, c.pieces-test.true)) c.end.ensures

pub returns-in-Err-feed-clause-read : goal.returns-in-Err-feed-clause-read
returns-in-Err-feed-clause-read g c =
    stopped_read ⊤ _ c.args.limit _ _ _ c.pieces.reader c.feed.new.self c.pieces.count c.in-Ok.read c.min-kept.result _ _ _ c.in-Err-feed.stop c.refused.result _ _ c.pieces.invariant.read c.in-Ok.ensures.taken (omega (arith, c.pieces-test.true)) c.min-kept.ensures c.split_at.ensures.front c.in-Err-feed.ensures.feeds c.in-Err-feed.ensures.decides c.refused.ensures

pub pieces-preserved : goal.pieces-preserved
pieces-preserved g c = record {
  asked = c.read.ensures.asked ∙ c.pieces.invariant.asked;
  files = c.read.ensures.files ∙ c.pieces.invariant.files;
  faults = omega (arith, c.read.ensures.faults, c.pieces.invariant.faults);
  steady = c.in-Ok.ensures.steady ∙ c.pieces.invariant.steady;
  room = search rules;
  read = next_read c.args.limit _ _ _ c.pieces.reader c.feed.new.self c.pieces.count c.in-Ok.read c.min-kept.result _ _ _ _ c.pieces.invariant.read c.in-Ok.ensures.taken (omega (arith, c.pieces-test.true)) (let long : length c.read.new.buf ≡ c.args.room = search rules in omega (arith, long, c.in-Ok.ensures.within, c.pieces.invariant.room)) c.min-kept.ensures c.split_at.ensures.front c.in-Ok-feed.ensures.feeds c.in-Ok-feed.ensures.eager c.in-Ok-feed.ensures.stop refl;
}

pub returns-clause-read : goal.returns-clause-read
returns-clause-read g c = longer_read c.args.limit _ _ c.pieces.reader c.pieces.count 0 0 c.pieces.invariant.read (omega (arith, c.pieces-test.false))
