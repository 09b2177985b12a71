use Rattle.std.proofs.Common.{false, refl}
use Rattle.line_program.specs.internal.Needed.{needed}
use Rattle.line_program.proofs.NeededLemmas.{needed_one, needed_all}
use Rattle.line_program.proofs.tables.keep_needed.Goals as goal

pub pairs-preserved : goal.pairs-preserved
pairs-preserved c =
    needed_one c.args.pairs.now c.pairs.kept.items c.push.new.self.items (needed false false c.args.pairs.now) c.pairs.place _ _ c.pairs.path c.pairs.directory c.is_seen-path.result c.is_seen-directory.result
    c.pairs-test.true refl c.if-is_idle.ensures c.in_ok-push.ensures.items c.is_seen-path.ensures c.is_seen-directory.ensures c.pairs.invariant

pub returns : goal.returns
returns c = needed_all c.args.pairs.now c.pairs.kept.items (needed false false c.args.pairs.now) c.pairs.place c.pairs.path c.pairs.directory c.pairs-test.false c.pairs.invariant
