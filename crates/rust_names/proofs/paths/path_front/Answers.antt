use Rattle.std.proofs.Common.{sym, ◌∙◌}
use Rattle.rust_names.proofs.PathLemmas.{begins}
use Rattle.rust_names.proofs.paths.path_front.Goals as goal

pub returns-then-b-letter-clause-is : goal.returns-then-b-letter-clause-is
returns-then-b-letter-clause-is c =
    (c.if-frame-eq0.false, sym c.is_path.ensures ∙ c.if-not-is_path.false, begins c.in-Some.b c.args.letter c.in-Some.after.now c.args.bytes.now c.in-Some.ensures.front c.if-b-letter.true)
