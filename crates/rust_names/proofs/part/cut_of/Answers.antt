use Rattle.std.proofs.Common.{arith}
use Rattle.rust_names.proofs.part.cut_of.Goals as goal

pub returns-in-Some-clause-shorter : goal.returns-in-Some-clause-shorter
returns-in-Some-clause-shorter c = omega (arith, c.split_at-in-Some.ensures.back_len, c.split_at.ensures.back_len, c.split_at.ensures.front_len, c.in-Some.ensures.some)
