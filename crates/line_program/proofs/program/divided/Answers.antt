use Rattle.std.proofs.Common.{◌*◌, ◌/◌, arith}
use Rattle.line_program.proofs.NumberLemmas.{quotient_by, rest_is, few_by}
use Rattle.line_program.proofs.program.divided.Goals as goal

pub overflow_sub-result : goal.overflow_sub-result
overflow_sub-result c =
    few_by c.from.result c.args.number c.args.by c.args.factor c.from.ensures (omega (arith, c.ranges.number.fits)) c.requires.some (omega (arith, c.ranges.by.fits)) c.requires.factor

pub overflow_mul-result : goal.overflow_mul-result
overflow_mul-result c =
    omega (arith, overflow_sub-result c, c.ranges.number.fits)

pub returns-clause-quotient : goal.returns-clause-quotient
returns-clause-quotient c =
    quotient_by c.from.result c.args.number c.args.by c.args.factor c.from.ensures (omega (arith, c.ranges.number.fits)) c.requires.some (omega (arith, c.ranges.by.fits)) c.requires.factor

pub returns-clause-rest : goal.returns-clause-rest
returns-clause-rest c =
    rest_is c.args.number c.args.by (c.from.result * c.args.factor / 65536) (returns-clause-quotient c)
