use Rattle.std.proofs.Common.{inl, inr}
use Rattle.sym_judge.proofs.ChainLemmas.{no_calls, same_calls}
use Rattle.sym_judge.proofs.chains.have_one_number.Goals as goal

pub returns-in-Nothing : goal.returns-in-Nothing
returns-in-Nothing c = no_calls c.args.a c.args.b c.is_nothing.result c.in-Nothing.is c.is_nothing.ensures

pub returns-in-Whole : goal.returns-in-Whole
returns-in-Whole c = same_calls c.args.a c.args.b c.in-Whole.number c.has_number.result (inl c.in-Whole.is) c.has_number.ensures

pub returns-in-Ended : goal.returns-in-Ended
returns-in-Ended c = same_calls c.args.a c.args.b c.in-Ended.number c.has_number-in-Ended.result (inr c.in-Ended.is) c.has_number-in-Ended.ensures
