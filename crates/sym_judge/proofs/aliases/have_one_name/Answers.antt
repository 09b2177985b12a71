use Rattle.std.proofs.Common.{nat_eq, refl}
use Rattle.sym_judge.proofs.AliasLemmas.{both_named}
use Rattle.sym_judge.proofs.aliases.have_one_name.Goals as goal

pub returns-in-Some-Some : goal.returns-in-Some-Some
returns-in-Some-Some c = both_named c.args.aliases.now _ _ c.args.a c.args.b c.in-Some-Some.a c.in-Some-Some.b c.as_slice.ensures.value c.as_slice-2.ensures.value c.in-Some-Some.ensures c.in-Some-Some.ensures' (nat_eq c.in-Some-Some.a c.in-Some-Some.b) refl
