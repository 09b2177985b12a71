use Rattle.std.proofs.Common.{nat_eq, refl, arith}
use Rattle.sym_judge.proofs.RuleAliasLemmas.{both_told}
use Rattle.sym_judge.proofs.rule_aliases.have_one_text.Goals as goal

pub returns-then-a-b : goal.returns-then-a-b
returns-then-a-b c =
    both_told c.args.aliases.now _ _ c.args.a c.args.b c.in-Some-Some.a c.in-Some-Some.b c.in-Some-Some-2.a c.in-Some-Some-2.b c.in-Some-Some.is-0 c.in-Some-Some.is-1 c.as_slice.ensures.value c.as_slice-2.ensures.value
    c.in-Some-Some-2.ensures c.in-Some-Some-2.ensures' (omega arith) (nat_eq c.in-Some-Some-2.a.rule c.in-Some-Some-2.b.rule) refl
