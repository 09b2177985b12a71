use Rattle.std.proofs.Common.{nat_lt, length, rules, arith}
use Rattle.std.proofs.lemmas.List.Sorted.{IsPartitionPoint-from_clause, IsPartitionedBy-ltb}
use Rattle.sym_lookup.specs.declared.under.Under.{Under}
use Rattle.sym_lookup.proofs.HeldLemmas.{held_rise, none_there, other_there, one_there}
use Rattle.sym_lookup.proofs.under.under_at.Goals as goal

pub returns-then-at-unders-clause-held : goal.returns-then-at-unders-clause-held
returns-then-at-unders-clause-held c = λ lines held.
    none_there lines c.args.unders.now c.args.func c.partition_point-at.result held
    (IsPartitionPoint-from_clause (λ (u : Under). nat_lt u.func c.args.func) _ _ c.partition_point-at.ensures.partitioned (IsPartitionedBy-ltb (λ (u : Under). u.func) _ _ (held_rise lines 0 (length lines) c.args.unders.now held)) (λ a r q k. search rules))
    (λ d l e. omega arith)

pub returns-then-under-func-clause-held : goal.returns-then-under-func-clause-held
returns-then-under-func-clause-held c = λ lines held.
    other_there lines c.args.unders.now c.args.func c.partition_point-at.result c.index-unders-at.result held
    (IsPartitionPoint-from_clause (λ (u : Under). nat_lt u.func c.args.func) _ _ c.partition_point-at.ensures.partitioned (IsPartitionedBy-ltb (λ (u : Under). u.func) _ _ (held_rise lines 0 (length lines) c.args.unders.now held)) (λ a r q k. search rules))
    c.index-unders-at.is (omega arith) (search rules)

pub returns-clause-held : goal.returns-clause-held
returns-clause-held c = λ lines held. one_there lines c.args.unders.now c.args.func c.partition_point-at.result c.index-unders-at.result held c.index-unders-at.is (omega arith) (search rules)
