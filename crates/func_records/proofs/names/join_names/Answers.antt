use Rattle.std.proofs.Common.{arith}
use Rattle.std.proofs.lemmas.List.{nil_from_length}
use Rattle.func_records.proofs.ShareLemmas.{pop_next, pop_all}
use Rattle.func_records.proofs.names.join_names.Goals as goal

pub shares-preserved : goal.shares-preserved
shares-preserved c = pop_next (λ one. one.items) c.shares.left.items c.pop.new.self.items _ c.shares.texts.items _ _ c.in-Some.ensures.items c.in_ok-append.ensures.items c.shares.invariant

pub returns : goal.returns
returns c = pop_all (λ one. one.items) c.shares.left.items c.shares.texts.items _ (nil_from_length _ (omega (arith, c.in_default.ensures.cases, c.shares.left.ok.0))) c.shares.invariant
