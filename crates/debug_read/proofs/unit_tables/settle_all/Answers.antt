use Rattle.std.proofs.Common.{arith, rules, subst}
use Rattle.std.proofs.lemmas.List.{nil_from_length}
use Rattle.debug_read.specs.internal.Owing.{Settles}
use Rattle.debug_read.proofs.JobLemmas.{joining_begins, joining_more, joining_fault, joining_ends}
use Rattle.debug_read.proofs.unit_tables.settle_all.Goals as goal

pub units-init : goal.units-init
units-init c = λ spans same units owing. joining_begins spans c.args.known.now.sections.now units c.args.found.items _ _ (search rules) (search rules) owing

pub units-preserved : goal.units-preserved
units-preserved c = λ spans same units owing.
    joining_more spans c.args.known.now.sections.now units c.units.left.items c.pop.new.self.items c.units.parts.items c.push.new.self.items c.in-Some.one c.in-Ok.part
    (c.units.invariant spans same units owing) c.in-Some.ensures.items (subst (Settles spans c.args.known.now.sections.now c.in-Some.one) c.in-Ok.is (c.in_ok-part.ensures spans same)) c.in_ok-push-in-Ok.ensures.items

pub returns-in-Err : goal.returns-in-Err
returns-in-Err c = λ spans same units owing.
    joining_fault spans c.args.known.now.sections.now units c.units.left.items c.pop.new.self.items c.units.parts.items c.in-Some.one c.in-Err.fault
    (c.units.invariant spans same units owing) c.in-Some.ensures.items (subst (Settles spans c.args.known.now.sections.now c.in-Some.one) c.in-Err.is (c.in_ok-part.ensures spans same))

pub returns : goal.returns
returns c = λ spans same units owing.
    joining_ends spans c.args.known.now.sections.now units c.units.left.items c.units.parts.items (c.units.invariant spans same units owing)
    (nil_from_length _ (omega (arith, c.in_default.ensures.cases, c.units.left.ok.0)))
