use Rattle.std.proofs.Common.{◌≡◌, ◌++◌, [], sym, ◌∙◌, ap}
use Rattle.std.proofs.lemmas.List.{nil_from_length}
use Rattle.module_stacks.specs.internal.ModuleStretches.{stretches_from}
use Rattle.module_stacks.proofs.ModuleLemmas.{stretches_end}
use Rattle.module_stacks.proofs.module_map.stretches_of.Goals as goal

pub returns-clause-all : goal.returns-clause-all
returns-clause-all c =
    let e : c.modules.rest.now ≡ [] = nil_from_length c.modules.rest.now c.in_default.ensures.cases in
    sym (stretches_end c.modules.index c.modules.stretches.items)
    ∙ sym (ap (λ l. c.modules.stretches.items ++ stretches_from c.modules.index l) e)
    ∙ c.modules.invariant.all
