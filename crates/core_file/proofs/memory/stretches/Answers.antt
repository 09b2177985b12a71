use Rattle.std.proofs.Common.{◌≡◌, ◌++◌, [], sym, ◌∙◌, ap}
use Rattle.std.proofs.lemmas.List.{nil_from_length}
use Rattle.core_file.specs.internal.Firsts.{stretches_of}
use Rattle.core_file.proofs.MemoryLemmas.{stretches_end}
use Rattle.core_file.proofs.memory.stretches.Goals as goal

pub returns-clause-all : goal.returns-clause-all
returns-clause-all c =
    let e : c.segments.rest.now ≡ [] = nil_from_length c.segments.rest.now c.in_default.ensures.cases in
    sym (stretches_end c.args.file.now c.segments.index c.segments.stretches.items)
    ∙ sym (ap (λ l. c.segments.stretches.items ++ stretches_of c.args.file.now c.segments.index l) e)
    ∙ c.segments.invariant.all
