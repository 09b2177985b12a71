use Rattle.std.proofs.Common.{sym, ◌∙◌}
use Rattle.core_file.proofs.NameLemmas.{slash_done}
use Rattle.core_file.proofs.names.behind_slash.Goals as goal

pub returns : goal.returns
returns c = sym (slash_done c.bytes.rest.now c.bytes.name.now c.in_default.ensures.cases) ∙ c.bytes.invariant
