use Rattle.std.proofs.Common.{subst}
use Rattle.std.specs.List.{All}
use Rattle.debug_read.specs.internal.Jobs.{NameParts}
use Rattle.debug_read.specs.internal.Owing.{IsTable}
use Rattle.debug_read.proofs.named_tables.read_tables.Goals as goal

pub returns : goal.returns
returns g c =
    subst (λ (p : NameParts). All (IsTable p.code p.sections) c.in_ok-tables.tables.items) c.of-job.ensures c.in_ok-tables.ensures.each
