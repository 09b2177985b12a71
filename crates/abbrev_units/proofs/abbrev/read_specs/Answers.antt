use Rattle.abbrev_units.specs.internal.Used.{used_spec_at}
use Rattle.abbrev_units.proofs.BehindLemmas.{ends}
use Rattle.abbrev_units.proofs.abbrev.read_specs.Goals as goal

pub returns-in-Ok-None-clause-read : goal.returns-in-Ok-None-clause-read
returns-in-Ok-None-clause-read c =
    ends (used_spec_at c.args.forms.now) _ c.specs.cursor c.read_spec.new.cursor c.in-Ok-None.field-0 _ c.specs.invariant.rest c.in-Ok-None.ensures c.in-Ok-None.field-0-is
