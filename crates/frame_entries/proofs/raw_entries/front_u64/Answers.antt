use Rattle.std.proofs.Common.{ap, ◌∙◌}
use Rattle.leb_cursor.specs.Readings.{fixed_at}
use Rattle.frame_entries.proofs.PlaceLemmas.{front_there}
use Rattle.frame_entries.proofs.raw_entries.front_u64.Goals as goal

pub returns-in-Err : goal.returns-in-Err
returns-in-Err c = front_there 8 0 c.args.bytes.now c.in-Err.field-0 (c.in-Err.ensures.read ∙ ap (fixed_at 8) c.cursor_over.ensures) c.requires
