use Rattle.frame_rows.proofs.EntryLemmas.{rows_sound}
use Rattle.frame_rows.proofs.laws.rows_are_sound.Goals as goal

pub returns-clause-sound : goal.returns-clause-sound
returns-clause-sound c = λ e a none. rows_sound e a none
