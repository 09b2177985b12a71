use Rattle.rust_names.proofs.JoinLemmas.{one_text}
use Rattle.rust_names.proofs.RecordLemmas.{one_list}
use Rattle.rust_names.proofs.laws.shown_texts_are_one.Goals as goal

pub returns-clause-text : goal.returns-clause-text
returns-clause-text c = one_text

pub returns-clause-records : goal.returns-clause-records
returns-clause-records c = one_list
