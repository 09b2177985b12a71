use Rattle.dumpsyms_cmd.specs.Words.{source_view}
use Rattle.dumpsyms_cmd.proofs.SourceLemmas.{dump_asked}
use Rattle.dumpsyms_cmd.proofs.commands.answer_dump.Goals as goal

pub returns-clause-asked : goal.returns-clause-asked
returns-clause-asked g c = dump_asked _ (source_view c.args.source.now) c.args.watched.now.crew _ _ _ c.answer_source.ensures.asked
