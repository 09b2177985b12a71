use Rattle.std.proofs.Common.{sym, ◌∙◌}
use Rattle.full_image.proofs.FrontLemmas.{refused_sections, loaded_stopped}
use Rattle.full_image.proofs.packed.pack_tables.Goals as goal

pub returns-in-Some : goal.returns-in-Some
returns-in-Some c = record { exact = refused_sections c.args.full c.args.tables c.in-Some.fault c.requires (sym c.find_fault.ensures ∙ c.in-Some.is) }

pub returns-in-Err : goal.returns-in-Err
returns-in-Err c = record { exact = loaded_stopped _ _ c.args.full c.args.tables c.in-Err.stop c.requires (sym c.find_fault.ensures ∙ c.in_default.is) c.in-Err.ensures.read }
