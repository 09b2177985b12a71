use Rattle.std.proofs.Common.{sym, ◌∙◌}
use Rattle.full_image.proofs.SupFrontLemmas.{refused_cut}
use Rattle.full_image.proofs.supplement.pack_tables.Goals as goal

pub returns-in-Some : goal.returns-in-Some
returns-in-Some c = record { exact = refused_cut c.args.tables c.in-Some.fault c.requires (sym c.find_section_fault.ensures ∙ c.in-Some.is) }
