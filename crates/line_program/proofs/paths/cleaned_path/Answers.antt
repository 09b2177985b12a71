use Rattle.std.proofs.Common.{sym, ◌∙◌}
use Rattle.std.proofs.lemmas.Slice.Eq.{bytes_eq-Decides}
use Rattle.clean_names.specs.Cleaning.{cleaned}
use Rattle.line_program.proofs.paths.cleaned_path.Goals as goal

pub returns-then-is_clean : goal.returns-then-is_clean
returns-then-is_clean c = sym ((bytes_eq-Decides (cleaned c.args.path.now) c.args.path.now).0 (sym c.is_clean.ensures ∙ c.if-is_clean.true))
