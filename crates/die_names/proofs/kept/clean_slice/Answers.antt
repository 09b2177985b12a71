use Rattle.std.proofs.Common.{sym, ap, ◌∙◌}
use Rattle.std.proofs.lemmas.Slice.Eq.{bytes_eq-Decides}
use Rattle.clean_names.specs.Cleaning.{cleaned}
use Rattle.die_names.proofs.TextLemmas.{slice_bytes}
use Rattle.die_names.proofs.kept.clean_slice.Goals as goal

pub returns-then-is_clean-clause-name : goal.returns-then-is_clean-clause-name
returns-then-is_clean-clause-name c =
    sym (ap cleaned (slice_bytes _ _ _ (sym c.in_ok-bytes.ensures)) ∙ (bytes_eq-Decides (cleaned c.in_ok-bytes.bytes.now) c.in_ok-bytes.bytes.now).0 (sym c.is_clean.ensures ∙ c.if-is_clean.true))

pub returns-then-is_clean-clause-clean : goal.returns-then-is_clean-clause-clean
returns-then-is_clean-clause-clean c = (bytes_eq-Decides (cleaned c.in_ok-bytes.bytes.now) c.in_ok-bytes.bytes.now).0 (sym c.is_clean.ensures ∙ c.if-is_clean.true)
