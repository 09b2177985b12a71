use Rattle.std.proofs.Common.{sym, ◌∙◌}
use Rattle.clean_names.proofs.SkipLemmas.{skip_front}
use Rattle.clean_names.proofs.cleaner.after_blocks.Goals as goal

pub passed-preserved : goal.passed-preserved
passed-preserved c =
    skip_front c.passed.rest.now c.split_at.result.0.now c.split_at.result.1.now 64 c.split_at.ensures.front c.split_at.ensures.back (sym c.are_spaces.ensures ∙ c.if-not-are_spaces.false) ∙ c.passed.invariant
