use Rattle.std.proofs.Common.{rules, not}
use Rattle.std.proofs.lemmas.Fn.{filter_same}
use Rattle.frame_entries.specs.Raw.{Raw}
use Rattle.frame_entries.specs.FrameEntries.{is_cie}
use Rattle.frame_entries.proofs.entry_list.keep_fdes.Goals as goal

pub returns : goal.returns
returns c = filter_same _ (λ (raw : Raw). not (is_cie c.args.which raw)) _ (λ raw b f says. search rules) _ _ c.retain.ensures.filtered
