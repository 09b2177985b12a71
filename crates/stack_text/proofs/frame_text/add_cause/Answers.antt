use Rattle.stack_text.proofs.FrameTextLemmas.{unreadable_said}
use Rattle.stack_text.proofs.frame_text.add_cause.Goals as goal

pub returns-in_ok-extend_from_slice-in-Unreadable : goal.returns-in_ok-extend_from_slice-in-Unreadable
returns-in_ok-extend_from_slice-in-Unreadable c = unreadable_said _ _ _ _ _ _ c.in-Unreadable.is c.in_ok-extend_from_slice-in-Unreadable.ensures.items c.add_hex.ensures
