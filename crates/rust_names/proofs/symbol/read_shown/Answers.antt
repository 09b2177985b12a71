use Rattle.std.proofs.Common.{Some, None, ap, ◌∙◌}
use Rattle.rust_names.specs.internal.Running.{at, shown_after}
use Rattle.rust_names.proofs.RunLemmas.{ended, passed, passed_lighter}
use Rattle.rust_names.proofs.symbol.read_shown.Goals as goal

pub returns-in_default-hidden : goal.returns-in_default-hidden
returns-in_default-hidden c =
    ap shown_after (c.paths.invariant.same ∙ ended c.args.name.now c.paths.rooms.shown.stack.items c.read_frames.new.room.stack.items _ _ c.read_frames.new.room.text.items c.read_frames.new.room.opened c.in-Some.stop (rw c.in-Some.is at c.in_ok-stop.ensures.read) c.in_default-hidden.is)

pub paths-smaller : goal.paths-smaller
paths-smaller c =
    passed_lighter c.args.name.now c.paths.rooms.shown.stack.items c.read_frames.new.room.stack.items _ _ c.read_frames.new.room.text.items c.read_frames.new.room.opened c.in-Some.stop c.in-Some-hidden.frame (rw c.in-Some.is at c.in_ok-stop.ensures.read) c.in-Some-hidden.is

pub paths-preserved : goal.paths-preserved
paths-preserved c = record {
  same =
      c.paths.invariant.same
      ∙ passed c.args.name.now c.paths.rooms.shown.stack.items c.read_frames.new.room.stack.items _ _ c.read_frames.new.room.text.items c.read_frames.new.room.opened c.in-Some.stop c.in-Some-hidden.frame (Some (at c.in-Some-2.next.rest.now c.read_frames.new.room.text.items c.in-Some-2.next.opened)) (rw c.in-Some.is at c.in_ok-stop.ensures.read) c.in-Some-hidden.is (rw c.in-Some-2.is at c.in_ok-next.ensures.read c.read_frames.new.room.text.items);
  ends = rw c.in-Some-2.is at c.in_ok-next.ensures.ends;
  constants = c.in_ok-stop.ensures.constants;
  known = c.in_ok-next.ensures.known;
}

pub returns-in-None : goal.returns-in-None
returns-in-None c =
    ap shown_after (c.paths.invariant.same ∙ passed c.args.name.now c.paths.rooms.shown.stack.items c.read_frames.new.room.stack.items _ _ c.read_frames.new.room.text.items c.read_frames.new.room.opened c.in-Some.stop c.in-Some-hidden.frame None (rw c.in-Some.is at c.in_ok-stop.ensures.read) c.in-Some-hidden.is (rw c.in-None.is at c.in_ok-next.ensures.read c.read_frames.new.room.text.items))
