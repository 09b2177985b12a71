use Rattle.std.proofs.Common.{◌≡◌, ◌≤◌, length, reverse}
use Rattle.rust_names.specs.internal.Passing.{AreConstants, IsEnd}
use Rattle.rust_names.specs.internal.Running.{at, run, weight}
use Rattle.rust_names.proofs.turns.read_frames.Given as goal

abbrev pub invariant-frames : goal.invariant-frames
invariant-frames l = record {
  same : run l.name (reverse l.initial.room.stack.items) (at l.begin l.initial.room.text.items l.initial.room.opened) ≡ run l.name (reverse l.room.stack.items) (at l.rest l.room.text.items l.room.opened);
  lighter : weight (length l.name) l.room.stack.items ≤ weight (length l.name) l.initial.room.stack.items;
  ends : IsEnd l.name l.rest;
  constants : AreConstants l.name l.room.constants;
}

abbrev pub decreases-frames : goal.decreases-frames
decreases-frames l = weight (length l.name) l.room.stack.items
