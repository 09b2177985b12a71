use Rattle.std.proofs.Common.{◌≡◌, length, reverse}
use Rattle.rust_names.specs.internal.Passing.{AreConstants, IsEnd}
use Rattle.rust_names.specs.internal.Stepping.{AreHidden}
use Rattle.rust_names.specs.internal.Running.{at, run, weight}
use Rattle.rust_names.proofs.symbol.read_shown.Given as goal

abbrev pub invariant-paths : goal.invariant-paths
invariant-paths l = record {
  same : run l.name (reverse l.initial.rooms.shown.stack.items) (at l.name l.initial.rooms.shown.text.items l.initial.rooms.shown.opened) ≡ run l.name (reverse l.rooms.shown.stack.items) (at l.rest l.rooms.shown.text.items l.rooms.shown.opened);
  ends : IsEnd l.name l.rest;
  constants : AreConstants l.name l.rooms.shown.constants;
  known : AreHidden l.name l.rooms.hidden.parts.known;
}

abbrev pub decreases-paths : goal.decreases-paths
decreases-paths l = weight (length l.name) l.rooms.shown.stack.items
