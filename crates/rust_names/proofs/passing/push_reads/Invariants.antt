use Rattle.std.proofs.Common.{◌≡◌, ◌++◌, map, take}
use Rattle.rust_names.specs.internal.Stepping.{read_of}
use Rattle.rust_names.proofs.passing.push_reads.Given as goal

abbrev pub invariant-frames : goal.invariant-frames
invariant-frames l = l.steps.items ≡ l.initial.steps.items ++ map read_of (take l.frame-index l.frames)
