use Rattle.std.proofs.Common.{◌≡◌, ◌+◌, ◌^◌, map, take}
use Rattle.std.specs.List.{sum_by}
use Rattle.std.specs.Option.{option_map}
use Rattle.full_image.specs.StreamView.{stream_view}
use Rattle.full_image.specs.FullImage.{size_of}
use Rattle.full_image.proofs.tables.are_too_long.Given as goal

abbrev pub invariant-streams : goal.invariant-streams
invariant-streams l = l.left + sum_by size_of (map (option_map stream_view) (take l.stream-index l.streams)) ≡ 2 ^ 29
