use Rattle.std.proofs.Common.{◌≡◌, map, take}
use Rattle.std.specs.Option.{option_map}
use Rattle.full_image.specs.Compressed.{stream_of}
use Rattle.full_image.specs.StreamView.{stream_view}
use Rattle.full_image.proofs.tables.collect_streams.Given as goal

abbrev pub invariant-sections : goal.invariant-sections
invariant-sections l = map (option_map stream_view) l.found.items ≡ map (stream_of l.file l.names) (take l.section-index l.sections)
