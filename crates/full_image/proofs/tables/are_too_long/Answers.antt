use Rattle.std.proofs.Common.{◌≡◌, sym, ap, arith, get_or, None}
use Rattle.std.specs.Option.{option_map}
use Rattle.full_image.specs.StreamView.{stream_view}
use Rattle.full_image.specs.FullImage.{size_of}
use Rattle.full_image.proofs.SizeLemmas.{size_past, size_within}
use Rattle.full_image.proofs.tables.are_too_long.Goals as goal

pub returns-then-stream-left : goal.returns-then-stream-left
returns-then-stream-left c =
    let size : size_of (option_map stream_view (get_or c.args.streams.now c.streams.stream-index None)) ≡ c.in-Some.stream.size = ap (λ o. size_of (option_map stream_view o)) c.in-Some.is in
    sym (size_past (option_map stream_view) c.args.streams.now c.streams.stream-index c.streams.left None (omega arith) c.streams.invariant (omega (arith, size, c.if-stream-left.true)))

pub returns : goal.returns
returns c = sym (size_within (option_map stream_view) c.args.streams.now c.streams.stream-index c.streams.left (omega arith) c.streams.invariant)
