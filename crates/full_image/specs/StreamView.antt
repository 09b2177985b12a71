-- The data of a compressed section, as the specs see it.
use Rattle.full_image.specs.Compressed.{Stream}
use Rattle.full_image.specs.declared.stream.Stream as code

abbrev pub stream_view : code.Stream → Stream
stream_view s = record { bytes = s.bytes.now; size = s.size }
