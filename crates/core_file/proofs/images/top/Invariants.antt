use Rattle.std.proofs.Common.{◌≡◌, ◌+◌, ◌<◌, ◌^◌, length}
use Rattle.std.specs.Prelude.{map, filter, fold, max}
use Rattle.core_file.specs.LoadedImages.{is_load, top}
use Rattle.core_file.proofs.images.top.Given as goal

abbrev pub invariant-headers : goal.invariant-headers
invariant-headers l = record {
  left : fold max l.top (map (λ s. s.address + s.memory_size) (filter is_load l.rest)) ≡ top l.fn.headers;
  small : l.top < 2 ^ 66;
}

abbrev pub decreases-headers : goal.decreases-headers
decreases-headers l = length l.rest
