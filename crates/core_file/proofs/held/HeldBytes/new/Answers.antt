use Rattle.std.proofs.Common.{refl, ◌^◌}
use Rattle.core_file.proofs.KeepLemmas.{new_stream, new_bytes}
use Rattle.core_file.proofs.held.HeldBytes.new.Goals as goal

pub invariant_of-result : goal.invariant_of-result
invariant_of-result c = new_stream _ refl refl refl refl c.new.ensures.items c.new-2.ensures.items c.new-3.ensures.items

pub returns : goal.returns
returns c = new_bytes (record { size = 4096; limit = 2 ^ 40; room = 2 ^ 32; count = 0; places = c.new.result; held = c.new-2.result; tail = c.new-3.result }) c.new.ensures.items c.new-3.ensures.items
