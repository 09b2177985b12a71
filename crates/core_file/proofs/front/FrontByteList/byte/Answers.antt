use Rattle.std.proofs.Common.{◌≡◌, ◌+◌, ◌<◌, ◌^◌, length, sym, ◌∙◌, ap, arith}
use Rattle.core_file.proofs.FrontLemmas.{front_below}
use Rattle.core_file.proofs.front.FrontByteList.byte.Goals as goal

pub overflow_add-self-inside : goal.overflow_add-self-inside
overflow_add-self-inside c =
    let s : length c.args.self.now ≡ c.self.inside.size = ap length (sym c.self.view_is) ∙ c.self.invariant in
    let below : c.self.inside.address + c.args.at < 2 ^ 64 = front_below c.self.inside.memory.now c.self.inside.address c.self.inside.size c.args.at c.self.invariant (omega arith) in
    omega arith
