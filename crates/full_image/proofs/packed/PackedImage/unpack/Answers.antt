use Rattle.full_image.proofs.FrontLemmas.{unpacked}
use Rattle.full_image.proofs.packed.PackedImage.unpack.Goals as goal

pub returns-then-self : goal.returns-then-self
returns-then-self c = record { exact = unpacked c.args.self c.self.inside.full c.self.inside.tables c.self.inside.plain c.args.inflated.now c.inflate_parts.result c.self.view_is c.if-self.true c.self.invariant.front c.self.invariant.plain_is c.requires c.inflate_parts.ensures.exact }
