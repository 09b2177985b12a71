use Rattle.full_image.proofs.SupFrontLemmas.{unpacked_sup}
use Rattle.full_image.proofs.supplement.PackedSup.unpack.Goals as goal

pub returns : goal.returns
returns c = record { exact = unpacked_sup c.args.self c.self.inside.tables c.self.inside.plain c.args.inflated.now c.inflate_parts.result c.self.view_is c.self.invariant.front c.self.invariant.plain_is c.requires c.inflate_parts.ensures.exact }
