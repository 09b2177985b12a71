use Rattle.rust_names.proofs.LeafLemmas.{bytes_more, bytes_none, bytes_end}
use Rattle.rust_names.proofs.leaves.bytes_of.Goals as goal

pub pairs-preserved : goal.pairs-preserved
pairs-preserved c = bytes_more c.args.digits.now c.pairs.rest.now c.in-Some.more.now c.in-Some-byte_in_front.after.now c.pairs.bytes.items c.push.new.self.items c.in-Some.a c.in-Some-byte_in_front.b c.pairs.invariant c.in-Some.ensures.front c.in-Some-byte_in_front.ensures.byte c.in_ok-push-in-Some-byte_in_front.ensures.items

pub returns-in-None : goal.returns-in-None
returns-in-None c = bytes_none c.args.digits.now c.pairs.rest.now c.in-Some.more.now c.pairs.bytes.items c.in-Some.a c.pairs.invariant c.in-Some.ensures.front c.in-None.ensures.byte

pub returns : goal.returns
returns c = bytes_end c.args.digits.now c.pairs.rest.now c.pairs.bytes.items c.pairs.invariant c.in_default.ensures.front
