use Rattle.std.proofs.Common.{◌++◌, arith, length-append}
use Rattle.core_file.specs.internal.Joined.{all_bytes}
use Rattle.core_file.proofs.KeepLemmas.{past_limit, all_added}
use Rattle.core_file.proofs.blocks.add.Goals as goal

pub returns-then-bytes-blocks-clause-added : goal.returns-then-bytes-blocks-clause-added
returns-then-bytes-blocks-clause-added c =
    past_limit c.args.blocks.now.size c.args.blocks.now.limit c.args.blocks.now.room (all_bytes c.args.blocks.now ++ c.args.bytes.now)
    (omega (arith, length-append (all_bytes c.args.blocks.now) c.args.bytes.now))

pub returns-clause-added : goal.returns-clause-added
returns-clause-added c = let i = c.fronts.invariant in
    all_added c.args.blocks.now _ c.fronts.rest.now c.args.bytes.now i.held i.short i.sizes i.added (omega arith)
