use Rattle.cfi_eval.proofs.InitLemmas.{init_within, frame_is}
use Rattle.cfi_eval.proofs.frame.frame_from.Goals as goal

pub of-rules-requires-clause-within : goal.of-rules-requires-clause-within
of-rules-requires-clause-within g c = init_within c.args.file.now c.as_slice.result.now c.args.address c.args.init c.as_slice.ensures.lines c.requires

pub returns : goal.returns
returns g c =
    frame_is c.as_slice.result.now c.args.file.now c.args.address c.args.regs.now (g.M.ByteMemory.runs c.args.memory.now) c.of-rules.result c.frame_of.result c.as_slice.ensures.lines c.of-rules.ensures c.frame_of.ensures
