use Rattle.std.proofs.Common.{◌∙◌, sym, arith}
use Rattle.cfi_eval.proofs.MemoryLemmas.{last_start, last_some, last_more, last_none}
use Rattle.cfi_eval.proofs.memory.last_byte.Goals as goal

pub runs-init : goal.runs-init
runs-init c = last_start c.args.runs.now c.args.a

pub returns-then-is_some : goal.returns-then-is_some
returns-then-is_some c =
    last_some c.args.runs.now c.args.a c.runs.place c.index-runs-place.result c.byte_in-byte.result (omega arith) (omega arith) c.index-runs-place.is c.byte_in-byte.ensures c.if-is_some.ensures
    ∙ sym c.runs.invariant

pub runs-preserved : goal.runs-preserved
runs-preserved c =
    c.runs.invariant
    ∙ last_more c.args.runs.now c.args.a c.runs.place c.index-runs-place.result c.byte_in-byte.result (omega arith) (omega arith) c.index-runs-place.is c.byte_in-byte.ensures c.if-is_some.ensures

pub returns : goal.returns
returns c = sym (c.runs.invariant ∙ last_none c.args.runs.now c.args.a c.runs.place (omega arith))
