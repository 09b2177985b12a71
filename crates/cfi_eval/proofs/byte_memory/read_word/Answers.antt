use Rattle.std.proofs.Common.{◌∙◌, Some, sym, ap, arith, ◌<◌, ◌≡◌, ◌+◌, ◌^◌}
use Rattle.cfi_eval.specs.Bytes.{byte_at}
use Rattle.cfi_eval.proofs.WordLemmas.{partly_none, partly_more, partly_unknown, partly_past, partly_all, above_from, more_fits}
use Rattle.cfi_eval.proofs.byte_memory.read_word.Goals as goal

pub bytes-init : goal.bytes-init
bytes-init g c = partly_none (g.M.ByteMemory.runs c.args.memory.now) c.args.a

pub returns-in_err-checked_add : goal.returns-in_err-checked_add
returns-in_err-checked_add g c =
    c.from_residual.ensures ∙ partly_past (g.M.ByteMemory.runs c.args.memory.now) c.args.a c.bytes.word c.bytes.place c.bytes.invariant c.bytes-test.true (above_from c.args.a c.bytes.place c.from.result c.from.ensures c.in_err-checked_add.ensures)

pub returns-in_err-byte : goal.returns-in_err-byte
returns-in_err-byte g c =
    let at : c.in_ok-checked_add.field-0 ≡ c.args.a + c.bytes.place = c.in_ok-checked_add.ensures.1 ∙ ap (λ n. c.args.a + n) c.from.ensures in
    c.from_residual-in_err-byte.ensures
    ∙ partly_unknown (g.M.ByteMemory.runs c.args.memory.now) c.args.a c.bytes.word c.bytes.place c.bytes.invariant c.bytes-test.true (c.in_err-byte.ensures ∙ ap (byte_at (g.M.ByteMemory.runs c.args.memory.now)) at)

pub overflow_add-word : goal.overflow_add-word
overflow_add-word g c = more_fits c.bytes.word c.from-in-bytes.result c.in_ok-byte.byte c.bytes.place c.bytes.invariant.small c.from-in-bytes.ensures (omega arith) c.bytes-test.true

pub bytes-preserved : goal.bytes-preserved
bytes-preserved g c =
    let at : c.in_ok-checked_add.field-0 ≡ c.args.a + c.bytes.place = c.in_ok-checked_add.ensures.1 ∙ ap (λ n. c.args.a + n) c.from.ensures in
    let below : c.args.a + c.bytes.place < 2 ^ 64 = omega (arith, c.in_ok-checked_add.ensures.0, c.from.ensures) in
    let byte : c.in_ok-byte.byte ≡ c.from-in-bytes.result = sym c.from-in-bytes.ensures in
    partly_more (g.M.ByteMemory.runs c.args.memory.now) c.args.a c.bytes.word c.bytes.place c.from-in-bytes.result c.bytes.invariant c.bytes-test.true below (omega arith)
    (ap Some (sym byte) ∙ c.in_ok-byte.ensures ∙ ap (byte_at (g.M.ByteMemory.runs c.args.memory.now)) at)

pub returns : goal.returns
returns g c = partly_all (g.M.ByteMemory.runs c.args.memory.now) c.args.a c.bytes.word c.bytes.place c.bytes.invariant (omega arith)
