use Rattle.std.proofs.Common.{arith}
use Rattle.func_records.specs.internal.Gathering.{bytes_of}
use Rattle.func_records.specs.internal.Spelling.{number_or_0}
use Rattle.func_records.proofs.NumberLemmas.{numbers_more}
use Rattle.func_records.proofs.numbers.numbers_of.Goals as goal

pub texts-preserved : goal.texts-preserved
texts-preserved c = numbers_more (number_or_0 (bytes_of c.args.sorted.now)) c.args.texts.now c.texts.place _ c.number_guessed.result _ _ (omega arith) c.number_guessed.ensures c.texts.invariant c.in_ok-push.ensures.items
