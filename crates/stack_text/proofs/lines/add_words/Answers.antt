use Rattle.std.proofs.Common.{arith}
use Rattle.stack_text.proofs.LineLemmas.{words_end}
use Rattle.stack_text.proofs.lines.add_words.Goals as goal

pub returns : goal.returns
returns c =
    words_end (λ word. word.now) c.args.text.now.items c.args.first.now c.words.text.items c.args.words.now c.words.word-index (omega arith) c.words.invariant
