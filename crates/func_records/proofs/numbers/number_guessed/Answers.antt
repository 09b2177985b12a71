use Rattle.std.proofs.Common.{sym, refl, ◌∙◌, arith}
use Rattle.func_records.proofs.NumberLemmas.{number_here}
use Rattle.func_records.proofs.numbers.number_guessed.Goals as goal

pub returns-then-is_text : goal.returns-then-is_text
returns-then-is_text c = number_here c.args.sorted.now c.args.guess _ _ c.args.text.now c.requires.sorted (omega arith) refl (sym c.is_text.ensures ∙ c.if-is_text.true)
