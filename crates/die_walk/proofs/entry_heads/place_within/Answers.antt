use Rattle.die_walk.proofs.HeldLemmas.{open_text, here_text}
use Rattle.die_walk.proofs.entry_heads.place_within.Goals as goal

pub returns-then-is_closed : goal.returns-then-is_closed
returns-then-is_closed c =
    open_text c.args.bytes.now c.args.place c.start_of.result c.is_closed.result c.start_of.ensures.text c.is_closed.ensures c.if-is_closed.true c.if-place-bytes.false

pub returns-then-is_text : goal.returns-then-is_text
returns-then-is_text c =
    here_text c.args.bytes.now c.args.place c.start_of-then-is_text.result c.is_text.result c.start_of-then-is_text.ensures.text c.is_text.ensures c.if-is_text.true
