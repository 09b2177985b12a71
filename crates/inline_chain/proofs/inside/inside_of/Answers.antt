use Rattle.std.proofs.Common.{◌≡◌, Some, arith}
use Rattle.inline_chain.proofs.InsideLemmas.{inside_past}
use Rattle.inline_chain.proofs.inside.inside_of.Goals as goal

pub returns-then-place-row : goal.returns-then-place-row
returns-then-place-row c = inside_past _ _ c.in_ok-parent.parent _ (let is : c.args.die.now.parent ≡ Some c.in_ok-parent.parent = cc in is) (omega arith)
