use Rattle.std.proofs.Common.{◌∙◌, arith}
use Rattle.inline_chain.proofs.RunLemmas.{no_unit_runs, no_address_runs, tree_none, tree_runs, tree_piece}
use Rattle.inline_chain.proofs.inline_list.inlines.Goals as goal

pub returns-in_default : goal.returns-in_default
returns-in_default c = no_unit_runs _ _ _ (c.of.ensures ∙ c.new.ensures.items) (tree_none c.args.trees.now c.args.piece.now.unit c.in_default.ensures)

pub returns-then-piece : goal.returns-then-piece
returns-then-piece c = no_address_runs _ _ _ (c.of-then-piece.ensures ∙ c.new-then-piece.ensures.items) (omega arith)

pub runs_under-requires-clause-runs : goal.runs_under-requires-clause-runs
runs_under-requires-clause-runs c = tree_runs _ _ c.in-Some.ensures

pub returns : goal.returns
returns c = rw c.of-2.ensures (tree_piece c.args.trees.now c.args.piece.now c.in-Some.tree.now _ c.in-Some.ensures (omega arith) c.in_ok-runs.ensures)
