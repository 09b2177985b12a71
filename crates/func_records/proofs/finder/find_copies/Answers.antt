use Rattle.std.proofs.Common.{length, arith, sym, ap, subst, ◌∙◌}
use Rattle.inline_chain.specs.InlineRuns.{AreInlineRuns}
use Rattle.func_records.proofs.HoldLemmas.{held_next, held_all, held_count}
use Rattle.func_records.proofs.finder.find_copies.Goals as goal

pub pieces-init : goal.pieces-init
pieces-init c = rw c.in_ok-held.ensures tt

pub pieces-preserved : goal.pieces-preserved
pieces-preserved c = held_next c.args.trees.now c.args.pieces.now c.pieces.place _ c.pieces.held _ _ (omega arith) c.pieces.invariant (subst (AreInlineRuns c.args.trees.now _) (sym c.into_vec-copies.ensures) c.in_ok-inlines.ensures) c.in_ok-append.ensures.added

pub returns-clause-count : goal.returns-clause-count
returns-clause-count c = ap length c.shrink.ensures ∙ held_count c.args.trees.now c.args.pieces.now c.pieces.held (held_all c.args.trees.now c.args.pieces.now c.pieces.place c.pieces.held (omega arith) c.pieces.invariant)
