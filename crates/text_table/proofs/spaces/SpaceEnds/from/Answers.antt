use Rattle.std.proofs.Common.{List, ℕ, length, arith, subst, sym, ◌<◌, ◌+◌, ◌-◌, ◌*◌, ◌/◌, ◌∙◌, ap, take, not}
use Rattle.std.proofs.lemmas.Grind.{common_steps}
use Rattle.std.specs.List.{position_or_len}
use Rattle.clean_names.specs.Names.{is_space}
use Rattle.text_table.specs.Ends.{spaces_end}
use Rattle.text_table.proofs.EndLemmas.{end_in_block, end_by_next}
use Rattle.text_table.proofs.spaces.SpaceEnds.from.Goals as goal

pub returns-then-spaces-front-clause-end : goal.returns-then-spaces-front-clause-end
returns-then-spaces-front-clause-end c =
    let inside = c.self.inside in
    let cut = (c.args.at / inside.block + 1) * inside.block - c.args.at in
    let front = c.split_at-then-block-len.ensures.front ∙ ap (take cut) c.split_at.ensures.back in
    sym (end_in_block inside.bytes.now c.args.at cut c.count_spaces-spaces.result
    (c.count_spaces-spaces.ensures ∙ ap (position_or_len (λ b. not (is_space b))) front)
    (subst (λ (l : List ℕ). c.count_spaces-spaces.result < length l) front c.if-spaces-front.true))
    ∙ ap (λ (t : List ℕ). spaces_end t c.args.at) c.self.view_is

pub returns-else-spaces-front-clause-end : goal.returns-else-spaces-front-clause-end
returns-else-spaces-front-clause-end c =
    let inside = c.self.inside in
    let fits : c.args.at / inside.block + 1 < length inside.ends.items = grind (arith, common_steps) in
    let cut = (c.args.at / inside.block + 1) * inside.block - c.args.at in
    end_by_next inside.bytes.now inside.ends.items c.split_at-then-block-len.result.0.now inside.block c.args.at c.index.result.now c.count_spaces-spaces.result
    c.self.invariant fits c.index.ensures
    (c.split_at-then-block-len.ensures.front ∙ ap (take cut) c.split_at.ensures.back) c.count_spaces-spaces.ensures c.if-spaces-front.false
    ∙ ap (λ (t : List ℕ). spaces_end t c.args.at) c.self.view_is
