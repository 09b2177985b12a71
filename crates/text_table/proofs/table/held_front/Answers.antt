use Rattle.std.proofs.Common.{ℕ, Option, subst, ap, take, ◌∙◌}
use Rattle.memchr.specs.Find.{IsFirstByte, is_byte}
use Rattle.text_table.proofs.SpaceLemmas.{front_held, front_whole}
use Rattle.text_table.proofs.table.held_front.Goals as goal

pub returns-in-Some : goal.returns-in-Some
returns-in-Some c =
    let cut = c.split_at.ensures.front ∙ ap (λ n. take n c.args.bytes.now) c.min.ensures in
    c.split_at-in-Some.ensures.front
    ∙ front_held c.args.bytes.now c.split_at.result.0.now c.in-Some.end cut (subst (λ (r : Option ℕ). IsFirstByte (is_byte 0) c.split_at.result.0.now r) c.in-Some.is c.memchr.ensures)

pub returns-in-None : goal.returns-in-None
returns-in-None c =
    let cut = c.split_at.ensures.front ∙ ap (λ n. take n c.args.bytes.now) c.min.ensures in
    front_whole c.args.bytes.now c.split_at.result.0.now cut (subst (λ (r : Option ℕ). IsFirstByte (is_byte 0) c.split_at.result.0.now r) c.in-None.is c.memchr.ensures)
