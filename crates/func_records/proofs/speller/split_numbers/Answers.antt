use Rattle.std.proofs.Common.{◌≡◌, ◌≤◌, length, get_or, take, drop, sym, ap, subst, ◌∙◌, arith}
use Rattle.func_records.proofs.ShareLemmas.{split_next, split_all, numbers_left, numbers_front, numbers_behind}
use Rattle.func_records.proofs.speller.split_numbers.Goals as goal

pub split_at-requires : goal.split_at-requires
split_at-requires c =
    let many : c.len.result ≡ length (get_or c.args.shares.now c.shares.k c.index-shares-k.result).refs.items = omega (arith, c.len.ensures, (get_or c.args.shares.now c.shares.k c.index-shares-k.result).refs.ok.0) in
    subst (λ n. n ≤ length c.shares.rest.now) (sym many)
    (numbers_left c.args.writer.now.numbers c.args.writer.now.units.now c.args.shares.now c.shares.k c.index-shares-k.result c.shares.rest.now (omega arith) c.shares.invariant.later)

pub shares-preserved : goal.shares-preserved
shares-preserved c =
    let many : c.len.result ≡ length (get_or c.args.shares.now c.shares.k c.index-shares-k.result).refs.items = omega (arith, c.len.ensures, (get_or c.args.shares.now c.shares.k c.index-shares-k.result).refs.ok.0) in
    record {
      split = split_next c.args.writer.now.numbers c.args.writer.now.units.now c.args.shares.now c.shares.k c.index-shares-k.result c.shares.split.items _ _ (omega arith) c.shares.invariant.split c.in_ok-push.ensures.items
          (c.split_at.ensures.front ∙ ap (λ n. take n c.shares.rest.now) many
          ∙ numbers_front c.args.writer.now.numbers c.args.writer.now.units.now c.args.shares.now c.shares.k c.index-shares-k.result c.shares.rest.now (omega arith) c.shares.invariant.later);
      later = c.split_at.ensures.back ∙ ap (λ n. drop n c.shares.rest.now) many
          ∙ numbers_behind c.args.writer.now.numbers c.args.writer.now.units.now c.args.shares.now c.shares.k c.index-shares-k.result c.shares.rest.now (omega arith) c.shares.invariant.later;
    }

pub returns : goal.returns
returns c = split_all c.args.writer.now.numbers c.args.writer.now.units.now c.args.shares.now c.shares.k c.shares.split.items (omega arith) c.shares.invariant.split
