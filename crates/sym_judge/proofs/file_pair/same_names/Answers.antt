use Rattle.std.proofs.Common.{◌+◌, length, sym, ap, subst, ◌∙◌, length-append}
use Rattle.sym_judge.specs.internal.Blocks.{same_name, AreTold}
use Rattle.sym_judge.proofs.FilePairLemmas.{one_more_told}
use Rattle.sym_judge.proofs.file_pair.same_names.Goals as goal

pub numbers-preserved : goal.numbers-preserved
numbers-preserved c = record {
  told = subst (λ xs. AreTold (same_name c.args.numbered) c.args.own.now c.args.other.now xs) (sym c.in_ok-push.ensures.items)
      (one_more_told (same_name c.args.numbered) c.args.own.now c.args.other.now c.numbers.told.items c.is_one_name.result c.numbers.number c.numbers.invariant.told c.numbers.invariant.many c.is_one_name.ensures);
  many = ap length c.in_ok-push.ensures.items ∙ length-append _ _ ∙ ap (λ n. n + 1) c.numbers.invariant.many;
}
