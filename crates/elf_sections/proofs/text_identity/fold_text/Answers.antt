use Rattle.std.proofs.Common.{refl, sym, ◌∙◌, arith}
use Rattle.std.proofs.lemmas.Grind.{common_steps}
use Rattle.elf_sections.proofs.IdentityLemmas.{folded_none, zero_at, folded_set}
use Rattle.elf_sections.proofs.text_identity.fold_text.Goals as goal

pub bytes-init : goal.bytes-init
bytes-init c = record { size = refl; each = λ j lt. zero_at 16 j ∙ sym (folded_none c.args.text.now j) }

pub bytes-preserved : goal.bytes-preserved
bytes-preserved c = record {
  size = grind (arith, common_steps);
  each = λ j lt. folded_set c.args.text.now c.bytes.identity c.bytes.k j (omega arith) (c.bytes.invariant.each j lt);
}
