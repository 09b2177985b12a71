use Rattle.std.proofs.Common.{◌≡◌, ℕ, ◌<◌, get_or, length}
use Rattle.elf_sections.specs.Identity.{folded_byte}
use Rattle.elf_sections.proofs.text_identity.fold_text.Given as goal

abbrev pub invariant-bytes : goal.invariant-bytes
invariant-bytes l = record {
  size : length l.identity ≡ 16;
  each : (j : ℕ) → j < 16 → get_or l.identity j 0 ≡ folded_byte l.k l.text j;
}
