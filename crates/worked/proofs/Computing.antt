-- The definitions that a worked example unfolds to compute the verdict on a file.
use Rattle.std.specs.Prelude.{⊤}
use Rattle.debug_read.proofs.Computing.{debug_read_computes}
use Rattle.func_flatten.proofs.Computing.{func_flatten_computes}
use Rattle.rule_postfix.proofs.Computing.{rule_postfix_computes}
use Rattle.elf_sections.proofs.Computing.{elf_sections_computes}
use Rattle.full_image.proofs.Computing.{full_image_computes}
use Rattle.debug_pair.specs.SupLink.{sup_link}
use Rattle.dumpsyms_cmd.proofs.Computing.{dumpsyms_cmd_computes}

unfoldable pub verdict_computes : ⊤
unfolding debug_read_computes func_flatten_computes rule_postfix_computes elf_sections_computes full_image_computes sup_link dumpsyms_cmd_computes
verdict_computes = tt
