use Rattle.elf_sections.proofs.PairLemmas.{kept_views}
use Rattle.elf_sections.proofs.debug_image.symbols_within.Goals as goal

pub returns : goal.returns
returns c = kept_views _ c.args.code.now c.args.symbols.now _ c.in_ok-addresses.ensures.members c.in_ok-keep_symbols.ensures
