-- What a proof unfolds to compute the definitions of full_image where the input is written out.
use Rattle.std.specs.Prelude.{⊤}
use Rattle.inflate.proofs.Computing.{inflate_computes}
use Rattle.elf_sections.specs.Image.{with_sections}
use Rattle.elf_sections.proofs.Computing.{elf_sections_computes}
use Rattle.full_image.specs.Compressed.{is_older, is_called, is_debug, is_spelled_older, is_read_full, is_packed, behind_header, behind_magic, stream_in, stream_of}
use Rattle.full_image.specs.SupImage.{sup_fault, sup_image}
use Rattle.full_image.specs.FullImage.{is_cut, is_refused, sections_fault, streams, are_too_long, outcome_of, full_bytes, full_part, full_sections, full_fault, full_image, outcomes_of}

unfoldable pub full_image_computes : ⊤
unfolding inflate_computes elf_sections_computes with_sections is_older is_called is_debug is_spelled_older is_read_full is_packed behind_header behind_magic stream_in stream_of is_cut is_refused sections_fault streams are_too_long outcome_of full_bytes full_part full_sections full_fault full_image outcomes_of sup_fault sup_image
full_image_computes = tt
