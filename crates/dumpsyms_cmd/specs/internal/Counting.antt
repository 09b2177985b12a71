-- What the functions that count guarantee about their judgements.
use Rattle.std.specs.Prelude.{ℕ, List}
use Rattle.elf_sections.specs.Image.{ImageParts, image}
use Rattle.debug_read.specs.DebugSays.{debug_says}
use Rattle.dumpsyms_cmd.specs.Judgement.{judgement_verdict}
use Rattle.dumpsyms_cmd.specs.commands.Sample.{IsCountsVerdict, IsImageCounts, IsSampleVerdict}
use Rattle.dumpsyms_cmd.specs.declared.judgement.Judgement.{Judgement}

-- a judgement on the parts of an image, on the bytes of a file, and on a generated file
abbrev pub CountsParts : Judgement → ImageParts → Type 0
CountsParts j parts = IsCountsVerdict (debug_says parts) parts (judgement_verdict j)

abbrev pub CountsBytes : Judgement → List ℕ → Type 0
CountsBytes j bytes = IsImageCounts (image bytes) (judgement_verdict j)

abbrev pub CountsSample : Judgement → ℕ → Type 0
CountsSample j units = IsSampleVerdict units (judgement_verdict j)
