use Rattle.std.proofs.Common.{◌≡◌, drop}
use Rattle.std.specs.List.{flat_map}
use Rattle.elf_sections.specs.Notes.{first_id}
use Rattle.core_file.specs.LoadedImages.{image_notes_of}
use Rattle.core_file.specs.internal.ImageViews.{image_view}
use Rattle.core_file.proofs.ids.image_id.Given as goal

abbrev pub invariant-headers : goal.invariant-headers
invariant-headers l =
    first_id (flat_map (image_notes_of l.memory l.start (image_view l.image)) (drop l.k l.image.headers.items))
    ≡ first_id (flat_map (image_notes_of l.memory l.start (image_view l.image)) l.image.headers.items)
