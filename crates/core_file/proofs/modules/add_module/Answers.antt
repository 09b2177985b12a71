use Rattle.std.proofs.Common.{◌≡◌, ◌++◌, ◌∷◌, [], None, Some, refl, sym, ◌∙◌, ap}
use Rattle.std.specs.Option.{option_map}
use Rattle.std.specs.Prelude.{map}
use Rattle.core_file.specs.declared.modules.Module.{Module}
use Rattle.core_file.specs.LoadedImages.{image_at}
use Rattle.core_file.specs.internal.ImageViews.{image_view}
use Rattle.core_file.specs.internal.FilePlaces.{file_view}
use Rattle.core_file.proofs.ModuleLemmas.{module_is, listing_plain, listing_loaded}
use Rattle.core_file.proofs.modules.add_module.Goals as goal

pub returns-in_ok-push-in-None-clause-added : goal.returns-in_ok-push-in-None-clause-added
returns-in_ok-push-in-None-clause-added c =
    let n : image_at c.args.source.now.memory.now c.args.file.now.start ≡ None =
    sym c.in_ok-read_image.ensures.image ∙ ap (option_map image_view) c.in-None.is in
    c.in_ok-push-in-None.ensures.items
    ∙ ap (λ m. c.args.listing.now.modules.items ++ m ∷ [])
    (c.in_ok-module-in-None.ensures ∙ sym (module_is c.args.source.now.memory.now (file_view c.args.source.now.note.now c.args.file.now) (map (file_view c.args.source.now.note.now) c.args.later.now) None n))

pub returns-in_ok-push-in-None-clause-listing : goal.returns-in_ok-push-in-None-clause-listing
returns-in_ok-push-in-None-clause-listing c =
    let n : image_at c.args.source.now.memory.now c.args.file.now.start ≡ None =
    sym c.in_ok-read_image.ensures.image ∙ ap (option_map image_view) c.in-None.is in
    listing_plain c.args.source.now.memory.now c.args.listing.now
    (record { modules = c.push.new.self; pages = c.args.listing.now.pages; code = c.args.listing.now.code })
    c.in_ok-module-in-None.module c.args.file.now.start (ap (λ (m : Module). m.start) c.in_ok-module-in-None.ensures) n c.requires.listing
    c.in_ok-push-in-None.ensures.items refl refl

pub returns-in_ok-push-in-Some-clause-added : goal.returns-in_ok-push-in-Some-clause-added
returns-in_ok-push-in-Some-clause-added c =
    let n : image_at c.args.source.now.memory.now c.args.file.now.start ≡ Some (image_view c.in-Some.image) =
    sym c.in_ok-read_image.ensures.image ∙ ap (option_map image_view) c.in-Some.is in
    c.in_ok-push-in-Some.ensures.items
    ∙ ap (λ m. c.args.listing.now.modules.items ++ m ∷ [])
    (c.in_ok-module-in-Some.ensures (map (file_view c.args.source.now.note.now) c.args.later.now)
    ∙ sym (module_is c.args.source.now.memory.now (file_view c.args.source.now.note.now c.args.file.now) (map (file_view c.args.source.now.note.now) c.args.later.now) (Some (image_view c.in-Some.image)) n))

pub returns-in_ok-push-in-Some-clause-listing : goal.returns-in_ok-push-in-Some-clause-listing
returns-in_ok-push-in-Some-clause-listing c =
    let n : image_at c.args.source.now.memory.now c.args.file.now.start ≡ Some (image_view c.in-Some.image) =
    sym c.in_ok-read_image.ensures.image ∙ ap (option_map image_view) c.in-Some.is in
    listing_loaded c.args.source.now.memory.now c.args.listing.now
    (record { modules = c.push-in-Some.new.self; pages = c.add_pages.new.pages; code = c.add_image.new.code })
    c.in_ok-module-in-Some.module c.args.file.now.start (image_view c.in-Some.image)
    (ap (λ (m : Module). m.start) (c.in_ok-module-in-Some.ensures [])) n c.requires.listing
    c.in_ok-push-in-Some.ensures.items c.in_ok-add_pages-in-Some.ensures c.in_ok-add_image-in-Some.ensures.some c.in_ok-add_image-in-Some.ensures.added
