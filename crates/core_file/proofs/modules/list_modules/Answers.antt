use Rattle.std.proofs.Common.{◌≡◌, ◌+◌, ◌++◌, ◌∷◌, List, arith, length-append, ap, take, length, sym, ◌∙◌}
use Rattle.std.specs.Prelude.{map}
use Rattle.core_file.specs.declared.files.FilePlace.{FilePlace}
use Rattle.core_file.specs.Modules.{modules_from}
use Rattle.core_file.specs.internal.FilePlaces.{file_view, IsInside}
use Rattle.core_file.proofs.ModuleLemmas.{listed_more}
use Rattle.core_file.proofs.modules.list_modules.Goals as goal

pub files-preserved-in_ok-add_module : goal.files-preserved-in_ok-add_module
files-preserved-in_ok-add_module c =
    let h = c.in-Some.ensures.cases in
    let i : IsInside (length c.args.source.now.note.now) (c.in-Some.file.now ∷ c.in-Some.later.now) = rw h.0 at c.files.invariant.inside in
    let n : length c.add_module.new.listing.modules.items ≡ length c.files.listing.modules.items + 1 =
    ap length c.in_ok-add_module.ensures.added ∙ length-append c.files.listing.modules.items _ in
    record {
      inside = i.1;
      listing = c.in_ok-add_module.ensures.listing;
      few = omega arith;
      left = listed_more c.args.limit c.args.source.now.memory.now (file_view c.args.source.now.note.now c.in-Some.file.now)
          (map (file_view c.args.source.now.note.now) c.in-Some.later.now) c.files.listing.modules.items c.add_module.new.listing.modules.items
          (sym c.begins.ensures ∙ c.if-begins.true) c.in_ok-add_module.ensures.added
          ∙ ap (λ (l : List FilePlace). take c.args.limit (c.files.listing.modules.items ++ modules_from c.args.source.now.memory.now c.files.listing.modules.items (map (file_view c.args.source.now.note.now) l))) (sym h.0)
          ∙ c.files.invariant.left;
    }
