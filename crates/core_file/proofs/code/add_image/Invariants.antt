use Rattle.std.proofs.Common.{◌≡◌, ℕ, ◌<◌, ◌^◌, drop}
use Rattle.std.specs.Prelude.{◌||◌}
use Rattle.std.specs.List.{list_any}
use Rattle.step_maps.specs.Covers.{AreStretches, reaches}
use Rattle.core_file.specs.Code.{has_page}
use Rattle.core_file.specs.internal.ImageViews.{image_view}
use Rattle.core_file.proofs.code.add_image.Given as goal

abbrev pub invariant-headers : goal.invariant-headers
invariant-headers l = record {
  some : AreStretches l.code.items;
  left : (a : ℕ) → a < 2 ^ 64 → (list_any (λ s. reaches s a) l.code.items || list_any (has_page l.start (image_view l.image) a) (drop l.k l.image.headers.items)) ≡ (list_any (λ s. reaches s a) l.fn.code.items || list_any (has_page l.start (image_view l.image) a) l.image.headers.items);
}
