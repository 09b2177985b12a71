use Rattle.std.proofs.Common.{◌≡◌, ℕ, drop}
use Rattle.std.specs.Prelude.{◌&&◌, ◌||◌, nat_le, nat_lt}
use Rattle.std.specs.List.{list_any}
use Rattle.std.specs.Ordering.{nat_cmp}
use Rattle.std.specs.BTreeSet.{contains}
use Rattle.core_file.specs.Modules.{first_page_of, is_page}
use Rattle.core_file.specs.internal.ImageViews.{image_view}
use Rattle.core_file.proofs.pages.add_pages.Given as goal

abbrev pub invariant-headers : goal.invariant-headers
invariant-headers l = (a : ℕ) →
    (contains nat_cmp l.pages a || (nat_le l.start a && nat_lt a l.end && list_any (λ s. is_page a (first_page_of l.start (image_view l.image) s)) (drop l.k l.image.headers.items)))
    ≡ (contains nat_cmp l.fn.pages a || (nat_le l.start a && nat_lt a l.end && list_any (λ s. is_page a (first_page_of l.start (image_view l.image) s)) l.image.headers.items))
