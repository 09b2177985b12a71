-- The modules so far, with the pages and the addresses of code that were found for them.
use Rattle.std.specs.Prelude.{◌≡◌, ℕ, ◌<◌, ◌^◌}
use Rattle.std.specs.List.{list_any}
use Rattle.std.specs.Ordering.{nat_cmp}
use Rattle.std.specs.BTreeSet.{contains}
use Rattle.step_maps.specs.Covers.{AreStretches, reaches}
use Rattle.core_file.specs.declared.modules.Listing.{Listing}
use Rattle.core_file.specs.Memory.{Memory}
use Rattle.core_file.specs.Modules.{is_own_page}
use Rattle.core_file.specs.Code.{is_code}

-- the pages are those of these modules' own files, and the code is that of the core's segments and
-- of these modules
pub record IsListing (memory : Memory) (l : Listing) : Type 0 where
  pub pages : (a : ℕ) → contains nat_cmp l.pages a ≡ is_own_page memory l.modules.items a
  pub code : (a : ℕ) → a < 2 ^ 64 → list_any (λ s. reaches s a) l.code.items ≡ is_code memory l.modules.items a
  pub some : AreStretches l.code.items
