-- The rule of the word that all workers share.
--
-- Some workers share one word, which counts their draws. Each worker has a seat, and the seat's
-- view is what the worker knows:
--
-- - drawn: the numbers that it drew
-- - rights: how many more draws it may make that find no number
-- - share: how many workers it stands for
-- - lot: how many numbers and how many workers there are
--
-- A draw adds 1 to the word. If it found k there and k is below the count, this worker gets the
-- number k; otherwise a right is spent. So no number is drawn twice, and none is left out. The rule
-- says this by sums over all views, and every step keeps the rule (`Steps`).
use Rattle.std.specs.Prelude.{◌≡◌, ℕ, ◌+◌, ◌-◌, ◌^◌, ◌<◌, ◌≤◌, min, List, [], length, slice_index}
use mathlib.Core.Option.{some}
use lib.ListN.{get_elem?}
use Rattle.atomic_table.specs.Table.{State}
use Rattle.unit_workers.specs.Numbers.{total, times, once_below}
use Rattle.unit_workers.specs.declared.lot.Lot.{Lot}
use Rattle.unit_workers.specs.declared.view.View.{View}

abbrev pub lot_of : ℕ → ℕ → Lot
lot_of count workers = record { count = count; workers = workers }

abbrev pub view : Lot → List ℕ → ℕ → ℕ → View
view lot drawn rights share = record { lot = lot; drawn = drawn; rights = rights; share = share }

-- what holds for one view
pub record IsView (lot : Lot) (v : View) : Type 0 where
  -- no view has more rights than its share, and a view with share 0 has drawn nothing
  pub rights : v.rights ≤ v.share
  pub idle : v.share ≡ 0 → v.drawn ≡ []
  -- a view with a share knows the lot
  pub knows : 0 < v.share → v.lot ≡ lot

pub record Drawing (lot : Lot) (s : State ℕ View) : Type 0 where
  pub wide : length s.words ≡ 1
  pub few : lot.count + lot.workers < 2 ^ 63
  -- each number below both the word and the count is in one view's list, once, and no list has another number
  pub drawn : (x : ℕ) → total (λ v. times x v.drawn) s.views ≡ once_below (min (slice_index s.words 0) lot.count) x
  -- all rights, and the word's excess over the count, add up to the number of workers
  pub rights : total (λ v. v.rights) s.views + (slice_index s.words 0 - lot.count) ≡ lot.workers
  -- the shares add up to the number of workers
  pub shares : total (λ v. v.share) s.views ≡ lot.workers
  pub each : (i : ℕ) (v : View) → get_elem? s.views i ≡ some v → IsView lot v
