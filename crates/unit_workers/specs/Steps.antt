-- What each step does to the views: a draw gives its seat the next number or takes a right from it; a split gives one right and 1 of the share to a
-- new seat; a join gives one seat the numbers, rights and shares of two.
use Rattle.std.specs.Prelude.{◌≡◌, ℕ, ◌+◌, ◌-◌, ◌<◌, ◌≤◌, [], ◌∷◌, ◌++◌}
use Rattle.std.specs.List.{All}
use Rattle.atomic_table.specs.Table.{Me}
use Rattle.unit_workers.specs.Drawing.{view, lot_of}
use Rattle.unit_workers.specs.declared.lot.Lot.{Lot}
use Rattle.unit_workers.specs.declared.view.View.{View}

-- at the start, the first seat has all rights and the whole share
abbrev pub first_view : Lot → View
first_view lot = view lot [] lot.workers lot.workers

abbrev pub with_number : View → ℕ → View
with_number v k = view v.lot (v.drawn ++ k ∷ []) v.rights v.share

abbrev pub with_less : View → View
with_less v = view v.lot v.drawn (v.rights - 1) v.share

-- a draw found k in the word: if k is below the count, it is above all numbers of the list and is
-- added to them; otherwise one right is spent
pub record Draws (me : Me ℕ View) (k : ℕ) (after : Me ℕ View) : Type 0 where
  pub number : k < me.0.lot.count → (after ≡ (with_number me.0 k, me.1)) × All (λ x. x < k) me.0.drawn
  pub none : me.0.lot.count ≤ k → after ≡ (with_less me.0, me.1)

-- one right and 1 of the share go to another seat
abbrev pub giving : View → View
giving v = view v.lot v.drawn (v.rights - 1) (v.share - 1)

abbrev pub given : View → View
given v = view v.lot [] 1 1

-- two views joined into one, and what is left of the second
abbrev pub both : View → View → View
both v w = view v.lot (v.drawn ++ w.drawn) (v.rights + w.rights) (v.share + w.share)

abbrev pub spent : View
spent = view (lot_of 0 0) [] 0 0
