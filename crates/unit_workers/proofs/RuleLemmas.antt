-- What follows from the rule of the shared word at any moment (for the laws).
use Rattle.std.proofs.Common.{◌≡◌, ℕ, ◌<◌, ◌≤◌, ◌≢◌, min, arith}
use Rattle.std.specs.Prelude.{slice_index}
use Rattle.std.proofs.lemmas.Bool.Decides.{nat_tests}
use mathlib.Core.Option.{some}
use lib.ListN.{get_elem?}
use Rattle.atomic_table.specs.Table.{State}
use Rattle.unit_workers.specs.Numbers.{total, times, once_below}
use Rattle.unit_workers.specs.Drawing.{Drawing}
use Rattle.unit_workers.specs.declared.lot.Lot.{Lot}
use Rattle.unit_workers.specs.declared.view.View.{View}
use Rattle.unit_workers.proofs.SumLemmas.{term_le, terms_le}

once_at_most : (bound x : ℕ) → once_below bound x ≤ 1
once_at_most bound x = grind (arith, nat_tests)

abbrev bound : Lot → State ℕ View → ℕ
bound lot s = min (slice_index s.words 0) lot.count

pub drawn_once : (lot : Lot) (s : State ℕ View) (i x : ℕ) (v : View) → Drawing lot s → get_elem? s.views i ≡ some v → times x v.drawn ≤ 1
drawn_once lot s i x v d me = omega (arith, term_le (λ u. times x u.drawn) s.views i v me, d.drawn x, once_at_most (bound lot s) x)

pub drawn_apart : (lot : Lot) (s : State ℕ View) (i j x : ℕ) (v w : View) → Drawing lot s → i ≢ j → get_elem? s.views i ≡ some v → get_elem? s.views j ≡ some w → 0 < times x v.drawn → times x w.drawn ≡ 0
drawn_apart lot s i j x v w d apart one other there =
    omega (arith, terms_le (λ u. times x u.drawn) s.views j i w v apart other one, d.drawn x, once_at_most (bound lot s) x, there)

pub spent_past : (lot : Lot) (s : State ℕ View) → Drawing lot s → total (λ v. v.rights) s.views < lot.workers → lot.count < slice_index s.words 0
spent_past lot s d spent = omega (arith, d.rights, spent)
