-- Worked examples of the definitions.
use Rattle.std.proofs.Common.{◌≡◌, ℕ, [], ◌∷◌, map, replicate, None, Some, refl}
use Rattle.std.specs.List.{range_with_len}
use Rattle.unit_workers.specs.Numbers.{times, once_below}
use Rattle.unit_workers.specs.Drawing.{view, lot_of}
use Rattle.unit_workers.specs.Steps.{first_view, with_number, with_less, giving, given, both}
use Rattle.unit_workers.specs.Working.{numbers, placed}

-- A number that is in a list twice, once, and not at all.
seven_times : map (λ x. times x (7 ∷ 1 ∷ 7 ∷ [])) (1 ∷ 7 ∷ 3 ∷ []) ≡ 1 ∷ 2 ∷ 0 ∷ []
seven_times = refl

-- Of the numbers 0 to 4, those below 3.
below_three : map (once_below 3) (range_with_len 0 5) ≡ 1 ∷ 1 ∷ 1 ∷ 0 ∷ 0 ∷ []
below_three = refl

-- The lists 2 0 and 3 1 of two hands have each number below 4 once, and no other.
each_once : map (λ x. times x (2 ∷ 0 ∷ 3 ∷ 1 ∷ [])) (range_with_len 0 6) ≡ map (once_below 4) (range_with_len 0 6)
each_once = refl

-- 8 units and 2 workers: the first hand, the hand that is split off, and what is left of the first.
opened : first_view (lot_of 8 2) ≡ view (lot_of 8 2) [] 2 2
opened = refl

split_off : given (first_view (lot_of 8 2)) ≡ view (lot_of 8 2) [] 1 1
split_off = refl

left_over : giving (first_view (lot_of 8 2)) ≡ view (lot_of 8 2) [] 1 1
left_over = refl

-- No unit and 2 workers: each draws once and finds no number. The joined hand has no number, no
-- right and the whole share.
none_drawn : both (with_less (giving (first_view (lot_of 0 2)))) (with_less (given (first_view (lot_of 0 2)))) ≡ view (lot_of 0 2) [] 0 2
none_drawn = refl

-- One unit and one worker: it draws 0 and then finds no number.
one_drawn : with_less (with_number (first_view (lot_of 1 1)) 0) ≡ view (lot_of 1 1) (0 ∷ []) 0 1
one_drawn = refl

-- The results of two workers, at the places of their numbers.
first_worker : placed {A = ℕ} (replicate 5 None) ((0, 10) ∷ (3, 13) ∷ []) ≡ Some 10 ∷ None ∷ None ∷ Some 13 ∷ None ∷ []
first_worker = refl

both_workers : placed {A = ℕ} (placed (replicate 5 None) ((0, 10) ∷ (3, 13) ∷ [])) ((1, 11) ∷ (2, 12) ∷ (4, 14) ∷ []) ≡ map Some (10 ∷ 11 ∷ 12 ∷ 13 ∷ 14 ∷ [])
both_workers = refl

their_numbers : numbers {A = ℕ} ((1, 11) ∷ (2, 12) ∷ (4, 14) ∷ []) ≡ 1 ∷ 2 ∷ 4 ∷ []
their_numbers = refl
