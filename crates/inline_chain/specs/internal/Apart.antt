-- Stretches that ascend without overlap are their own covers.
use Rattle.std.specs.Prelude.{◌-◌, ◌==◌, ◌&&◌, ◌||◌, not, nat_lt, Bool, true, false, List, [], ◌∷◌}
use Rattle.step_maps.specs.declared.stretch.Stretch.{Stretch}
use Rattle.step_maps.specs.declared.stretch.Cover.{Cover}

-- a stretch begins above the last address of another, and does not continue it with the same index
abbrev pub follows : Stretch → Stretch → Bool
follows s t = nat_lt s.last t.first && (nat_lt 1 (t.first - s.last) || not (s.index == t.index))

abbrev pub apart_from : Stretch → List Stretch → Bool
apart_from s [] = true
apart_from s (t ∷ items) = follows s t && apart_from t items

abbrev pub apart : List Stretch → Bool
apart [] = true
apart (s ∷ items) = apart_from s items

abbrev pub own_cover : Stretch → Cover
own_cover s = record { first = s.first; last = s.last; index = s.index; shared = false }
