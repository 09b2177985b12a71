-- The first item at an address if some stretches lie over others.
use Rattle.std.specs.Prelude.{not, ◌||◌, ◌==◌, Option, None, Some}
use Rattle.step_maps.specs.declared.stretch.FirstItem.{FirstItem}

-- the upper item if there is one, otherwise the lower. If there are both, the result is shared if either item is, or if their classes differ
abbrev pub over : Option FirstItem → Option FirstItem → Option FirstItem
over None below = below
over (Some top) None = Some top
over (Some top) (Some below) = Some (record { index = top.index; class = top.class; shared = top.shared || (below.shared || not (top.class == below.class)) })
