-- Which addresses a list of ranges holds.
use Rattle.std.specs.Prelude.{ℕ, Bool, false, ◌&&◌, ◌||◌, nat_le, nat_lt, List, [], ◌∷◌}
use Rattle.sym_edges.specs.Addresses.{Range}

-- whether the range holds the address: from its start on, and below its end
abbrev pub holds : Range → ℕ → Bool
holds range a = nat_le range.start a && nat_lt a range.end

-- whether some range of the list holds the address
abbrev pub holds_any : List Range → ℕ → Bool
holds_any [] a = false
holds_any (range ∷ ranges) a = holds range a || holds_any ranges a
