-- Where the bytes of an expression are: in an entry's own instructions or in those of its CIE.
use Rattle.std.specs.Prelude.{ℕ, ◌^◌, ◌&&◌, nat_lt, Bool, if◌then◌else◌, List, take, drop, Option, None, Some}
use Rattle.expr_steps.specs.declared.place.Place.{Place}

-- the place with this start and length, if each fits into four bytes
unfoldable pub place_of : Bool → ℕ → ℕ → Option Place
place_of own start len =
    if nat_lt start (2 ^ 32) && nat_lt len (2 ^ 32) then Some (record { own = own; start = start; len = len }) else None

-- the bytes at a place, as far as the instructions have them
unfoldable pub bytes_at : Place → List ℕ → List ℕ → List ℕ
bytes_at place first own = take place.len (drop place.start (if place.own then own else first))
