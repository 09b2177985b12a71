-- Signed numbers of 64 bits.
use Rattle.std.specs.Prelude.{◌^◌, nat_lt, Bool, ℤ, pos, negsuc}

-- an integer from -2^63 to 2^63 - 1
abbrev pub fits_i64 : ℤ → Bool
fits_i64 (pos n) = nat_lt n (2 ^ 63)
fits_i64 (negsuc n) = nat_lt n (2 ^ 63)
