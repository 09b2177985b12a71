use Rattle.std.proofs.Common.{◌≡◌, ◌-◌, ◌^◌, min, take, true}
use Rattle.std.specs.List.{list_all}
use Rattle.std.specs.Str.Parse.{digits_value}
use Rattle.rust_names.specs.Legacy.{is_digit}
use Rattle.rust_names.proofs.part.number_upto.Given as goal

abbrev pub invariant-loop-b : goal.invariant-loop-b
invariant-loop-b l = (l.number ≡ min (digits_value 10 (take l.b-index l.digits)) (2 ^ 64 - 1)) × (list_all is_digit (take l.b-index l.digits) ≡ true)
