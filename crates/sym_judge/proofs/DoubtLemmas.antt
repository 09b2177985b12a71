-- What the pass over the blocks of two files knows of each address.
use Rattle.std.proofs.Common.{◌≡◌, ℕ, ◌<◌, ◌≤◌, ◌^◌, Bool, false, List, [], None, refl, arith}
use Rattle.sym_records.specs.declared.line.SymLine.{SymLine}
use Rattle.step_maps.specs.Stepping.{Stepping, held_from, value_at, last_from}
use Rattle.sym_judge.specs.declared.ruling.Half.{Half}
use Rattle.sym_judge.specs.internal.Stops.{first_in}

-- What is known below an address, and what holds from there on.
pub record AreDoubtsTo (half : Half) (own other : List SymLine) (address : ℕ) (known : Bool) (doubts : Stepping Bool) : Type 0 where
  pub clear : (x : ℕ) → x < address → x < 2 ^ 64 → value_at false doubts x ≡ false → first_in half own other x ≡ None
  pub held : (x : ℕ) → address ≤ x → value_at false doubts x ≡ known
  pub last : last_from 0 doubts.stops ≤ address

pub nothing_doubted : (half : Half) (own other : List SymLine) → AreDoubtsTo half own other 0 false (record { stops = []; values = [] })
unfolding held_from
nothing_doubted half own other = record { clear = λ x l fits is. absurd (omega arith); held = λ x m. refl; last = omega arith }
