-- Each reading of a part of a line table moves forward, and not past the end.
use Rattle.std.proofs.Common.{ℕ, ◌+◌, Bool, cond, true, false, Result, Ok, Err, refl, arith}
use Rattle.sym_edges.specs.Results.{◌>>=◌}
use Rattle.leb_cursor.specs.declared.fault.CursorFault.{CursorFault}
use Rattle.leb_cursor.specs.Ahead.{Ahead}
use Rattle.leb_cursor.specs.Passes.{Passes}
use Rattle.leb_cursor.proofs.PassLemmas.{passes_then}
use Rattle.line_program.specs.Faults.{Fault, in_line}

pub line_passes : {A : Type 0} (least : ℕ) (c : Ahead) (reading : Result (A × Ahead) CursorFault) → Passes least c reading → Passes least c (in_line reading)
line_passes least c (Ok x) goes = goes
line_passes least c (Err fault) goes = tt

pub less_passes : {A E : Type 0} (least : ℕ) (c : Ahead) (reading : Result (A × Ahead) E) → Passes least c reading → Passes 0 c reading
less_passes least c (Ok x) goes = (omega (arith, goes.0), goes.1)
less_passes least c (Err fault) goes = tt

-- A reading moves forward, as a record.
pub record Goes {A : Type 0} (c : Ahead) (reading : Result (A × Ahead) Fault) : Type 0 where
  pub passes : Passes 0 c reading

pub either : {A : Type 0} (b : Bool) (c : Ahead) (x y : Result (A × Ahead) Fault) → Goes c x → Goes c y → Goes c (cond b x y)
either true c x y one two = one
either false c x y one two = two

pub stays : {A : Type 0} (x : A) (c : Ahead) → Goes c (Ok (x, c))
stays x c = record { passes = (omega arith, refl) }

pub behind : {A B : Type 0} (least : ℕ) (c : Ahead) (first : Result (A × Ahead) Fault) (next : A × Ahead → Result (B × Ahead) Fault) → Passes least c first → ((x : A × Ahead) → Goes x.1 (next x)) → Goes c (first >>= next)
behind least c first next goes later = record { passes = less_passes (least + 0) c (first >>= next) (passes_then first next least 0 c goes (λ x. (later x).passes)) }
