-- What holds for the value of a result, if there is a value.
use Rattle.std.proofs.Common.{Bool, true, false, cond, Result, Ok, Err, IfOk}
use Rattle.sym_edges.specs.Results.{◌>>=◌}
use Rattle.leb_cursor.specs.Ahead.{Ahead}

-- The same for two results one after the other, and for the one of two results that a test chooses.
pub then_ok : {A B E : Type 0} (P : A → Type 0) (Q : B → Type 0) (first : Result A E) (next : A → Result B E) → IfOk first P → ((x : A) → P x → IfOk (next x) Q) → IfOk (first >>= next) Q
then_ok P Q (Ok x) next holds later = later x holds
then_ok P Q (Err fault) next holds later = tt

pub then_any : {A B E : Type 0} (Q : B → Type 0) (first : Result A E) (next : A → Result B E) → ((x : A) → IfOk (next x) Q) → IfOk (first >>= next) Q
then_any Q (Ok x) next later = later x
then_any Q (Err fault) next later = tt

pub either_ok : {A E : Type 0} (Q : A → Type 0) (test : Bool) (given other : Result A E) → IfOk given Q → IfOk other Q → IfOk (cond test given other) Q
either_ok Q true given other one two = one
either_ok Q false given other one two = two

-- The value of a reading and what is ahead after it, or defaults if the reading has a fault.
abbrev pub value_or : {A F : Type 0} → A → Result (A × Ahead) F → A
value_or old (Ok x) = x.0
value_or old (Err fault) = old

abbrev pub ahead_or : {A F : Type 0} → Ahead → Result (A × Ahead) F → Ahead
ahead_or old (Ok x) = x.1
ahead_or old (Err fault) = old
