-- Lemmas about lines that are read one after another.
use Rattle.std.proofs.Common.{◌≡◌, ℕ, ◌+◌, List, [], ◌∷◌, length, Option, None, Some, Bor, Result, Ok, Err, refl, sym, ap, ◌∙◌}
use Rattle.sym_edges.specs.declared.fault.Stop.{Stop}
use Rattle.sym_edges.specs.declared.fault.Stop.TheVariants.{Fault, NoMemory}
use Rattle.sym_edges.specs.Outside.{MatchStop}
use Rattle.state_file.specs.internal.Parts.{Gives}
use Rattle.sym_edges.specs.Results.{◌>>=◌}
use Rattle.sym_records.specs.Reading.{next_number}
use Rattle.state_file.specs.declared.line.StateLine.{StateLine}
use Rattle.state_file.specs.declared.state.State.{State}
use Rattle.state_file.specs.declared.fault.StateFault.{StateFault}
use Rattle.state_file.specs.StateText.{with_line, numbered, line_read, with_lines}

-- How many bytes are left.
abbrev pub left : Option (Bor (List ℕ)) → ℕ
left None = 0
left (Some text) = length text.now + 1

-- The next line is good, or it is bad.
pub lines_more : (number : ℕ) (state : State) (line : List ℕ) (lines : List (List ℕ)) (said : StateLine) → numbered (next_number number) (line_read line) ≡ Ok said
    → with_lines number state (line ∷ lines) ≡ with_lines (next_number number) (with_line said state) lines
unfolding with_lines
lines_more number state line lines said h = ap (λ r. r >>= λ s. with_lines (next_number number) (with_line s state) lines) h

pub lines_bad : (number : ℕ) (state : State) (line : List ℕ) (lines : List (List ℕ)) (fault : StateFault) → numbered (next_number number) (line_read line) ≡ Err fault → with_lines number state (line ∷ lines) ≡ Err fault
unfolding with_lines
lines_bad number state line lines fault h = ap (λ r. r >>= λ s. with_lines (next_number number) (with_line s state) lines) h

pub lines_none : (number : ℕ) (state : State) → with_lines number state [] ≡ Ok state
unfolding with_lines
lines_none number state = refl

-- What is returned if a line is bad, or if memory ran out.
pub stopped : (number next : ℕ) (state : State) (line : List ℕ) (lines : List (List ℕ)) (e : Stop StateFault) (whole : Result State StateFault) → next ≡ next_number number → Gives {A = StateLine} (Err e) (numbered next (line_read line))
    → whole ≡ with_lines number state (line ∷ lines) → MatchStop {A = State} (Err e) (λ s. whole ≡ Ok s) (λ fault. whole ≡ Err fault) (Unit {0})
stopped number next state line lines (Fault fault) whole n h w = w ∙ lines_bad number state line lines fault (ap (λ k. numbered k (line_read line)) (sym n) ∙ h)
stopped number next state line lines NoMemory whole n h w = tt
