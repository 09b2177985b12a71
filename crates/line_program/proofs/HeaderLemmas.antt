-- Bytes of a header, read one by one and all at once.
use Rattle.std.proofs.Common.{◌≡◌, ◌≤◌, ◌<◌, ℕ, zero, suc, ◌+◌, cond, List, [], ◌∷◌, length, take, drop, Result, Ok, Err, refl, sym, ◌∙◌, ap, inl, inr, arith}
use Rattle.std.proofs.lemmas.Bool.{cases_lt, lt-ltb, le-ltb}
use Rattle.std.proofs.lemmas.List.{length-take-le}
use Rattle.sym_edges.specs.Results.{◌>>=◌}
use Rattle.leb_cursor.specs.declared.fault.CursorFault.{CursorFault}
use Rattle.leb_cursor.specs.declared.fault.CursorFault.TheVariants.{Ends}
use Rattle.leb_cursor.specs.Ahead.{Ahead, passed}
use Rattle.leb_cursor.specs.Readings.{fixed_sum, fixed_at, take_at}
use Rattle.abbrev_units.specs.declared.fault.HeaderFault.TheVariants as header
use Rattle.abbrev_units.specs.Faults.{as_field}
use Rattle.line_program.specs.Headers.{byte_at}
use Rattle.line_program.specs.Lists.{several_at}

abbrev from : List ℕ → ℕ → Ahead
from bytes at = record { bytes = bytes; at = at }

first_sum : (b : ℕ) (bytes : List ℕ) → fixed_sum 1 (b ∷ bytes) ≡ b
unfolding fixed_sum
first_sum b bytes = omega arith

first_byte : (b : ℕ) (bytes : List ℕ) (at : ℕ) → byte_at (from (b ∷ bytes) at) ≡ Ok (b, from bytes (at + 1))
unfolding fixed_at passed
first_byte b bytes at =
    ap (λ t. as_field (cond t (Err (Ends at)) (Ok (fixed_sum 1 (b ∷ bytes), from bytes (at + 1))))) (le-ltb (length (b ∷ bytes)) 1 (omega arith))
    ∙ ap (λ n. Ok (n, from bytes (at + 1))) (first_sum b bytes)

no_byte : (at : ℕ) → byte_at (from [] at) ≡ Err (header.Cursor (Ends at))
unfolding fixed_at
no_byte at = refl

several_all : (n : ℕ) (bytes : List ℕ) (at : ℕ) → n ≤ length bytes → several_at byte_at n (from bytes at) ≡ Ok (take n bytes, from (drop n bytes) (at + n))
unfolding several_at
several_all zero bytes at all = ap (λ place. Ok ([], from bytes place)) (let same : at ≡ at + 0 = omega arith in same)
several_all (suc n) [] at all = absurd (omega arith)
several_all (suc n) (b ∷ bytes) at all =
    ap (λ r. r >>= λ first. several_at byte_at n first.1 >>= λ later. Ok (first.0 ∷ later.0, later.1)) (first_byte b bytes at)
    ∙ ap (λ r. r >>= λ later. Ok (b ∷ later.0, later.1)) (several_all n bytes (at + 1) (omega arith))
    ∙ ap (λ place. Ok (b ∷ take n bytes, from (drop n bytes) place)) (let same : at + 1 + n ≡ at + suc n = omega arith in same)

several_short : (n : ℕ) (bytes : List ℕ) (at : ℕ) → length bytes < n → several_at byte_at n (from bytes at) ≡ Err (header.Cursor (Ends (at + length bytes)))
unfolding several_at
several_short zero bytes at short = absurd (omega arith)
several_short (suc n) [] at short =
    ap (λ r. r >>= λ first. several_at byte_at n first.1 >>= λ later. Ok (first.0 ∷ later.0, later.1)) (no_byte at)
    ∙ ap (λ place. Err (header.Cursor (Ends place))) (let same : at ≡ at + 0 = omega arith in same)
several_short (suc n) (b ∷ bytes) at short =
    ap (λ r. r >>= λ first. several_at byte_at n first.1 >>= λ later. Ok (first.0 ∷ later.0, later.1)) (first_byte b bytes at)
    ∙ ap (λ r. r >>= λ later. Ok (b ∷ later.0, later.1)) (several_short n bytes (at + 1) (omega arith))
    ∙ ap (λ place. Err (header.Cursor (Ends place))) (let same : at + 1 + length bytes ≡ at + length (b ∷ bytes) = omega arith in same)

taken : (n : ℕ) (c : Ahead) → n ≤ length c.bytes → take_at n c ≡ Ok (take n c.bytes, passed n c)
unfolding take_at
taken n c all = ap (λ t. cond t (Err (Ends c.at)) (Ok (take n c.bytes, passed n c))) (le-ltb (length c.bytes) n all)

short : (n : ℕ) (c : Ahead) → length c.bytes < n → take_at n c ≡ Err (Ends c.at)
unfolding take_at
short n c less = ap (λ t. cond t (Err (Ends c.at)) (Ok (take n c.bytes, passed n c))) (lt-ltb (length c.bytes) n less)

ok_not_err : {T E A : Type 0} (x : T) (fault : E) → Ok x ≡ Err fault → A
ok_not_err x fault is = cc

same_ok : {T E : Type 0} (x y : T) → (let got : Result T E = Ok x in got) ≡ Ok y → x ≡ y
same_ok x y is = cc

-- If all bytes are there, reading them one by one gives the same.
pub bytes_taken : (n : ℕ) (c d : Ahead) (run : List ℕ) → Ok (run, d) ≡ take_at n c → several_at byte_at n c ≡ Ok (run, d)
unfolding passed
bytes_taken n c d run is = elim (cases_lt (length c.bytes) n) [
  | inl less ↦ ok_not_err (run, d) (Ends c.at) (is ∙ short n c less)
  | inr all ↦ several_all n c.bytes c.at all ∙ ap (λ (p : List ℕ × Ahead). Ok p) (sym (same_ok (run, d) (take n c.bytes, passed n c) (is ∙ taken n c all)))
]

run_length : (n : ℕ) (c d : Ahead) (run : List ℕ) → n ≤ length c.bytes → (let got : Result (List ℕ × Ahead) CursorFault = Ok (run, d) in got) ≡ Ok (take n c.bytes, passed n c) → length run ≡ n
run_length n c d run all same = ap (λ (p : List ℕ × Ahead). length p.0) (same_ok (run, d) (take n c.bytes, passed n c) same) ∙ length-take-le n c.bytes all

pub taken_length : (n : ℕ) (c d : Ahead) (run : List ℕ) → Ok (run, d) ≡ take_at n c → length run ≡ n
taken_length n c d run is = elim (cases_lt (length c.bytes) n) [
  | inl less ↦ ok_not_err (run, d) (Ends c.at) (is ∙ short n c less)
  | inr all ↦ run_length n c d run all (is ∙ taken n c all)
]

-- If some bytes are missing, the fault is after the last byte that is there.
pub bytes_short : (n end : ℕ) (c : Ahead) (fault : CursorFault) → Err fault ≡ take_at n c → end ≡ c.at + length c.bytes → several_at byte_at n c ≡ Err (header.Cursor (Ends end))
bytes_short n end c fault is at_end = elim (cases_lt (length c.bytes) n) [
  | inl less ↦ several_short n c.bytes c.at less ∙ ap (λ place. Err (header.Cursor (Ends place))) (sym at_end)
  | inr all ↦ ok_not_err (take n c.bytes, passed n c) fault (sym (is ∙ taken n c all))
]
