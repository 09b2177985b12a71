-- The sizes of operands, and the rows of attributes.
use Rattle.std.proofs.Common.{◌≡◌, ◌≤◌, ◌+◌, ℕ, nat_eq, Bool, true, false, nat_lt, cond, List, length, take, drop, Some, Result, Ok, Err, refl, sym, ap, ◌∙◌, arith, length-drop}
use Rattle.std.proofs.lemmas.Bool.{cond-false, ltb-false, le-ltb}
use Rattle.std.proofs.lemmas.List.{drop-drop}
use Rattle.sym_edges.specs.Results.{◌>>=◌}
use Rattle.leb_cursor.specs.declared.fault.CursorFault.{CursorFault}
use Rattle.leb_cursor.specs.declared.fault.CursorFault.TheVariants.{Ends}
use Rattle.leb_cursor.specs.Ahead.{Ahead, passed}
use Rattle.leb_cursor.specs.Readings.{fixed_at, take_at}
use Rattle.code_table.specs.declared.kind.Kind.{Kind}
use Rattle.code_table.specs.declared.kind.Kind.TheVariants as kind
use Rattle.code_table.specs.declared.kind.Operand.TheVariants.{Run}
use Rattle.code_table.specs.declared.forms.FormRow.{FormRow}
use Rattle.code_table.specs.Forms.{forms, form_row}
use Rattle.code_table.specs.Layouts.{kind_at, run_at, number_in}
use Rattle.abbrev_units.specs.FormValue.{value_by, direct_at, form_at}
use Rattle.abbrev_units.specs.SpecFields.{SpecFields}
use Rattle.abbrev_units.specs.Values.{only_ahead}
use Rattle.abbrev_units.specs.internal.FormRows.{HasRow, size_in}

-- Reading a number passes the same bytes as reading a run of that size, and has the same fault.
only_by : (short : Bool) (fault : CursorFault) (value : ℕ) (run : List ℕ) (c : Ahead) → only_ahead (cond short (Err fault) (Ok (value, c))) ≡ only_ahead (cond short (Err fault) (Ok (run, c)))
only_by true fault value run c = refl
only_by false fault value run c = refl

number_ahead : (reading : Result (ℕ × Ahead) CursorFault) → only_ahead (number_in reading) ≡ only_ahead reading
number_ahead (Ok x) = refl
number_ahead (Err fault) = refl

fixed_sized : (n : ℕ) (c : Ahead) → only_ahead (number_in (fixed_at n c)) ≡ only_ahead (take_at n c)
unfolding take_at fixed_at
fixed_sized n c = number_ahead (fixed_at n c) ∙ only_by (nat_lt (length c.bytes) n) (Ends c.at) _ (take n c.bytes) (passed n c)

run_by : (at : ℕ) (reading : Result (List ℕ × Ahead) CursorFault) → only_ahead (reading >>= λ run. Ok (Run at (length run.0), run.1)) ≡ only_ahead reading
run_by at (Ok x) = refl
run_by at (Err fault) = refl

run_ahead : (n : ℕ) (c : Ahead) → only_ahead (run_at n c) ≡ only_ahead (take_at n c)
unfolding run_at
run_ahead n c = run_by c.at (take_at n c)

-- Passing no bytes, and passing bytes that are there.
pub passed_none : (c : Ahead) → passed 0 c ≡ c
unfolding passed
passed_none c =
    let same : c.at + 0 ≡ c.at = omega arith in
    ap (λ n. record { bytes = c.bytes; at = n }) same

pub take_there : (n : ℕ) (c : Ahead) → n ≤ length c.bytes → take_at n c ≡ Ok (take n c.bytes, passed n c)
unfolding take_at
take_there n c there = cond-false _ _ _ (le-ltb (length c.bytes) n there)

pub take_fits : (n : ℕ) (c : Ahead) → n ≤ length c.bytes → only_ahead (take_at n c) ≡ Ok (passed n c)
take_fits n c there = ap only_ahead (take_there n c there)

-- What reading a run passes.
run_passed : (short : Bool) (fault : CursorFault) (run : List ℕ) (n : ℕ) (c d : Ahead) → only_ahead (cond short (Err fault) (Ok (run, passed n c))) ≡ Ok d → (short ≡ false) × (d ≡ passed n c)
run_passed true fault run n c d is = absurd (grind (arith, is))
run_passed false fault run n c d is = let same : passed n c ≡ d = cc in (refl, sym same)

pub take_passed : (n : ℕ) (c d : Ahead) → only_ahead (take_at n c) ≡ Ok d → (n ≤ length c.bytes) × (d ≡ passed n c)
unfolding take_at
take_passed n c d is =
    let both = run_passed (nat_lt (length c.bytes) n) (Ends c.at) (take n c.bytes) n c d is in
    (ltb-false _ _ both.0, both.1)

same_size : (m n : ℕ) (c : Ahead) → Some m ≡ Some n → only_ahead (take_at m c) ≡ only_ahead (take_at n c)
same_size m n c is = let same : m ≡ n = cc in ap (λ (k : ℕ). only_ahead (take_at k c)) same

pub sized : (layout : Kind) (size : ℕ) (c : Ahead) → size_in layout ≡ Some size → only_ahead (kind_at layout c) ≡ only_ahead (take_at size c)
unfolding kind_at
sized kind.Nothing size c is = ap Ok (sym (passed_none c)) ∙ sym (take_fits 0 c (omega arith)) ∙ same_size 0 size c is
sized kind.U8 size c is = fixed_sized 1 c ∙ same_size 1 size c is
sized kind.U16 size c is = fixed_sized 2 c ∙ same_size 2 size c is
sized kind.U24 size c is = fixed_sized 3 c ∙ same_size 3 size c is
sized kind.U32 size c is = fixed_sized 4 c ∙ same_size 4 size c is
sized kind.U64 size c is = fixed_sized 8 c ∙ same_size 8 size c is
sized kind.Bytes16 size c is = run_ahead 16 c ∙ same_size 16 size c is
sized _ size c is = absurd (cc)

-- Passing two runs is passing one run of both sizes together.
pub passed_two : (m n : ℕ) (c : Ahead) → passed n (passed m c) ≡ passed (m + n) c
unfolding passed
passed_two m n c =
    let place : (c.at + m) + n ≡ c.at + (m + n) = omega arith in
    ap (λ (rest : List ℕ). record { bytes = rest; at = (c.at + m) + n }) (drop-drop n m c.bytes)
    ∙ ap (λ (p : ℕ). record { bytes = drop (m + n) c.bytes; at = p }) place

pub long_enough : (m n sum : ℕ) (c : Ahead) → sum ≡ m + n → sum ≤ length c.bytes → n ≤ length (passed m c).bytes
unfolding passed
long_enough m n sum c is there = omega (arith, is, there, length-drop m c.bytes)

-- The row of an attribute whose form is known.
pub direct_row : (spec : SpecFields) (row : FormRow) → nat_eq spec.form 0x16 ≡ false → Some row ≡ form_row spec.form (forms spec.wide) → HasRow spec row
unfolding form_at direct_at
direct_row spec row direct is c = cond-false _ _ _ direct ∙ ap (λ r. value_by r spec.implicit c) (sym is)
