-- A program, executed one opcode after another.
use Rattle.std.proofs.Common.{◌≡◌, ◌≢◌, ℕ, ◌==◌, true, false, List, [], ◌∷◌, length, Some, Result, Ok, Err, refl, sym, ◌∙◌, ap, arith}
use Rattle.std.proofs.lemmas.Bool.Decides.{nat_tests}
use Rattle.std.proofs.lemmas.List.{map-append}
use Rattle.sym_edges.specs.Results.{◌>>=◌}
use Rattle.leb_cursor.specs.Ahead.{Ahead}
use Rattle.leb_cursor.specs.Lists.{list_by}
use Rattle.line_program.specs.declared.opcode.Opcode.{Opcode}
use Rattle.line_program.specs.declared.opcode.Opcode.TheVariants.{Special, Copy, AdvancePc, AdvanceLine, SetFile, SetColumn, NegateStmt, SetBasicBlock, ConstAddPc, FixedAdvancePc, SetPrologueEnd, SetEpilogueBegin, SetIsa, UnknownStandard, EndSequence, SetAddress, DefineFile, OtherExtended}
use Rattle.line_program.specs.Faults.{Fault}
use Rattle.line_program.specs.ProgramFields.{ProgramFields}
use Rattle.line_program.specs.Opcodes.{opcode_at, next_at, opcodes_at}
use Rattle.line_program.specs.LineRows.{State, first_state, row_of, moved, carried, all_carried, run_from, line_rows}
use Rattle.line_program.specs.internal.KeptRows.{kept_row, kept_sequence, kept_state, or_kept_state, carried_kept, all_kept, run_kept}
use Rattle.line_program.proofs.OpcodeLemmas.{opcodes_are, next_ended, next_is}

some_left : (n : ℕ) → false ≡ (n == 0) → n ≢ 0
some_left n is = grind (arith, nat_tests)

none_left : (n : ℕ) → true ≡ (n == 0) → n ≡ 0
none_left n is = grind (arith, nat_tests)

-- The state after a list of opcodes that may be a fault.
abbrev carry : ProgramFields → State → Result (List Opcode × Ahead) Fault → Result State Fault
carry p s opcodes = opcodes >>= λ list. Ok (all_kept p list.0 s)

carry_none : (p : ProgramFields) (s : State) (c : Ahead) → carry p s (Ok ([], c)) ≡ Ok s
unfolding all_kept
carry_none p s c = refl

carry_more : (p : ProgramFields) (s : State) (opcode : Opcode) (c : Ahead) (later : Result (List Opcode × Ahead) Fault) → carry p s (list_by (Some opcode) c later) ≡ carry p (carried_kept p opcode s) later
unfolding all_kept
carry_more p s opcode c (Ok list) = refl
carry_more p s opcode c (Err fault) = refl

turn : (p : ProgramFields) (s : State) (c : Ahead) → run_kept p s c ≡ carry p s (next_at p c >>= λ first. list_by first.0 first.1 (opcodes_at p first.1))
unfolding run_kept
turn p s c = ap (carry p s) (opcodes_are p c)

pub run_ended : (p : ProgramFields) (s : State) (c : Ahead) → true ≡ (length c.bytes == 0) → run_kept p s c ≡ Ok s
run_ended p s c none =
    turn p s c
    ∙ ap (λ r. carry p s (r >>= λ first. list_by first.0 first.1 (opcodes_at p first.1))) (next_ended p c (none_left (length c.bytes) none))
    ∙ carry_none p s c

pub run_cut : (p : ProgramFields) (s : State) (c : Ahead) (fault : Fault) → false ≡ (length c.bytes == 0) → Err fault ≡ opcode_at p c → run_kept p s c ≡ Err fault
run_cut p s c fault some read =
    turn p s c
    ∙ ap (λ r. carry p s (r >>= λ first. list_by first.0 first.1 (opcodes_at p first.1))) (next_is p c (some_left (length c.bytes) some) ∙ ap (λ r. r >>= λ o. Ok (Some o.0, o.1)) (sym read))

pub run_more : (p : ProgramFields) (s next : State) (c later : Ahead) (opcode : Opcode) → false ≡ (length c.bytes == 0) → Ok (opcode, later) ≡ opcode_at p c → next ≡ carried_kept p opcode s → run_kept p s c ≡ run_kept p next later
unfolding run_kept
run_more p s next c later opcode some read is =
    turn p s c
    ∙ ap (λ r. carry p s (r >>= λ first. list_by first.0 first.1 (opcodes_at p first.1))) (next_is p c (some_left (length c.bytes) some) ∙ ap (λ r. r >>= λ o. Ok (Some o.0, o.1)) (sym read))
    ∙ carry_more p s opcode later (opcodes_at p later)
    ∙ ap (λ t. carry p t (opcodes_at p later)) (sym is)

-- The same with rows as they are stored.

kept_after : (p : ProgramFields) (opcode : Opcode) (s : State) → carried_kept p opcode (kept_state s) ≡ kept_state (carried p opcode s)
unfolding carried_kept carried moved
kept_after p (Special adjusted) s = ap (λ rows. record (kept_state (carried p (Special adjusted) s)) { rows = rows }) (sym (map-append kept_row s.rows (row_of (moved p (Special adjusted) s.registers) ∷ [])))
kept_after p Copy s = ap (λ rows. record (kept_state (carried p Copy s)) { rows = rows }) (sym (map-append kept_row s.rows (row_of s.registers ∷ [])))
kept_after p (AdvancePc by) s = refl
kept_after p (AdvanceLine by) s = refl
kept_after p (SetFile file) s = refl
kept_after p (SetColumn column) s = refl
kept_after p NegateStmt s = refl
kept_after p SetBasicBlock s = refl
kept_after p ConstAddPc s = refl
kept_after p (FixedAdvancePc by) s = refl
kept_after p SetPrologueEnd s = refl
kept_after p SetEpilogueBegin s = refl
kept_after p (SetIsa isa) s = refl
kept_after p UnknownStandard s = refl
kept_after p EndSequence s = ap (λ sequences. record (kept_state (carried p EndSequence s)) { sequences = sequences }) (sym (map-append kept_sequence s.sequences (record { rows = s.rows; end = s.registers.address } ∷ [])))
kept_after p (SetAddress address) s = refl
kept_after p (DefineFile file) s = refl
kept_after p OtherExtended s = refl

kept_all : (p : ProgramFields) (opcodes : List Opcode) (s : State) → all_kept p opcodes (kept_state s) ≡ kept_state (all_carried p opcodes s)
unfolding all_kept all_carried
kept_all p [] s = refl
kept_all p (opcode ∷ opcodes) s = ap (all_kept p opcodes) (kept_after p opcode s) ∙ kept_all p opcodes (carried p opcode s)

kept_by : (p : ProgramFields) (opcodes : Result (List Opcode × Ahead) Fault) → carry p first_state opcodes ≡ or_kept_state (opcodes >>= λ list. Ok (all_carried p list.0 first_state))
kept_by p (Ok list) = ap Ok (kept_all p list.0 first_state)
kept_by p (Err fault) = refl

pub run_begins : (p : ProgramFields) (s : State) (c : Ahead) → s ≡ first_state → run_kept p s c ≡ or_kept_state (line_rows p c)
unfolding run_kept run_from
run_begins p s c first = ap (λ t. run_kept p t c) first ∙ kept_by p (opcodes_at p c)
