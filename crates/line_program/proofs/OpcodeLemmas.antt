-- Each opcode has at least one byte, so the list of opcodes has no more members than there are
-- bytes.
use Rattle.std.proofs.Common.{◌≡◌, ◌≢◌, ◌≤◌, ◌<◌, ℕ, zero, suc, ◌+◌, ◌-◌, ◌==◌, Bool, cond, true, false, List, length, get_or, Option, Some, None, Result, Ok, Err, refl, sym, ap, subst, arith}
use Rattle.std.proofs.lemmas.Bool.Decides.{nat_tests}
use Rattle.sym_edges.specs.Results.{◌>>=◌}
use Rattle.leb_cursor.specs.declared.fault.CursorFault.{CursorFault}
use Rattle.leb_cursor.specs.Ahead.{Ahead}
use Rattle.leb_cursor.specs.Lists.{list_by, list_cases, GoesOn}
use Rattle.leb_cursor.specs.Passes.{Passes}
use Rattle.leb_cursor.specs.Readings.{fixed_at, uleb_at, sleb_at, part_at}
use Rattle.leb_cursor.proofs.ListLemmas.{list_follows}
use Rattle.leb_cursor.proofs.PassLemmas.{fixed_passes, uleb_passes, sleb_passes, part_passes, passes_then}
use Rattle.line_program.specs.declared.opcode.Opcode.{Opcode}
use Rattle.line_program.specs.declared.opcode.Opcode.TheVariants.{Special, Copy, AdvancePc, AdvanceLine, SetFile, SetColumn, NegateStmt, SetBasicBlock, ConstAddPc, FixedAdvancePc, SetPrologueEnd, SetEpilogueBegin, SetIsa, UnknownStandard}
use Rattle.line_program.specs.Faults.{Fault, in_line}
use Rattle.line_program.specs.ProgramFields.{ProgramFields}
use Rattle.line_program.proofs.GoingLemmas.{line_passes, Goes, either, stays, behind}
use Rattle.line_program.specs.Opcodes.{one, pass_ulebs, extended_in, extended_at, standard_at, behind_opcode, opcode_at, next_at, opcodes_at}

one_passes : {A : Type 0} (operand : Ahead → Result (A × Ahead) CursorFault) (make : A → Opcode) (least : ℕ) (c : Ahead) → Passes least c (operand c) → Goes c (one operand make c)
one_passes operand make least c goes = behind least c (in_line (operand c)) (λ x. Ok (make x.0, x.1)) (line_passes least c (operand c) goes) (λ x. stays (make x.0) x.1)

-- Skipping operands moves forward.
abbrev PassesOver : Ahead → Result Ahead Fault → Type 0
PassesOver c (Ok later) = (length later.bytes ≤ length c.bytes) × (later.at + length later.bytes ≡ c.at + length c.bytes)
PassesOver c (Err fault) = Unit {0}

over_more : (c d : Ahead) (r : Result Ahead Fault) → length d.bytes + 1 ≤ length c.bytes → d.at + length d.bytes ≡ c.at + length c.bytes → PassesOver d r → PassesOver c r
over_more c d (Ok later) less same goes = (omega (arith, goes.0), omega (arith, goes.1))
over_more c d (Err fault) less same goes = tt

over_step : (c : Ahead) (r : Result (ℕ × Ahead) CursorFault) (next : Ahead → Result Ahead Fault) → Passes 1 c r → ((d : Ahead) → PassesOver d (next d)) → PassesOver c (in_line r >>= λ operand. next operand.1)
over_step c (Ok x) next goes later = over_more c x.1 (next x.1) goes.0 goes.1 (later x.1)
over_step c (Err fault) next goes later = tt

ulebs_pass : (n : ℕ) (c : Ahead) → PassesOver c (pass_ulebs n c)
unfolding pass_ulebs
ulebs_pass zero c = (omega arith, refl)
ulebs_pass (suc n) c = over_step c (uleb_at c) (pass_ulebs n) (uleb_passes c) (ulebs_pass n)

unknown_passes : (c : Ahead) (r : Result Ahead Fault) → PassesOver c r → Goes c (r >>= λ later. Ok (UnknownStandard, later))
unknown_passes c (Ok later) goes = record { passes = (omega (arith, goes.0), goes.1) }
unknown_passes c (Err fault) goes = record { passes = tt }

standard_passes : (lengths : List ℕ) (code : ℕ) (c : Ahead) → Goes c (standard_at lengths code c)
unfolding standard_at
standard_passes lengths code c =
    either (code == 1) c _ _ (stays Copy c)
    (either (code == 2) c _ _ (one_passes uleb_at AdvancePc 1 c (uleb_passes c))
    (either (code == 3) c _ _ (one_passes sleb_at AdvanceLine 1 c (sleb_passes c))
    (either (code == 4) c _ _ (one_passes uleb_at SetFile 1 c (uleb_passes c))
    (either (code == 5) c _ _ (one_passes uleb_at SetColumn 1 c (uleb_passes c))
    (either (code == 6) c _ _ (stays NegateStmt c)
    (either (code == 7) c _ _ (stays SetBasicBlock c)
    (either (code == 8) c _ _ (stays ConstAddPc c)
    (either (code == 9) c _ _ (one_passes (fixed_at 2) FixedAdvancePc 2 c (fixed_passes 2 c))
    (either (code == 10) c _ _ (stays SetPrologueEnd c)
    (either (code == 11) c _ _ (stays SetEpilogueBegin c)
    (either (code == 12) c _ _ (one_passes uleb_at SetIsa 1 c (uleb_passes c))
    (unknown_passes c (pass_ulebs (get_or lengths (code - 1) 0) c) (ulebs_pass (get_or lengths (code - 1) 0) c)))))))))))))

behind_part : (c : Ahead) (r : Result Opcode Fault) → Goes c (r >>= λ opcode. Ok (opcode, c))
behind_part c (Ok opcode) = stays opcode c
behind_part c (Err fault) = record { passes = tt }

refuses : (c : Ahead) (fault : Fault) → Goes {A = Opcode} c (Err fault)
refuses c fault = record { passes = tt }

extended_passes : (version at : ℕ) (c : Ahead) → Goes c (extended_at version at c)
unfolding extended_at
extended_passes version at c =
    behind 1 c (in_line (uleb_at c)) _ (line_passes 1 c (uleb_at c) (uleb_passes c))
    (λ len. behind len.0 len.1 (in_line (part_at len.0 len.1)) _ (line_passes len.0 len.1 (part_at len.0 len.1) (part_passes len.0 len.1))
    (λ part. either _ part.1 _ _ (refuses part.1 _) (behind_part part.1 (extended_in version at len.0 part.0))))

behind_passes : (p : ProgramFields) (at code : ℕ) (c : Ahead) → Goes c (behind_opcode p at code c)
unfolding behind_opcode
behind_passes p at code c = either _ c _ _ (stays (Special (code - p.opcode_base)) c) (either _ c _ _ (extended_passes p.version at c) (standard_passes p.lengths code c))

pub opcode_passes : (p : ProgramFields) (c : Ahead) → Passes 1 c (opcode_at p c)
unfolding opcode_at
opcode_passes p c = passes_then (in_line (fixed_at 1 c)) (λ code. behind_opcode p c.at code.0 code.1) 1 0 c (line_passes 1 c (fixed_at 1 c) (fixed_passes 1 c)) (λ code. (behind_passes p c.at code.0 code.1).passes)

-- If an opcode was read, fewer bytes are left.
shorter_by : (r : Result (Opcode × Ahead) Fault) (c d : Ahead) (opcode : Opcode) → Passes 1 c r → Ok (opcode, d) ≡ r → length d.bytes < length c.bytes
shorter_by r c d opcode goes is = let both = subst (Passes 1 c) (sym is) goes in omega (arith, both.0)

pub opcode_shorter : (p : ProgramFields) (c d : Ahead) (opcode : Opcode) → Ok (opcode, d) ≡ opcode_at p c → length d.bytes < length c.bytes
opcode_shorter p c d opcode is = shorter_by (opcode_at p c) c d opcode (opcode_passes p c) is

abbrev pub next_by : Bool → Ahead → Result (Opcode × Ahead) Fault → Result (Option Opcode × Ahead) Fault
next_by ended c reading = cond ended (Ok (None, c)) (reading >>= λ opcode. Ok (Some opcode.0, opcode.1))

goes_by : (ended : Bool) (c : Ahead) (reading : Result (Opcode × Ahead) Fault) → Passes 1 c reading → GoesOn c (next_by ended c reading)
goes_by true c reading goes = (omega arith, refl)
goes_by false c (Ok opcode) goes = goes
goes_by false c (Err fault) goes = tt

next_goes : (p : ProgramFields) (c : Ahead) → GoesOn c (next_at p c)
unfolding next_at
next_goes p c = goes_by (length c.bytes == 0) c (opcode_at p c) (opcode_passes p c)

pub opcodes_are : (p : ProgramFields) (c : Ahead) → opcodes_at p c ≡ (next_at p c >>= λ first. list_by first.0 first.1 (opcodes_at p first.1))
unfolding opcodes_at
opcodes_are p c = list_follows (next_at p) (next_goes p) c

pub opcodes_follow : (p : ProgramFields) (c : Ahead) → opcodes_at p c ≡ list_cases (next_at p) c
unfolding opcodes_at
opcodes_follow p c = list_follows (next_at p) (next_goes p) c

pub next_ended : (p : ProgramFields) (c : Ahead) → length c.bytes ≡ 0 → next_at p c ≡ Ok (None, c)
unfolding next_at
next_ended p c none = ap (λ t. next_by t c (opcode_at p c)) (let is : (length c.bytes == 0) ≡ true = grind (arith, nat_tests) in is)

pub next_is : (p : ProgramFields) (c : Ahead) → length c.bytes ≢ 0 → next_at p c ≡ (opcode_at p c >>= λ opcode. Ok (Some opcode.0, opcode.1))
unfolding next_at
next_is p c some = ap (λ t. next_by t c (opcode_at p c)) (let is : (length c.bytes == 0) ≡ false = grind (arith, nat_tests) in is)
