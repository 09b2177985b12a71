-- Operands that are skipped one by one.
use Rattle.std.proofs.Common.{◌≡◌, ◌<◌, ℕ, zero, suc, ◌+◌, Ok, Err, refl, sym, ap, ◌∙◌, arith}
use Rattle.leb_cursor.specs.declared.fault.CursorFault.{CursorFault}
use Rattle.sym_edges.specs.Results.{◌>>=◌}
use Rattle.leb_cursor.specs.Ahead.{Ahead}
use Rattle.leb_cursor.specs.Readings.{uleb_at}
use Rattle.sym_edges.specs.declared.part.Sect.TheVariants.{Line}
use Rattle.abbrev_units.specs.Faults.{in_section}
use Rattle.line_program.specs.Faults.{in_line}
use Rattle.line_program.specs.Opcodes.{pass_ulebs}

pub pass_none : (n : ℕ) (c : Ahead) → n ≡ 0 → pass_ulebs n c ≡ Ok c
unfolding pass_ulebs
pass_none zero c none = refl
pass_none (suc n) c none = absurd (omega arith)

pub pass_more : (n less : ℕ) (c later : Ahead) (x : ℕ) → n ≡ less + 1 → Ok (x, later) ≡ uleb_at c → pass_ulebs n c ≡ pass_ulebs less later
unfolding pass_ulebs
pass_more n less c later x count read =
    let same : n ≡ suc less = omega arith in
    ap (λ k. pass_ulebs k c) same ∙ ap (λ r. in_line r >>= λ operand. pass_ulebs less operand.1) (sym read)

pub pass_cut : (n : ℕ) (c : Ahead) (fault : CursorFault) → 0 < n → Err fault ≡ uleb_at c → pass_ulebs n c ≡ Err (in_section Line fault)
unfolding pass_ulebs
pass_cut zero c fault some read = absurd (omega arith)
pass_cut (suc n) c fault some read = ap (λ r. in_line r >>= λ operand. pass_ulebs n operand.1) (sym read)
