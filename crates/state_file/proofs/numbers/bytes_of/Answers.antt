use Rattle.std.proofs.Common.{◌∙◌, sym, ap, Some, ok_or}
use Rattle.state_file.specs.declared.fault.StateKind.TheVariants.{Hex}
use Rattle.state_file.proofs.HexLemmas.{bytes_are, no_run}
use Rattle.state_file.proofs.numbers.bytes_of.Goals as goal

pub returns-in-Ok : goal.returns-in-Ok
returns-in-Ok c = ap (λ o. ok_or o Hex) (bytes_are c.args.digits.now c.in-Ok.bytes.items c.in-Ok.ensures.ok ∙ ap Some (sym c.of.ensures))

pub returns-in_default : goal.returns-in_default
returns-in_default c = ap (λ o. ok_or o Hex) (no_run c.args.digits.now c.in-Err.error c.in-Err.ensures.err c.in_default.not-OutOfMemory)
