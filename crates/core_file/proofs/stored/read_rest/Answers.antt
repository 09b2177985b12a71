use Rattle.std.proofs.Common.{rules, refl, ◌∙◌, arith}
use Rattle.core_file.proofs.StoredLemmas.{taken_start, taken_more, taken_past, at_fault}
use Rattle.core_file.proofs.stored.read_rest.Goals as goal

pub pieces-init : goal.pieces-init
pieces-init g c = record {
  asked = refl;
  files = refl;
  faults = omega arith;
  steady = refl;
  room = search rules;
  taken = taken_start _ _ c.new-bytes.ensures;
}

pub pieces-preserved : goal.pieces-preserved
pieces-preserved g c = record {
  asked = c.read.ensures.asked ∙ c.pieces.invariant.asked;
  files = c.read.ensures.files ∙ c.pieces.invariant.files;
  faults = omega (arith, c.read.ensures.faults, c.pieces.invariant.faults);
  steady = c.in-Ok.ensures.steady ∙ c.pieces.invariant.steady;
  room = search rules;
  taken = taken_more _ _ _ _ _ _ _ _ _ c.pieces.invariant.taken c.in-Ok.ensures.taken c.split_at.ensures.front c.in-Ok-push.ensures.0 c.in-Ok-push.ensures.1;
}

pub returns-in-Err-Fault-clause-read : goal.returns-in-Err-Fault-clause-read
returns-in-Err-Fault-clause-read g c = taken_past _ _ _ _ _ _ _ _ c.pieces.invariant.taken c.in-Ok.ensures.taken c.split_at.ensures.front (at_fault _ _ _ _ _ _ c.in-Err-Fault.is c.in-Err-Fault.field-0-is c.push.ensures)
