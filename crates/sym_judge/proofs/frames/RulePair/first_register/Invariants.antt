use Rattle.std.proofs.Common.{◌≡◌, ℕ}
use Rattle.sym_judge.specs.internal.Tables.{IsTableAt}
use Rattle.sym_judge.proofs.FrameLemmas.{registers_from}
use Rattle.sym_judge.proofs.frames.RulePair.first_register.Given as goal

abbrev pub invariant-registers : goal.invariant-registers
invariant-registers l = (x : ℕ) → IsTableAt l.self.own x l.a → IsTableAt l.self.other x l.b → registers_from l.self.own l.self.other x 0 ≡ registers_from l.self.own l.self.other x l.register
