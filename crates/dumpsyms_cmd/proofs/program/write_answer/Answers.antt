use Rattle.std.proofs.Common.{refl, sym, subst}
use Rattle.dumpsyms_cmd.specs.internal.Judged.{answer_verdict, has_output}
use Rattle.dumpsyms_cmd.specs.internal.Writes.{Writes}
use Rattle.dumpsyms_cmd.specs.declared.judgement.Answer.{Answer}
use Rattle.dumpsyms_cmd.proofs.WriteLemmas.{line_said}
use Rattle.dumpsyms_cmd.proofs.program.write_answer.Goals as goal

pub returns-in-Unread-clause-written : goal.returns-in-Unread-clause-written
returns-in-Unread-clause-written g c =
    let P : Answer → Type 0 = λ a. Writes c.say.result (answer_verdict a) (has_output a)
    (record { taken = g.O.Sink.taken c.args.out.now; taken_after = g.O.Sink.taken c.args.out.now; faults = g.O.Sink.faults c.args.out.now; faults_after = g.O.Sink.faults c.args.out.now })
    (record { taken = g.E.Sink.taken c.args.err.now; taken_after = g.E.Sink.taken c.say.new.err; faults = g.E.Sink.faults c.args.err.now; faults_after = g.E.Sink.faults c.say.new.err }) in
    subst P (sym c.in-Unread.is) (line_said _ _ _ _ _ refl c.bytes_of.ensures c.say.ensures.said)
