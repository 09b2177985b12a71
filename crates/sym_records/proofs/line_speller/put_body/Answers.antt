use Rattle.std.proofs.Common.{refl, ap, sym, subst, ◌∙◌}
use Rattle.sym_rules.specs.Buffer.{Hands}
use Rattle.sym_records.specs.Canon.{body}
use Rattle.sym_records.specs.Fields.{hex}
use Rattle.sym_records.proofs.HandingLemmas.{line_is}
use Rattle.sym_records.proofs.line_speller.put_body.Goals as goal

pub returns-in-Line : goal.returns-in-Line
returns-in-Line g c =
    subst (λ l. Hands c.put_numbered.result (g.O.Sink.taken c.args.sink.now) (g.O.Sink.faults c.args.sink.now) c.args.waiting.now l (g.O.Sink.taken c.put_numbered.new.sink) (g.O.Sink.faults c.put_numbered.new.sink) c.put_numbered.new.waiting)
    (line_is c.in-Line.address c.in-Line.size c.in-Line.line c.in-Line.file (hex c.in-Line.address) refl ∙ ap body (sym c.in-Line.is)) c.put_numbered.ensures
