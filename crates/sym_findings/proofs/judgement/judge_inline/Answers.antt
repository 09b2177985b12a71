use Rattle.std.proofs.Common.{not, ap, ◌∙◌, refl}
use Rattle.sym_findings.specs.Findings.{open_func, findings_at}
use Rattle.sym_findings.proofs.JudgedLemmas.{four_noted, last_four, leaves_same}
use Rattle.sym_findings.proofs.judgement.judge_inline.Goals as goal

pub returns : goal.returns
unfolding findings_at
returns c = λ all before level line knows keeps. record {
  found =
      four_noted c.args.notes.now.list.items _ _ _ _ _ _ _ _ _ _ _ _ _ _ _ _ c.args.notes.now.index _ _ _ c.in_ok-note.ensures.list c.note.ensures.index c.in_ok-note-2.ensures.list c.note-2.ensures.index c.in_ok-note-3.ensures.list c.note-3.ensures.index c.in_ok-note-4.ensures.list
      (ap not (c.has.ensures ∙ knows.files c.args.call.now.file)) (ap not (c.has-2.ensures ∙ knows.origins c.args.call.now.origin)) (ap not c.are_sized.ensures) (c.leave_open.ensures ∙ leaves_same c.args.call.now.runs.now c.args.kept.now.func (open_func before) keeps.func)
      ∙ last_four c.args.notes.now.list.items _ _ _ _;
  keeps = record {
    files = keeps.files;
    origins = keeps.origins;
    functions = keeps.functions;
    func = keeps.func;
    lines = keeps.lines;
    inits = keeps.inits;
    init = refl;
  };
}
