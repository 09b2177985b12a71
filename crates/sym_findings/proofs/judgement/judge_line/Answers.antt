use Rattle.std.proofs.Common.{not, ◌&&◌, [], ◌∷◌, ap, sym, ◌∙◌, refl}
use Rattle.std.specs.Option.{is_some}
use Rattle.sym_meaning.specs.Findings.{is_sized}
use Rattle.sym_findings.specs.Findings.{open_func, findings_at}
use Rattle.sym_findings.proofs.JudgedLemmas.{four_noted, last_four, and_true, leaves_same, line_same, line_kept, line_func}
use Rattle.sym_findings.proofs.judgement.judge_line.Goals as goal

pub returns : goal.returns
unfolding findings_at
returns c = λ all before line knows keeps. record {
  found =
      four_noted c.args.notes.now.list.items _ _ _ _ _ _ _ _ _ _ _ _ _ _ _ _ c.args.notes.now.index _ _ _ c.in_ok-note.ensures.list c.note.ensures.index c.in_ok-note-2.ensures.list c.note-2.ensures.index c.in_ok-note-3.ensures.list c.note-3.ensures.index c.in_ok-note-4.ensures.list
      (ap not (c.has.ensures ∙ knows.files c.args.file)) (ap not (c.is_sized.ensures ∙ sym (and_true (is_sized c.args.run)))) (c.leaves_open.ensures ∙ leaves_same (c.args.run ∷ []) c.args.kept.now.func (open_func before) keeps.func)
      (c.is_open_and.ensures ∙ ap (λ t. is_some c.args.kept.now.func && t) c.in_ok-met.ensures.met ∙ line_same c.args.kept.now.lines c.args.kept.now.func (open_func before) c.args.run keeps.func keeps.lines)
      ∙ last_four c.args.notes.now.list.items _ _ _ _;
  keeps = record {
    files = keeps.files;
    origins = keeps.origins;
    functions = keeps.functions;
    func = keeps.func ∙ line_func (open_func before) c.args.run;
    lines = line_kept c.args.kept.now.lines c.put.new.self (open_func before) c.args.run keeps.lines c.in_ok-met.ensures.more;
    inits = keeps.inits;
    init = refl;
  };
}
