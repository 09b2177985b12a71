use Rattle.std.proofs.Common.{◌||◌, ◌==◌, ◌++◌, refl, ap, ◌∙◌}
use Rattle.std.proofs.Math.Bool.{or_comm}
use Rattle.std.specs.List.{list_any}
use Rattle.sym_meaning.specs.TextNames.{is_origin}
use Rattle.sym_findings.specs.Findings.{finding_if, findings_at}
use Rattle.sym_findings.specs.declared.kind.FindingKind.TheVariants as kind
use Rattle.sym_findings.proofs.JudgedLemmas.{last_one}
use Rattle.sym_findings.proofs.judgement.judge_origin.Goals as goal

pub returns : goal.returns
unfolding findings_at
returns c = λ all before name keeps. record {
  found = c.in_ok-note.ensures.list ∙ ap (λ t. c.args.notes.now.list.items ++ finding_if t kind.GivenAgain c.args.notes.now.index) (c.in_ok-again.ensures.again ∙ keeps.origins c.args.number) ∙ last_one c.args.notes.now.list.items _;
  keeps = record {
    files = keeps.files;
    origins = λ n. c.in_ok-again.ensures.more n ∙ ap (λ t. t || (c.args.number == n)) (keeps.origins n) ∙ or_comm (list_any (is_origin n) before) (c.args.number == n);
    functions = keeps.functions;
    func = refl;
    lines = tt;
    inits = keeps.inits;
    init = refl;
  };
}
