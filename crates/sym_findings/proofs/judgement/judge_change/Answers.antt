use Rattle.std.proofs.Common.{not, false, ◌++◌, ap, ◌∙◌, refl}
use Rattle.std.specs.Option.{option_map, option_map_or}
use Rattle.sym_findings.specs.Findings.{goes_on, finding_if, findings_at}
use Rattle.sym_findings.specs.declared.kind.FindingKind.TheVariants as kind
use Rattle.sym_findings.specs.declared.records_before.OpenInit.{OpenInit}
use Rattle.sym_findings.proofs.JudgedLemmas.{last_one}
use Rattle.sym_findings.proofs.judgement.judge_change.Goals as goal

pub returns : goal.returns
unfolding findings_at
returns c = λ all before rules keeps. record {
  found =
      c.in_ok-note.ensures.list
      ∙ ap (λ t. c.args.notes.now.list.items ++ finding_if (not t) kind.ChangeOutside c.args.notes.now.index) (c.goes_on.ensures ∙ ap (λ o. option_map_or (goes_on c.args.address) o false) keeps.init)
      ∙ last_one c.args.notes.now.list.items _;
  keeps = record {
    files = keeps.files;
    origins = keeps.origins;
    functions = keeps.functions;
    func = refl;
    lines = tt;
    inits = keeps.inits;
    init = c.moved-kept.ensures ∙ ap (option_map (λ (o : OpenInit). record o { last = c.args.address })) keeps.init;
  };
}
