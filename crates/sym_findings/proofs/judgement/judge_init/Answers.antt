use Rattle.std.proofs.Common.{not, ◌++◌, refl, ap, ◌∙◌}
use Rattle.std.specs.List.{flat_map}
use Rattle.sym_meaning.specs.Findings.{is_sized}
use Rattle.sym_findings.specs.Findings.{meets_any, init_run, finding_if, findings_at}
use Rattle.sym_findings.specs.declared.kind.FindingKind.TheVariants as kind
use Rattle.sym_findings.proofs.JudgedLemmas.{last_two, one_sized, more_met}
use Rattle.sym_findings.proofs.judgement.judge_init.Goals as goal

pub returns : goal.returns
unfolding findings_at
returns c = λ all before rules keeps.
    let index = c.args.notes.now.index in
    let old = c.args.notes.now.list.items in
    record {
      found =
          c.in_ok-judge_run.ensures.found
          ∙ ap (λ t. (old ++ finding_if (not (is_sized c.args.run)) kind.BadSize index) ++ finding_if t kind.InitMeets index) (keeps.inits c.args.run)
          ∙ ap (λ l. (old ++ l) ++ finding_if (meets_any (flat_map init_run before) c.args.run) kind.InitMeets index) (one_sized c.args.run index)
          ∙ last_two old _ _;
      keeps = record {
        files = keeps.files;
        origins = keeps.origins;
        functions = keeps.functions;
        func = refl;
        lines = tt;
        inits = more_met c.args.kept.now.inits c.judge_run.new.earlier (flat_map init_run before) c.args.run keeps.inits c.in_ok-judge_run.ensures.more;
        init = refl;
      };
    }
