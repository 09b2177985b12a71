use Rattle.std.proofs.Common.{not, ◌++◌, refl, ap, ◌∙◌}
use Rattle.std.specs.List.{flat_map}
use Rattle.sym_meaning.specs.Findings.{func_run, is_sized}
use Rattle.sym_findings.specs.Findings.{meets_any, finding_if, findings_at}
use Rattle.sym_findings.specs.declared.kind.FindingKind.TheVariants as kind
use Rattle.sym_findings.proofs.JudgedLemmas.{last_two, one_sized, more_met}
use Rattle.sym_findings.proofs.judgement.judge_func.Goals as goal

pub returns : goal.returns
unfolding findings_at
returns c = λ all before many params name keeps.
    let index = c.args.notes.now.index in
    let old = c.args.notes.now.list.items in
    record {
      found =
          c.in_ok-judge_run.ensures.found
          ∙ ap (λ t. (old ++ finding_if (not (is_sized c.args.run)) kind.BadSize index) ++ finding_if t kind.FuncMeets index) (keeps.functions c.args.run)
          ∙ ap (λ l. (old ++ l) ++ finding_if (meets_any (flat_map func_run before) c.args.run) kind.FuncMeets index) (one_sized c.args.run index)
          ∙ last_two old _ _;
      keeps = record {
        files = keeps.files;
        origins = keeps.origins;
        functions = more_met c.args.kept.now.functions c.judge_run.new.earlier (flat_map func_run before) c.args.run keeps.functions c.in_ok-judge_run.ensures.more;
        func = refl;
        lines = c.new.ensures;
        inits = keeps.inits;
        init = refl;
      };
    }
