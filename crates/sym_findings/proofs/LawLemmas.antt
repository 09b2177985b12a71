-- Records have no findings exactly if a checker finds nothing in them (for the law
-- `nothing_found`).
use Rattle.std.proofs.Common.{◌≡◌, List, []}
use Rattle.sym_records.specs.declared.line.SymLine.{SymLine}
use Rattle.sym_meaning.specs.Findings.{has_file, has_origin, are_sized, HasNoFindings}
use Rattle.sym_findings.specs.declared.kind.FindingKind.{FindingKind}
use Rattle.sym_findings.specs.declared.kind.FindingKind.TheVariants as kind
use Rattle.sym_findings.specs.Findings.{is_found, findings}
use Rattle.sym_findings.proofs.PairLemmas.{NoneOf, none_from, from_none, all_of, of_all, given_once, once_given, funcs_apart, apart_funcs, inits_apart, apart_inits}
use Rattle.sym_findings.proofs.UnderLemmas.{lines_apart, apart_lines, inside, none_outside}
use Rattle.sym_findings.proofs.FrameLemmas.{once_apart, apart_once, nested, none_stray}

none_of : (lines : List SymLine) → findings lines ≡ [] → (k : FindingKind) → NoneOf (λ b s. is_found lines b s k) [] lines
unfolding findings
none_of lines none k = none_from lines [] 0 lines k none

pub nothing_in : (lines : List SymLine) → findings lines ≡ [] → HasNoFindings lines
nothing_in lines none =
    let sized = all_of are_sized [] lines (none_of lines none kind.BadSize) in
    record {
      functions = record {
        given_once = given_once lines (none_of lines none kind.GivenAgain);
        files = all_of (has_file lines) [] lines (none_of lines none kind.NoFile);
        origins = all_of (has_origin lines) [] lines (none_of lines none kind.NoOrigin);
        sized = sized;
        functions_apart = funcs_apart lines (none_of lines none kind.FuncMeets);
        inside = inside lines (none_of lines none kind.LeavesFunc);
        lines_apart = lines_apart lines (none_of lines none kind.LineMeets);
      };
      inits_apart = λ x. apart_once lines x (inits_apart lines (none_of lines none kind.InitMeets));
      changes_rise = nested lines sized (none_of lines none kind.ChangeOutside);
    }

none_by_kind : (lines : List SymLine) → HasNoFindings lines → (k : FindingKind) → NoneOf (λ b s. is_found lines b s k) [] lines
none_by_kind lines nothing kind.GivenAgain = once_given lines nothing.functions.given_once
none_by_kind lines nothing kind.NoFile = of_all (has_file lines) [] lines nothing.functions.files
none_by_kind lines nothing kind.NoOrigin = of_all (has_origin lines) [] lines nothing.functions.origins
none_by_kind lines nothing kind.BadSize = of_all are_sized [] lines nothing.functions.sized
none_by_kind lines nothing kind.FuncMeets = apart_funcs lines nothing.functions.functions_apart
none_by_kind lines nothing kind.LeavesFunc = none_outside lines nothing.functions.inside
none_by_kind lines nothing kind.LineMeets = apart_lines lines nothing.functions.lines_apart
none_by_kind lines nothing kind.InitMeets = apart_inits lines (once_apart lines nothing.inits_apart)
none_by_kind lines nothing kind.ChangeOutside = none_stray lines nothing.changes_rise

pub none_found : (lines : List SymLine) → HasNoFindings lines → findings lines ≡ []
unfolding findings
none_found lines nothing = from_none lines [] 0 lines (none_by_kind lines nothing)
