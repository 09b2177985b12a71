use Rattle.rust_names.proofs.LookupLemmas.{same_func, same_owner, same_chain, same_line, same_frame}
use Rattle.rust_names.proofs.FindingLemmas.{same_findings}
use Rattle.rust_names.proofs.laws.names_alone_change.Goals as goal

pub returns-clause-func : goal.returns-clause-func
returns-clause-func c = same_func

pub returns-clause-owner : goal.returns-clause-owner
returns-clause-owner c = same_owner

pub returns-clause-chain : goal.returns-clause-chain
returns-clause-chain c = same_chain

pub returns-clause-line : goal.returns-clause-line
returns-clause-line c = same_line

pub returns-clause-frame : goal.returns-clause-frame
returns-clause-frame c = same_frame

pub returns-clause-findings : goal.returns-clause-findings
returns-clause-findings c = same_findings
