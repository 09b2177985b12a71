use Rattle.debug_read.proofs.SaidLemmas.{owners_same, chains_same, lines_same}
use Rattle.debug_read.proofs.SaidNameLemmas.{names_same, calls_same}
use Rattle.debug_read.proofs.laws.what_is_kept_says_what_the_units_say.Goals as goal

pub returns-clause-owner : goal.returns-clause-owner
returns-clause-owner c = owners_same

pub returns-clause-chain : goal.returns-clause-chain
returns-clause-chain c = chains_same

pub returns-clause-line : goal.returns-clause-line
returns-clause-line c = lines_same

pub returns-clause-name : goal.returns-clause-name
returns-clause-name c = names_same

pub returns-clause-calls : goal.returns-clause-calls
returns-clause-calls c = calls_same
