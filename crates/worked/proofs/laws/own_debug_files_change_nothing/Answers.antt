use Rattle.worked.proofs.OwnDebugFile.{own_debug_file}
use Rattle.worked.proofs.laws.own_debug_files_change_nothing.Goals as goal

pub returns : goal.returns
returns c = own_debug_file
