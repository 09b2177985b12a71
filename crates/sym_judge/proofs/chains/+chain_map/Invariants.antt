use Rattle.std.proofs.Common.{length}
use Rattle.sym_judge.proofs.chains.+chain_map.Given as goal

abbrev pub decreases-chain_map : goal.decreases-chain_map
decreases-chain_map l = length l.levels.now
