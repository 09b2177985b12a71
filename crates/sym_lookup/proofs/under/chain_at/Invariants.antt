use Rattle.std.proofs.Common.{◌≡◌, ◌++◌, drop}
use Rattle.sym_lookup.specs.UnderOf.{chain_in}
use Rattle.sym_lookup.proofs.under.chain_at.Given as goal

abbrev pub invariant-levels : goal.invariant-levels
invariant-levels l = l.chain.items ++ chain_in (drop l.at l.levels) l.address ≡ chain_in l.levels l.address
