-- The definitions of inline_chain that a proof unfolds to compute a worked example.
use Rattle.std.specs.Prelude.{⊤}
use Rattle.debug_units.specs.Owners.{inside_of, entry_chain}
use Rattle.func_flatten.proofs.Computing.{func_flatten_computes}
use Rattle.inline_chain.specs.InlineRuns.{is_on_chain, joined}

unfoldable pub inline_chain_computes : ⊤
unfolding func_flatten_computes inside_of entry_chain is_on_chain joined
inline_chain_computes = tt
