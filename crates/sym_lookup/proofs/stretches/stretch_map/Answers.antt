use Rattle.std.proofs.Common.{sym, eqb-true}
use Rattle.sym_lookup.specs.declared.stretches.Kind.TheVariants as kind
use Rattle.sym_lookup.proofs.StretchLemmas.{map_is}
use Rattle.sym_lookup.proofs.LevelLemmas.{level_none}
use Rattle.sym_lookup.proofs.stretches.stretch_map.Goals as goal

pub returns-then-is_empty : goal.returns-then-is_empty
returns-then-is_empty c = λ level first records same. level_none level first records c.args.stretches.now (eqb-true _ 0 (sym c.if-is_empty.ensures)) same

pub returns : goal.returns
returns c = λ level first records same. map_is (kind.Level level) first records c.args.stretches.now _ same c.in_ok-map.ensures
