use Rattle.debug_units.specs.declared.unit_read.UnitRead.{UnitRead}
use Rattle.step_maps.specs.SpanStretches.{AreFit}
use Rattle.inline_chain.specs.Trees.{IsTree}
use Rattle.inline_chain.specs.internal.Levels.{IsLevel, RunsTo}
use Rattle.std.proofs.Common.{◌+◌}
use Rattle.inline_chain.proofs.inline_list.runs_under.Given as goal

abbrev pub invariant-levels : goal.invariant-levels
invariant-levels l = record {
  fit : AreFit l.levels.level.items;
  level : (part : UnitRead) → IsTree part l.lists → IsLevel part l.fn.owner (l.number + 1) l.levels.level.items;
  runs : (part : UnitRead) → IsTree part l.lists → RunsTo part l.fn.owner l.number l.levels.runs.items;
}
