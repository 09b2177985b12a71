use Rattle.std.proofs.Common.{◌++◌, ap, ◌∙◌, arith}
use Rattle.sym_lookup.specs.internal.Kinds.{extent_stretches}
use Rattle.sym_lookup.proofs.LevelLemmas.{level_above, level_added, have_set, have_there, then_ok}
use Rattle.sym_lookup.proofs.stretches.push_inline.Goals as goal

pub returns-then-level-len-clause-same : goal.returns-then-level-len-clause-same
returns-then-level-len-clause-same c = level_above c.args.index c.args.line.now c.in-Inline.level c.in-Inline.call_line c.in-Inline.call_file c.in-Inline.origin c.in-Inline.ranges c.args.leveled.now.items c.in-Inline.is (omega (arith, c.len.ensures))

pub push_extents-requires : goal.push_extents-requires
push_extents-requires c = have_there c.args.leveled.now.items c.in-Inline.level c.index_mut.result.now (omega (arith, c.len.ensures)) c.index_mut.ensures.value c.requires

pub returns-clause-same : goal.returns-clause-same
returns-clause-same c =
    then_ok c.push_extents.result c.push_extents.ensures.same
    (λ is. level_added c.args.index c.args.line.now c.in-Inline.level c.in-Inline.call_line c.in-Inline.call_file c.in-Inline.origin c.in-Inline.ranges c.args.leveled.now.items c.index_mut.result.now c.push_extents.new.stretches c.in-Inline.is
    (omega (arith, c.len.ensures)) c.index_mut.ensures.value (is ∙ ap (λ rs. c.index_mut.result.now.items ++ extent_stretches c.args.index rs) c.as_slice.ensures))

pub returns-clause-stretches : goal.returns-clause-stretches
returns-clause-stretches c = then_ok c.push_extents.result c.push_extents.ensures.stretches (λ fit. have_set c.args.leveled.now.items c.in-Inline.level c.push_extents.new.stretches fit c.requires)
