use Rattle.std.proofs.Common.{◌++◌, ◌∷◌, [], take, ap, subst, ◌∙◌, arith}
use Rattle.die_names.specs.Names.{entry_name}
use Rattle.inline_chain.specs.InlineRuns.{InlineParts}
use Rattle.func_records.specs.internal.Origins.{entry_names, RefsSay}
use Rattle.func_records.proofs.OriginLemmas.{copies_none, copies_next, copies_all}
use Rattle.func_records.proofs.origin_refs.OriginRefs.add_copies.Goals as goal

pub copies-init : goal.copies-init
copies-init c = λ names say. copies_none c.args.units.now c.args.unit c.args.copies.now _ names say

pub copies-preserved : goal.copies-preserved
copies-preserved c = λ names say.
    copies_next c.args.units.now c.args.unit c.copies.place c.args.copies.now c.index-copies-place.result _ names (omega arith) c.index-copies-place.is
    (subst (λ t. RefsSay c.args.units.now c.add.new.self ((names ++ entry_names c.args.units.now c.args.unit (take c.copies.place c.args.copies.now)) ++ t ∷ []))
    (c.name_by-name.ensures.name ∙ ap (λ (r : InlineParts). entry_name c.args.units.now c.args.unit r.entry) c.copy.view_is)
    (c.in_ok-add.ensures c.args.units.now (names ++ entry_names c.args.units.now c.args.unit (take c.copies.place c.args.copies.now)) (c.copies.invariant names say)))

pub returns : goal.returns
returns c = λ names say. copies_all c.args.units.now c.args.unit c.copies.place c.args.copies.now _ names (omega arith) (c.copies.invariant names say)
