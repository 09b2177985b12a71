use Rattle.std.proofs.Common.{true, ap, ◌∙◌}
use Rattle.rust_names.specs.V0Leaves.{shown_on}
use Rattle.rust_names.proofs.LeafLemmas.{marked_ok, marked_bad}
use Rattle.rust_names.proofs.identifiers.add_identifier.Goals as goal

pub returns-in-Ok : goal.returns-in-Ok
returns-in-Ok c =
    ap (shown_on true c.args.text.now.items) (marked_ok c.args.marked c.args.bytes.now c.in_ok-input.input.items c.as_slice.result.now c.in-Ok.string.now c.if-not-marked.false c.in_ok-input.ensures c.as_slice.ensures.value c.in-Ok.ensures.cases.0 c.in-Ok.ensures.cases.1)
    ∙ c.in_ok-said-in-Ok.ensures

pub returns : goal.returns
returns c = ap (shown_on true c.args.text.now.items) (marked_bad c.args.marked c.args.bytes.now c.in_ok-input.input.items c.as_slice.result.now c.if-not-marked.false c.in_ok-input.ensures c.as_slice.ensures.value c.in-Err.ensures.cases.0)
