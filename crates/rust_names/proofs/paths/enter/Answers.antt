use Rattle.std.proofs.Common.{[], ◌∷◌, ◌++◌, length, ◌∙◌, arith}
use Rattle.rust_names.proofs.EndLemmas.{here, beyond, nested_end}
use Rattle.rust_names.proofs.PathLemmas.{entered_same, entered_lighter, type_entered, backed}
use Rattle.rust_names.proofs.paths.enter.Goals as goal

pub names-preserved : goal.names-preserved
names-preserved c =
    let is = c.in-Some.ensures.is in
    let first = c.args.stack.now.items ++ c.args.frame.now ∷ [] in
    record {
      same = entered_same c.args.name.now c.names.frame first c.names.stack.items c.push.new.self.items c.in-Some.space c.args.bytes.now c.names.rest.now c.in-Some.after.now is.0 is.1 is.2 is.3 c.in_ok-push.ensures.items c.names.invariant.same;
      lighter = entered_lighter (length c.args.name.now) c.names.frame first c.names.stack.items c.push.new.self.items c.in-Some.space c.names.rest.now c.in-Some.after.now is.0 is.1 is.2 is.3 c.in_ok-push.ensures.items c.names.invariant.lighter;
      made = c.names.invariant.made;
      ends = nested_end c.args.bytes.now c.names.rest.now c.in-Some.after.now c.in-Some.space c.names.invariant.ends is.3;
    }

pub names-init : goal.names-init
names-init c =
    let enters = type_entered c.args.name.now c.args.frame.now c.enter_type.new.frame c.args.stack.now.items c.args.bytes.now c.requires c.enter_type.ensures in
    record { same = enters.same; lighter = enters.lighter; made = enters.made; ends = here c.args.bytes.now }

pub returns-clause-same : goal.returns-clause-same
returns-clause-same c = λ text opened.
    c.names.invariant.same text opened ∙ (backed c.args.name.now c.names.frame c.enter_back.new.frame c.names.stack.items c.names.rest.now c.enter_back.result.now c.names.invariant.made c.enter_back.ensures).same text opened

pub returns-clause-ends : goal.returns-clause-ends
returns-clause-ends c =
    beyond c.args.bytes.now c.names.rest.now c.enter_back.result.now c.names.invariant.ends (backed c.args.name.now c.names.frame c.enter_back.new.frame c.names.stack.items c.names.rest.now c.enter_back.result.now c.names.invariant.made c.enter_back.ensures).ends

pub returns-clause-made : goal.returns-clause-made
returns-clause-made c = (backed c.args.name.now c.names.frame c.enter_back.new.frame c.names.stack.items c.names.rest.now c.enter_back.result.now c.names.invariant.made c.enter_back.ensures).made

pub returns-clause-lighter : goal.returns-clause-lighter
returns-clause-lighter c =
    omega (arith, c.names.invariant.lighter, (backed c.args.name.now c.names.frame c.enter_back.new.frame c.names.stack.items c.names.rest.now c.enter_back.result.now c.names.invariant.made c.enter_back.ensures).lighter)
