use Rattle.std.proofs.Common.{◌+◌, ◌-◌, ap, ◌∙◌}
use Rattle.rust_names.specs.V0Texts.{say, next_lifetime, lifetimes_from}
use Rattle.rust_names.proofs.TextLemmas.{lifetimes_more, step_on, step_off}
use Rattle.rust_names.proofs.texts.add_lifetimes.Goals as goal

pub returns-then-not-branch : goal.returns-then-not-branch
returns-then-not-branch c =
    step_off c.args.text.now.items c.names.text.items c.add_next_lifetime.new.text.items (next_lifetime (c.args.depth + c.names.i)) (lifetimes_from (c.args.count - (c.names.i + 1)) (c.args.depth + (c.names.i + 1))) (lifetimes_from c.args.count c.args.depth) c.in_ok-add_next_lifetime.field-0
    (c.names.invariant ∙ ap (say c.names.text.items) (lifetimes_more c.args.count c.names.i c.args.depth c.names-test.true)) c.in_ok-add_next_lifetime.ensures c.if-not-branch.true

pub names-preserved : goal.names-preserved
names-preserved c =
    step_on c.args.text.now.items c.names.text.items c.add_next_lifetime.new.text.items (next_lifetime (c.args.depth + c.names.i)) (lifetimes_from (c.args.count - (c.names.i + 1)) (c.args.depth + (c.names.i + 1))) (lifetimes_from c.args.count c.args.depth) c.in_ok-add_next_lifetime.field-0
    (c.names.invariant ∙ ap (say c.names.text.items) (lifetimes_more c.args.count c.names.i c.args.depth c.names-test.true)) c.in_ok-add_next_lifetime.ensures c.if-not-branch.false
