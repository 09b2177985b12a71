use Rattle.std.proofs.Common.{◌++◌, ◌∙◌, sym, ap}
use Rattle.std.specs.BTreeSet.{contains_by}
use Rattle.std.specs.Cmp.Lexicographic.{slice_cmp}
use Rattle.std.specs.Ordering.{nat_cmp}
use Rattle.stack_text.proofs.SaidLemmas.{said_before, said_now}
use Rattle.stack_text.proofs.said_lines.SaidLines.say.Goals as goal

pub returns-then-contains : goal.returns-then-contains
returns-then-contains c = λ lines has. said_before c.args.self.now c.args.line lines (ap (λ text. contains_by (λ k. slice_cmp nat_cmp text k.items) c.args.self.now.set) (sym c.as_slice.ensures.value) ∙ sym c.contains.ensures ∙ c.if-contains.true) has

pub returns : goal.returns
returns c = λ lines has.
    said_now c.args.self.now _ c.args.line lines (ap (λ text. contains_by (λ k. slice_cmp nat_cmp text k.items) c.args.self.now.set) (sym c.as_slice.ensures.value) ∙ sym c.contains.ensures ∙ c.if-contains.false)
    (c.in_ok-extend_from_slice.ensures.items ∙ ap (λ l. c.args.self.now.text.items ++ l) c.as_slice-2.ensures.value) c.in_ok-insert.ensures.updates has
