use Rattle.std.proofs.Common.{◌∙◌, ◌++◌, ap, arith}
use Rattle.sym_lookup.proofs.SharedLemmas.{pushed_text, pushed_within}
use Rattle.sym_lookup.proofs.shared_text.SharedText.push.Goals as goal

pub invariant_of-self-2 : goal.invariant_of-self-2
invariant_of-self-2 c =
    pushed_within c.self.inside.bytes.items c.args.bytes.now _ c.self.inside.parts.items _ _ c.self.invariant c.in_ok-extend_from_slice.ensures.items
    (rw c.in_ok-reserve.ensures.items at c.push_reserved.ensures.items) (omega (arith, c.len-start.ensures, c.self.inside.bytes.ok.0)) (omega (arith, c.len.ensures, c.extend_from_slice.new.self.ok.0))

pub returns : goal.returns
returns c =
    pushed_text c.self.inside.bytes.items c.args.bytes.now _ c.self.inside.parts.items _ _ c.self.invariant c.in_ok-extend_from_slice.ensures.items
    (rw c.in_ok-reserve.ensures.items at c.push_reserved.ensures.items) (omega (arith, c.len-start.ensures, c.self.inside.bytes.ok.0)) (omega (arith, c.len.ensures, c.extend_from_slice.new.self.ok.0))
    ∙ ap (λ l. l ++ c.args.bytes.now) c.self.view_is
