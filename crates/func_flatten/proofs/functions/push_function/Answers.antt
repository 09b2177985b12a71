use Rattle.std.proofs.Common.{◌≡◌, [], ◌∷◌, ◌++◌, length, vec_len, ap, ◌∙◌, subst, arith}
use Rattle.step_maps.specs.SpanStretches.{span_stretches}
use Rattle.func_flatten.specs.internal.Standing.{Meets}
use Rattle.func_flatten.proofs.CollectLemmas.{function_known, function_taken}
use Rattle.func_flatten.proofs.functions.push_function.Goals as goal

pub returns-in-Known-clause-all : goal.returns-in-Known-clause-all
returns-in-Known-clause-all c left die is all =
    function_known c.args.units.now c.args.part.now _ _ c.args.place die c.args.spans.now left c.in-Known.field-0 is c.requires.some c.requires.part c.requires.set
    (subst (Meets c.args.units.now c.args.part.now.spans c.args.kept.now.places.items c.args.place) c.in-Known.is (rw c.as_slice-2.ensures.value at c.in_ok-meet.ensures)) all

pub returns-clause-all : goal.returns-clause-all
returns-clause-all c left die is all =
    let same : c.push_spans.new.stretches.items ≡ c.args.kept.now.stretches.items ++ span_stretches c.len-number.result c.len-number.result c.args.spans.now = c.in_ok-push_spans.ensures.same in
    let length_is = ap length c.as_slice-2.ensures.value in
    let count : vec_len c.args.kept.now.places ≡ length c.args.kept.now.places.items = omega (arith, c.as_slice-2.ensures.len, length_is) in
    let placed : c.push.new.self.items ≡ c.args.kept.now.places.items ++ c.args.place ∷ [] = c.in_ok-push.ensures.items in
    function_taken c.args.units.now c.args.part.now c.args.kept.now.places.items c.push.new.self.items c.args.kept.now.stretches.items c.push_spans.new.stretches.items c.args.place die c.args.spans.now left is c.requires.some c.requires.canonical c.requires.part c.requires.set
    (subst (λ n. c.push_spans.new.stretches.items ≡ c.args.kept.now.stretches.items ++ span_stretches n n c.args.spans.now) (c.len-number.ensures ∙ count) same) placed all
