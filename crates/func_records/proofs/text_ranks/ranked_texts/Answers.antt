use Rattle.std.proofs.Common.{◌≡◌, map, IsPermutation, ap, subst, ◌∙◌}
use Rattle.func_records.proofs.TextLemmas.{bare_sorted, bare_moved, once_sorted, once_same, sorted_in_place}
use Rattle.func_records.proofs.text_ranks.ranked_texts.Goals as goal

pub returns-clause-sorted : goal.returns-clause-sorted
returns-clause-sorted g c =
    let moved : IsPermutation c.in_ok-placed.placed.items c.sort.new.items = subst (λ old. IsPermutation old c.sort.new.items) c.as_mut_slice.ensures.value c.in_ok-sort.ensures.same in
    let held : c.as_slice.result.now ≡ c.sort.new.items = c.as_slice.ensures.value ∙ sorted_in_place c.in_ok-placed.placed.items c.sort.new.items c.in_ok-placed.placed.len c.in_ok-placed.placed.ok.0 moved in
    once_sorted _ _ (bare_sorted c.sort.new.items _ c.in_ok-sort.ensures.sorted (c.in_ok-sorted.ensures ∙ ap (map (λ p. p.0)) held)) c.dedup.ensures.filtered

pub returns-clause-same : goal.returns-clause-same
returns-clause-same g c =
    let moved : IsPermutation c.in_ok-placed.placed.items c.sort.new.items = subst (λ old. IsPermutation old c.sort.new.items) c.as_mut_slice.ensures.value c.in_ok-sort.ensures.same in
    let held : c.as_slice.result.now ≡ c.sort.new.items = c.as_slice.ensures.value ∙ sorted_in_place c.in_ok-placed.placed.items c.sort.new.items c.in_ok-placed.placed.len c.in_ok-placed.placed.ok.0 moved in
    once_same c.args.texts.now _ _ (bare_moved c.args.texts.now c.in_ok-placed.placed.items c.sort.new.items _ c.in_ok-placed.ensures moved (c.in_ok-sorted.ensures ∙ ap (map (λ p. p.0)) held)) c.dedup.ensures.filtered
