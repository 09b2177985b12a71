use Rattle.std.proofs.Common.{◌∙◌}
use Rattle.step_maps.proofs.SpanLemmas.{fit_stretches}
use Rattle.func_flatten.proofs.ClassLemmas.{own_collected, classed_stretches, kept_stretches, starts_rise, covers_named}
use Rattle.func_flatten.proofs.cover_marks.named_covers.Goals as goal

pub without_repeats-requires : goal.without_repeats-requires
without_repeats-requires c = rw c.as_slice-2.ensures.value (record { fit = c.requires.fit; own = own_collected _ _ _ c.requires.all })

pub covers-requires : goal.covers-requires
covers-requires c = rw c.as_slice-stretches.ensures.value (fit_stretches _ c.in_ok-single.ensures.fit)

pub stretches_at-requires : goal.stretches_at-requires
stretches_at-requires c = rw (c.as_slice-4.ensures.value, c.in_ok-starts.ensures, c.as_slice-3.ensures) (starts_rise _ _ c.in_ok-apart.ensures)

pub first_items-requires : goal.first_items-requires
first_items-requires c =
    let found = c.in_ok-named.ensures in
    rw (c.as_slice-7.ensures.value, found.2)
    (classed_stretches found.0 _ (rw (c.as_slice-6.ensures.value, c.in_ok-kept.ensures, c.as_slice-stretches.ensures.value) (kept_stretches _ _ (fit_stretches _ c.in_ok-single.ensures.fit))))

pub returns : goal.returns
returns c =
    let found = rw c.as_slice-5.ensures.value at c.in_ok-named.ensures in
    rw (c.of.ensures, c.mark_covers.ensures, c.into_vec.ensures)
    (covers_named c.args.units.now c.args.all.now.places.items c.args.all.now.stretches.items c.in_ok-single.single.items c.as_slice-6.result.now c.as_slice-7.result.now _ _ c.requires.all
    (rw (c.as_slice.ensures.value, c.as_slice-2.ensures.value) at c.in_ok-single.ensures.represents)
    c.in_ok-single.ensures.own
    (rw c.as_slice-stretches.ensures.value at c.in_ok-apart.ensures)
    (c.as_slice-6.ensures.value ∙ (rw (c.as_slice-4.ensures.value, c.in_ok-starts.ensures, c.as_slice-3.ensures, c.as_slice-stretches.ensures.value) at c.in_ok-kept.ensures))
    (found.0, found.1, c.as_slice-7.ensures.value ∙ found.2)
    c.in_ok-items.ensures)
