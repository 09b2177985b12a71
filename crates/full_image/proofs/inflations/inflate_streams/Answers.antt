use Rattle.std.proofs.Common.{◌∙◌, length, get_or, map, ap, arith, None}
use Rattle.std.specs.Option.{option_map}
use Rattle.full_image.specs.StreamView.{stream_view}
use Rattle.full_image.specs.FullImage.{outcome_of}
use Rattle.full_image.proofs.TurnLemmas.{all_inflated, turned_length}
use Rattle.full_image.proofs.inflations.inflate_streams.Goals as goal

pub returns : goal.returns
returns g c =
    let long = ap length c.in_ok-turned.ensures ∙ turned_length c.longest-first.result c.args.streams.now in
    c.of.ensures ∙ c.in_ok-turned_back.ensures
    ∙ all_inflated (option_map stream_view) c.args.streams.now c.longest-first.result _ c.in_ok-outs.outs.items (omega (arith, long, c.in_ok-outs.ensures.count)) (omega (arith, long, c.in_ok-outs.ensures.count))
    (λ k d below. c.in_ok-outs.ensures.each k d below
    ∙ ap (λ l. outcome_of (get_or l k None)) (c.of-inflater.ensures ∙ ap (map (option_map stream_view)) (c.deref.ensures.value ∙ c.in_ok-turned.ensures)))
