use Rattle.std.proofs.Common.{map, ap, refl, ◌∙◌}
use Rattle.std.specs.List.{flat_map}
use Rattle.func_flatten.specs.Publics.{public_view}
use Rattle.dumpsyms_cmd.proofs.CanonLemmas.{head_spelled}
use Rattle.dumpsyms_cmd.proofs.dump.spell_head.Goals as goal

pub returns : goal.returns
returns g c =
    head_spelled c.args.image.now c.args.name.now c.args.debug.now.units c.in_ok-pieces.pieces c.base-base.result (map public_view c.as_slice-2.result.now)
    (flat_map (λ piece. piece) c.new-front.result.full.items) c.new-front.result.last.items _ _ _ _
    c.base-base.ensures (ap (map public_view) c.as_slice-2.ensures ∙ c.in_ok-found.ensures) c.new-front.ensures c.in_ok-put_identity.ensures.text refl c.in_ok-put_identity.ensures.valid (rw c.as_slice.ensures at c.in_ok-text.ensures) c.in_ok-add_publics.ensures.text c.in_ok-add_publics.ensures.fit c.in_ok-pieces.ensures
