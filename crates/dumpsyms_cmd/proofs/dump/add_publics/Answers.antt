use Rattle.std.proofs.Common.{◌≡◌, ◌<◌, [], Some, false, length, get_or, map, refl, arith}
use Rattle.std.specs.List.{flat_map, slice_get}
use Rattle.std.proofs.lemmas.Option.{slice_get-get_or}
use Rattle.sym_records.specs.Spelled.{text_bytes}
use Rattle.sym_records.specs.declared.place.Place.TheVariants.{Inside}
use Rattle.func_flatten.specs.declared.public.PublicAt.{PublicAt}
use Rattle.func_flatten.specs.Publics.{public_view}
use Rattle.func_records.proofs.CanonLemmas.{nothing_added, none_here}
use Rattle.dumpsyms_cmd.specs.commands.Dump.{public_line}
use Rattle.dumpsyms_cmd.proofs.CanonLemmas.{line_text, line_fit, mapped_at}
use Rattle.dumpsyms_cmd.proofs.dump.add_publics.Goals as goal

pub addresses-init : goal.addresses-init
addresses-init c = record { text = nothing_added (text_bytes c.args.text.now); fit = none_here 0 Inside }

pub addresses-preserved : goal.addresses-preserved
addresses-preserved c =
    let other : PublicAt = record { address = 0; name = record { ref_ptr = (0, 0); now = [] }; many = false } in
    let at : PublicAt = get_or c.args.found.now c.addresses.k other in
    let below : c.addresses.k < length c.args.found.now = omega arith in
    let there : slice_get (map public_view c.args.found.now) c.addresses.k ≡ Some (public_view at) = mapped_at public_view c.args.found.now c.addresses.k at (slice_get-get_or c.args.found.now c.addresses.k other below) in
    record {
      text = line_text (public_line c.args.base) (map public_view c.args.found.now) c.addresses.k (public_view at) (flat_map (λ piece. piece) c.addresses.text.full.items) (text_bytes c.args.text.now) c.addresses.text.last.items _ _ _ there c.addresses.invariant.text c.in_ok-add_public_at.ensures.text refl c.in_ok-turn.ensures;
      fit = line_fit (public_line c.args.base) (map public_view c.args.found.now) c.addresses.k (public_view at) there c.addresses.invariant.fit c.in_ok-add_public_at.ensures.fit;
    }
