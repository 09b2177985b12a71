use Rattle.std.proofs.Common.{◌≡◌, ◌<◌, ℕ, Bor, List, [], Some, length, get_or, refl, arith}
use Rattle.std.specs.List.{flat_map, slice_get}
use Rattle.std.proofs.lemmas.Option.{slice_get-get_or}
use Rattle.sym_records.specs.Spelled.{text_bytes}
use Rattle.sym_records.specs.declared.place.Place.TheVariants.{Inside}
use Rattle.func_records.specs.internal.Numbering.{numbered}
use Rattle.func_records.proofs.CanonLemmas.{nothing_added, none_here}
use Rattle.func_records.proofs.TableLemmas.{line_text, line_fit, stands_inside}
use Rattle.func_records.proofs.text_numbers.add_texts.Goals as goal

pub texts-init : goal.texts-init
texts-init c = record { text = nothing_added (text_bytes c.args.text.now); fit = none_here 0 Inside }

pub texts-preserved : goal.texts-preserved
texts-preserved c =
    let text : Bor (List ℕ) = get_or c.args.texts.now c.texts.number (record { ref_ptr = (0, 0); now = [] }) in
    let below : c.texts.number < length c.args.texts.now = omega arith in
    let there : slice_get c.args.texts.now c.texts.number ≡ Some text = slice_get-get_or c.args.texts.now c.texts.number (record { ref_ptr = (0, 0); now = [] }) below in
    record {
      text = line_text (numbered c.args.numbering) c.args.texts.now c.texts.number text (flat_map (λ piece. piece) c.texts.text.full.items) (text_bytes c.args.text.now) c.texts.text.last.items _ _ _ c.requires.clean there c.texts.invariant.text c.in_ok-add_text.ensures.text refl c.in_ok-turn.ensures;
      fit = line_fit (numbered c.args.numbering) c.args.texts.now c.texts.number text (stands_inside c.args.numbering) c.requires.clean there c.texts.invariant.fit c.in_ok-add_text.ensures.fit;
    }
