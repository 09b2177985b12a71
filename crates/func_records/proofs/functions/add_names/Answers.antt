use Rattle.std.proofs.Common.{◌≡◌, ℕ, List, map, sym, ap, subst, ◌∙◌}
use Rattle.std.specs.List.{list_any}
use Rattle.std.specs.Str.{bytes_eq}
use Rattle.func_records.specs.internal.Gathering.{bytes_of}
use Rattle.func_records.specs.internal.Spelling.{number_or_0}
use Rattle.func_records.specs.internal.Origins.{made_name, AreAt}
use Rattle.func_records.proofs.OriginLemmas.{places_numbered}
use Rattle.func_records.proofs.UsedLemmas.{bytes_sorted, bytes_had, same_used, names_clean}
use Rattle.func_records.proofs.functions.add_names.Goals as goal

pub add_texts-requires-clause-clean : goal.add_texts-requires-clause-clean
add_texts-requires-clause-clean g c =
    let names : c.as_slice-names.result.now ≡ c.in_ok-ranked.ranked.sorted.items = c.as_slice-names.ensures.value in
    names_clean c.args.units.now c.args.refs.now c.as_slice-2.result.now c.as_slice-names.result.now
    (λ name. subst (λ ts. list_any (bytes_eq name) (bytes_of ts) ≡ list_any (bytes_eq name) (map (made_name c.args.units.now) c.args.refs.now)) (sym c.as_slice-2.ensures.value) (c.in_ok-texts.ensures.same name ∙ ap (list_any (bytes_eq name)) (c.as_slice.ensures.value ∙ c.in_ok-named.ensures)))
    (rw (sym names) at c.in_ok-ranked.ensures.same)

pub returns : goal.returns
returns g c =
    let sorted : c.as_slice-names.result.now ≡ c.in_ok-ranked.ranked.sorted.items = c.as_slice-names.ensures.value in
    let f : List ℕ → ℕ = number_or_0 (bytes_of c.as_slice-names.result.now) in
    let names : List (List ℕ) = map (made_name c.args.units.now) c.args.refs.now in
    record {
      names = bytes_of c.as_slice-names.result.now;
      sorted = bytes_sorted c.as_slice-names.result.now (rw (sym sorted) at c.in_ok-ranked.ensures.sorted);
      same = λ name. same_used c.as_slice-2.result.now c.as_slice-names.result.now name (rw (sym sorted) at c.in_ok-ranked.ensures.same) ∙ sym (bytes_had c.as_slice-2.result.now name)
          ∙ subst (λ ts. list_any (bytes_eq name) (bytes_of ts) ≡ list_any (bytes_eq name) names) (sym c.as_slice-2.ensures.value) (c.in_ok-texts.ensures.same name ∙ ap (list_any (bytes_eq name)) (c.as_slice.ensures.value ∙ c.in_ok-named.ensures));
      text = c.in_ok-add_texts.ensures.text;
      fit = c.in_ok-add_texts.ensures.fit;
      are = c.in_ok-numbers.ensures
          ∙ places_numbered f (bytes_of c.as_slice-3.result.now) c.as_slice-5.result.now c.as_slice-6.result.now names
          (c.as_slice-5.ensures.value ∙ c.in_ok-known.ensures)
          (subst (λ ps. AreAt (bytes_of c.as_slice-3.result.now) ps names) (sym c.as_slice-6.ensures.value)
          (subst (λ ts. AreAt (bytes_of ts) c.in_ok-texts.field-0.places.items names) (sym c.as_slice-3.ensures.value)
          (subst (AreAt (bytes_of c.in_ok-texts.field-0.texts.items) c.in_ok-texts.field-0.places.items) (c.as_slice.ensures.value ∙ c.in_ok-named.ensures) c.in_ok-texts.ensures.at)));
    }
