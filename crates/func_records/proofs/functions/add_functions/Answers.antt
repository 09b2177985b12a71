use Rattle.std.proofs.Common.{◌≡◌, ℕ, List, map, sym, ap, subst, ◌∙◌}
use Rattle.sym_records.specs.Spelled.{text_bytes}
use Rattle.debug_units.specs.declared.unit_read.UnitRead.{UnitRead}
use Rattle.die_names.specs.declared.name_source.NameRef.{NameRef}
use Rattle.func_records.specs.internal.Gathering.{bytes_of, path_at, has_text, has_path, Gathered}
use Rattle.func_records.specs.internal.Spelling.{number_or_0}
use Rattle.func_records.specs.internal.Origins.{made_name, all_refs, beside, AddsNames}
use Rattle.func_records.specs.internal.Shares.{all_held, all_paths, AreFound}
use Rattle.func_records.proofs.OriginLemmas.{numbers_beside}
use Rattle.func_records.proofs.ShareLemmas.{AreJoined, all_found}
use Rattle.func_records.proofs.UsedLemmas.{paths_clean, paths_had, texts_gathered}
use Rattle.func_records.proofs.AddLemmas.{functions_added}
use Rattle.func_records.proofs.functions.add_functions.Goals as goal

pub add_texts-requires-clause-clean : goal.add_texts-requires-clause-clean
add_texts-requires-clause-clean g c =
    let shares : c.as_slice-shares.result.now ≡ c.in_ok-found.found.items = c.as_slice-shares.ensures.value in
    let used : c.as_slice.result.now ≡ c.in_ok-texts.texts.items = c.as_slice.ensures.value in
    let had : (path : List ℕ) → has_text c.in_ok-texts.texts.items path ≡ has_path c.args.units.now (all_paths c.as_slice-shares.result.now) path
    = λ path. paths_had c.args.units.now c.in_ok-refs.field-0.refs.items c.in_ok-texts.texts.items path (c.in_ok-texts.ensures ∙ c.in_ok-refs.ensures.texts) ∙ c.in_ok-refs.ensures.same path in
    let paths : c.as_slice-paths.result.now ≡ c.in_ok-ranked.ranked.sorted.items = c.as_slice-paths.ensures.value in
    let joined : AreJoined c.args.units.now c.args.pieces.now c.as_slice-shares.result.now = all_found c.args.units.now c.args.pieces.now c.as_slice-shares.result.now (rw (sym shares) at c.in_ok-found.ensures) in
    let gathered : Gathered c.args.units.now c.args.pieces.now (all_held c.as_slice-shares.result.now) (has_text c.in_ok-texts.texts.items) = texts_gathered c.args.units.now c.args.pieces.now (all_held c.as_slice-shares.result.now) (all_paths c.as_slice-shares.result.now) c.in_ok-texts.texts.items had joined.paths in
    paths_clean c.args.units.now c.args.pieces.now (all_held c.as_slice-shares.result.now) c.in_ok-texts.texts.items c.as_slice-paths.result.now c.requires.clean gathered (rw (sym paths) at (rw used at c.in_ok-ranked.ensures.same))

pub add_shares-requires-clause-found : goal.add_shares-requires-clause-found
add_shares-requires-clause-found g c κs within = subst (AreFound c.args.units.now c.args.pieces.now) (sym c.as_slice-shares.ensures.value) c.in_ok-found.ensures

pub add_shares-requires-clause-numbered : goal.add_shares-requires-clause-numbered
add_shares-requires-clause-numbered g c κs within =
    let units : List UnitRead = c.args.units.now in
    let f : List ℕ → ℕ = number_or_0 c.in_ok-numbers.ensures.names in
    let names : List (List ℕ) = map (made_name units) (all_refs c.as_slice-shares.result.now) in
    c.as_slice-7.ensures.value
    ∙ sym (numbers_beside f names c.in_ok-numbers.numbers.items (c.in_ok-numbers.ensures.are ∙ ap (λ (rs : List NameRef). map f (map (made_name units) rs)) (c.as_slice-5.ensures.value ∙ c.in_ok-refs-2.ensures)))
    ∙ ap (λ ns. map (beside names ns) names) (sym c.as_slice-6.ensures.value)

pub returns : goal.returns
returns g c =
    let units : List UnitRead = c.args.units.now in
    let shares : c.as_slice-shares.result.now ≡ c.in_ok-found.found.items = c.as_slice-shares.ensures.value in
    let used : c.as_slice.result.now ≡ c.in_ok-texts.texts.items = c.as_slice.ensures.value in
    let had : (path : List ℕ) → has_text c.in_ok-texts.texts.items path ≡ has_path c.args.units.now (all_paths c.as_slice-shares.result.now) path
    = λ path. paths_had c.args.units.now c.in_ok-refs.field-0.refs.items c.in_ok-texts.texts.items path (c.in_ok-texts.ensures ∙ c.in_ok-refs.ensures.texts) ∙ c.in_ok-refs.ensures.same path in
    let paths : c.as_slice-paths.result.now ≡ c.in_ok-ranked.ranked.sorted.items = c.as_slice-paths.ensures.value in
    let joined : AreJoined units c.args.pieces.now c.as_slice-shares.result.now = all_found units c.args.pieces.now c.as_slice-shares.result.now (rw (sym shares) at c.in_ok-found.ensures) in
    let gathered : Gathered units c.args.pieces.now (all_held c.as_slice-shares.result.now) (has_text c.in_ok-texts.texts.items) = texts_gathered units c.args.pieces.now (all_held c.as_slice-shares.result.now) (all_paths c.as_slice-shares.result.now) c.in_ok-texts.texts.items had joined.paths in
    functions_added c.args.base units c.args.pieces.now (all_held c.as_slice-shares.result.now) c.in_ok-texts.texts.items c.as_slice-paths.result.now _ (text_bytes c.args.front) _ _ _ joined.held gathered (rw (sym paths) at c.in_ok-ranked.ensures.sorted) (rw (sym paths) at (rw used at c.in_ok-ranked.ensures.same))
    joined.names
    c.in_ok-rows.ensures (c.number_of-omitted.ensures ∙ ap (number_or_0 (bytes_of c.as_slice-paths.result.now)) c.no_path.ensures) c.in_ok-add_texts.ensures.text c.in_ok-add_texts.ensures.fit
    (subst (λ ns. AddsNames units (all_refs c.as_slice-shares.result.now) ns (text_bytes c.add_texts.new.text) (text_bytes c.add_names.new.text)) (sym c.as_slice-6.ensures.value)
    (subst (λ (rs : List NameRef). AddsNames units rs c.in_ok-numbers.numbers.items (text_bytes c.add_texts.new.text) (text_bytes c.add_names.new.text)) (c.as_slice-5.ensures.value ∙ c.in_ok-refs-2.ensures) c.in_ok-numbers.ensures))
    c.in_ok-text.ensures

pub of-requires-clause-texts : goal.of-requires-clause-texts
of-requires-clause-texts g c κs within =
    ap bytes_of c.as_slice-3.ensures.value ∙ c.in_ok-texts.ensures ∙ c.in_ok-refs.ensures.texts ∙ ap (map (path_at c.args.units.now)) (sym c.as_slice-2.ensures.value)
