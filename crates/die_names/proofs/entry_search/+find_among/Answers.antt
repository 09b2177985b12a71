use Rattle.std.proofs.Common.{◌≡◌, ◌<◌, ℕ, length, None, Some, sym, ap, subst, ◌∙◌, arith, rules}
use Rattle.std.specs.List.{slice_get}
use Rattle.sym_edges.specs.Rising.{RisesFrom}
use Rattle.die_names.specs.internal.Finding.{found_in}
use Rattle.die_names.proofs.FindLemmas.{dies_places}
use Rattle.die_names.proofs.AmongLemmas.{in_unit, halves, at_left, inside_left, at_middle, inside_middle, behind_middle, behind_empty, before_empty, inside_right, rises_in_left, rises_in_part, rises_in_rest}
use Rattle.die_names.proofs.entry_search.+find_among.Goals as goal

pub find_among-requires : goal.find_among-requires
find_among-requires t c =
    let h = halves c.args.units.now c.split_at.result.0.now c.split_at.result.1.now c.in-Some.part.now c.in-Some.rest.now _ c.split_at.ensures.front c.split_at.ensures.back c.split_at.ensures.front_len c.in-Some.ensures.cases.0 in
    let less : length c.split_at.result.0.now < t = omega (arith, c.decreases, c.split_at.ensures.front_len, c.split_at.ensures.back_len, c.in-Some.ensures.cases.1) in
    (less, rises_in_left _ _ _ _ _ h c.requires)

pub find_among-requires-in-None : goal.find_among-requires-in-None
find_among-requires-in-None t c =
    let h = halves c.args.units.now c.split_at.result.0.now c.split_at.result.1.now c.in-Some.part.now c.in-Some.rest.now _ c.split_at.ensures.front c.split_at.ensures.back c.split_at.ensures.front_len c.in-Some.ensures.cases.0 in
    let less : length c.in-Some.rest.now < t = omega (arith, c.decreases, c.split_at.ensures.front_len, c.split_at.ensures.back_len, c.in-Some.ensures.cases.1) in
    (less, rises_in_rest _ _ _ _ _ h c.requires)

pub returns-in-Some-find_among-clause-found : goal.returns-in-Some-find_among-clause-found
returns-in-Some-find_among-clause-found t c first =
    let h = halves c.args.units.now c.split_at.result.0.now c.split_at.result.1.now c.in-Some.part.now c.in-Some.rest.now _ c.split_at.ensures.front c.split_at.ensures.back c.split_at.ensures.front_len c.in-Some.ensures.cases.0 in
    before_empty c.args.place first _ _ _ _ _ c.in-Some-find_among.standing h c.in-Some-find_among.ensures.inside (c.in-Some-find_among.ensures.found first)

pub returns-in-Some-find_among-clause-inside : goal.returns-in-Some-find_among-clause-inside
returns-in-Some-find_among-clause-inside t c =
    let h = halves c.args.units.now c.split_at.result.0.now c.split_at.result.1.now c.in-Some.part.now c.in-Some.rest.now _ c.split_at.ensures.front c.split_at.ensures.back c.split_at.ensures.front_len c.in-Some.ensures.cases.0 in
    inside_left _ _ _ _ _ (Some c.in-Some-find_among.standing) h c.in-Some-find_among.ensures.inside

pub returns-in-None-clause-found : goal.returns-in-None-clause-found
returns-in-None-clause-found t c first =
    let h = halves c.args.units.now c.split_at.result.0.now c.split_at.result.1.now c.in-Some.part.now c.in-Some.rest.now _ c.split_at.ensures.front c.split_at.ensures.back c.split_at.ensures.front_len c.in-Some.ensures.cases.0 in
    behind_empty c.args.place first _ _ _ _ _ c.find_among-in-None.result c.behind.result h c.behind.ensures (ap (λ l. slice_get l 0) (sym c.dies-dies.ensures) ∙ sym c.in_default-get.ensures) c.in-None.ensures.found c.find_among-in-None.ensures.found

pub returns-in-None-clause-inside : goal.returns-in-None-clause-inside
returns-in-None-clause-inside t c =
    let h = halves c.args.units.now c.split_at.result.0.now c.split_at.result.1.now c.in-Some.part.now c.in-Some.rest.now _ c.split_at.ensures.front c.split_at.ensures.back c.split_at.ensures.front_len c.in-Some.ensures.cases.0 in
    inside_right _ _ _ _ _ c.find_among-in-None.result c.behind.result h c.behind.ensures c.find_among-in-None.ensures.inside

pub find_among-requires-then-place-from : goal.find_among-requires-then-place-from
find_among-requires-then-place-from t c =
    let h = halves c.args.units.now c.split_at.result.0.now c.split_at.result.1.now c.in-Some.part.now c.in-Some.rest.now _ c.split_at.ensures.front c.split_at.ensures.back c.split_at.ensures.front_len c.in-Some.ensures.cases.0 in
    let less : length c.split_at.result.0.now < t = omega (arith, c.decreases, c.split_at.ensures.front_len, c.split_at.ensures.back_len, c.in-Some.ensures.cases.1) in
    (less, rises_in_left _ _ _ _ _ h c.requires)

pub returns-then-place-from-clause-found : goal.returns-then-place-from-clause-found
returns-then-place-from-clause-found t c first =
    let h = halves c.args.units.now c.split_at.result.0.now c.split_at.result.1.now c.in-Some.part.now c.in-Some.rest.now _ c.split_at.ensures.front c.split_at.ensures.back c.split_at.ensures.front_len c.in-Some.ensures.cases.0 in
    at_left c.args.place first _ _ _ _ _ c.in-Some-get.die c.find_among-then-place-from.result h c.requires (ap (λ l. slice_get l 0) (sym c.dies-dies.ensures) ∙ sym c.in-Some-get.ensures) (search rules) c.find_among-then-place-from.ensures.inside (c.find_among-then-place-from.ensures.found first)

pub returns-then-place-from-clause-inside : goal.returns-then-place-from-clause-inside
returns-then-place-from-clause-inside t c =
    let h = halves c.args.units.now c.split_at.result.0.now c.split_at.result.1.now c.in-Some.part.now c.in-Some.rest.now _ c.split_at.ensures.front c.split_at.ensures.back c.split_at.ensures.front_len c.in-Some.ensures.cases.0 in
    inside_left _ _ _ _ _ c.find_among-then-place-from.result h c.find_among-then-place-from.ensures.inside

pub find_in_unit-requires : goal.find_in_unit-requires
find_in_unit-requires t c =
    let h = halves c.args.units.now c.split_at.result.0.now c.split_at.result.1.now c.in-Some.part.now c.in-Some.rest.now _ c.split_at.ensures.front c.split_at.ensures.back c.split_at.ensures.front_len c.in-Some.ensures.cases.0 in
    subst (λ ds. RisesFrom 0 (dies_places ds)) (sym c.dies-dies.ensures) (rises_in_part _ _ _ _ _ h c.requires)

pub find_among-requires-in-None-find_in_unit : goal.find_among-requires-in-None-find_in_unit
find_among-requires-in-None-find_in_unit t c =
    let h = halves c.args.units.now c.split_at.result.0.now c.split_at.result.1.now c.in-Some.part.now c.in-Some.rest.now _ c.split_at.ensures.front c.split_at.ensures.back c.split_at.ensures.front_len c.in-Some.ensures.cases.0 in
    let less : length c.in-Some.rest.now < t = omega (arith, c.decreases, c.split_at.ensures.front_len, c.split_at.ensures.back_len, c.in-Some.ensures.cases.1) in
    (less, rises_in_rest _ _ _ _ _ h c.requires)

pub returns-in-Some-find_in_unit-clause-found : goal.returns-in-Some-find_in_unit-clause-found
returns-in-Some-find_in_unit-clause-found t c first =
    let h = halves c.args.units.now c.split_at.result.0.now c.split_at.result.1.now c.in-Some.part.now c.in-Some.rest.now _ c.split_at.ensures.front c.split_at.ensures.back c.split_at.ensures.front_len c.in-Some.ensures.cases.0 in
    at_middle c.args.place first _ _ _ _ _ c.in-Some-get.die c.in-Some-find_in_unit.entry h c.requires (ap (λ l. slice_get l 0) (sym c.dies-dies.ensures) ∙ sym c.in-Some-get.ensures) (search rules) (subst (λ ds. c.in-Some-find_in_unit.entry < length ds) c.dies-dies.ensures c.in-Some-find_in_unit.ensures.inside) (subst (λ ds. (unit : ℕ) → found_in unit ds (Some c.in-Some-find_in_unit.entry) ≡ in_unit c.args.place unit ds) c.dies-dies.ensures c.in-Some-find_in_unit.ensures.found)

pub returns-in-Some-find_in_unit-clause-inside : goal.returns-in-Some-find_in_unit-clause-inside
returns-in-Some-find_in_unit-clause-inside t c =
    let h = halves c.args.units.now c.split_at.result.0.now c.split_at.result.1.now c.in-Some.part.now c.in-Some.rest.now _ c.split_at.ensures.front c.split_at.ensures.back c.split_at.ensures.front_len c.in-Some.ensures.cases.0 in
    inside_middle _ _ _ _ _ c.in-Some-find_in_unit.entry h (subst (λ ds. c.in-Some-find_in_unit.entry < length ds) c.dies-dies.ensures c.in-Some-find_in_unit.ensures.inside)

pub returns-in-None-find_in_unit-clause-found : goal.returns-in-None-find_in_unit-clause-found
returns-in-None-find_in_unit-clause-found t c first =
    let h = halves c.args.units.now c.split_at.result.0.now c.split_at.result.1.now c.in-Some.part.now c.in-Some.rest.now _ c.split_at.ensures.front c.split_at.ensures.back c.split_at.ensures.front_len c.in-Some.ensures.cases.0 in
    behind_middle c.args.place first _ _ _ _ _ c.in-Some-get.die c.find_among-in-None-find_in_unit.result c.behind-in-None-find_in_unit.result h c.behind-in-None-find_in_unit.ensures c.requires (ap (λ l. slice_get l 0) (sym c.dies-dies.ensures) ∙ sym c.in-Some-get.ensures) (search rules) (subst (λ ds. (unit : ℕ) → None ≡ in_unit c.args.place unit ds) c.dies-dies.ensures c.in-None-find_in_unit.ensures.found) c.find_among-in-None-find_in_unit.ensures.found

pub returns-in-None-find_in_unit-clause-inside : goal.returns-in-None-find_in_unit-clause-inside
returns-in-None-find_in_unit-clause-inside t c =
    let h = halves c.args.units.now c.split_at.result.0.now c.split_at.result.1.now c.in-Some.part.now c.in-Some.rest.now _ c.split_at.ensures.front c.split_at.ensures.back c.split_at.ensures.front_len c.in-Some.ensures.cases.0 in
    inside_right _ _ _ _ _ c.find_among-in-None-find_in_unit.result c.behind-in-None-find_in_unit.result h c.behind-in-None-find_in_unit.ensures c.find_among-in-None-find_in_unit.ensures.inside
