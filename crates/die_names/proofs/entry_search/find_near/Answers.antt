use Rattle.std.proofs.Common.{◌≡◌, ◌<◌, ℕ, length, Some, sym, ap, subst, ◌∙◌, rules}
use Rattle.std.specs.List.{slice_get}
use Rattle.sym_edges.specs.Rising.{RisesFrom}
use Rattle.die_names.specs.internal.Finding.{found_in}
use Rattle.die_names.proofs.FindLemmas.{dies_places}
use Rattle.die_names.proofs.AmongLemmas.{in_unit, halves, at_middle, inside_middle, rises_in_part}
use Rattle.die_names.proofs.entry_search.find_near.Goals as goal

pub look_in_unit-requires : goal.look_in_unit-requires
look_in_unit-requires c =
    let h = halves c.args.units.now c.split_at.result.0.now c.split_at.result.1.now c.in-Some.part.now c.in-Some.rest.now _ c.split_at.ensures.front c.split_at.ensures.back c.split_at.ensures.front_len c.in-Some.ensures.cases.0 in
    subst (λ ds. RisesFrom 0 (dies_places ds)) (sym c.dies-dies.ensures) (rises_in_part _ _ _ _ _ h c.requires)

pub returns-in-Some-look_in_unit-clause-found : goal.returns-in-Some-look_in_unit-clause-found
returns-in-Some-look_in_unit-clause-found c first =
    let h = halves c.args.units.now c.split_at.result.0.now c.split_at.result.1.now c.in-Some.part.now c.in-Some.rest.now _ c.split_at.ensures.front c.split_at.ensures.back c.split_at.ensures.front_len c.in-Some.ensures.cases.0 in
    at_middle c.args.place first _ _ _ _ _ c.in-Some-get.die c.in-Some-look_in_unit.entry h c.requires (ap (λ l. slice_get l 0) (sym c.dies-dies.ensures) ∙ sym c.in-Some-get.ensures) (search rules) (subst (λ ds. c.in-Some-look_in_unit.entry < length ds) c.dies-dies.ensures c.in-Some-look_in_unit.ensures.inside) (subst (λ ds. (unit : ℕ) → found_in unit ds (Some c.in-Some-look_in_unit.entry) ≡ in_unit c.args.place unit ds) c.dies-dies.ensures c.in-Some-look_in_unit.ensures.found)

pub returns-in-Some-look_in_unit-clause-inside : goal.returns-in-Some-look_in_unit-clause-inside
returns-in-Some-look_in_unit-clause-inside c =
    let h = halves c.args.units.now c.split_at.result.0.now c.split_at.result.1.now c.in-Some.part.now c.in-Some.rest.now _ c.split_at.ensures.front c.split_at.ensures.back c.split_at.ensures.front_len c.in-Some.ensures.cases.0 in
    inside_middle _ _ _ _ _ c.in-Some-look_in_unit.entry h (subst (λ ds. c.in-Some-look_in_unit.entry < length ds) c.dies-dies.ensures c.in-Some-look_in_unit.ensures.inside)
