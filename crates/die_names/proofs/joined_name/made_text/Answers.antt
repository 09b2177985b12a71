use Rattle.std.proofs.Common.{◌≡◌, ◌++◌, ℕ, List, IfOk, subst, refl, ap, ◌∙◌}
use Rattle.std.specs.List.{slice_get}
use Rattle.clean_names.specs.Cleaning.{cleaned}
use Rattle.die_names.specs.Names.{fronts}
use Rattle.die_names.specs.internal.Gathering.{scopes_of}
use Rattle.die_names.proofs.TextLemmas.{text_joined, text_no_name, text_no_linkage, text_omitted}
use Rattle.die_names.proofs.joined_name.made_text.Goals as goal

pub returns-in_ok-joined-in-Some-name : goal.returns-in_ok-joined-in-Some-name
returns-in_ok-joined-in-Some-name c =
    subst (λ (b : List ℕ). IfOk c.clean-in-Some-name.result (λ t. t ≡ b))
    (ap cleaned c.as_slice.ensures.value
    ∙ c.in_ok-joined-in-Some-name.ensures
    ∙ ap (λ ds. cleaned (fronts ds (scopes_of ds c.args.name.entry) ++ c.in-Some-name.text.now)) c.dies-dies.ensures
    ∙ ap cleaned (text_joined c.args.units.now c.args.name c.in-Some-unit.part.now c.in-Some-entry_in.die c.in-Some-name.text.now _ c.in-Joined.is c.in-Some-unit.ensures
    (c.in-Some-entry_in.ensures ∙ ap (λ ds. slice_get ds c.args.name.entry) c.dies-dies.ensures) c.in-Some-name.ensures refl))
    c.clean-in-Some-name.ensures.cleaned

pub returns-in-None : goal.returns-in-None
returns-in-None c =
    subst (λ (b : List ℕ). IfOk c.clean-in-None.result (λ t. t ≡ b))
    (ap cleaned c.name_omitted-in-None.ensures ∙ ap cleaned (text_no_name c.args.units.now c.args.name c.in-Some-unit.part.now c.in-Some-entry_in.die c.in-Joined.is c.in-Some-unit.ensures
    (c.in-Some-entry_in.ensures ∙ ap (λ ds. slice_get ds c.args.name.entry) c.dies-dies.ensures) c.in-None.ensures))
    c.clean-in-None.ensures.cleaned

pub returns-in-Linkage : goal.returns-in-Linkage
returns-in-Linkage c =
    subst (λ (b : List ℕ). IfOk c.clean-in-Linkage.result (λ t. t ≡ b))
    (ap cleaned c.name_omitted-in-Linkage.ensures ∙ ap cleaned (text_no_linkage c.args.units.now c.args.name c.in-Some-unit.part.now c.in-Some-entry_in.die c.in-Linkage.is c.in-Some-unit.ensures
    (c.in-Some-entry_in.ensures ∙ ap (λ ds. slice_get ds c.args.name.entry) c.dies-dies.ensures) c.in_default.ensures))
    c.clean-in-Linkage.ensures.cleaned

pub returns-in-Omitted : goal.returns-in-Omitted
returns-in-Omitted c =
    subst (λ (b : List ℕ). IfOk c.clean-in-Omitted.result (λ t. t ≡ b))
    (ap cleaned c.name_omitted-in-Omitted.ensures ∙ ap cleaned (text_omitted c.args.units.now c.args.name c.in-Some-unit.part.now c.in-Some-entry_in.die c.in-Omitted.is c.in-Some-unit.ensures
    (c.in-Some-entry_in.ensures ∙ ap (λ ds. slice_get ds c.args.name.entry) c.dies-dies.ensures)))
    c.clean-in-Omitted.ensures.cleaned
