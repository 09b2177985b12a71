-- The registers of a caller, for `values_of`.
use Rattle.std.proofs.Common.{◌≡◌, ℕ, ◌<◌, List, [], ◌∷◌, length, map, get_or, Option, None, refl, sym, ap, ◌∙◌}
use Rattle.std.specs.List.{range_with_len}
use Rattle.std.proofs.lemmas.List.FromFn.{fill_by_all}
use Rattle.cfi_eval.specs.declared.outcome.Outcome.{Outcome}
use Rattle.cfi_eval.specs.declared.outcome.Outcome.TheVariants.{Undefined}
use Rattle.stack_walk.specs.Walk.{value_of}

mapped : (outcomes : ℕ → Outcome) (ks : List ℕ) → map (λ k. value_of (outcomes k)) ks ≡ map value_of (map outcomes ks)
mapped outcomes [] = refl
mapped outcomes (k ∷ ks) = ap (λ vs. value_of (outcomes k) ∷ vs) (mapped outcomes ks)

-- Sixteen values are those of sixteen outcomes.
pub values_are : (values : List (Option ℕ)) (outcomes : List Outcome) → length values ≡ 16 → length outcomes ≡ 16 → ((k : ℕ) → k < 16 → get_or values k None ≡ value_of (get_or outcomes k Undefined)) → values ≡ map value_of outcomes
values_are values outcomes many as_many known =
    fill_by_all (λ k. value_of (get_or outcomes k Undefined)) values 16 None many known
    ∙ mapped (λ k. get_or outcomes k Undefined) (range_with_len 0 16)
    ∙ ap (map value_of) (sym (fill_by_all (λ k. get_or outcomes k Undefined) outcomes 16 Undefined as_many (λ k h. refl)))
