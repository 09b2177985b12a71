-- The place of a member in a list, to which the member may have been added.
use Rattle.std.specs.Prelude.{◌≡◌, ◌⊎◌, ℕ, Bool, true, List, [], ◌∷◌, ◌++◌, length, Some}
use Rattle.std.specs.List.{slice_get}
use Rattle.std.specs.Option.{option_map}

-- either an equal member was at the place and the list did not change, or the member was added at
-- the end, which is the place
abbrev pub IsPlacedBy : {A : Type 0} → (A → A → Bool) → List A → List A → A → ℕ → Type 0
IsPlacedBy same old new one place = ((new ≡ old) × (option_map (λ m. same m one) (slice_get old place) ≡ Some true)) ⊎ ((new ≡ old ++ one ∷ []) × (place ≡ length old))
