-- What a list has after a member was placed in it, as seen through a function of the members.
use Rattle.std.proofs.Common.{◌≡◌, ◌⊎◌, ℕ, zero, suc, Bool, true, map, length, List, [], ◌∷◌, ◌++◌, Some, option_map, inl, inr, sym, ap, ◌∙◌}
use Rattle.std.specs.List.{slice_get}
use Rattle.std.proofs.lemmas.List.{length-map, map-append}
use Rattle.place_guesses.specs.Placing.{IsPlacedBy}

module _ {A B : Type 0} (same : A → A → Bool) (f : A → B) (alike : (x y : A) → same x y ≡ true → f x ≡ f y) where
  seen_at : (list : List A) (k : ℕ) (one : A) → option_map (λ m. same m one) (slice_get list k) ≡ Some true → slice_get (map f list) k ≡ Some (f one)
  seen_at [] k one is = absurd cc
  seen_at (x ∷ list) zero one is = ap Some (alike x one (let e : same x one ≡ true = cc in e))
  seen_at (x ∷ list) (suc k) one is = seen_at list k one is

  pub placed_seen : (old new : List A) (one : A) (k : ℕ) → IsPlacedBy same old new one k
      → ((map f new ≡ map f old) × (slice_get (map f old) k ≡ Some (f one))) ⊎ ((map f new ≡ map f old ++ f one ∷ []) × (k ≡ length (map f old)))
  placed_seen old new one k (inl stood) = inl (ap (map f) stood.0, seen_at old k one stood.1)
  placed_seen old new one k (inr grown) = inr (ap (map f) grown.0 ∙ map-append f old (one ∷ []), grown.1 ∙ sym (length-map old f))
