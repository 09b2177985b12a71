-- Lemmas on values that may be missing.
use Rattle.std.proofs.Common.{◌≡◌, Option, None, Some, refl, ap}
use Rattle.std.specs.Option.{option_or, option_map}

pub or_none : {A : Type 0} (x : Option A) → option_or x None ≡ x
or_none None = refl
or_none (Some x) = refl

pub or_assoc : {A : Type 0} (x y z : Option A) → option_or (option_or x y) z ≡ option_or x (option_or y z)
or_assoc None y z = refl
or_assoc (Some x) y z = refl

pub map_map : {A B C : Type 0} (g : B → C) (f : A → B) (x : Option A) → option_map g (option_map f x) ≡ option_map (λ a. g (f a)) x
map_map g f None = refl
map_map g f (Some x) = refl

pub map_none : {A B : Type 0} (f : A → B) (x : Option A) → x ≡ None → option_map f x ≡ None
map_none f x h = ap (option_map f) h

pub map_alike : {A B : Type 0} (f g : A → B) (x : Option A) → ((a : A) → f a ≡ g a) → option_map f x ≡ option_map g x
map_alike f g None h = refl
map_alike f g (Some x) h = ap Some (h x)

pub map_same : {A : Type 0} (f : A → A) (x : Option A) → ((a : A) → f a ≡ a) → option_map f x ≡ x
map_same f None h = refl
map_same f (Some x) h = ap Some (h x)
