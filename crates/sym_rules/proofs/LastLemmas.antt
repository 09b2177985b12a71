-- The last member of a list, and known names, as the code looks for them.
use Rattle.std.proofs.Common.{◌≡◌, ℕ, ◌+◌, ◌-◌, ◌<◌, ◌≤◌, ◌==◌, ◌&&◌, ◌||◌, suc, Bool, true, false, not, List, [], ◌∷◌, length, drop, get_or, slice_get, Some, None, refl, sym, ◌∙◌, ap, arith}
use Rattle.std.specs.List.{list_any}
use Rattle.std.specs.Option.{option_map_or}
use Rattle.std.specs.Str.{bytes_eq}
use Rattle.std.proofs.lemmas.List.{at_drop_more}
use Rattle.std.proofs.lemmas.Grind.{common_steps}
use Rattle.sym_rules.specs.Cuts.{last_is}
use Rattle.sym_edges.specs.Abi.{register_names, register_name}
use Rattle.sym_rules.specs.RuleReading.{begins_symbol, is_symbol}

next_got : {A : Type 0} (x y : A) (ys : List A) → slice_get (x ∷ y ∷ ys) (length (x ∷ y ∷ ys) - 1) ≡ slice_get (y ∷ ys) (length (y ∷ ys) - 1)
next_got x y ys = let e : length (x ∷ y ∷ ys) - 1 ≡ suc (length (y ∷ ys) - 1) = omega arith in ap (slice_get (x ∷ y ∷ ys)) e

-- The last member by its place.
pub last_got : {A : Type 0} (p : A → Bool) (xs : List A) → option_map_or p (slice_get xs (length xs - 1)) false ≡ last_is p xs
unfolding last_is
last_got p [] = refl
last_got p (x ∷ []) = refl
last_got p (x ∷ y ∷ ys) = ap (λ o. option_map_or p o false) (next_got x y ys) ∙ last_got p (y ∷ ys)

pub last_some : {A : Type 0} (p : A → Bool) (xs : List A) (x : A) → Some x ≡ slice_get xs (length xs - 1) → p x ≡ last_is p xs
last_some p xs x is = ap (λ o. option_map_or p o false) is ∙ last_got p xs

pub last_missing : {A : Type 0} (p : A → Bool) (xs : List A) → None ≡ slice_get xs (length xs - 1) → false ≡ last_is p xs
last_missing p xs is = ap (λ o. option_map_or p o false) is ∙ last_got p xs

first_is : (xs : List ℕ) (b : ℕ) → Some b ≡ slice_get xs 0 → get_or xs 0 0 ≡ b
first_is [] b is = cc
first_is (x ∷ xs) b is = cc

-- The test of a name in a rule by its first byte.
pub symbol_begins : (xs : List ℕ) (b : ℕ) (r : Bool) → Some b ≡ slice_get xs 0 → r ≡ last_is (λ c. c == 58) xs → (begins_symbol b && not r) ≡ is_symbol xs
unfolding is_symbol
symbol_begins xs b r is ends = sym (ap (λ c. begins_symbol c && not (last_is (λ d. d == 58) xs)) (first_is xs b is) ∙ ap (λ t. begins_symbol b && not t) (sym ends))

pub symbol_ends : (xs : List ℕ) (b : ℕ) (r : Bool) → Some b ≡ slice_get xs 0 → begins_symbol b ≡ true → r ≡ last_is (λ c. c == 58) xs → not r ≡ is_symbol xs
symbol_ends xs b r is begins ends = ap (λ t. t && not r) (sym begins) ∙ symbol_begins xs b r is ends

pub symbol_other : (xs : List ℕ) (b : ℕ) → Some b ≡ slice_get xs 0 → begins_symbol b ≡ false → false ≡ is_symbol xs
unfolding is_symbol
symbol_other xs b is other = sym (ap (λ c. begins_symbol c && not (last_is (λ d. d == 58) xs)) (first_is xs b is) ∙ ap (λ t. t && not (last_is (λ d. d == 58) xs)) other)

pub symbol_nothing : (xs : List ℕ) → None ≡ slice_get xs 0 → false ≡ is_symbol xs
unfolding is_symbol
symbol_nothing [] is = refl
symbol_nothing (x ∷ xs) is = cc

-- The search for a register by its name.
register_here : (name : List ℕ) (i : ℕ) → i < 16 → list_any (bytes_eq name) (drop i register_names) ≡ (bytes_eq name (register_name i) || list_any (bytes_eq name) (drop (i + 1) register_names))
unfolding register_name register_names
register_here name i within = at_drop_more (list_any (bytes_eq name)) register_names i [] within

pub register_found : (name : List ℕ) (i : ℕ) → i < 16 → bytes_eq name (register_name i) ≡ true → list_any (bytes_eq name) (drop i register_names) ≡ list_any (bytes_eq name) register_names → true ≡ list_any (bytes_eq name) register_names
register_found name i within is same = sym (sym same ∙ register_here name i within ∙ ap (λ t. t || list_any (bytes_eq name) (drop (i + 1) register_names)) is)

pub register_next : (name : List ℕ) (i : ℕ) → i < 16 → bytes_eq name (register_name i) ≡ false → list_any (bytes_eq name) (drop i register_names) ≡ list_any (bytes_eq name) register_names → list_any (bytes_eq name) (drop (i + 1) register_names) ≡ list_any (bytes_eq name) register_names
register_next name i within is same = sym (register_here name i within ∙ ap (λ t. t || list_any (bytes_eq name) (drop (i + 1) register_names)) is) ∙ same

all_dropped : {A : Type 0} (xs : List A) (i : ℕ) → length xs ≤ i → drop i xs ≡ []
all_dropped xs i past = grind (arith, common_steps)

no_names : (i : ℕ) → 16 ≤ i → drop i register_names ≡ []
unfolding register_names
no_names i past = all_dropped register_names i past

pub register_missing : (name : List ℕ) (i : ℕ) → 16 ≤ i → list_any (bytes_eq name) (drop i register_names) ≡ list_any (bytes_eq name) register_names → false ≡ list_any (bytes_eq name) register_names
register_missing name i past same = sym (ap (list_any (bytes_eq name)) (no_names i past)) ∙ same
