use Rattle.std.proofs.Common.{◌≡◌, ℕ, ◌^◌, ◌<◌, Bool, true, false, not, ◌&&◌, ◌||◌, ◌==◌, if◌then◌else◌, List, [], ◌∷◌, Option, None, Some, arith, refl, sym, ap, ◌∙◌}
use Rattle.std.proofs.lemmas.Bool.Decides.{nat_tests}
use Rattle.std.specs.List.{find, list_any}
use Rattle.std.specs.Option.{option_map, option_map_or}
use Rattle.step_maps.specs.declared.stretch.Stretch.{Stretch}
use Rattle.step_maps.specs.declared.stretch.FirstItem.{FirstItem}
use Rattle.step_maps.specs.Stepping.{Stepping, value_at}
use Rattle.step_maps.specs.Covers.{reaches, first_at, index_at, is_shared, first_item}
use Rattle.step_maps.specs.Overlays.{over}
use Rattle.step_maps.specs.internal.Laying.{laid}

-- Whether there is an item of another class than `class`, or one that is shared.
abbrev beneath : ℕ → Option FirstItem → Bool
beneath class None = false
beneath class (Some i) = i.shared || not (class == i.class)

abbrev differs_there : ℕ → ℕ → Stretch → Bool
differs_there class a t = reaches t a && not (t.class == class)

beneath_first : (class own : ℕ) (r : Option FirstItem) (i : ℕ) → beneath class (over (Some (record { index = i; class = own; shared = false })) r) ≡ (not (own == class) || beneath class r)
beneath_first class own None i = grind (arith, nat_tests)
beneath_first class own (Some q) i = parts q.shared q.class
  where
    parts : (b : Bool) (k : ℕ) → ((b || not (own == k)) || not (class == own)) ≡ (not (own == class) || (b || not (class == k)))
    parts true k = true_last (not (own == class))
      where
        true_last : (b : Bool) → true ≡ (b || true)
        true_last true = refl
        true_last false = refl
    parts false k = grind (arith, nat_tests)

beneath_is : (class : ℕ) (items : List Stretch) (a : ℕ) → beneath class (laid items a) ≡ list_any (differs_there class a) items
unfolding laid
beneath_is class [] a = refl
beneath_is class (s ∷ items) a = go (reaches s a) (beneath_is class items a)
  where
    go : (b : Bool) → beneath class (laid items a) ≡ list_any (differs_there class a) items → beneath class (over (if b then Some (record { index = s.index; class = s.class; shared = false }) else None) (laid items a)) ≡ ((b && not (s.class == class)) || list_any (differs_there class a) items)
    go true is = beneath_first class s.class (laid items a) s.index ∙ ap (λ r. not (s.class == class) || r) is
    go false is = is

abbrev marked : List Stretch → ℕ → Option Stretch → Option FirstItem
marked items a o = option_map (λ s. record { index = s.index; class = s.class; shared = list_any (differs_there s.class a) items }) o

laid_marked : (items : List Stretch) (a : ℕ) → laid items a ≡ marked items a (first_at items a)
unfolding laid first_at
laid_marked [] a = refl
laid_marked (s ∷ items) a = go (reaches s a) (laid items a) (beneath_is s.class items a) (laid_marked items a)
  where
    rest_same : (o : Option Stretch) → marked items a o ≡ option_map (λ t. record { index = t.index; class = t.class; shared = (false && not (s.class == t.class)) || list_any (differs_there t.class a) items }) o
    rest_same None = refl
    rest_same (Some t) = refl

    own : (k : ℕ) → (true && not (k == k)) ≡ false
    own k = grind (arith, nat_tests)

    top : (r : Option FirstItem) → over (Some (record { index = s.index; class = s.class; shared = false })) r ≡ Some (record { index = s.index; class = s.class; shared = beneath s.class r })
    top None = refl
    top (Some q) = refl

    go : (b : Bool) (r : Option FirstItem) → beneath s.class r ≡ list_any (differs_there s.class a) items
        → r ≡ marked items a (find (λ t. reaches t a) items)
        → over (if b then Some (record { index = s.index; class = s.class; shared = false }) else None) r ≡ option_map (λ t. record { index = t.index; class = t.class; shared = (b && not (s.class == t.class)) || list_any (differs_there t.class a) items }) (if b then Some s else find (λ t. reaches t a) items)
    go true r below is = top r ∙ ap (λ b. Some (record { index = s.index; class = s.class; shared = b })) (below ∙ sym (ap (λ b. b || list_any (differs_there s.class a) items) (own s.class)))
    go false r below is = is ∙ rest_same (find (λ t. reaches t a) items)

-- The item that is laid at an address is the first item there.
pub laid_first : (items : List Stretch) (a : ℕ) → laid items a ≡ first_item items a
unfolding first_item is_shared
laid_first items a = laid_marked items a ∙ go (first_at items a)
  where
    go : (o : Option Stretch) → marked items a o ≡ option_map (λ s. record { index = s.index; class = s.class; shared = option_map_or (λ t. list_any (λ u. reaches u a && not (u.class == t.class)) items) o false }) o
    go None = refl
    go (Some s) = refl

pub first_where_laid : (items : List Stretch) (steps : Stepping (Option FirstItem)) → ((a : ℕ) → a < 2 ^ 64 → value_at None steps a ≡ laid items a) → (a : ℕ) → a < 2 ^ 64 → value_at None steps a ≡ first_item items a
first_where_laid items steps same a fits = same a fits ∙ laid_first items a

abbrev told : List Stretch → ℕ → Stretch → FirstItem
told items a s = record { index = s.index; class = s.class; shared = is_shared items a }

pub first_index : (items : List Stretch) (a : ℕ) → option_map (λ i. i.index) (first_item items a) ≡ index_at items a
unfolding first_item index_at
first_index items a = go (first_at items a)
  where
    go : (o : Option Stretch) → option_map (λ i. i.index) (option_map (told items a) o) ≡ option_map (λ s. s.index) o
    go None = refl
    go (Some s) = refl

pub first_shared : (items : List Stretch) (a : ℕ) (b : Bool) → option_map (λ i. i.shared) (first_item items a) ≡ Some b → b ≡ is_shared items a
unfolding first_item
first_shared items a b is = go (first_at items a) is
  where
    go : (o : Option Stretch) → option_map (λ i. i.shared) (option_map (told items a) o) ≡ Some b → b ≡ is_shared items a
    go None is = cc
    go (Some s) is = cc
