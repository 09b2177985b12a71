-- Lemmas on the index of the first stretch.
use Rattle.std.proofs.Common.{◌≡◌, ◌+◌, ◌-◌, ◌<◌, ◌^◌, ◌++◌, ◌==◌, ◌&&◌, min, nat_le, nat_lt, ℕ, zero, suc, Bool, true, false, cond, List, [], ◌∷◌, Option, None, Some, refl, sym, ap, ◌∙◌, arith}
use Rattle.std.specs.List.{find}
use Rattle.std.specs.Option.{option_map, option_or}
use Rattle.std.proofs.lemmas.Bool.Decides.{nat_tests}
use Rattle.std.proofs.lemmas.List.Folds.{find-append}
use Rattle.step_maps.specs.declared.stretch.Stretch.{Stretch}
use Rattle.step_maps.specs.declared.stretch.FirstItem.{FirstItem}
use Rattle.step_maps.specs.Covers.{reaches, first_at, index_at, first_item, is_shared}

pub none_at : (x : ℕ) → index_at [] x ≡ None
unfolding index_at first_at
none_at x = refl

pub of_one : (b : Bool) (s : Stretch) → option_map (λ (t : Stretch). t.index) (cond b (Some s) None) ≡ cond b (Some s.index) None
of_one true s = refl
of_one false s = refl

pub one_at : (s : Stretch) (x : ℕ) → index_at (s ∷ []) x ≡ cond (reaches s x) (Some s.index) None
unfolding index_at first_at
one_at s x = of_one (reaches s x) s

index_or : (a b : Option Stretch) → option_map (λ (t : Stretch). t.index) (option_or a b) ≡ option_or (option_map (λ (t : Stretch). t.index) a) (option_map (λ (t : Stretch). t.index) b)
index_or None b = refl
index_or (Some s) b = refl

pub found_joined : (xs ys : List Stretch) (x : ℕ) → index_at (xs ++ ys) x ≡ option_or (index_at xs x) (index_at ys x)
unfolding index_at first_at
found_joined xs ys x = ap (option_map (λ (t : Stretch). t.index)) (find-append (λ t. reaches t x) xs ys) ∙ index_or (find (λ t. reaches t x) xs) (find (λ t. reaches t x) ys)

within_cut : (a s x top : ℕ) → x < top → (nat_le a x && nat_le x (min (a + (suc s - 1)) (top - 1))) ≡ (nat_le a x && nat_lt x (a + suc s))
within_cut a s x top l = grind (arith, nat_tests)

within_none : (a x : ℕ) → (nat_le a x && nat_lt x (a + 0)) ≡ false
within_none a x = grind (arith, nat_tests)

not_empty : (s : ℕ) → (suc s == 0) ≡ false
not_empty s = grind (arith, nat_tests)

pub cut_at : (n start size x : ℕ) → x < 2 ^ 64 → index_at (cond (size == 0) [] (record { first = start; last = min (start + (size - 1)) (2 ^ 64 - 1); index = n; class = 0 } ∷ [])) x ≡ cond (nat_le start x && nat_lt x (start + size)) (Some n) None
cut_at n start zero x l = none_at x ∙ ap (λ b. cond b (Some n) None) (sym (within_none start x))
cut_at n start (suc s) x l =
    let stretch : Stretch = record { first = start; last = min (start + (suc s - 1)) (2 ^ 64 - 1); index = n; class = 0 } in
    ap (λ b. index_at (cond b [] (stretch ∷ [])) x) (not_empty s)
    ∙ one_at stretch x
    ∙ ap (λ b. cond b (Some n) None) (within_cut start s x (2 ^ 64) l)

pub item_index : (items : List Stretch) (x : ℕ) → option_map (λ (i : FirstItem). i.index) (first_item items x) ≡ index_at items x
unfolding index_at first_item
item_index items x = go (first_at items x)
  where
    go : (s : Option Stretch) → option_map (λ (i : FirstItem). i.index) (option_map (λ (t : Stretch). record { index = t.index; class = t.class; shared = is_shared items x }) s) ≡ option_map (λ (t : Stretch). t.index) s
    go None = refl
    go (Some s) = refl
