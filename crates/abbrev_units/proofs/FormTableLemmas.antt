-- The rows of forms, in a list whose indices are their codes.
use Rattle.std.proofs.Common.{◌≡◌, ℕ, zero, suc, Bool, List, [], ◌∷◌, ◌++◌, length, Option, None, Some, sym, ap, subst, ◌∙◌}
use Rattle.std.specs.List.{slice_get}
use Rattle.code_table.specs.Forms.{forms, form_row}
use Rattle.abbrev_units.specs.declared.spec.Known.{Known}
use Rattle.abbrev_units.specs.internal.FormRows.{AreRows, row_said}

some_same : {A : Type 0} {x y : A} → Some x ≡ Some y → x ≡ y
some_same is = cc

-- What holds for each member holds after one more member, for which it holds too.
pub each_more : {A : Type 0} (P : ℕ → A → Type 0) (made : List A) (one : A) → ((k : ℕ) (x : A) → slice_get made k ≡ Some x → P k x) → P (length made) one → (k : ℕ) (x : A) → slice_get (made ++ one ∷ []) k ≡ Some x → P k x
each_more P [] one each last zero x is = subst (P 0) (some_same is) last
each_more P [] one each last (suc k) x is = absurd (cc)
each_more P (m ∷ made) one each last zero x is = each zero x is
each_more P (m ∷ made) one each last (suc k) x is =
    each_more (λ n. P (suc n)) made one (λ n y there. each (suc n) y there) last k x is

-- An empty list has no members.
pub none_at : {A : Type 0} (made : List A) (k : ℕ) (x : A) → made ≡ [] → slice_get made k ≡ Some x → ⊥
none_at made k x none there = let past : None ≡ Some x = ap (λ (m : List _). slice_get m k) (sym none) ∙ there in cc

pub rows_none : (wide : Bool) (rows : List (Option Known)) → rows ≡ [] → AreRows wide rows
rows_none wide rows none form known there = absurd (none_at rows form known none there)

pub rows_more : (wide : Bool) (rows more : List (Option Known)) (known : Option Known) (code : ℕ) → AreRows wide rows → length rows ≡ code → row_said code known ≡ form_row code (forms wide) → more ≡ rows ++ known ∷ [] → AreRows wide more
rows_more wide rows more known code all count is so =
    subst (λ (l : List (Option Known)). AreRows wide l) (sym so)
    (each_more (λ n k. row_said n k ≡ form_row n (forms wide)) rows known all
    (subst (λ n. row_said n known ≡ form_row n (forms wide)) (sym count) is))
