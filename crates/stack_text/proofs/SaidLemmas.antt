-- Each line is written once, for `SaidLines`.
use Rattle.std.proofs.Common.{◌≡◌, ℕ, Bool, true, false, cond, ◌||◌, List, [], ◌∷◌, ◌++◌, refl, sym, ap, ◌∙◌, append-nil}
use Rattle.std.proofs.lemmas.List.Folds.{list_any-append}
use Rattle.std.proofs.lemmas.Map.Text.{is_eq-slice_cmp}
use Rattle.std.proofs.lemmas.Slice.Eq.{bytes_eq-Decides}
use Rattle.std.specs.BTreeMap.{is_at}
use Rattle.std.specs.BTreeSet.{contains, Updates}
use Rattle.std.specs.Cmp.Lexicographic.{slice_cmp}
use Rattle.std.specs.Global.{Vec}
use Rattle.std.specs.List.{flat_map, list_any}
use Rattle.std.specs.Ordering.{nat_cmp}
use Rattle.std.specs.Str.{bytes_eq}
use Rattle.std.proofs.lemmas.Grind.{flat_map-append}
use Rattle.stack_text.specs.Once.{once}
use Rattle.stack_text.specs.internal.SaidLines.{HasSaid}
use Rattle.stack_text.specs.declared.said_lines.SaidLines.{SaidLines}
use Rattle.stack_text.proofs.OnceLemmas.{once_more}

-- A text that is in the list already is not added.
among : (line text : List ℕ) (lines : List (List ℕ)) → list_any (bytes_eq line) lines ≡ true → list_any (bytes_eq text) (lines ++ line ∷ []) ≡ list_any (bytes_eq text) lines
among line text lines there = list_any-append (bytes_eq text) lines (line ∷ []) ∙ go (bytes_eq text line) refl (list_any (bytes_eq text) lines) refl
  where
    go : (b : Bool) → bytes_eq text line ≡ b → (a : Bool) → list_any (bytes_eq text) lines ≡ a → (a || (b || false)) ≡ a
    go b is true at = refl
    go false is false at = refl
    go true is false at = (let same : text ≡ line = (bytes_eq-Decides text line).0 is in let no : false ≡ true = sym at ∙ ap (λ t. list_any (bytes_eq t) lines) same ∙ there in absurd (cc))

turned : (xs ys : List ℕ) → bytes_eq xs ys ≡ bytes_eq ys xs
turned xs ys = go (bytes_eq xs ys) refl (bytes_eq ys xs) refl
  where
    go : (a : Bool) → bytes_eq xs ys ≡ a → (b : Bool) → bytes_eq ys xs ≡ b → a ≡ b
    go true is true at = refl
    go false is false at = refl
    go true is false at = (let no : false ≡ true = sym at ∙ (bytes_eq-Decides ys xs).1 (sym ((bytes_eq-Decides xs ys).0 is)) in absurd (cc))
    go false is true at = (let no : false ≡ true = sym is ∙ (bytes_eq-Decides xs ys).1 (sym ((bytes_eq-Decides ys xs).0 at)) in absurd (cc))

-- No line was written.
pub nothing_said : (said : SaidLines) → said.text.items ≡ [] → said.set.keys ≡ [] → HasSaid said []
unfolding once
nothing_said said none empty = record { text = none; set = λ key. ap (list_any (is_at (λ (k : Vec ℕ). slice_cmp nat_cmp key.items k.items))) empty }

pub said_before : (said : SaidLines) (line : Vec ℕ) (lines : List (List ℕ)) → contains (λ x y. slice_cmp nat_cmp x.items y.items) said.set line ≡ true → HasSaid said lines → HasSaid said (lines ++ line.items ∷ [])
said_before said line lines there has =
    let among_them : list_any (bytes_eq line.items) lines ≡ true = sym (has.set line) ∙ there in
    record {
      text = has.text ∙ ap (λ l. flat_map (λ text. text) l) (sym (once_more lines line.items ∙ ap (λ b. cond b (once lines) (once lines ++ line.items ∷ [])) among_them));
      set = λ key. has.set key ∙ sym (among line.items key.items lines among_them);
    }

pub said_now : (old new : SaidLines) (line : Vec ℕ) (lines : List (List ℕ)) → contains (λ x y. slice_cmp nat_cmp x.items y.items) old.set line ≡ false → new.text.items ≡ old.text.items ++ line.items → Updates (λ x y. slice_cmp nat_cmp x.items y.items) old.set new.set line true → HasSaid old lines → HasSaid new (lines ++ line.items ∷ [])
said_now old new line lines none more updates has =
    let among_none : list_any (bytes_eq line.items) lines ≡ false = sym (has.set line) ∙ none in
    record {
      text = more ∙ ap (λ t. t ++ line.items) has.text ∙ ap (λ l. flat_map (λ text. text) (once lines) ++ l) (sym (append-nil line.items)) ∙ sym (flat_map-append (λ (text : List ℕ). text) (once lines) (line.items ∷ []))
          ∙ ap (λ l. flat_map (λ text. text) l) (sym (once_more lines line.items ∙ ap (λ b. cond b (once lines) (once lines ++ line.items ∷ [])) among_none));
      set = λ key. updates.0 key ∙ ap (λ b. cond b true (contains (λ x y. slice_cmp nat_cmp x.items y.items) old.set key)) (is_eq-slice_cmp line.items key.items ∙ turned line.items key.items)
          ∙ ap (λ b. cond (bytes_eq key.items line.items) true b) (has.set key) ∙ go (bytes_eq key.items line.items) (list_any (bytes_eq key.items) lines) ∙ sym (list_any-append (bytes_eq key.items) lines (line.items ∷ []));
    }
  where
    go : (b a : Bool) → cond b true a ≡ (a || (b || false))
    go true true = refl
    go true false = refl
    go false true = refl
    go false false = refl
