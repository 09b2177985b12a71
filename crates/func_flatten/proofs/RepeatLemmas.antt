-- Stretches without those that repeat an earlier one.
use Rattle.std.proofs.Common.{◌≡◌, ℕ, zero, suc, ◌+◌, ◌<◌, Bool, true, false, not, ◌&&◌, ◌||◌, nat_le, List, [], ◌∷◌, ◌++◌, take, length, get_or, Option, None, Some, arith, refl, sym, ap, ◌∙◌, subst}
use Rattle.std.proofs.lemmas.Bool.Decides.{nat_tests}
use Rattle.std.proofs.lemmas.List.{take_more}
use Rattle.std.proofs.lemmas.List.Folds.{find-append, list_any-append}
use Rattle.std.specs.List.{find}
use Rattle.std.specs.Option.{option_or, option_map_or}
use Rattle.std.specs.Str.{bytes_eq}
use Rattle.step_maps.specs.declared.stretch.Stretch.{Stretch}
use Rattle.step_maps.specs.Covers.{reaches, first_at}
use Rattle.step_maps.specs.SpanStretches.{AreFit}
use Rattle.func_flatten.specs.internal.Classes.{has_other_name}
use Rattle.func_flatten.specs.internal.Repeats.{AreOwn, any_other, IsRepeat, Represents}
use Rattle.func_flatten.proofs.StandLemmas.{no_more, any_here, first_kept}

pub represents_none : (name : ℕ → List ℕ) → Represents name [] []
represents_none name = record { first = λ a. refl; other = λ a text. refl }

-- One more stretch that is kept.
represents_kept : (name : ℕ → List ℕ) (items kept : List Stretch) (s : Stretch) → Represents name items kept → Represents name (items ++ s ∷ []) (kept ++ s ∷ [])
unfolding first_at
represents_kept name items kept s r = record {
  first = λ a. find-append (λ t. reaches t a) kept (s ∷ []) ∙ ap (λ o. option_or o (find (λ t. reaches t a) (s ∷ []))) (r.first a) ∙ sym (find-append (λ t. reaches t a) items (s ∷ []));
  other = λ a text.
      list_any-append (λ t. reaches t a && not (bytes_eq (name t.index) text)) kept (s ∷ [])
      ∙ ap (λ b. b || any_other name text a (s ∷ [])) (r.other a text)
      ∙ sym (list_any-append (λ t. reaches t a && not (bytes_eq (name t.index) text)) items (s ∷ []));
}

reach_alike : (one other : Stretch) (a : ℕ) → one.first ≡ other.first → one.last ≡ other.last → reaches one a ≡ reaches other a
reach_alike one other a first last = ap (λ n. nat_le n a && nat_le a one.last) first ∙ ap (λ n. nat_le other.first a && nat_le a n) last

-- One more stretch that repeats an earlier one.
represents_repeat : (name : ℕ → List ℕ) (items kept : List Stretch) (s : Stretch) → IsRepeat name items s → Represents name items kept → Represents name (items ++ s ∷ []) kept
unfolding first_at
represents_repeat name items kept s is r = record {
  first = λ a. r.first a ∙ sym (find-append (λ t. reaches t a) items (s ∷ []) ∙ found a (reaches s a) refl);
  other = λ a text. r.other a text ∙ sym (list_any-append (λ t. reaches t a && not (bytes_eq (name t.index) text)) items (s ∷ []) ∙ told a text (reaches s a && not (bytes_eq (name s.index) text)) refl);
}
  where
    found : (a : ℕ) (b : Bool) → reaches s a ≡ b → option_or (find (λ t. reaches t a) items) (find (λ t. reaches t a) (s ∷ [])) ≡ find (λ t. reaches t a) items
    found a true has = first_kept (λ t. reaches t a) items (find (λ t. reaches t a) (s ∷ [])) (any_here (λ t. reaches t a) items is.place is.known is.there (reach_alike is.known s a is.first is.last ∙ has))
    found a false none = grind (arith, nat_tests, none, no_more (find (λ t. reaches t a) items))

    told : (a : ℕ) (text : List ℕ) (b : Bool) → (reaches s a && not (bytes_eq (name s.index) text)) ≡ b → (any_other name text a items || any_other name text a (s ∷ [])) ≡ any_other name text a items
    told a text true has =
        (let there : any_other name text a items ≡ true
        = any_here (λ t. reaches t a && not (bytes_eq (name t.index) text)) items is.place is.known is.there
        (ap (λ b. b && not (bytes_eq (name is.known.index) text)) (reach_alike is.known s a is.first is.last) ∙ ap (λ n. reaches s a && not (bytes_eq n text)) is.named ∙ has) in
        grind (arith, nat_tests, there))
    told a text false none = grind (arith, nat_tests, none)

next_taken : (items : List Stretch) (at : ℕ) (s : Stretch) → at < length items → s ≡ get_or items at s → take (at + 1) items ≡ take at items ++ s ∷ []
next_taken items at s inside is = take_more items at s inside ∙ ap (λ t. take at items ++ t ∷ []) (sym is)

pub kept_next : (name : ℕ → List ℕ) (items kept : List Stretch) (at : ℕ) (s : Stretch) → at < length items → s ≡ get_or items at s → Represents name (take at items) kept → Represents name (take (at + 1) items) (kept ++ s ∷ [])
kept_next name items kept at s inside is r = subst (λ l. Represents name l (kept ++ s ∷ [])) (sym (next_taken items at s inside is)) (represents_kept name (take at items) kept s r)

pub repeat_next : (name : ℕ → List ℕ) (items kept : List Stretch) (at : ℕ) (s : Stretch) → at < length items → s ≡ get_or items at s → IsRepeat name (take at items) s → Represents name (take at items) kept → Represents name (take (at + 1) items) kept
repeat_next name items kept at s inside is again r = subst (λ l. Represents name l kept) (sym (next_taken items at s inside is)) (represents_repeat name (take at items) kept s again r)

-- Members of fit stretches, each with a class of its own.
fit_one : (items : List Stretch) (at : ℕ) (s : Stretch) → at < length items → s ≡ get_or items at s → AreFit items → AreFit (s ∷ [])
fit_one [] at s inside is fit = absurd (omega arith)
fit_one (t ∷ items) zero s inside is fit = subst (λ u. AreFit (u ∷ [])) (sym is) (fit.0, fit.1, tt)
fit_one (t ∷ items) (suc at) s inside is fit = fit_one items at s (omega arith) is fit.2

fit_joined : (xs ys : List Stretch) → AreFit xs → AreFit ys → AreFit (xs ++ ys)
fit_joined [] ys p q = q
fit_joined (x ∷ xs) ys p q = (p.0, p.1, fit_joined xs ys p.2 q)

pub fit_next : (items kept : List Stretch) (at : ℕ) (s : Stretch) → at < length items → s ≡ get_or items at s → AreFit items → AreFit kept → AreFit (kept ++ s ∷ [])
fit_next items kept at s inside is all fit = fit_joined kept (s ∷ []) fit (fit_one items at s inside is all)

own_one : (items : List Stretch) (at : ℕ) (s : Stretch) → at < length items → s ≡ get_or items at s → AreOwn items → AreOwn (s ∷ [])
own_one [] at s inside is own = absurd (omega arith)
own_one (t ∷ items) zero s inside is own = subst (λ u. AreOwn (u ∷ [])) (sym is) (own.0, tt)
own_one (t ∷ items) (suc at) s inside is own = own_one items at s (omega arith) is own.1

pub own_joined : (xs ys : List Stretch) → AreOwn xs → AreOwn ys → AreOwn (xs ++ ys)
own_joined [] ys p q = q
own_joined (x ∷ xs) ys p q = (p.0, own_joined xs ys p.1 q)

pub own_next : (items kept : List Stretch) (at : ℕ) (s : Stretch) → at < length items → s ≡ get_or items at s → AreOwn items → AreOwn kept → AreOwn (kept ++ s ∷ [])
own_next items kept at s inside is all own = own_joined kept (s ∷ []) own (own_one items at s inside is all)

-- With the stretches that are kept, there is another name at an address exactly if there is one with all.
pub other_kept : (name : ℕ → List ℕ) (items kept : List Stretch) (a : ℕ) → Represents name items kept → has_other_name name kept a ≡ has_other_name name items a
unfolding has_other_name first_at
other_kept name items kept a r =
    ap (λ o. option_map_or (λ s. any_other name (name s.index) a kept) o false) (r.first a)
    ∙ go (find (λ s. reaches s a) items)
  where
    go : (o : Option Stretch) → option_map_or (λ s. any_other name (name s.index) a kept) o false ≡ option_map_or (λ s. any_other name (name s.index) a items) o false
    go None = refl
    go (Some s) = r.other a (name s.index)
