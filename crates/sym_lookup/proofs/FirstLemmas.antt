-- The first INLINE of each level that covers an address.
use Rattle.std.proofs.Common.{◌≡◌, ◌+◌, ◌<◌, ◌≤◌, ◌==◌, ◌&&◌, ℕ, zero, suc, Bool, true, false, cond, List, [], ◌∷◌, length, get_or, set, drop, replicate, Option, None, Some, refl, sym, ap, subst, ◌∙◌, arith, drop-cons}
use Rattle.std.specs.List.{position_from, slice_get, list_any}
use Rattle.std.specs.Option.{option_map, IfSome}
use Rattle.std.proofs.lemmas.Bool.Decides.{nat_tests}
use Rattle.sym_records.specs.declared.line.SymLine.{SymLine}
use Rattle.sym_records.specs.declared.line.SymLine.TheVariants.{Inline}
use Rattle.sym_records.specs.declared.line.Extent.{Extent}
use Rattle.sym_meaning.specs.TextNames.{is_within, is_inline_at}
use Rattle.sym_lookup.specs.internal.Scans.{sooner, AreFirsts}

abbrev Firsts : Type 0
Firsts = List (Option ℕ)

-- What a record changes in the list of first records.
abbrev pub Notes : ℕ → ℕ → SymLine → Firsts → Firsts → Type 0
Notes x place line old new = (level : ℕ) → slice_get new level ≡ option_map (sooner level x place line) (slice_get old level)

stays : (place : ℕ) (test : Bool) (found : Option (Option ℕ)) → test ≡ false → found ≡ option_map (λ later. cond test (Some place) later) found
stays place test None h = refl
stays place test (Some later) h = rw h refl

abbrev IsNoInline : SymLine → Type 0
IsNoInline line = (own call_line call_file origin : ℕ) (ranges : List Extent) → line ≡ Inline own call_line call_file origin ranges → ⊥

not_inline : (level x : ℕ) (line : SymLine) → IsNoInline line → is_inline_at level x line ≡ false
not_inline level x (Inline own call_line call_file origin ranges) h = absurd (h own call_line call_file origin ranges refl)
not_inline level x _ h = refl

abbrev covers : ℕ → List Extent → Bool
covers x ranges = list_any (λ (r : Extent). is_within r.address r.size x) ranges

not_both : (a : Bool) → (a && false) ≡ false
not_both true = refl
not_both false = refl

pub not_covered : (x place : ℕ) (line : SymLine) (own call_line call_file origin : ℕ) (ranges : List Extent) (firsts : Firsts) → line ≡ Inline own call_line call_file origin ranges → covers x ranges ≡ false → Notes x place line firsts firsts
not_covered x place line own call_line call_file origin ranges firsts is h = λ level.
    stays place (is_inline_at level x line) (slice_get firsts level) (ap (is_inline_at level x) is ∙ ap (λ b. (own == level) && b) h ∙ not_both (own == level))

nothing_there : (firsts : Firsts) (level : ℕ) → length firsts ≤ level → slice_get firsts level ≡ None
nothing_there [] level l = refl
nothing_there (f ∷ firsts) zero l = absurd (omega arith)
nothing_there (f ∷ firsts) (suc level) l = nothing_there firsts level (omega arith)

zero_suc : (n : ℕ) → (0 == suc n) ≡ false
zero_suc n = grind (arith, nat_tests)

suc_zero : (n : ℕ) → (suc n == 0) ≡ false
suc_zero n = grind (arith, nat_tests)

suc_suc : (m n : ℕ) → (m == n) ≡ (suc m == suc n)
suc_suc m n = grind (arith, nat_tests)

level_set : (firsts : Firsts) (own place level : ℕ) (b : Bool) → own < length firsts → (own == level) ≡ b → slice_get (set firsts own (Some place)) level ≡ option_map (λ later. cond b (Some place) later) (slice_get firsts level)
level_set [] own place level b l e = absurd (omega arith)
level_set (f ∷ firsts) zero place zero b l e = let here : b ≡ true = sym e in rw here refl
level_set (f ∷ firsts) zero place (suc level) b l e = stays place b (slice_get firsts level) (sym e ∙ zero_suc level)
level_set (f ∷ firsts) (suc own) place zero b l e = stays place b (Some f) (sym e ∙ suc_zero own)
level_set (f ∷ firsts) (suc own) place (suc level) b l e = level_set firsts own place level b (omega arith) (suc_suc own level ∙ e)

and_true : (a : Bool) → (a && true) ≡ a
and_true true = refl
and_true false = refl

pub level_noted : (x place : ℕ) (line : SymLine) (own call_line call_file origin : ℕ) (ranges : List Extent) (firsts : Firsts) → line ≡ Inline own call_line call_file origin ranges → own < length firsts → covers x ranges ≡ true → Notes x place line firsts (set firsts own (Some place))
level_noted x place line own call_line call_file origin ranges firsts is l h = λ level.
    level_set firsts own place level (own == level) l refl
    ∙ ap (λ b. option_map (λ later. cond b (Some place) later) (slice_get firsts level)) (sym (ap (is_inline_at level x) is ∙ ap (λ b. (own == level) && b) h ∙ and_true (own == level)))

-- The records, one by one from the last on.
none_held : (n level : ℕ) → IfSome (slice_get (replicate n None) level) (λ (found : Option ℕ). found ≡ None)
none_held zero level = tt
none_held (suc n) zero = refl
none_held (suc n) (suc level) = none_held n level

none_left : (p : SymLine → Bool) (records : List SymLine) (first at : ℕ) → length records ≤ at → position_from p first (drop at records) ≡ None
none_left p [] first zero l = refl
none_left p [] first (suc at) l = refl
none_left p (s ∷ records) first zero l = absurd (omega arith)
none_left p (s ∷ records) first (suc at) l = none_left p records first at (omega arith)

pub firsts_none : (first x n at : ℕ) (records : List SymLine) → length records ≤ at → AreFirsts (first + at) x (drop at records) (replicate n None)
firsts_none first x n at records l = λ level. go level (slice_get (replicate n None) level) (none_held n level)
  where
    go : (level : ℕ) (held : Option (Option ℕ)) → IfSome held (λ found. found ≡ None) → IfSome held (λ found. found ≡ position_from (is_inline_at level x) (first + at) (drop at records))
    go level None h = tt
    go level (Some found) h = h ∙ sym (none_left (is_inline_at level x) records (first + at) at l)

first_at : (p : SymLine → Bool) (records : List SymLine) (first at : ℕ) (d : SymLine) → at < length records → position_from p (first + at) (drop at records) ≡ cond (p (get_or records at d)) (Some (first + at)) (position_from p (first + at + 1) (drop (suc at) records))
first_at p records first at d l = rw (drop-cons records at d l) refl

pub firsts_more : (first x at place : ℕ) (records : List SymLine) (line : SymLine) (old new : Firsts) → place + 1 ≡ at → place < length records → line ≡ get_or records place line → Notes x (first + place) line old new → AreFirsts (first + at) x (drop at records) old
    → AreFirsts (first + place) x (drop place records) new
firsts_more first x at place records line old new n l is notes before = λ level. subst (λ o. IfSome o (λ found. found ≡ position_from (is_inline_at level x) (first + place) (drop place records))) (sym (notes level)) (go level (slice_get old level) (before level))
  where
    go : (level : ℕ) (held : Option (Option ℕ)) → IfSome held (λ found. found ≡ position_from (is_inline_at level x) (first + at) (drop at records))
        → IfSome (option_map (sooner level x (first + place) line) held) (λ found. found ≡ position_from (is_inline_at level x) (first + place) (drop place records))
    go level None h = tt
    go level (Some found) h =
        let next : at ≡ suc place = omega arith in
        let one : first + at ≡ first + place + 1 = omega arith in
        ap (sooner level x (first + place) line) (h ∙ ap (λ m. position_from (is_inline_at level x) m (drop at records)) one ∙ ap (λ m. position_from (is_inline_at level x) (first + place + 1) (drop m records)) next)
        ∙ ap (λ s. cond (is_inline_at level x s) (Some (first + place)) (position_from (is_inline_at level x) (first + place + 1) (drop (suc place) records))) is
        ∙ sym (first_at (is_inline_at level x) records first place line l)

-- The first record of a level that the list has.
pub first_held : (first x level : ℕ) (records : List SymLine) (firsts : Firsts) (found : Option ℕ) → slice_get firsts level ≡ Some found → AreFirsts first x records firsts → found ≡ position_from (is_inline_at level x) first records
first_held first x level records firsts found is h = subst (λ o. IfSome o (λ f. f ≡ position_from (is_inline_at level x) first records)) is (h level)
