-- The ranges of an entry, cut into parts.
use Rattle.std.proofs.Common.{◌≡◌, ℕ, zero, suc, ◌+◌, ◌<◌, ◌≤◌, ◌&&◌, ◌||◌, ◌++◌, Bool, true, false, nat_le, List, [], ◌∷◌, length, take, drop, arith, refl, sym, ap, ◌∙◌}
use Rattle.std.specs.List.{list_any}
use Rattle.std.proofs.lemmas.Bool.Decides.{nat_tests}
use Rattle.std.proofs.lemmas.List.{append_assoc, append-nil, take-append-drop, length-take}
use Rattle.sym_edges.specs.Addresses.{Range}
use Rattle.range_set.specs.Members.{holds, holds_any}
use Rattle.range_set.specs.Canonical.{IsCanonical}
use Rattle.step_maps.specs.declared.stretch.Stretch.{Stretch}
use Rattle.step_maps.specs.Covers.{reaches}
use Rattle.inline_chain.specs.InlineRuns.{InlineParts, joined, AreParts}
use Rattle.inline_chain.proofs.LevelLemmas.{or_assoc}
use Rattle.inline_chain.specs.internal.Levels.{entry_runs, AddsParts, AddsGroup}

-- A stretch as a range.
pub stretch_holds : (first last a : ℕ) → holds (record { start = first; end = last + 1 }) a ≡ (nat_le first a && nat_le a last)
stretch_holds first last a = grind (arith, nat_tests)

or_last : (x y : Bool) → (x || (y || false)) ≡ (x || y)
or_last true y = refl
or_last false true = refl
or_last false false = refl

held_joined : (xs ys : List Range) (a : ℕ) → holds_any (xs ++ ys) a ≡ (holds_any xs a || holds_any ys a)
held_joined [] ys a = refl
held_joined (x ∷ xs) ys a = ap (λ t. holds x a || t) (held_joined xs ys a) ∙ sym (or_assoc (holds x a) (holds_any xs a) (holds_any ys a))

pub group_more : (spans : List Range) (rest later group : List Stretch) (s : Stretch) (a : ℕ) → rest ≡ s ∷ later
    → (holds_any (spans ++ record { start = s.first; end = s.last + 1 } ∷ []) a || list_any (λ (s : Stretch). reaches s a) later) ≡ (holds_any spans a || list_any (λ (s : Stretch). reaches s a) rest)
group_more spans rest later group s a is =
    ap (λ t. t || list_any (λ (s : Stretch). reaches s a) later) (held_joined spans (record { start = s.first; end = s.last + 1 } ∷ []) a ∙ or_last (holds_any spans a) (holds (record { start = s.first; end = s.last + 1 }) a) ∙ ap (λ t. holds_any spans a || t) (stretch_holds s.first s.last a))
    ∙ or_assoc (holds_any spans a) (reaches s a) (list_any (λ (s : Stretch). reaches s a) later)
    ∙ ap (λ l. holds_any spans a || list_any (λ (s : Stretch). reaches s a) l) (sym is)

pub group_ends : (spans : List Range) (rest : List Stretch) (a : ℕ) → length rest ≡ 0 → holds_any spans a ≡ (holds_any spans a || list_any (λ (s : Stretch). reaches s a) rest)
group_ends spans [] a none = away (holds_any spans a)
  where
    away : (h : Bool) → h ≡ (h || false)
    away true = refl
    away false = refl
group_ends spans (s ∷ rest) a none = absurd (omega arith)

-- Parts that have as many ranges as they may have.
abbrev pub AreFull : List (List Range) → Type 0
AreFull [] = Prim.Unit {0}
AreFull (spans ∷ parts) = (length spans ≡ 16384) × AreFull parts

-- Full parts were added, and these ranges are left.
pub record PartsTo (level entry : ℕ) (spans rest : List Range) (old new : List InlineParts) : Type 0 where
  pub parts : List (List Range)
  pub whole : new ≡ old ++ entry_runs level entry parts
  pub full : AreFull parts
  pub ranges : joined parts ++ rest ≡ spans

pub parts_begin : (level entry : ℕ) (spans : List Range) (old : List InlineParts) → PartsTo level entry spans spans old old
unfolding joined
parts_begin level entry spans old = record { parts = []; whole = sym (append-nil old); full = tt; ranges = refl }

runs_joined : (level entry : ℕ) (ps qs : List (List Range)) → entry_runs level entry (ps ++ qs) ≡ entry_runs level entry ps ++ entry_runs level entry qs
runs_joined level entry [] qs = refl
runs_joined level entry (p ∷ ps) qs = ap (λ l. record { level = level; entry = entry; spans = p } ∷ l) (runs_joined level entry ps qs)

full_joined : (ps : List (List Range)) (p : List Range) → AreFull ps → length p ≡ 16384 → AreFull (ps ++ p ∷ [])
full_joined [] p full is = (is, tt)
full_joined (q ∷ ps) p full is = (full.0, full_joined ps p full.1 is)

joined_more : (ps : List (List Range)) (p : List Range) → joined (ps ++ p ∷ []) ≡ joined ps ++ p
unfolding joined
joined_more [] p = append-nil p
joined_more (q ∷ ps) p = ap (λ l. q ++ l) (joined_more ps p) ∙ sym (append_assoc q (joined ps) p)

pub canonical_take : (k : ℕ) (spans : List Range) → IsCanonical spans → IsCanonical (take k spans)
canonical_take zero spans canonical = tt
canonical_take (suc k) [] canonical = tt
canonical_take (suc zero) (r ∷ spans) canonical = (canonical.0, tt, tt)
canonical_take (suc (suc k)) (r ∷ []) canonical = (canonical.0, tt, tt)
canonical_take (suc (suc k)) (r ∷ s ∷ spans) canonical = (canonical.0, canonical.1, canonical_take (suc k) (s ∷ spans) canonical.2)

pub canonical_drop : (k : ℕ) (spans : List Range) → IsCanonical spans → IsCanonical (drop k spans)
canonical_drop zero spans canonical = canonical
canonical_drop (suc k) [] canonical = tt
canonical_drop (suc k) (r ∷ spans) canonical = canonical_drop k spans canonical.2

-- One more full part.
pub parts_more : (level entry : ℕ) (spans rest part later set : List Range) (old made new : List InlineParts) → part ≡ take 16384 rest → later ≡ drop 16384 rest → 16384 < length rest
    → set ≡ part → new ≡ made ++ record { level = level; entry = entry; spans = set } ∷ [] → PartsTo level entry spans rest old made → PartsTo level entry spans later old new
parts_more level entry spans rest part later set old made new front back more is grown to = record {
  parts = to.parts ++ part ∷ [];
  whole =
      grown ∙ ap (λ l. l ++ record { level = level; entry = entry; spans = set } ∷ []) to.whole ∙ append_assoc old (entry_runs level entry to.parts) (record { level = level; entry = entry; spans = set } ∷ [])
      ∙ ap (λ s. old ++ (entry_runs level entry to.parts ++ record { level = level; entry = entry; spans = s } ∷ [])) is ∙ ap (λ l. old ++ l) (sym (runs_joined level entry to.parts (part ∷ [])));
  full = full_joined to.parts part to.full (ap length front ∙ length-take 16384 rest ∙ omega arith);
  ranges =
      ap (λ l. l ++ later) (joined_more to.parts part) ∙ append_assoc (joined to.parts) part later
      ∙ (λ i. joined to.parts ++ (front i ++ back i)) ∙ ap (λ l. joined to.parts ++ l) (take-append-drop 16384 rest) ∙ to.ranges;
}

full_parts : (parts : List (List Range)) → AreFull parts → AreParts parts
full_parts [] full = tt
full_parts (p ∷ []) full = (omega (arith, full.0), omega (arith, full.0))
full_parts (p ∷ q ∷ parts) full = (full.0, full_parts (q ∷ parts) full.1)

last_parts : (parts : List (List Range)) (p : List Range) → AreFull parts → 0 < length p → length p ≤ 16384 → AreParts (parts ++ p ∷ [])
last_parts [] p full some few = (some, few)
last_parts (q ∷ []) p full some few = (full.0, (some, few))
last_parts (q ∷ r ∷ parts) p full some few = (full.0, last_parts (r ∷ parts) p full.1 some few)

pub parts_full : (level entry : ℕ) (spans rest : List Range) (old new : List InlineParts) → length rest ≡ 0 → PartsTo level entry spans rest old new → AddsParts level entry spans old new
parts_full level entry spans [] old new none to = record { parts = to.parts; whole = to.whole; parts_are = full_parts to.parts to.full; ranges = sym (append-nil (joined to.parts)) ∙ to.ranges }
parts_full level entry spans (r ∷ rest) old new none to = absurd (omega arith)

pub parts_last : (level entry : ℕ) (spans rest set : List Range) (old made new : List InlineParts) → 0 < length rest → length rest ≤ 16384 → set ≡ rest
    → new ≡ made ++ record { level = level; entry = entry; spans = set } ∷ [] → PartsTo level entry spans rest old made → AddsParts level entry spans old new
parts_last level entry spans rest set old made new some few is grown to = record {
  parts = to.parts ++ rest ∷ [];
  whole =
      grown ∙ ap (λ l. l ++ record { level = level; entry = entry; spans = set } ∷ []) to.whole ∙ append_assoc old (entry_runs level entry to.parts) (record { level = level; entry = entry; spans = set } ∷ [])
      ∙ ap (λ s. old ++ (entry_runs level entry to.parts ++ record { level = level; entry = entry; spans = s } ∷ [])) is ∙ ap (λ l. old ++ l) (sym (runs_joined level entry to.parts (rest ∷ [])));
  parts_are = last_parts to.parts rest to.full some few;
  ranges = joined_more to.parts rest ∙ to.ranges;
}

-- An entry with few ranges, and an entry with one range.
pub parts_one : (level entry : ℕ) (spans : List Range) (old new : List InlineParts) → (length spans ≡ 0 → ⊥) → length spans ≤ 16384 → new ≡ old ++ record { level = level; entry = entry; spans = spans } ∷ [] → AddsParts level entry spans old new
parts_one level entry spans old new some few grown = parts_last level entry spans spans spans old old new (above spans some) few refl grown (parts_begin level entry spans old)
  where
    above : (rs : List Range) → (length rs ≡ 0 → ⊥) → 0 < length rs
    above [] some = absurd (some refl)
    above (r ∷ rs) some = omega arith

pub group_one : (level entry : ℕ) (s : Stretch) (old new : List InlineParts) → s.first ≤ s.last → new ≡ old ++ record { level = level; entry = entry; spans = record { start = s.first; end = s.last + 1 } ∷ [] } ∷ [] → AddsGroup level entry (s ∷ []) old new
unfolding joined
group_one level entry s old new some grown = record {
  parts = (record { start = s.first; end = s.last + 1 } ∷ []) ∷ [];
  whole = grown;
  parts_are = (omega arith, omega arith);
  canonical = (omega (arith, some), tt, tt);
  members = λ a. ap (λ t. t || false) (stretch_holds s.first s.last a);
}
