-- The stretches of INLINE records, level by level.
use Rattle.std.proofs.Common.{◌≡◌, ◌+◌, ◌<◌, ◌≤◌, ◌^◌, ◌++◌, ◌==◌, ℕ, zero, suc, Bool, true, false, cond, List, [], ◌∷◌, length, get_or, set, drop, Option, None, Some, Result, Ok, Err, refl, sym, ap, subst, ◌∙◌, arith, append-nil}
use Rattle.std.specs.Global.{Vec}
use Rattle.std.specs.List.{position_from, slice_get}
use Rattle.std.specs.Option.{option_map, IfSome}
use Rattle.std.specs.Result.{OnOk}
use Rattle.std.proofs.lemmas.Bool.Decides.{nat_tests}
use Rattle.sym_records.specs.declared.line.SymLine.{SymLine}
use Rattle.sym_records.specs.declared.line.SymLine.TheVariants.{Inline}
use Rattle.sym_records.specs.declared.line.Extent.{Extent}
use Rattle.sym_meaning.specs.TextNames.{is_inline_at}
use Rattle.step_maps.specs.declared.stretch.Stretch.{Stretch}
use Rattle.step_maps.specs.Covers.{AreStretches, index_at}
use Rattle.sym_lookup.specs.declared.stretches.Kind.TheVariants as kind
use Rattle.sym_lookup.specs.internal.Kinds.{is_at, extents_of, extent_stretches, stretches_of}
use Rattle.step_maps.specs.Stepping.{Stepping}
use Rattle.step_maps.specs.declared.stretch.FirstItem.{FirstItem}
use Rattle.sym_lookup.specs.PlaceMaps.{IsPlaceMap}
use Rattle.sym_lookup.specs.internal.Levels.{bucket, HaveStretches, IsLevelMap}
use Rattle.step_maps.proofs.IndexLemmas.{none_at}
use Rattle.sym_lookup.proofs.StretchLemmas.{records_found}

abbrev Leveled : Type 0
Leveled = List (Vec Stretch)

-- Levels without stretches.
empty_pushed : (leveled : Leveled) (v : Vec Stretch) → v.items ≡ [] → (level : ℕ) → IfSome (bucket leveled level) (λ s. s ≡ []) → ((k : ℕ) → IfSome (bucket leveled k) (λ s. s ≡ [])) → IfSome (bucket (leveled ++ v ∷ []) level) (λ s. s ≡ [])
empty_pushed [] v is zero h all = is
empty_pushed [] v is (suc level) h all = tt
empty_pushed (w ∷ leveled) v is zero h all = h
empty_pushed (w ∷ leveled) v is (suc level) h all = empty_pushed leveled v is level h (λ k. all (suc k))

-- What is added to each level.
abbrev pub AddsLine : ℕ → SymLine → Leveled → Leveled → Type 0
AddsLine index line old new = (level : ℕ) → bucket new level ≡ option_map (λ s. s ++ extent_stretches index (extents_of (kind.Level level) line)) (bucket old level)

nothing_more : (more : List Stretch) (found : Option (List Stretch)) → more ≡ [] → found ≡ option_map (λ s. s ++ more) found
nothing_more more None is = refl
nothing_more more (Some s) is = ap Some (sym (ap (λ m. s ++ m) is ∙ append-nil s))

not_inline : (index level : ℕ) (line : SymLine) → ((own call_line call_file origin : ℕ) (ranges : List Extent) → line ≡ Inline own call_line call_file origin ranges → ⊥) → extent_stretches index (extents_of (kind.Level level) line) ≡ []
not_inline index level (Inline own call_line call_file origin ranges) h = absurd (h own call_line call_file origin ranges refl)
not_inline index level _ h = refl

pub other_line : (index : ℕ) (line : SymLine) (leveled : Leveled) → ((own call_line call_file origin : ℕ) (ranges : List Extent) → line ≡ Inline own call_line call_file origin ranges → ⊥) → AddsLine index line leveled leveled
other_line index line leveled h = λ level. nothing_more (extent_stretches index (extents_of (kind.Level level) line)) (bucket leveled level) (not_inline index level line h)

level_by : (index own level : ℕ) (ranges : List Extent) (b : Bool) → (own == level) ≡ b → extent_stretches index (cond (own == level) ranges []) ≡ cond b (extent_stretches index ranges) []
level_by index own level ranges true is = rw is refl
level_by index own level ranges false is = rw is refl

no_bucket : (leveled : Leveled) (level : ℕ) → length leveled ≤ level → bucket leveled level ≡ None
no_bucket [] level l = refl
no_bucket (v ∷ leveled) zero l = absurd (omega arith)
no_bucket (v ∷ leveled) (suc level) l = no_bucket leveled level (omega arith)

nothing_there : {A B : Type 0} (f : A → B) (found : Option A) → found ≡ None → option_map f found ≡ None
nothing_there f found is = ap (option_map f) is

above_by : (index own level : ℕ) (ranges : List Extent) (leveled : Leveled) → length leveled ≤ own → (b : Bool) → (own == level) ≡ b → bucket leveled level ≡ option_map (λ s. s ++ cond b (extent_stretches index ranges) []) (bucket leveled level)
above_by index own level ranges leveled l true is =
    let same : own ≡ level = grind (arith, nat_tests) in
    let none : bucket leveled level ≡ None = no_bucket leveled level (omega arith) in
    none ∙ sym (nothing_there (λ s. s ++ extent_stretches index ranges) (bucket leveled level) none)
above_by index own level ranges leveled l false is = nothing_more [] (bucket leveled level) refl

pub level_above : (index : ℕ) (line : SymLine) (own call_line call_file origin : ℕ) (ranges : List Extent) (leveled : Leveled) → line ≡ Inline own call_line call_file origin ranges → length leveled ≤ own → AddsLine index line leveled leveled
level_above index line own call_line call_file origin ranges leveled is l = λ level.
    above_by index own level ranges leveled l (own == level) refl
    ∙ sym (ap (λ m. option_map (λ s. s ++ m) (bucket leveled level)) (ap (λ s. extent_stretches index (extents_of (kind.Level level) s)) is ∙ level_by index own level ranges (own == level) refl))

zero_suc : (n : ℕ) → (0 == suc n) ≡ false
zero_suc n = grind (arith, nat_tests)

suc_zero : (n : ℕ) → (suc n == 0) ≡ false
suc_zero n = grind (arith, nat_tests)

suc_suc : (m n : ℕ) → (m == n) ≡ (suc m == suc n)
suc_suc m n = grind (arith, nat_tests)

abbrev held_or : Option (List Stretch) → List Stretch → List Stretch
held_or None d = d
held_or (Some s) d = s

bucket_set : (leveled : Leveled) (own : ℕ) (v : Vec Stretch) (level : ℕ) (more old : List Stretch) → own < length leveled → bucket leveled own ≡ Some old → v.items ≡ old ++ more → (b : Bool) → (own == level) ≡ b
    → bucket (set leveled own v) level ≡ option_map (λ s. s ++ cond b more []) (bucket leveled level)
bucket_set [] own v level more old l was is b e = absurd (omega arith)
bucket_set (w ∷ leveled) zero v zero more old l was is b e =
    let here : b ≡ true = sym e in
    let same : w.items ≡ old = ap (λ o. held_or o w.items) was in
    ap Some (is ∙ ap (λ s. s ++ more) (sym same) ∙ ap (λ c. w.items ++ cond c more []) (sym here))
bucket_set (w ∷ leveled) zero v (suc level) more old l was is b e =
    let there : b ≡ false = sym e ∙ zero_suc level in
    nothing_more (cond b more []) (bucket leveled level) (ap (λ c. cond c more []) there)
bucket_set (w ∷ leveled) (suc own) v zero more old l was is b e =
    let there : b ≡ false = sym e ∙ suc_zero own in
    nothing_more (cond b more []) (Some w.items) (ap (λ c. cond c more []) there)
bucket_set (w ∷ leveled) (suc own) v (suc level) more old l was is b e = bucket_set leveled own v level more old (omega arith) was is b (suc_suc own level ∙ e)

bucket_there : (leveled : Leveled) (own : ℕ) (v : Vec Stretch) → own < length leveled → v ≡ get_or leveled own v → bucket leveled own ≡ Some v.items
bucket_there [] own v l is = absurd (omega arith)
bucket_there (w ∷ leveled) zero v l is = ap (λ (u : Vec Stretch). Some u.items) (sym is)
bucket_there (w ∷ leveled) (suc own) v l is = bucket_there leveled own v (omega arith) is

pub level_added : (index : ℕ) (line : SymLine) (own call_line call_file origin : ℕ) (ranges : List Extent) (leveled : Leveled) (old new : Vec Stretch) → line ≡ Inline own call_line call_file origin ranges → own < length leveled → old ≡ get_or leveled own old → new.items ≡ old.items ++ extent_stretches index ranges
    → AddsLine index line leveled (set leveled own new)
level_added index line own call_line call_file origin ranges leveled old new is l at more = λ level.
    bucket_set leveled own new level (extent_stretches index ranges) old.items l (bucket_there leveled own old l at) more (own == level) refl
    ∙ sym (ap (λ m. option_map (λ s. s ++ m) (bucket leveled level)) (ap (λ s. extent_stretches index (extents_of (kind.Level level) s)) is ∙ level_by index own level ranges (own == level) refl))

some_set : (leveled : Leveled) (own : ℕ) (v : Vec Stretch) → AreStretches v.items → ((level : ℕ) → IfSome (bucket leveled level) AreStretches) → (level : ℕ) → IfSome (bucket (set leveled own v) level) AreStretches
some_set [] own v fit all level = all level
some_set (w ∷ leveled) zero v fit all zero = fit
some_set (w ∷ leveled) zero v fit all (suc level) = all (suc level)
some_set (w ∷ leveled) (suc own) v fit all zero = all zero
some_set (w ∷ leveled) (suc own) v fit all (suc level) = some_set leveled own v fit (λ k. all (suc k)) level

pub have_set : (leveled : Leveled) (own : ℕ) (v : Vec Stretch) → AreStretches v.items → HaveStretches leveled → HaveStretches (set leveled own v)
have_set leveled own v fit have = record { some = some_set leveled own v fit have.some }

some_there : (found : Option (List Stretch)) (s : List Stretch) → found ≡ Some s → IfSome found AreStretches → AreStretches s
some_there found s is h = subst (λ f. IfSome f AreStretches) is h

pub have_there : (leveled : Leveled) (own : ℕ) (v : Vec Stretch) → own < length leveled → v ≡ get_or leveled own v → HaveStretches leveled → AreStretches v.items
have_there leveled own v l is have = some_there (bucket leveled own) v.items (bucket_there leveled own v l is) (have.some own)

pub then_ok : {A E P Q : Type 0} (result : Result A E) → OnOk result P → (P → Q) → OnOk result Q
then_ok (Ok x) p f = f p
then_ok (Err e) p f = tt

-- The stretches of the records so far.
pub record AreLeveledTo (first at : ℕ) (records : List SymLine) (leveled : Leveled) : Type 0 where
  pub have : HaveStretches leveled
  pub same : (level : ℕ) → IfSome (bucket leveled level) (λ s. s ++ stretches_of (kind.Level level) (first + at) (drop at records) ≡ stretches_of (kind.Level level) first records)

-- A level with a map, and one without.
pub no_map : (level first : ℕ) (records : List SymLine) (found : Option (Stepping (Option FirstItem))) → found ≡ None → IsLevelMap level first records found → (x : ℕ) → x < 2 ^ 64 → position_from (is_inline_at level x) first records ≡ None
no_map level first records found is h = subst (IsLevelMap level first records) is h

pub some_map : (level first : ℕ) (records : List SymLine) (found : Option (Stepping (Option FirstItem))) (map : Stepping (Option FirstItem)) → found ≡ Some map → IsLevelMap level first records found → IsPlaceMap (λ x. position_from (is_at (kind.Level level) x) first records) map
some_map level first records found map is h = subst (IsLevelMap level first records) is h

-- A level without a stretch.
pub level_none : (level first : ℕ) (records : List SymLine) (stretches : List Stretch) → length stretches ≡ 0 → stretches ≡ stretches_of (kind.Level level) first records → (x : ℕ) → x < 2 ^ 64 → position_from (is_inline_at level x) first records ≡ None
level_none level first records [] none is x fits = sym (records_found (kind.Level level) first records x fits) ∙ ap (λ s. index_at s x) (sym is) ∙ none_at x
level_none level first records (s ∷ stretches) none is x fits = absurd (omega arith)

-- The stretches that the list has for a level.
pub held_there : (leveled : Leveled) (level : ℕ) (v : Vec Stretch) (P : List Stretch → Type 0) → slice_get leveled level ≡ Some v → IfSome (bucket leveled level) P → P v.items
held_there leveled level v P is h = subst (λ (f : Option (Vec Stretch)). IfSome (option_map (λ (w : Vec Stretch). w.items) f) P) is h
