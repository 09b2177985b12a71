-- The way of an entry is followed entry by entry.
use Rattle.std.proofs.Common.{◌≡◌, ◌<◌, ◌≤◌, ◌-◌, ◌^◌, ℕ, zero, suc, true, false, List, [], ◌∷◌, map, length, Option, None, Some, refl, sym, ap, ◌∙◌, arith}
use Rattle.std.specs.List.{slice_get}
use Rattle.std.specs.Option.{option_map}
use Rattle.std.proofs.lemmas.Bool.{cond-true, cond-false}
use Rattle.std.proofs.lemmas.List.{length-append, length-map}
use Rattle.std.proofs.lemmas.Option.{none-some}
use Rattle.die_walk.specs.EntryTable.{DieFields}
use Rattle.die_names.specs.declared.name_source.How.TheVariants.{Linkage}
use Rattle.die_names.specs.declared.name_source.NameRef.{NameRef}
use Rattle.die_names.specs.declared.entry_search.Standing.{Standing}
use Rattle.debug_units.specs.declared.unit_read.EntryRef.{EntryRef}
use Rattle.debug_units.specs.declared.unit_read.UnitRead.{UnitRead}
use Rattle.debug_units.specs.UnitEntries.{Placed, AreRead, entry_in, entry_of, die_from, die_in, places}
use Rattle.die_names.specs.Names.{way, linked_from}
use Rattle.die_names.specs.NameRefs.{name_at, has_linkage}
use Rattle.die_names.specs.internal.Finding.{found, die_count, IsInside}
use Rattle.die_names.specs.internal.Following.{noted, noted_at, followed}

-- An entry together with its numbers.
abbrev pub placed : EntryRef → DieFields → Placed
placed s die = record { unit = s.unit; entry = s.entry; die = die }

found_by : (s : EntryRef) (part : Option UnitRead) (die : Option DieFields) → die ≡ die_from s.entry part → entry_in s.unit s.entry part ≡ option_map (placed s) die
found_by s None die is = ap (option_map (placed s)) (sym is)
found_by s (Some part) die is = ap (option_map (placed s)) (sym is)

found_at : (units : List UnitRead) (s : EntryRef) (die : Option DieFields) → die ≡ die_in units s → found units (Some s) ≡ option_map (placed s) die
unfolding entry_of
found_at units s die is = found_by s (slice_get units s.unit) die is

pub way_none : (units : List UnitRead) (links : ℕ) (best : NameRef) → best ≡ followed best (way units links None)
unfolding way
way_none units zero best = refl
way_none units (suc links) best = refl

pub way_lost : (units : List UnitRead) (links : ℕ) (best : NameRef) (s : EntryRef) → None ≡ die_in units s → best ≡ followed best (way units links (found units (Some s)))
way_lost units links best s is = way_none units links best ∙ ap (λ p. followed best (way units links p)) (sym (found_at units s None is))

linkage_first : (units : List UnitRead) (links : ℕ) (best : NameRef) (p : Placed) → has_linkage p ≡ true → name_at p Linkage ≡ followed best (way units links (Some p))
unfolding way
linkage_first units zero best p has = sym (cond-true _ _ _ has)
linkage_first units (suc links) best p has = sym (cond-true _ _ _ has)

pub linkage_is : (units : List UnitRead) (links : ℕ) (best : NameRef) (s : EntryRef) (die : DieFields) → Some die ≡ die_in units s → has_linkage (placed s die) ≡ true → name_at (placed s die) Linkage ≡ followed best (way units links (found units (Some s)))
linkage_is units links best s die is has = linkage_first units links best (placed s die) has ∙ ap (λ p. followed best (way units links p)) (sym (found_at units s (Some die) is))

last_first : (units : List UnitRead) (links : ℕ) (best : NameRef) (p : Placed) → links ≡ 0 → has_linkage p ≡ false → noted best p ≡ followed best (way units links (Some p))
unfolding way
last_first units zero best p none has = sym (cond-false _ _ _ has)
last_first units (suc links) best p none has = absurd (omega arith)

pub last_is : (units : List UnitRead) (links : ℕ) (best : NameRef) (s : EntryRef) (die : DieFields) → links ≡ 0 → Some die ≡ die_in units s → has_linkage (placed s die) ≡ false → noted_at best s die ≡ followed best (way units links (found units (Some s)))
last_is units links best s die none is has = last_first units links best (placed s die) none has ∙ ap (λ p. followed best (way units links p)) (sym (found_at units s (Some die) is))

next_first : (units : List UnitRead) (links : ℕ) (best : NameRef) (p : Placed) → (links ≡ 0 → ⊥) → has_linkage p ≡ false → followed (noted best p) (way units (links - 1) (linked_from units p.die)) ≡ followed best (way units links (Some p))
unfolding way
next_first units zero best p some has = absurd (some refl)
next_first units (suc links) best p some has =
    let less : suc links - 1 ≡ links = omega arith in
    ap (λ n. followed (noted best p) (way units n (linked_from units p.die))) less ∙ sym (cond-false _ _ _ has)

pub next_is : (units : List UnitRead) (links : ℕ) (best : NameRef) (s : EntryRef) (die : DieFields) (to : Option EntryRef) (made : NameRef) → (links ≡ 0 → ⊥) → Some die ≡ die_in units s → has_linkage (placed s die) ≡ false
    → made ≡ noted_at best s die → found units to ≡ linked_from units die → followed made (way units (links - 1) (found units to)) ≡ followed best (way units links (found units (Some s)))
next_is units links best s die to made some is has noting linking =
    ap (λ m. followed m (way units (links - 1) (found units to))) noting
    ∙ ap (λ p. followed (noted_at best s die) (way units (links - 1) p)) linking
    ∙ next_first units links best (placed s die) some has
    ∙ ap (λ p. followed best (way units links p)) (sym (found_at units s (Some die) is))

-- The numbers of entries fit into four bytes.
within_places : (units : List UnitRead) (k : ℕ) (part : UnitRead) → slice_get units k ≡ Some part → length part.die.dies ≤ length (places units)
within_places [] k part is = absurd (none-some _ is)
within_places (u ∷ units) zero part is = grind (arith, is, length-append (map (λ (d : DieFields). d.at) u.die.dies) (places units), length-map u.die.dies (λ (d : DieFields). d.at))
within_places (u ∷ units) (suc k) part is = omega (arith, within_places units k part is, length-append (map (λ (d : DieFields). d.at) u.die.dies) (places units))

entry_by : (units : List UnitRead) (s : Standing) (part : Option UnitRead) → slice_get units s.unit ≡ part → s.entry < die_count part → s.entry < length (places units)
entry_by units s None is inside = absurd (omega arith)
entry_by units s (Some part) is inside = omega (arith, within_places units s.unit part is)

pub small_unit : (units : List UnitRead) (s : Standing) → AreRead units → IsInside units s → s.unit < 2 ^ 32
small_unit units s read inside = omega (arith, read.few, inside.unit)

pub small_entry : (units : List UnitRead) (s : Standing) → AreRead units → IsInside units s → s.entry < 2 ^ 32
small_entry units s read inside =
    let within = entry_by units s (slice_get units s.unit) refl inside.entry in
    omega (arith, read.few_entries)
