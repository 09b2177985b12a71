-- A binary search for an entry among units.
use Rattle.std.proofs.Common.{◌≡◌, ◌<◌, ◌≤◌, ◌+◌, ◌++◌, ℕ, zero, suc, false, eqb, List, [], ◌∷◌, take, drop, length, Option, None, Some, IfSome, get_or, refl, sym, ap, subst, ◌∙◌, arith}
use Rattle.std.specs.List.{find, slice_get}
use Rattle.std.specs.Option.{option_or, option_map}
use Rattle.std.proofs.lemmas.Option.{none-some, slice_get-get_or}
use Rattle.std.proofs.lemmas.Bool.{cond-false, ne_eqb}
use Rattle.std.proofs.lemmas.List.{append_assoc, take-append-drop, length-append}
use Rattle.std.proofs.lemmas.List.Folds.{find-append}
use Rattle.sym_edges.specs.Rising.{RisesFrom}
use Rattle.sym_edges.proofs.RisingLemmas.{rises_lower}
use Rattle.die_walk.specs.EntryTable.{DieFields}
use Rattle.die_names.specs.declared.entry_search.Standing.{Standing}
use Rattle.debug_units.specs.declared.unit_read.UnitRead.{UnitRead}
use Rattle.debug_units.specs.UnitEntries.{Placed, unit_entries, entries_from, entry_in, entry_at, entry_of, places}
use Rattle.die_names.specs.internal.Finding.{is_at, found_in, found_from, found, moved, die_count, IsInside}
use Rattle.die_names.proofs.FindLemmas.{dies_places}

abbrev pub among : ℕ → ℕ → List UnitRead → Option Placed
among place first units = find (is_at place) (entries_from first units)

abbrev pub in_unit : ℕ → ℕ → List DieFields → Option Placed
in_unit place unit dies = find (is_at place) (unit_entries unit 0 dies)

-- A list of units as a first half, the unit in the middle, and the rest.
pub record Halves (units left : List UnitRead) (part : UnitRead) (rest : List UnitRead) (half : ℕ) : Type 0 where
  pub whole : units ≡ left ++ (part ∷ rest)
  pub long : half ≡ length left

pub halves : (units left right : List UnitRead) (part : UnitRead) (rest : List UnitRead) (half : ℕ) → left ≡ take half units → right ≡ drop half units → length left ≡ half → right ≡ part ∷ rest → Halves units left part rest half
halves units left right part rest half front back long is = record {
  whole = sym (take-append-drop half units) ∙ ap (λ l. l ++ drop half units) (sym front) ∙ ap (λ r. left ++ r) (sym back ∙ is);
  long = sym long;
}

entries_append : (first : ℕ) (left right : List UnitRead) → entries_from first (left ++ right) ≡ entries_from first left ++ entries_from (first + length left) right
entries_append first [] right = ap (λ n. entries_from n right) (omega arith)
entries_append first (u ∷ left) right =
    ap (λ r. unit_entries first 0 u.die.dies ++ r) (entries_append (first + 1) left right ∙ ap (λ n. entries_from (first + 1) left ++ entries_from n right) (omega arith))
    ∙ sym (append_assoc (unit_entries first 0 u.die.dies) (entries_from (first + 1) left) (entries_from (first + length (u ∷ left)) right))

places_append : (left right : List UnitRead) → places (left ++ right) ≡ places left ++ places right
places_append [] right = refl
places_append (u ∷ left) right =
    ap (λ r. dies_places u.die.dies ++ r) (places_append left right) ∙ sym (append_assoc (dies_places u.die.dies) (places left) (places right))

split : (place first : ℕ) (left : List UnitRead) (part : UnitRead) (rest : List UnitRead) → among place first (left ++ (part ∷ rest)) ≡ option_or (among place first left) (option_or (in_unit place (first + length left) part.die.dies) (among place (first + length left + 1) rest))
split place first left part rest =
    ap (λ e. find (is_at place) e) (entries_append first left (part ∷ rest))
    ∙ find-append (is_at place) (entries_from first left) (entries_from (first + length left) (part ∷ rest))
    ∙ ap (λ o. option_or (among place first left) o) (find-append (is_at place) (unit_entries (first + length left) 0 part.die.dies) (entries_from (first + length left + 1) rest))

-- None of the numbers of a list is this one.
abbrev pub Avoids : ℕ → List ℕ → Type 0
Avoids place [] = Prim.Unit {0}
Avoids place (x ∷ xs) = (eqb x place ≡ false) × Avoids place xs

avoids_left : (place : ℕ) (xs ys : List ℕ) → Avoids place (xs ++ ys) → Avoids place xs
avoids_left place [] ys a = tt
avoids_left place (x ∷ xs) ys a = (a.0, avoids_left place xs ys a.1)

avoids_right : (place : ℕ) (xs ys : List ℕ) → Avoids place (xs ++ ys) → Avoids place ys
avoids_right place [] ys a = a
avoids_right place (x ∷ xs) ys a = avoids_right place xs ys a.1

dies_avoided : (place unit entry : ℕ) (dies : List DieFields) → Avoids place (dies_places dies) → find (is_at place) (unit_entries unit entry dies) ≡ None
dies_avoided place unit entry [] a = refl
dies_avoided place unit entry (d ∷ dies) a = cond-false _ _ _ a.0 ∙ dies_avoided place unit (entry + 1) dies a.1

units_avoided : (place first : ℕ) (units : List UnitRead) → Avoids place (places units) → among place first units ≡ None
units_avoided place first [] a = refl
units_avoided place first (u ∷ units) a =
    find-append (is_at place) (unit_entries first 0 u.die.dies) (entries_from (first + 1) units)
    ∙ ap (λ o. option_or o (among place (first + 1) units)) (dies_avoided place first 0 u.die.dies (avoids_left place (dies_places u.die.dies) (places units) a))
    ∙ units_avoided place (first + 1) units (avoids_right place (dies_places u.die.dies) (places units) a)

rises_right : (low : ℕ) (xs ys : List ℕ) → RisesFrom low (xs ++ ys) → RisesFrom low ys
rises_right low [] ys rises = rises
rises_right low (x ∷ xs) ys rises = rises_lower (x + 1) low ys (let first : low ≤ x = rises.0 in omega arith) (rises_right (x + 1) xs ys rises.1)

rises_left : (low : ℕ) (xs ys : List ℕ) → RisesFrom low (xs ++ ys) → RisesFrom low xs
rises_left low [] ys rises = tt
rises_left low (x ∷ xs) ys rises = (rises.0, rises_left (x + 1) xs ys rises.1)

above : (place low : ℕ) (xs : List ℕ) → RisesFrom low xs → place < low → Avoids place xs
above place low [] rises less = tt
above place low (x ∷ xs) rises less =
    let first : low ≤ x = rises.0 in
    (ne_eqb _ _ (λ e. absurd (omega arith)), above place (x + 1) xs rises.1 (omega arith))

below : (place low : ℕ) (xs : List ℕ) (y : ℕ) (ys : List ℕ) → RisesFrom low (xs ++ (y ∷ ys)) → y ≤ place → Avoids place xs
below place low [] y ys rises le = tt
below place low (x ∷ xs) y ys rises le =
    let later : x + 1 ≤ y = (rises_right (x + 1) xs (y ∷ ys) rises.1).0 in
    (ne_eqb _ _ (λ e. absurd (omega arith)), below place (x + 1) xs y ys rises.1 le)

or_none : (o : Option Placed) → option_or o None ≡ o
or_none None = refl
or_none (Some p) = refl

get_left : (k : ℕ) (xs ys : List UnitRead) → k < length xs → slice_get (xs ++ ys) k ≡ slice_get xs k
get_left k [] ys there = absurd (omega arith)
get_left zero (x ∷ xs) ys there = refl
get_left (suc k) (x ∷ xs) ys there = get_left k xs ys (omega arith)

get_right : (k : ℕ) (xs ys : List UnitRead) → slice_get (xs ++ ys) (length xs + k) ≡ slice_get ys k
get_right k [] ys = ap (λ n. slice_get ys n) (omega arith)
get_right k (x ∷ xs) ys =
    let moved_on : length (x ∷ xs) + k ≡ suc (length xs + k) = omega arith in
    ap (λ n. slice_get (x ∷ (xs ++ ys)) n) moved_on ∙ get_right k xs ys

-- An entry of the first half, of the unit in the middle, and of the rest.
left_found : (first : ℕ) (left right : List UnitRead) (r : Option Standing) → IfSome r (λ s. IsInside left s) → found_from first (left ++ right) r ≡ found_from first left r
left_found first left right None inside = refl
left_found first left right (Some s) inside = ap (λ u. entry_in (first + s.unit) s.entry u) (get_left s.unit left right inside.unit)

left_inside : (left right : List UnitRead) (r : Option Standing) → IfSome r (λ s. IsInside left s) → IfSome r (λ s. IsInside (left ++ right) s)
left_inside left right None inside = tt
left_inside left right (Some s) inside = record {
  unit = rw length-append (omega (arith, inside.unit));
  entry = subst (λ u. s.entry < die_count u) (sym (get_left s.unit left right inside.unit)) inside.entry;
}

head_rises : (low : ℕ) (dies : List DieFields) (d : DieFields) (more : List ℕ) → slice_get dies 0 ≡ Some d → RisesFrom low (dies_places dies ++ more) → RisesFrom d.at (dies_places dies ++ more)
head_rises low [] d more is rises = absurd (none-some _ is)
head_rises low (x ∷ dies) d more is rises = (grind (arith, is), rises.1)

head_le : (low : ℕ) (dies : List DieFields) (d : DieFields) (more : List ℕ) (xs : List ℕ) (place : ℕ) → slice_get dies 0 ≡ Some d → d.at ≤ place → RisesFrom low (xs ++ (dies_places dies ++ more)) → Avoids place xs
head_le low [] d more xs place is le rises = absurd (none-some _ is)
head_le low (x ∷ dies) d more xs place is le rises = below place low xs x.at (dies_places dies ++ more) rises (grind (arith, is, le))

parted : (left : List UnitRead) (part : UnitRead) (rest : List UnitRead) → RisesFrom 0 (places (left ++ (part ∷ rest))) → RisesFrom 0 (places left ++ (dies_places part.die.dies ++ places rest))
parted left part rest rises = subst (RisesFrom 0) (places_append left (part ∷ rest)) rises

later_none : (place first : ℕ) (left : List UnitRead) (part : UnitRead) (rest : List UnitRead) (d : DieFields) → RisesFrom 0 (places (left ++ (part ∷ rest))) → slice_get part.die.dies 0 ≡ Some d → place < d.at
    → option_or (in_unit place (first + length left) part.die.dies) (among place (first + length left + 1) rest) ≡ None
later_none place first left part rest d rises is less =
    let avoids = above place d.at (dies_places part.die.dies ++ places rest) (head_rises 0 part.die.dies d (places rest) is (rises_right 0 (places left) (dies_places part.die.dies ++ places rest) (parted left part rest rises))) less in
    ap (λ o. option_or o (among place (first + length left + 1) rest)) (dies_avoided place (first + length left) 0 part.die.dies (avoids_left place (dies_places part.die.dies) (places rest) avoids))
    ∙ units_avoided place (first + length left + 1) rest (avoids_right place (dies_places part.die.dies) (places rest) avoids)

earlier_none : (place first : ℕ) (left : List UnitRead) (part : UnitRead) (rest : List UnitRead) (d : DieFields) → RisesFrom 0 (places (left ++ (part ∷ rest))) → slice_get part.die.dies 0 ≡ Some d → d.at ≤ place → among place first left ≡ None
earlier_none place first left part rest d rises is le =
    units_avoided place first left (head_le 0 part.die.dies d (places rest) (places left) place is le (parted left part rest rises))

left_is : (place first : ℕ) (left : List UnitRead) (part : UnitRead) (rest : List UnitRead) (d : DieFields) (r : Option Standing) → RisesFrom 0 (places (left ++ (part ∷ rest))) → slice_get part.die.dies 0 ≡ Some d → place < d.at
    → IfSome r (λ s. IsInside left s) → found_from first left r ≡ among place first left → found_from first (left ++ (part ∷ rest)) r ≡ among place first (left ++ (part ∷ rest))
left_is place first left part rest d r rises is less inside found =
    grind (arith, left_found first left (part ∷ rest) r inside, found, or_none (among place first left), later_none place first left part rest d rises is less, split place first left part rest)

pub at_left : (place first : ℕ) (units left : List UnitRead) (part : UnitRead) (rest : List UnitRead) (half : ℕ) (d : DieFields) (r : Option Standing) → Halves units left part rest half → RisesFrom 0 (places units) → slice_get part.die.dies 0 ≡ Some d → place < d.at
    → IfSome r (λ s. IsInside left s) → found_from first left r ≡ among place first left → found_from first units r ≡ among place first units
at_left place first units left part rest half d r h rises is less inside found = rw h.whole (left_is place first left part rest d r (rw h.whole at rises) is less inside found)

pub inside_left : (units left : List UnitRead) (part : UnitRead) (rest : List UnitRead) (half : ℕ) (r : Option Standing) → Halves units left part rest half → IfSome r (λ s. IsInside left s) → IfSome r (λ s. IsInside units s)
inside_left units left part rest half r h inside = subst (λ us. IfSome r (λ s. IsInside us s)) (sym h.whole) (left_inside left (part ∷ rest) r inside)

-- The unit in the middle.
middle_get : (left : List UnitRead) (part : UnitRead) (rest : List UnitRead) → slice_get (left ++ (part ∷ rest)) (length left) ≡ Some part
middle_get left part rest = ap (λ n. slice_get (left ++ (part ∷ rest)) n) (omega arith) ∙ get_right 0 left (part ∷ rest)

or_some : (o x : Option Placed) (p : Placed) → o ≡ Some p → option_or o x ≡ o
or_some None x p is = absurd (none-some p is)
or_some (Some q) x p is = refl

there : (unit : ℕ) (dies : List DieFields) (entry : ℕ) (d : DieFields) → entry < length dies → found_in unit dies (Some entry) ≡ Some (record { unit = unit; entry = entry; die = get_or dies entry d })
there unit dies entry d within = ap (λ (o : Option DieFields). option_map {U = Placed} (λ die. record { unit = unit; entry = entry; die = die }) o) (slice_get-get_or dies entry d within)

middle_is : (place first : ℕ) (left : List UnitRead) (part : UnitRead) (rest : List UnitRead) (d : DieFields) (entry : ℕ) → RisesFrom 0 (places (left ++ (part ∷ rest))) → slice_get part.die.dies 0 ≡ Some d → d.at ≤ place
    → entry < length part.die.dies → found_in (first + length left) part.die.dies (Some entry) ≡ in_unit place (first + length left) part.die.dies
    → entry_in (first + length left) entry (slice_get (left ++ (part ∷ rest)) (length left)) ≡ among place first (left ++ (part ∷ rest))
middle_is place first left part rest d entry rises is le within found =
    rw (split place first left part rest, earlier_none place first left part rest d rises is le, middle_get left part rest)
    (found ∙ sym (or_some (in_unit place (first + length left) part.die.dies) (among place (first + length left + 1) rest) _ (sym found ∙ there (first + length left) part.die.dies entry d within)))

pub at_middle : (place first : ℕ) (units left : List UnitRead) (part : UnitRead) (rest : List UnitRead) (half : ℕ) (d : DieFields) (entry : ℕ) → Halves units left part rest half → RisesFrom 0 (places units) → slice_get part.die.dies 0 ≡ Some d → d.at ≤ place
    → entry < length part.die.dies → ((unit : ℕ) → found_in unit part.die.dies (Some entry) ≡ in_unit place unit part.die.dies)
    → entry_in (first + half) entry (slice_get units half) ≡ among place first units
at_middle place first units left part rest half d entry h rises is le within found =
    rw (h.whole, h.long) (middle_is place first left part rest d entry (rw h.whole at rises) is le within (found (first + length left)))

pub inside_middle : (units left : List UnitRead) (part : UnitRead) (rest : List UnitRead) (half : ℕ) (entry : ℕ) → Halves units left part rest half → entry < length part.die.dies → IsInside units (record { unit = half; entry = entry })
inside_middle units left part rest half entry h within = record {
  unit = rw h.whole (rw length-append (omega (arith, h.long)));
  entry = rw (h.whole, h.long, middle_get left part rest) within;
}

-- The rest, after the unit in the middle.
right_get : (left : List UnitRead) (part : UnitRead) (rest : List UnitRead) (k : ℕ) → slice_get (left ++ (part ∷ rest)) (length left + 1 + k) ≡ slice_get rest k
right_get left part rest k = ap (λ n. slice_get (left ++ (part ∷ rest)) n) (omega arith) ∙ get_right (suc k) left (part ∷ rest)

right_found : (first : ℕ) (left : List UnitRead) (part : UnitRead) (rest : List UnitRead) (r : Option Standing) → found_from first (left ++ (part ∷ rest)) (moved (length left + 1) r) ≡ found_from (first + length left + 1) rest r
right_found first left part rest None = refl
right_found first left part rest (Some s) =
    ap (λ n. entry_in n s.entry (slice_get (left ++ (part ∷ rest)) (length left + 1 + s.unit))) (omega arith)
    ∙ ap (λ u. entry_in (first + length left + 1 + s.unit) s.entry u) (right_get left part rest s.unit)

right_is : (place first : ℕ) (left : List UnitRead) (part : UnitRead) (rest : List UnitRead) (r : Option Standing) → among place first left ≡ None → in_unit place (first + length left) part.die.dies ≡ None
    → found_from (first + length left + 1) rest r ≡ among place (first + length left + 1) rest
    → found_from first (left ++ (part ∷ rest)) (moved (length left + 1) r) ≡ among place first (left ++ (part ∷ rest))
right_is place first left part rest r earlier middle found =
    right_found first left part rest r ∙ found ∙ sym (rw (split place first left part rest, earlier, middle) refl)

at_right : (place first : ℕ) (units left : List UnitRead) (part : UnitRead) (rest : List UnitRead) (half : ℕ) (r q : Option Standing) → Halves units left part rest half → q ≡ moved (half + 1) r
    → among place first left ≡ None → ((unit : ℕ) → None ≡ in_unit place unit part.die.dies)
    → ((from : ℕ) → found_from from rest r ≡ among place from rest)
    → found_from first units q ≡ among place first units
at_right place first units left part rest half r q h is earlier middle found =
    rw (is, h.whole, h.long) (right_is place first left part rest r earlier (sym (middle (first + length left))) (found (first + length left + 1)))

pub behind_middle : (place first : ℕ) (units left : List UnitRead) (part : UnitRead) (rest : List UnitRead) (half : ℕ) (d : DieFields) (r q : Option Standing) → Halves units left part rest half → q ≡ moved (half + 1) r → RisesFrom 0 (places units)
    → slice_get part.die.dies 0 ≡ Some d → d.at ≤ place → ((unit : ℕ) → None ≡ in_unit place unit part.die.dies)
    → ((from : ℕ) → found_from from rest r ≡ among place from rest) → found_from first units q ≡ among place first units
behind_middle place first units left part rest half d r q h is rises head le middle found =
    at_right place first units left part rest half r q h is (earlier_none place first left part rest d (subst (λ us. RisesFrom 0 (places us)) h.whole rises) head le) middle found

-- A unit without entries.
empty_none : (place unit : ℕ) (dies : List DieFields) → slice_get dies 0 ≡ None → None ≡ in_unit place unit dies
empty_none place unit [] is = refl
empty_none place unit (d ∷ dies) is = absurd (none-some d (sym is))

pub behind_empty : (place first : ℕ) (units left : List UnitRead) (part : UnitRead) (rest : List UnitRead) (half : ℕ) (r q : Option Standing) → Halves units left part rest half → q ≡ moved (half + 1) r
    → slice_get part.die.dies 0 ≡ None → ((from : ℕ) → None ≡ among place from left)
    → ((from : ℕ) → found_from from rest r ≡ among place from rest) → found_from first units q ≡ among place first units
behind_empty place first units left part rest half r q h is head earlier found =
    at_right place first units left part rest half r q h is (sym (earlier first)) (λ unit. empty_none place unit part.die.dies head) found

found_there : (first : ℕ) (units : List UnitRead) (s : Standing) → IsInside units s → (o : Option Placed) → found_from first units (Some s) ≡ o → option_or o None ≡ o → (x : Option Placed) → option_or (found_from first units (Some s)) x ≡ found_from first units (Some s)
found_there first units s inside o is same x = inside_some (slice_get units s.unit) (first + s.unit) s.entry x inside.entry
  where
    dies_some : (dies : List DieFields) (unit entry : ℕ) (k : ℕ) (x : Option Placed) → k < length dies → option_or (option_map {U = Placed} (λ die. record { unit = unit; entry = entry; die = die }) (slice_get dies k)) x ≡ option_map (λ die. record { unit = unit; entry = entry; die = die }) (slice_get dies k)
    dies_some [] unit entry k x within = absurd (omega arith)
    dies_some (d ∷ dies) unit entry zero x within = refl
    dies_some (d ∷ dies) unit entry (suc k) x within = dies_some dies unit entry k x (omega arith)

    inside_some : (u : Option UnitRead) (unit entry : ℕ) (x : Option Placed) → entry < die_count u → option_or (entry_in unit entry u) x ≡ entry_in unit entry u
    inside_some None unit entry x within = absurd (omega arith)
    inside_some (Some part) unit entry x within = dies_some part.die.dies unit entry entry x within

before_is : (place first : ℕ) (left : List UnitRead) (part : UnitRead) (rest : List UnitRead) (s : Standing) → IsInside left s → found_from first left (Some s) ≡ among place first left
    → found_from first (left ++ (part ∷ rest)) (Some s) ≡ among place first (left ++ (part ∷ rest))
before_is place first left part rest s inside found =
    left_found first left (part ∷ rest) (Some s) inside
    ∙ sym (found_there first left s inside _ refl (or_none _) (option_or (in_unit place (first + length left) part.die.dies) (among place (first + length left + 1) rest)))
    ∙ sym (rw (split place first left part rest, ← found) refl)

pub before_empty : (place first : ℕ) (units left : List UnitRead) (part : UnitRead) (rest : List UnitRead) (half : ℕ) (s : Standing) → Halves units left part rest half → IsInside left s → found_from first left (Some s) ≡ among place first left
    → found_from first units (Some s) ≡ among place first units
before_empty place first units left part rest half s h inside found =
    subst (λ (us : List UnitRead). found_from first us (Some s) ≡ among place first us) (sym h.whole) (before_is place first left part rest s inside found)

right_inside : (left : List UnitRead) (part : UnitRead) (rest : List UnitRead) (r : Option Standing) → IfSome r (λ s. IsInside rest s) → IfSome (moved (length left + 1) r) (λ s. IsInside (left ++ (part ∷ rest)) s)
right_inside left part rest None inside = tt
right_inside left part rest (Some s) inside = record {
  unit = rw length-append (omega (arith, inside.unit));
  entry = subst (λ u. s.entry < die_count u) (sym (right_get left part rest s.unit)) inside.entry;
}

pub inside_right : (units left : List UnitRead) (part : UnitRead) (rest : List UnitRead) (half : ℕ) (r q : Option Standing) → Halves units left part rest half → q ≡ moved (half + 1) r → IfSome r (λ s. IsInside rest s) → IfSome q (λ s. IsInside units s)
inside_right units left part rest half r q h is inside =
    rw (is, h.whole, h.long) (right_inside left part rest r inside)

-- What the searches in the halves require.
pub rises_in_left : (units left : List UnitRead) (part : UnitRead) (rest : List UnitRead) (half : ℕ) → Halves units left part rest half → RisesFrom 0 (places units) → RisesFrom 0 (places left)
rises_in_left units left part rest half h rises =
    rises_left 0 (places left) (dies_places part.die.dies ++ places rest) (parted left part rest (subst (λ us. RisesFrom 0 (places us)) h.whole rises))

rises_behind : (units left : List UnitRead) (part : UnitRead) (rest : List UnitRead) (half : ℕ) → Halves units left part rest half → RisesFrom 0 (places units) → RisesFrom 0 (dies_places part.die.dies ++ places rest)
rises_behind units left part rest half h rises =
    rises_right 0 (places left) (dies_places part.die.dies ++ places rest) (parted left part rest (subst (λ us. RisesFrom 0 (places us)) h.whole rises))

pub rises_in_part : (units left : List UnitRead) (part : UnitRead) (rest : List UnitRead) (half : ℕ) → Halves units left part rest half → RisesFrom 0 (places units) → RisesFrom 0 (dies_places part.die.dies)
rises_in_part units left part rest half h rises = rises_left 0 (dies_places part.die.dies) (places rest) (rises_behind units left part rest half h rises)

pub rises_in_rest : (units left : List UnitRead) (part : UnitRead) (rest : List UnitRead) (half : ℕ) → Halves units left part rest half → RisesFrom 0 (places units) → RisesFrom 0 (places rest)
rises_in_rest units left part rest half h rises = rises_right 0 (dies_places part.die.dies) (places rest) (rises_behind units left part rest half h rises)

-- The entry that was found, by its numbers.
pub found_none : (place : ℕ) (units : List UnitRead) (r : Option Standing) → r ≡ None → found_from 0 units r ≡ among place 0 units → None ≡ entry_at units place
unfolding entry_at
found_none place units r none is = sym (ap (found_from 0 units) none) ∙ is

pub found_some : (place : ℕ) (units : List UnitRead) (s : Standing) → found_from 0 units (Some s) ≡ among place 0 units → found units (Some (record { unit = s.unit; entry = s.entry })) ≡ entry_at units place
unfolding entry_at entry_of
found_some place units s is = ap (λ n. entry_in n s.entry (slice_get units s.unit)) (omega arith) ∙ is
