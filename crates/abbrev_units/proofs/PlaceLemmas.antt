-- An abbreviation is found by its code, directly or in the map of indices.
use Rattle.std.proofs.Common.{◌≡◌, ◌⊎◌, inl, inr, ◌<◌, ◌≤◌, ◌+◌, ◌-◌, ℕ, zero, suc, Bool, true, false, ◌&&◌, nat_eq, nat_lt, nat_le, cond, List, [], ◌∷◌, length, drop, Option, None, Some, refl, sym, ap, subst, ◌∙◌, arith}
use Rattle.std.specs.Option.{unwrap_or}
use Rattle.std.specs.Prelude.{slice_get, get_or}
use Rattle.std.specs.Ordering.{nat_cmp}
use Rattle.std.specs.BTreeMap.{BTreeMap, get, is_at, Updates}
use Rattle.std.specs.Map.{lookup}
use Rattle.std.proofs.lemmas.Bool.Decides.{nat_tests}
use Rattle.std.proofs.lemmas.Option.{slice_get_past}
use Rattle.std.proofs.Math.ListN.{drop_of_length-le}
use Rattle.std.proofs.lemmas.List.{drop_more}
use Rattle.abbrev_units.specs.SpecFields.{Abbrev}
use Rattle.abbrev_units.specs.Abbreviations.{abbrev_of}
use Rattle.abbrev_units.specs.Places.{first_place, Follow, IsDense, HasPlaces}

-- The abbreviation of a code is the one at the first index with this code.
find_is : (code : ℕ) (list : List Abbrev) → abbrev_of code list ≡ slice_get list (first_place code list)
unfolding abbrev_of first_place
find_is code [] = refl
find_is code (a ∷ rest) = grind (arith, nat_tests, find_is code rest)

-- Codes that are consecutive numbers.
follow_at : (before n : ℕ) (list : List Abbrev) (k code : ℕ) → Follow before n list → k < n → code ≡ before + k + 1 → first_place code list ≡ k
unfolding first_place
follow_at before zero list k code front below is = absurd (omega arith)
follow_at before (suc n) [] k code front below is = absurd front
follow_at before (suc n) (a ∷ rest) zero code front below is = grind (arith, nat_tests, front.0)
follow_at before (suc n) (a ∷ rest) (suc k) code front below is = grind (arith, nat_tests, front.0, follow_at (before + 1) n rest k code front.1 (omega arith) (omega arith))

follow_none : (before n : ℕ) (list : List Abbrev) (code : ℕ) → Follow before n list → length list ≤ n → (code ≤ before) ⊎ (before + length list < code) → first_place code list ≡ length list
unfolding first_place
follow_none before n [] code front all away = refl
follow_none before zero (a ∷ rest) code front all away = absurd (omega arith)
follow_none before (suc n) (a ∷ rest) code front all (inl below) = grind (arith, nat_tests, front.0, follow_none (before + 1) n rest code front.1 (omega arith) (inl (omega arith)))
follow_none before (suc n) (a ∷ rest) code front all (inr above) = grind (arith, nat_tests, front.0, follow_none (before + 1) n rest code front.1 (omega arith) (inr (omega arith)))

follow_more : (before n : ℕ) (list : List Abbrev) (d : Abbrev) → Follow before n list → n < length list → (get_or list n d).code ≡ before + n + 1 → Follow before (suc n) list
follow_more before n [] d front there is = absurd (omega arith)
follow_more before zero (a ∷ rest) d front there is = (omega (arith, is), tt)
follow_more before (suc n) (a ∷ rest) d front there is = (front.0, follow_more (before + 1) n rest d front.1 (omega arith) (omega (arith, is)))

-- An abbreviation as a default for an index outside of the list.
nowhere : Abbrev
nowhere = record { code = 0; tag = 0; children = false; specs = [] }

pub dense_more : (n : ℕ) (list : List Abbrev) (code : ℕ) → IsDense n list → n < length list → ((other : Abbrev) → code ≡ (get_or list n other).code) → code ≡ n + 1 → IsDense (n + 1) list
dense_more n list code front there is number =
    let next : suc n ≡ n + 1 = omega arith in
    let here : (get_or list n nowhere).code ≡ 0 + n + 1 = sym (is nowhere) ∙ number ∙ omega arith in
    subst (λ m. Follow 0 m list) next (follow_more 0 n list nowhere front there here)

-- A code that is not dense is 0 or above the dense codes.
front_not : (code dense : ℕ) (low : Bool) → nat_lt 0 code ≡ low → (nat_lt 0 code && nat_le code dense) ≡ false → (code ≤ 0) ⊎ (0 + dense < code)
front_not code dense true low is = inr (grind (arith, nat_tests, low, is))
front_not code dense false low is = inl (grind (arith, nat_tests, low))

pub found_front : (list : List Abbrev) (dense code : ℕ) → IsDense dense list → (nat_lt 0 code && nat_le code dense) ≡ true → slice_get list (code - 1) ≡ abbrev_of code list
found_front list dense code front is =
    let some : 0 < code = grind (arith, nat_tests, is) in
    let inside : code ≤ dense = grind (arith, nat_tests, is) in
    sym (find_is code list ∙ ap (slice_get list) (follow_at 0 dense list (code - 1) code front (omega (arith, some, inside)) (omega (arith, some))))

pub found_nowhere : (list : List Abbrev) (dense code : ℕ) → IsDense dense list → dense ≡ length list → (nat_lt 0 code && nat_le code dense) ≡ false → None ≡ abbrev_of code list
found_nowhere list dense code front all is =
    let away = subst (λ n. (code ≤ 0) ⊎ (0 + n < code)) all (front_not code dense (nat_lt 0 code) refl is) in
    sym (find_is code list ∙ ap (slice_get list) (follow_none 0 dense list code front (omega arith) away) ∙ slice_get_past list (length list) (omega arith))

-- Finding by the map.
mapped : (list : List Abbrev) (dense : ℕ) (places : BTreeMap ℕ ℕ) (code : ℕ) → (dense ≡ length list) ⊎ HasPlaces places 0 list → (dense ≡ length list → ⊥) → unwrap_or (get nat_cmp places code) (length list) ≡ first_place code list
mapped list dense places code (inl all) not = absurd (not all)
mapped list dense places code (inr has) not =
    let none : 0 + first_place code list ≡ first_place code list = omega arith in
    has code ∙ none

pub found_by_map : (list : List Abbrev) (dense : ℕ) (places : BTreeMap ℕ ℕ) (code place : ℕ) → (dense ≡ length list) ⊎ HasPlaces places 0 list → (dense ≡ length list → ⊥) → Some place ≡ get nat_cmp places code → slice_get list place ≡ abbrev_of code list
found_by_map list dense places code place others not is =
    sym (find_is code list ∙ ap (slice_get list) (sym (mapped list dense places code others not) ∙ ap (λ o. unwrap_or o (length list)) (sym is)))

pub missed_by_map : (list : List Abbrev) (dense : ℕ) (places : BTreeMap ℕ ℕ) (code : ℕ) → (dense ≡ length list) ⊎ HasPlaces places 0 list → (dense ≡ length list → ⊥) → None ≡ get nat_cmp places code → None ≡ abbrev_of code list
missed_by_map list dense places code others not is =
    sym (find_is code list ∙ ap (slice_get list) (sym (mapped list dense places code others not) ∙ ap (λ o. unwrap_or o (length list)) (sym is)) ∙ slice_get_past list (length list) (omega arith))

-- The map, as it is made from the last abbreviation to the first.
pub places_none : (list : List Abbrev) (places : BTreeMap ℕ ℕ) → places.entries ≡ [] → HasPlaces places (length list) list
unfolding first_place
places_none list places empty code =
    let out : unwrap_or (get nat_cmp places code) (length list) ≡ length list = ap (λ es. unwrap_or (lookup (is_at (nat_cmp code)) es) (length list)) empty in
    let none : drop (length list) list ≡ [] = drop_of_length-le list (omega arith) in
    let same : length list ≡ length list + first_place code [] = omega arith in
    out ∙ same ∙ sym (ap (λ rest. length list + first_place code rest) none)

same_code : (a b : ℕ) (same : Bool) → is_at (nat_cmp a) b ≡ same → nat_eq a b ≡ same
same_code a b same is = grind (arith, nat_tests, is)

placed_by : (n i rest code : ℕ) (same : Bool) (found old : Option ℕ) → found ≡ cond same (Some i) old → unwrap_or old n ≡ (i + 1) + rest → unwrap_or found n ≡ i + cond same 0 (suc rest)
placed_by n i rest code same found old is later = grind (arith, nat_tests, is, later)

pub places_more : (list : List Abbrev) (places more : BTreeMap ℕ ℕ) (i j at : ℕ) → HasPlaces places j list → j ≡ i + 1 → i < length list → ((other : Abbrev) → at ≡ (get_or list i other).code) → Updates nat_cmp places more at (Some i) → HasPlaces more i list
unfolding first_place
places_more list places more i j at has next there is updated code =
    let here : drop i list ≡ get_or list i nowhere ∷ drop (i + 1) list = drop_more list i nowhere there in
    let later : unwrap_or (get nat_cmp places code) (length list) ≡ (i + 1) + first_place code (drop (i + 1) list) = subst (λ k. unwrap_or (get nat_cmp places code) (length list) ≡ k + first_place code (drop k list)) next (has code) in
    let same : is_at (nat_cmp at) code ≡ nat_eq (get_or list i nowhere).code code = sym (same_code at code (is_at (nat_cmp at) code) refl) ∙ ap (λ n. nat_eq n code) (is nowhere) in
    placed_by (length list) i (first_place code (drop (i + 1) list)) code (nat_eq (get_or list i nowhere).code code) (get nat_cmp more code) (get nat_cmp places code)
    (updated.0 code ∙ ap (λ b. cond b (Some i) (get nat_cmp places code)) same)
    later
    ∙ sym (ap (λ rest. i + first_place code rest) here)
