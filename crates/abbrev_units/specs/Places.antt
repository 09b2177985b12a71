-- How an abbreviation is found by its code. No public clause cites this module.
use Rattle.std.specs.Prelude.{◌≡◌, ◌⊎◌, ℕ, zero, suc, ◌+◌, ◌==◌, if◌then◌else◌, List, [], ◌∷◌, length, drop, unwrap_or}
use Rattle.std.specs.Ordering.{nat_cmp}
use Rattle.std.specs.BTreeMap.{BTreeMap, get}
use Rattle.abbrev_units.specs.SpecFields.{Abbrev}

-- the index of the first abbreviation with a code; without one, the length of the list
unfoldable pub first_place : ℕ → List Abbrev → ℕ
first_place code [] = 0
first_place code (first ∷ later) = if first.code == code then 0 else suc (first_place code later)

-- the codes of the first `n` abbreviations are `before` + 1, `before` + 2 and so on
abbrev pub Follow : ℕ → ℕ → List Abbrev → Type 0
Follow before zero abbrevs = Unit {0}
Follow before (suc n) [] = ⊥
Follow before (suc n) (first ∷ later) = (first.code ≡ before + 1) × Follow (before + 1) n later

-- the first `count` codes are 1, 2 and so on
abbrev pub IsDense : ℕ → List Abbrev → Type 0
IsDense count abbrevs = Follow 0 count abbrevs

-- for each code, the map gives the index of the first abbreviation with this code from the index
-- `from` on. For a code without such an abbreviation it gives nothing, or the length of the list
abbrev pub HasPlaces : BTreeMap ℕ ℕ → ℕ → List Abbrev → Type 0
HasPlaces places from abbrevs = (code : ℕ) → unwrap_or (get nat_cmp places code) (length abbrevs) ≡ from + first_place code (drop from abbrevs)

-- the first `dense` codes are 1, 2 and so on; if there are more abbreviations, the map has the indices of all codes
pub record AreFound (abbrevs : List Abbrev) (dense : ℕ) (places : BTreeMap ℕ ℕ) : Type 0 where
  pub front : IsDense dense abbrevs
  pub others : (dense ≡ length abbrevs) ⊎ HasPlaces places 0 abbrevs
