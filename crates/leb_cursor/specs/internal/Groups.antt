-- The groups of a LEB128's first nine bytes, as the code adds them up.
use Rattle.std.specs.Prelude.{◌≡◌, ℕ, ◌≤◌, ◌<◌, ◌^◌, List, length, min, slice_index, Some}
use Rattle.leb_cursor.specs.declared.leb.Groups.{Groups}
use Rattle.leb_cursor.specs.declared.leb.Groups.TheVariants.{Ended, Going}
use Rattle.leb_cursor.specs.Readings.{leb_length, leb_sum}

-- the first `count` bytes are there, each of them has bit 7, and `sum` is the sum of their groups
pub record SoFar (sum count : ℕ) (bytes : List ℕ) : Type 0 where
  pub there : count ≤ length bytes
  pub each : (k : ℕ) → k < count → 128 ≤ slice_index bytes k
  pub sum_is : sum ≡ leb_sum count bytes
  pub below : sum < 128 ^ count

-- the number ends after `count` bytes, which are at most nine, and `sum` is the sum of their groups
pub record EndsWith (sum count : ℕ) (bytes : List ℕ) : Type 0 where
  pub ended : leb_length bytes ≡ Some count
  pub there : count ≤ length bytes
  pub some : 0 < count
  pub few : count ≤ 9
  pub sum_is : sum ≡ leb_sum count bytes
  pub below : sum < 128 ^ count

-- what `read_groups` returns
abbrev pub AreGroups : Groups → List ℕ → Type 0
AreGroups (Ended sum count) bytes = EndsWith sum count bytes
AreGroups (Going sum) bytes = SoFar sum (min 9 (length bytes)) bytes
