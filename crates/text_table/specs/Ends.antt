-- What a text table stores. No public contract cites these definitions.
use Rattle.std.specs.Prelude.{◌≡◌, ℕ, ◌+◌, ◌-◌, ◌*◌, ◌/◌, ◌<◌, ◌≤◌, nat_le, not, Bool, false, List, length, drop, slice_index}
use Rattle.std.specs.List.{position_or_len}
use Rattle.std.specs.Option.{is_none}
use Rattle.clean_names.specs.Names.{is_space}
use Rattle.leb_cursor.specs.Texts.{front_text}

-- the place of the first byte at or after `at` that is no space, or the end
unfoldable pub spaces_end : List ℕ → ℕ → ℕ
spaces_end bytes at = at + position_or_len (λ b. not (is_space b)) (drop at bytes)

-- for the start of each block, where the spaces from there on end
pub record AreEnds (bytes : List ℕ) (block : ℕ) (ends : List ℕ) : Type 0 where
  pub some : 0 < block
  pub small : block ≤ 32768
  pub count : length ends ≡ length bytes / block + 1
  pub each : (k : ℕ) → k < length ends → slice_index ends k ≡ spaces_end bytes (k * block)

-- in `bytes` texts begin at the places below `end` and at no others, and a text with more than 65,536 leading spaces only if `far` is true
pub record IsTable (bytes spaced : List ℕ) (end : ℕ) (far : Bool) : Type 0 where
  pub same : spaced ≡ bytes
  pub ends : (at : ℕ) → is_none (front_text (drop at bytes)) ≡ nat_le end at
  pub near : far ≡ false → (at : ℕ) → at ≤ length bytes → spaces_end bytes at ≤ at + 65536

-- the place from `place` on from which there are at most 65,536 spaces
abbrev pub later_start : List ℕ → ℕ → ℕ
later_start bytes place = place + (spaces_end bytes place - place - 65536)
