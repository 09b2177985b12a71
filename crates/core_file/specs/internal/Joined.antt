-- Bytes in blocks of `size` bytes: each block is all zeros, or is one of the blocks in memory.
use Rattle.std.specs.Prelude.{◌≡◌, ℕ, zero, suc, ◌*◌, ◌^◌, ◌<◌, ◌≤◌, List, [], ◌∷◌, ◌++◌, length, take, drop, replicate}
use Rattle.core_file.specs.declared.blocks.Blocks.{Blocks}
use Rattle.core_file.specs.HeldBlocks.{held_blocks}

-- a block, given its number: 0 is a block of zeros, k is block k in memory, counted from 1
unfoldable pub block_of : ℕ → List ℕ → ℕ → List ℕ
block_of size held zero = replicate size 0
block_of size held (suc k) = take size (drop (size * k) held)

-- the bytes of blocks, one after the other
unfoldable pub joined : ℕ → List ℕ → List ℕ → List ℕ
joined size held [] = []
joined size held (p ∷ places) = block_of size held p ++ joined size held places

-- each number other than 0 is that of a block in memory
abbrev pub AreInside : ℕ → ℕ → List ℕ → Type 0
AreInside size len [] = Unit {0}
AreInside size len (p ∷ places) = (size * p ≤ len) × AreInside size len places

-- all bytes: the complete blocks, and the bytes after them
abbrev pub all_bytes : Blocks → List ℕ
all_bytes b = joined b.size b.held.items b.places.items ++ b.tail.items

-- there are as many blocks in memory as blocks that are not all zeros
pub record IsKept (b : Blocks) : Type 0 where
  pub some : 0 < b.size
  pub large : 4 ≤ b.size
  pub small : b.size ≤ 2 ^ 20
  pub inside : AreInside b.size (length b.held.items) b.places.items
  pub counted : length b.held.items ≡ b.size * b.count
  pub held : b.count ≡ held_blocks b.size (joined b.size b.held.items b.places.items)
  pub within : length b.held.items ≤ b.room
  pub few : b.room ≤ 2 ^ 32
  pub fits : b.limit ≤ 2 ^ 40

-- the bytes after the blocks are at most one block, and all bytes together are at most `limit`
pub record IsHeld (b : Blocks) : Type 0 where
  pub kept : IsKept b
  pub short : length b.tail.items ≤ b.size
  pub long : length (all_bytes b) ≤ b.limit

-- the sizes do not change
pub record SameSizes (before after : Blocks) : Type 0 where
  pub size : after.size ≡ before.size
  pub limit : after.limit ≡ before.limit
  pub room : after.room ≡ before.room

-- the blocks of a stream, with the limits of a core file
pub record IsStream (b : Blocks) : Type 0 where
  pub held : IsHeld b
  pub short : length b.tail.items < b.size
  pub size : b.size ≡ 4096
  pub limit : b.limit ≡ 2 ^ 40
  pub room : b.room ≡ 2 ^ 32
