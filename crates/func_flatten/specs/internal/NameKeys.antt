-- Names that are built part by part, and their keys.
use Rattle.std.specs.Prelude.{◌≡◌, ℕ, zero, suc, ◌+◌, ◌*◌, ◌%◌, ◌^◌, ◌-◌, ◌≤◌, List, [], ◌∷◌, ◌++◌, IfSome, map, take, length}
use Rattle.std.specs.BTreeMap.{BTreeMap}
use Rattle.clean_names.specs.Names.{is_space, skip}
use Rattle.clean_names.specs.Cleaning.{shown_byte}
use Rattle.die_walk.specs.EntryTable.{DieFields}
use Rattle.debug_units.specs.declared.unit_read.UnitRead.{UnitRead}
use Rattle.die_names.specs.Names.{fronts}
use Rattle.func_flatten.specs.declared.name_keys.NameKey.{NameKey}
use Rattle.func_flatten.specs.internal.ScopeFronts.{outer, inner_front, AreNoted}

-- what cleaning keeps of the bytes, before it checks whether anything is left
unfoldable pub kept_upto : ℕ → List ℕ → List ℕ
kept_upto limit bytes = take limit (skip is_space (map shown_byte bytes))

unfoldable pub kept : List ℕ → List ℕ
kept bytes = kept_upto 65536 bytes

-- what is kept of a text if more bytes follow, given the bytes `text` that were kept before
abbrev pub kept_more_upto : ℕ → List ℕ → List ℕ → List ℕ
kept_more_upto limit [] bytes = kept_upto limit bytes
kept_more_upto limit (b ∷ text) bytes = take limit ((b ∷ text) ++ map shown_byte bytes)

unfoldable pub kept_more : List ℕ → List ℕ → List ℕ
kept_more text bytes = kept_more_upto 65536 text bytes

-- the bytes, without leading spaces if nothing was kept before them
abbrev pub begun : ℕ → List ℕ → List ℕ
begun zero bytes = skip is_space bytes
begun (suc n) bytes = bytes

-- which of the bytes are kept if `so_far` bytes were kept before
unfoldable pub kept_part : ℕ → ℕ → List ℕ → List ℕ
kept_part limit so_far bytes = take (limit - so_far) (begun so_far bytes)

-- a hash with one more byte
unfoldable pub mixed : ℕ → ℕ → ℕ
mixed hash b = (hash * 11400714819323198485 % 2 ^ 64 + b) % 2 ^ 64

-- the hash of a text, after the bytes before it gave `hash`
unfoldable pub hash_from : ℕ → List ℕ → ℕ
hash_from hash [] = hash
hash_from hash (b ∷ bytes) = hash_from (mixed hash b) bytes

abbrev pub hash_of : List ℕ → ℕ
hash_of text = hash_from 0 text

-- a key is that of a text, which a name may be or begin with. If the key has a root, the text is full, and it is what the root and the scopes around
-- it give
pub record IsKey (units : List UnitRead) (key : NameKey) (text : List ℕ) : Type 0 where
  pub hash_is : key.hash ≡ hash_of text
  pub length_is : key.length ≡ length text
  pub short : length text ≤ 65536
  pub root_is : IfSome key.root (λ root. (length text ≡ 65536) × (text ≡ kept (inner_front units root.unit root.entry)))

-- each known key is that of the prefix that its entry and the scopes around it give
unfoldable pub AreFronts : List UnitRead → BTreeMap ℕ NameKey → Type 0
AreFronts units known = AreNoted (λ unit entry key. IsKey units key (kept (inner_front units unit entry))) known

-- the entries around `entry`, beginning with the innermost, are those in `numbers` and then those
-- in `rest`; `key` is that of the prefix that those in `rest` give
pub record IsHalfway (units : List UnitRead) (dies : List DieFields) (entry : ℕ) (numbers : List ℕ) (key : NameKey) : Type 0 where
  pub rest : List ℕ
  pub around : numbers ++ rest ≡ outer dies entry
  pub key_is : IsKey units key (kept (fronts dies rest))
