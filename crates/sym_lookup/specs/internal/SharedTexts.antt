-- Texts in parts, each of which is a part of some bytes.
use Rattle.std.specs.Prelude.{ℕ, ◌-◌, ◌≤◌, List, [], ◌∷◌, take, drop}
use Rattle.std.specs.List.{flat_map}
use Rattle.sym_lookup.specs.declared.shared_text.Part.{Part}

-- the bytes of a part
abbrev pub part_text : List ℕ → Part → List ℕ
part_text bytes p = take (p.end - p.start) (drop p.start bytes)

-- the bytes of all parts
abbrev pub parts_text : List ℕ → List Part → List ℕ
parts_text bytes parts = flat_map (part_text bytes) parts

-- no part ends before it begins, or above the count of bytes
abbrev pub AreWithin : ℕ → List Part → Type 0
AreWithin count [] = Unit {0}
AreWithin count (p ∷ parts) = (p.start ≤ p.end) × (p.end ≤ count) × AreWithin count parts
