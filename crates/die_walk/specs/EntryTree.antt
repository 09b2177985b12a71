-- The tree of a unit's entries (DWARF 5, 2.3), and which entries are kept.
use Rattle.std.specs.Prelude.{ℕ, ◌+◌, ◌-◌, ◌==◌, Bool, true, if◌then◌else◌, List, [], ◌∷◌, ◌++◌, Option, None, Some}
use Rattle.abbrev_units.specs.declared.value.Given.{Given}
use Rattle.abbrev_units.specs.KeptTags.{is_kept_tag}
use Rattle.die_walk.specs.Marks.{Mark}
use Rattle.die_walk.specs.Marks.Mark.{Close, Entry}

-- an entry with its depth in the tree
pub record Item : Type 0 where
  pub at : ℕ
  pub depth : ℕ
  pub tag : ℕ
  pub values : List Given

-- the entries that marks give, with their depths, from the depth `depth` on. The children of an
-- entry are one level deeper than the entry, up to the end of their list. At the outermost level
-- the end of a list changes nothing
unfoldable pub items_from : ℕ → List Mark → List Item
items_from depth [] = []
items_from depth (Close ∷ marks) = items_from (depth - 1) marks
items_from depth (Entry at tag children values ∷ marks) =
    record { at = at; depth = depth; tag = tag; values = values } ∷ items_from (if children then depth + 1 else depth) marks

-- whether an entry is kept. The root, which is the first entry of its unit, is always kept; any
-- other entry is kept by its tag. `earlier` are the entries before it, from the last one back to
-- the first
abbrev pub is_kept : Item → List Item → Bool
is_kept item [] = true
is_kept item (before ∷ earlier) = is_kept_tag item.tag

-- how many of the earlier entries are kept
unfoldable pub kept_count : List Item → ℕ
kept_count [] = 0
kept_count (item ∷ earlier) = (if is_kept item earlier then 1 else 0) + kept_count earlier

-- the index of the nearest kept ancestor of an entry at the given depth. The parent of an entry is the last entry before it that is one level less
-- deep
unfoldable pub ancestor : ℕ → List Item → Option ℕ
ancestor depth [] = None
ancestor depth (item ∷ earlier) =
    if item.depth + 1 == depth
    then (if is_kept item earlier then Some (kept_count earlier) else ancestor item.depth earlier)
    else ancestor depth earlier

-- a kept entry with the index of its nearest kept ancestor
pub record Kept : Type 0 where
  pub item : Item
  pub parent : Option ℕ

-- the kept entries among `items`, which come after `earlier`
unfoldable pub kept_from : List Item → List Item → List Kept
kept_from earlier [] = []
kept_from earlier (item ∷ items) =
    (if is_kept item earlier then record { item = item; parent = ancestor item.depth earlier } ∷ [] else []) ++ kept_from (item ∷ earlier) items

-- a unit without entries gets a root with the tag 0 and without values, at the place where its entries would begin
abbrev pub rooted : ℕ → List Item → List Item
rooted body [] = record { at = body; depth = 0; tag = 0; values = [] } ∷ []
rooted body (item ∷ items) = item ∷ items
