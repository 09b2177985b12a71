-- Linked lists of the stretches of each class. Stretches are numbered from the last one, from 1 on;
-- the number 0 means none.
use Rattle.std.specs.Prelude.{◌≡◌, ℕ, suc, ◌<◌, ◌==◌, if◌then◌else◌, List, [], ◌∷◌, ◌++◌, length, get_or}
use Rattle.step_maps.specs.declared.stretch.Stretch.{Stretch}
use Rattle.inline_chain.specs.internal.Copies.{of_class, HaveClasses}

-- the number of the first stretch of a class
unfoldable pub first_place : ℕ → List Stretch → ℕ
first_place x [] = 0
first_place x (s ∷ items) = if s.class == x then suc (length items) else first_place x items

-- for each stretch, from the last one to the first, the number of the next stretch of the same
-- class
abbrev pub nexts_of : List Stretch → List ℕ
nexts_of [] = []
nexts_of (s ∷ items) = nexts_of items ++ first_place s.class items ∷ []

pub record AreLinked (items : List Stretch) (firsts nexts : List ℕ) : Type 0 where
  pub firsts_are : (x d : ℕ) → x < length firsts → get_or firsts x d ≡ first_place x items
  pub nexts_are : nexts ≡ nexts_of items
  pub below : HaveClasses (length firsts) items

-- the last stretches are linked; those before them are not linked yet
pub record Linking (items rest : List Stretch) (firsts nexts : List ℕ) : Type 0 where
  pub done : List Stretch
  pub all : rest ++ done ≡ items
  pub linked : AreLinked done firsts nexts
  pub left : HaveClasses (length firsts) rest

-- the stretches of a class that were met, and the number of the next one
pub record Walks (x : ℕ) (items group : List Stretch) (place : ℕ) : Type 0 where
  pub before : List Stretch
  pub rest : List Stretch
  pub all : before ++ rest ≡ items
  pub place_is : place ≡ first_place x rest
  pub group_is : group ++ of_class x rest ≡ of_class x items
