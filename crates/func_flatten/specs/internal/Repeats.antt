-- Stretches that repeat an earlier one.
use Rattle.std.specs.Prelude.{◌≡◌, ℕ, Bool, not, ◌&&◌, List, [], ◌∷◌, Some}
use Rattle.std.specs.List.{slice_get, list_any}
use Rattle.std.specs.Str.{bytes_eq}
use Rattle.step_maps.specs.declared.stretch.Stretch.{Stretch}
use Rattle.step_maps.specs.Covers.{reaches, first_at}

-- each function has a class of its own
abbrev pub AreOwn : List Stretch → Type 0
AreOwn [] = Unit {0}
AreOwn (s ∷ items) = (s.class ≡ s.index) × AreOwn items

-- whether a stretch of a function with another name than `text` has the address
abbrev pub any_other : (ℕ → List ℕ) → List ℕ → ℕ → List Stretch → Bool
any_other name text a items = list_any (λ t. reaches t a && not (bytes_eq (name t.index) text)) items

-- an earlier stretch has the same addresses, and its function has the same name
pub record IsRepeat (name : ℕ → List ℕ) (earlier : List Stretch) (s : Stretch) : Type 0 where
  pub place : ℕ
  pub known : Stretch
  pub there : slice_get earlier place ≡ Some known
  pub first : known.first ≡ s.first
  pub last : known.last ≡ s.last
  pub named : name known.index ≡ name s.index

-- the stretches `kept` represent `items`. At each address both have the same first stretch, and for each name `kept` has a function with another
-- name at the address exactly if `items` has one
pub record Represents (name : ℕ → List ℕ) (items kept : List Stretch) : Type 0 where
  pub first : (a : ℕ) → first_at kept a ≡ first_at items a
  pub other : (a : ℕ) (text : List ℕ) → any_other name text a kept ≡ any_other name text a items
