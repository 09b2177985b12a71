use Rattle.std.specs.Prelude.{ℕ, ℤ, Bool, List}

-- an attribute specification (DWARF 5, 7.5.3): an attribute, its form, and its constant if the form is DW_FORM_implicit_const
pub record AttributeSpec : Type 0 where
  pub attribute : ℕ
  pub form : ℕ
  pub implicit : ℤ

-- the same for a unit; `wide` says whether the unit's values have the 64-bit format
pub record SpecFields : Type 0 where
  pub attribute : ℕ
  pub form : ℕ
  pub implicit : ℤ
  pub wide : Bool

-- an abbreviation for a unit: its code, the tag of its entries, whether they have children, and their attributes
pub record Abbrev : Type 0 where
  pub code : ℕ
  pub tag : ℕ
  pub children : Bool
  pub specs : List SpecFields
