-- The name that replaces a name, as a function. The law `names_are_shown` says `IsNameFor name
-- (named name)`, and `IsNameFor` (in `ShownRecords`) holds for only one name. So `named name` is
-- the readable form of the name if it has one, and otherwise the name itself. How `shown_of` finds
-- the form does not matter here.
use Rattle.std.specs.Prelude.{ℕ, List}
use Rattle.std.specs.Option.{option_map_or}
use Rattle.rust_names.specs.internal.Finding.{shown_of}

unfoldable pub named : List ℕ → List ℕ
named name = option_map_or (λ text. text) (shown_of name) name
