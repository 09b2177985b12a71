-- What a name shows, in the form in which the functions find it: a name that begins with `_R` is
-- not read as a legacy name.
use Rattle.std.specs.Prelude.{ℕ, nat_eq, if◌then◌else◌, List, codes, Option}
use Rattle.std.specs.List.{starts_with}
use Rattle.rust_names.specs.V0Names.{v0_text}
use Rattle.rust_names.specs.internal.Reading.{legacy_of}

unfoldable pub shown_of : List ℕ → Option (List ℕ)
shown_of name = if starts_with nat_eq name (codes "_R") then v0_text name else legacy_of name
