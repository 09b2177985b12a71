-- Constants that are given by a value, for `read_known_leaf`.
use Rattle.std.proofs.Common.{◌≡◌, ℕ, true, List, Option, Some, None, ap}
use Rattle.std.specs.Option.{option_map, option_and_then}
use Rattle.rust_names.specs.declared.grammar.Leaf.{Leaf}
use Rattle.rust_names.specs.declared.grammar.Leaf.TheVariants as leaf
use Rattle.rust_names.specs.declared.grammar.Scope.{Scope}
use Rattle.rust_names.specs.V0Numbers.{hex_digits, hex_from}
use Rattle.rust_names.specs.V0Texts.{integer_text, boolean_by, character_by}
use Rattle.rust_names.specs.V0Leaves.{leaf_of, read_leaf, shown_on, valued}
use Rattle.rust_names.specs.internal.Passing.{is_constant}

abbrev shown_of : Scope → List ℕ → Option (Option (List ℕ) × List ℕ) → Option (List ℕ × List ℕ)
shown_of scope text o = option_and_then (λ x. option_map (λ t. (x.1, t)) (shown_on scope.visible text x.0)) o

-- A constant without digits cannot be read.
pub no_constant : (a : Leaf) (scope : Scope) (bytes text : List ℕ) → is_constant a ≡ true → hex_digits bytes ≡ None → read_leaf a scope bytes text ≡ None
unfolding read_leaf leaf_of
no_constant leaf.Number scope bytes text is none = ap (λ o. shown_of scope text (option_map (λ (x : List ℕ × List ℕ). (Some (integer_text x.0), x.1)) o)) none
no_constant leaf.Boolean scope bytes text is none = ap (λ o. shown_of scope text (option_and_then (λ (x : List ℕ × List ℕ). valued (boolean_by (hex_from 0 x.0)) x.1) o)) none
no_constant leaf.Character scope bytes text is none = ap (λ o. shown_of scope text (option_and_then (λ (x : List ℕ × List ℕ). valued (character_by (hex_from 0 x.0)) x.1) o)) none
no_constant a scope bytes text is none = cc
