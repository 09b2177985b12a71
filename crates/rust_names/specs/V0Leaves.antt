-- The symbols of v0 names that are made of bytes alone: what each shows, and the bytes after it.
use Rattle.std.specs.Prelude.{ℕ, ◌==◌, ◌&&◌, not, nat_lt, Bool, true, false, if◌then◌else◌, List, [], ◌∷◌, length, map, decimal, Option, Some, None}
use Rattle.std.specs.Option.{option_map, option_and_then}
use Rattle.rust_names.specs.declared.grammar.Leaf.{Leaf}
use Rattle.rust_names.specs.declared.grammar.Leaf.TheVariants as leaf
use Rattle.rust_names.specs.declared.grammar.Scope.{Scope}
use Rattle.rust_names.specs.V0Numbers.{after_letter, hex_digits, hex_from}
use Rattle.rust_names.specs.V0Identifiers.{identifier, identifier_text, dashed}
use Rattle.rust_names.specs.V0Texts.{say, lifetime_text, for_all_text, integer_text, boolean_by, character_by, bytes_of, string_by}
use Rattle.rust_names.specs.V0Words.{word_text}

-- an identifier, and the name of a calling convention, which is an identifier that is neither empty
-- nor marked
abbrev pub named_by : Bool × List ℕ × List ℕ → Option (Option (List ℕ) × List ℕ)
named_by x = Some (identifier_text x.0 x.1, x.2)

abbrev pub convention_by : Bool × List ℕ × List ℕ → Option (Option (List ℕ) × List ℕ)
convention_by x = if not x.0 && nat_lt 0 (length x.1) then Some (Some (map dashed x.1), x.2) else None

-- a constant, if its value is one of its type
abbrev pub valued : Option (List ℕ) → List ℕ → Option (Option (List ℕ) × List ℕ)
valued None after = None
valued (Some text) after = Some (Some text, after)

-- the end of a name, or a suffix, which begins with a dot
abbrev pub is_end : List ℕ → Bool
is_end [] = true
is_end (b ∷ bytes) = b == 46

-- what a leaf at the start of the bytes shows, if that can be shown, and the bytes after the leaf;
-- `None` if the bytes do not begin with the leaf
unfoldable pub leaf_of : Leaf → ℕ → List ℕ → Option (Option (List ℕ) × List ℕ)
leaf_of (leaf.Say word) bound bytes = Some (Some (word_text word), bytes)
leaf_of (leaf.Letter b) bound bytes = Some (Some (b ∷ []), bytes)
leaf_of (leaf.Index n) bound bytes = Some (Some (decimal n), bytes)
leaf_of (leaf.Lifetime n) bound bytes = Some (lifetime_text bound n, bytes)
leaf_of (leaf.ForAll n) bound bytes = Some (Some (for_all_text bound n), bytes)
leaf_of leaf.Disambiguator bound bytes = option_map (λ x. (Some [], x.1)) (after_letter 115 bytes)
leaf_of leaf.Identifier bound bytes = option_and_then named_by (identifier bytes)
leaf_of leaf.Convention bound bytes = option_and_then convention_by (identifier bytes)
leaf_of leaf.Number bound bytes = option_map (λ x. (Some (integer_text x.0), x.1)) (hex_digits bytes)
leaf_of leaf.Boolean bound bytes = option_and_then (λ x. valued (boolean_by (hex_from 0 x.0)) x.1) (hex_digits bytes)
leaf_of leaf.Character bound bytes = option_and_then (λ x. valued (character_by (hex_from 0 x.0)) x.1) (hex_digits bytes)
leaf_of leaf.Text bound bytes = option_and_then (λ x. valued (string_by (bytes_of x.0)) x.1) (hex_digits bytes)
leaf_of leaf.End bound bytes = if is_end bytes then Some (Some [], bytes) else None

-- the text with what a leaf shows, if it is shown
abbrev pub shown_on : Bool → List ℕ → Option (List ℕ) → Option (List ℕ)
shown_on false text more = Some text
shown_on true text None = None
shown_on true text (Some more) = say text more

-- the bytes after a leaf, and the text with what it shows
unfoldable pub read_leaf : Leaf → Scope → List ℕ → List ℕ → Option (List ℕ × List ℕ)
read_leaf part scope bytes text = option_and_then (λ x. option_map (λ t. (x.1, t)) (shown_on scope.visible text x.0)) (leaf_of part scope.bound bytes)

-- the bytes after a leaf, if all of it was added
abbrev pub after_if : Bool → List ℕ → Option (List ℕ)
after_if said bytes = if said then Some bytes else None
