-- What names in Rust's v0 mangling show (RFC 2603), in the short form of the Rust project's demangler: without the disambiguators of crates and the
-- types of constants.
use Rattle.std.specs.Prelude.{ℕ, zero, suc, ◌+◌, ◌&&◌, nat_eq, nat_le, Bool, true, false, if◌then◌else◌, List, [], ◌∷◌, length, drop, codes, Option, Some, None}
use Rattle.std.specs.List.{starts_with}
use Rattle.std.specs.Option.{option_map, option_and_then}
use Rattle.clean_names.specs.Names.{is_name}
use Rattle.rust_names.specs.declared.grammar.Kind.TheVariants as kind
use Rattle.rust_names.specs.declared.grammar.Inner.TheVariants as inner
use Rattle.rust_names.specs.declared.grammar.Leaf.TheVariants as leaf
use Rattle.rust_names.specs.declared.grammar.Part.{Part}
use Rattle.rust_names.specs.declared.grammar.Part.TheVariants.{Deep, Back, Phrase as Made, Inner as Within, Leaf as Read, Goto, Opened}
use Rattle.rust_names.specs.declared.grammar.Scope.{Scope}
use Rattle.rust_names.specs.V0Leaves.{read_leaf}
use Rattle.rust_names.specs.V0Grammar.{deep_parts, back_parts, phrase_parts, inner_parts}

-- how far a name is read: the bytes that are left, the text so far, and whether the last trait's arguments are open (without their `>`)
pub record State : Type 0 where
  pub rest : List ℕ
  pub text : List ℕ
  pub opened : Bool

-- parts, read one after the other
abbrev pub all : (Part → State → Option State) → List Part → State → Option State
all read [] state = Some state
all read (part ∷ parts) state = option_and_then (all read parts) (read part state)

abbrev pub after_leaf : State → List ℕ × List ℕ → State
after_leaf state x = record state { rest = x.0; text = x.1 }

-- Reads a part within a level; `down` reads a part that is a level itself. Symbols within a level
-- nest at most `width` deep. A list is an item and the list after it, so the symbols nest no deeper
-- than about as many levels as the name has bytes.
abbrev pub read_within : (Part → Scope → State → Option State) → List ℕ → ℕ → Scope → Part → State → Option State
read_within down name width scope (Deep k) state = down (Deep k) scope state
read_within down name width scope (Back k) state = down (Back k) scope state
read_within down name width scope (Read part) state = option_map (after_leaf state) (read_leaf part scope state.rest state.text)
read_within down name width scope (Goto place) state = Some (record state { rest = drop place name })
read_within down name width scope (Opened opened) state = Some (record state { opened = opened })
read_within down name zero scope (Made part) state = None
read_within down name zero scope (Within part) state = None
read_within down name (suc width) scope (Made part) state =
    option_and_then (λ x. all (read_within down name width scope) x.0 (record state { rest = x.1 })) (phrase_parts part state.opened state.rest)
read_within down name (suc width) scope (Within part) state =
    option_and_then (λ x. all (read_within down name width x.1) x.0 (record state { rest = x.2 })) (inner_parts part scope state.rest)

abbrev pub most_width : List ℕ → ℕ
most_width name = length name + 8

-- the parts of a level, and the bytes that are left
abbrev pub level_parts : List ℕ → Part → Scope → List ℕ → Option (List Part × List ℕ)
level_parts name (Deep k) scope bytes = deep_parts k bytes
level_parts name (Back k) scope bytes = back_parts (length name) k scope.visible bytes
level_parts name part scope bytes = None

-- a part that is a level, given how many levels may nest
unfoldable pub read_level : List ℕ → ℕ → Part → Scope → State → Option State
read_level name zero part scope state = None
read_level name (suc levels) part scope state =
    option_and_then (λ x. all (read_within (read_level name levels) name (most_width name) scope) x.0 (record state { rest = x.1 })) (level_parts name part scope state.rest)

-- a path, an instantiating path if there is one, and the end
abbrev pub whole : List Part
whole = Deep kind.ValuePath ∷ Within inner.Instance ∷ Read leaf.End ∷ []

abbrev pub outermost : Scope
outermost = record { bound = 0; visible = true }

-- what the bytes after `_R` show, if at most `levels` levels nest
unfoldable pub text_within : ℕ → List ℕ → Option (List ℕ)
text_within levels name = option_map (λ (s : State). s.text) (all (read_within (read_level name levels) name (most_width name) outermost) whole (record { rest = name; text = []; opened = false }))

-- a text, if a record may have it as a name
abbrev pub if_name : List ℕ → Option (List ℕ)
if_name text = if is_name text && nat_le (length text) 65536 then Some text else None

-- what a name shows
unfoldable pub v0_text : List ℕ → Option (List ℕ)
v0_text name = if starts_with nat_eq name (codes "_R") then option_and_then if_name (text_within 500 (drop 2 name)) else None
