-- The reading of a v0 name by a stack of frames. Each frame is a part with its scope, and with the
-- numbers of levels and symbols that may still nest in it.
use Rattle.std.specs.Prelude.{◌≡◌, ◌≢◌, ℕ, zero, suc, ◌+◌, ◌-◌, ◌*◌, nat_lt, Bool, true, false, List, [], ◌∷◌, ◌++◌, ◌≤◌, length, map, reverse, Option, Some, None}
use Rattle.std.specs.Option.{option_map, option_and_then}
use Rattle.rust_names.specs.declared.words.Word.{Word}
use Rattle.rust_names.specs.declared.words.Word.TheVariants as word
use Rattle.rust_names.specs.declared.grammar.Kind.{Kind}
use Rattle.rust_names.specs.declared.grammar.Kind.TheVariants as kind
use Rattle.rust_names.specs.declared.grammar.Leaf.TheVariants as leaf
use Rattle.rust_names.specs.declared.grammar.Phrase.{Phrase}
use Rattle.rust_names.specs.declared.grammar.Phrase.TheVariants as phrase
use Rattle.rust_names.specs.declared.grammar.Inner.{Inner}
use Rattle.rust_names.specs.declared.grammar.Part.{Part}
use Rattle.rust_names.specs.declared.grammar.Part.TheVariants.{Deep, Back, Phrase as Made, Inner as Within}
use Rattle.rust_names.specs.declared.grammar.Scope.{Scope}
use Rattle.rust_names.specs.declared.grammar.Frame.{Frame}
use Rattle.rust_names.specs.declared.grammar.Nest.{Nest}
use Rattle.rust_names.specs.V0Numbers.{front, eat, after_letter}
use Rattle.rust_names.specs.V0Words.{basic_type}
use Rattle.rust_names.specs.V0Leaves.{read_leaf}
use Rattle.rust_names.specs.V0Grammar.{type_parts, deep_parts, back_parts, phrase_parts, inner_parts}
use Rattle.rust_names.specs.V0Names.{State, read_within, read_level}

-- a frame within a level
abbrev pub inside : Scope → ℕ → ℕ → Part → Frame
inside scope levels width part = record { part = part; scope = scope; levels = levels; width = width }

-- the frames of parts are put onto a stack, the first on top, if parts were found; and the bytes
-- that are left
abbrev pub onto : List Frame → Nest → List Part → List Frame
onto stack nest parts = stack ++ reverse (map (inside nest.scope nest.levels nest.width) parts)

abbrev pub pushed : List Frame → Nest → Option (List Part × List ℕ) → Option (List Frame × List ℕ)
pushed stack nest found = option_map (λ x. (onto stack nest x.0, x.1)) found

abbrev pub pushed_own : List Frame → Nest → Option (List Part × Scope × List ℕ) → Option (List Frame × List ℕ)
pushed_own stack nest found = option_map (λ x. (onto stack (record nest { scope = x.1 }) x.0, x.2)) found

-- the word that is shown before the generic arguments of a path
abbrev pub opening : Kind → Word
opening kind.ValuePath = word.Turbofish
opening k = word.Less

abbrev pub in_scope : Scope → ℕ → ℕ → List Part × List ℕ → List Frame × List ℕ
in_scope scope levels width x = (map (inside scope levels width) x.0, x.1)

abbrev pub in_own_scope : ℕ → ℕ → List Part × Scope × List ℕ → List Frame × List ℕ
in_own_scope levels width x = (map (inside x.1 levels width) x.0, x.2)

-- the frames of which a level, a symbol within a level, and a symbol with a scope of its own are
-- made
abbrev pub level_by : ℕ → Scope → Part → List ℕ → Option (List Part × List ℕ)
level_by size scope (Deep k) bytes = deep_parts k bytes
level_by size scope (Back k) bytes = back_parts size k scope.visible bytes
level_by size scope part bytes = None

abbrev pub level_in : ℕ → Scope → Part → List ℕ → ℕ → Option (List Frame × List ℕ)
level_in size scope part bytes zero = None
level_in size scope part bytes (suc levels) = option_map (in_scope scope levels (size + 8)) (level_by size scope part bytes)

abbrev pub level_frames : ℕ → Frame → List ℕ → Option (List Frame × List ℕ)
level_frames size frame bytes = level_in size frame.scope frame.part bytes frame.levels

abbrev pub phrase_in : Phrase → Scope → ℕ → Bool → List ℕ → ℕ → Option (List Frame × List ℕ)
phrase_in part scope levels opened bytes zero = None
phrase_in part scope levels opened bytes (suc width) = option_map (in_scope scope levels width) (phrase_parts part opened bytes)

abbrev pub phrase_frames : Phrase → Frame → Bool → List ℕ → Option (List Frame × List ℕ)
phrase_frames part frame opened bytes = phrase_in part frame.scope frame.levels opened bytes frame.width

abbrev pub inner_in : Inner → Scope → ℕ → List ℕ → ℕ → Option (List Frame × List ℕ)
inner_in part scope levels bytes zero = None
inner_in part scope levels bytes (suc width) = option_map (in_own_scope levels width) (inner_parts part scope bytes)

abbrev pub inner_frames : Inner → Frame → List ℕ → Option (List Frame × List ℕ)
inner_frames part frame bytes = inner_in part frame.scope frame.levels bytes frame.width

abbrev pub expand_by : ℕ → Frame → Bool → List ℕ → Part → Option (List Frame × List ℕ)
expand_by size frame opened bytes (Made part) = phrase_frames part frame opened bytes
expand_by size frame opened bytes (Within part) = inner_frames part frame bytes
expand_by size frame opened bytes part = level_frames size frame bytes

unfoldable pub expand : ℕ → Frame → Bool → List ℕ → Option (List Frame × List ℕ)
expand size frame opened bytes = expand_by size frame opened bytes frame.part

-- the stack `new` is `old` with the frames that were found put onto it, and the bytes that are left
-- are these; if no frames were found, there are no such bytes
abbrev pub Expanded : List Frame → List Frame → Option (List Frame × List ℕ) → Option (List ℕ) → Type 0
Expanded old new None None = Unit {0}
Expanded old new None (Some after) = ⊥
Expanded old new (Some x) None = ⊥
Expanded old new (Some x) (Some after) = (new ≡ old ++ reverse x.0) × (length x.0 ≤ 10) × (x.1 ≡ after)

-- a part that is read by reading its own parts. These are all parts except leaves, moves to another
-- place, and names of nested paths in a namespace in lower case
abbrev pub is_made : Part → Bool
is_made (Made (phrase.Named space)) = nat_lt space 97
is_made (Deep k) = true
is_made (Back k) = true
is_made (Made p) = true
is_made (Within p) = true
is_made p = false

-- how far a name is read
abbrev pub at : List ℕ → List ℕ → Bool → State
at rest text opened = record { rest = rest; text = text; opened = opened }

abbrev pub shown_after : Option State → Option (List ℕ)
shown_after o = option_map (λ (s : State). s.text) o

-- a path that is not the path of a trait
abbrev pub is_path : Part → Bool
is_path (Deep kind.Path) = true
is_path (Deep kind.ValuePath) = true
is_path p = false

-- the bytes after a crate or the name of a nested path, and the text with it; `::` stands before a name unless it is empty
abbrev pub crate_read : Scope → List ℕ → List ℕ → Option (List ℕ × List ℕ)
crate_read scope bytes text = option_and_then (λ x. read_leaf leaf.Identifier scope x.0 x.1) (read_leaf leaf.Disambiguator scope bytes text)

abbrev pub name_read : Scope → Option (List ℕ) → List ℕ → List ℕ → Option (List ℕ × List ℕ)
name_read scope None bytes text = option_and_then (λ x. read_leaf leaf.Identifier scope x.0 x.1) (read_leaf (leaf.Say word.Scope) scope bytes text)
name_read scope (Some after) bytes text = read_leaf leaf.Identifier scope bytes text

abbrev pub named_read : Scope → List ℕ → List ℕ → Option (List ℕ × List ℕ)
named_read scope bytes text = option_and_then (λ x. name_read scope (eat 48 x.1) x.1 text) (after_letter 115 bytes)

-- what a frame reads, and what frames read one after the other
unfoldable pub read_frame : List ℕ → Frame → State → Option State
read_frame name frame state = read_within (read_level name frame.levels) name frame.width frame.scope frame.part state

unfoldable pub run : List ℕ → List Frame → State → Option State
run name [] state = Some state
run name (frame ∷ frames) state = option_and_then (run name frames) (read_frame name frame state)

-- reading the frames `old` at the bytes `before` gives the same as reading the frames `new` at the
-- bytes `after`, whatever was read before
abbrev pub SameRun : List ℕ → List Frame → List ℕ → List Frame → List ℕ → Type 0
SameRun name old before new after = (text : List ℕ) (opened : Bool) → run name (reverse old) (at before text opened) ≡ run name (reverse new) (at after text opened)

-- the frame of a path that is a type, if the type at the start of the bytes is a path
abbrev pub BeginsPathType : Option (ℕ × List ℕ) → Type 0
BeginsPathType None = ⊥
BeginsPathType (Some x) = (basic_type x.0 ≡ None) × ((whole bytes : List ℕ) → type_parts whole x.0 bytes ≡ Some (Deep kind.Path ∷ [], whole))

abbrev pub IsTypePath : ℕ → Frame → Frame → List ℕ → Type 0
IsTypePath size frame path bytes =
    (frame.part ≡ Made phrase.AnyType) × (frame.levels ≢ 0) × (frame.width ≢ 0) × (path ≡ inside frame.scope (frame.levels - 1) (size + 8) (Deep kind.Path)) × BeginsPathType (front bytes)

-- the frame of a path that is a backreference, and the bytes after its letter
abbrev pub back_of : Part → Part
back_of (Deep k) = Back k
back_of p = p

abbrev pub IsBackPath : ℕ → Frame → Frame → List ℕ → List ℕ → Type 0
IsBackPath size frame back bytes after =
    (frame.levels ≢ 0) × (is_path frame.part ≡ true) × (back ≡ inside frame.scope (frame.levels - 1) (size + 8) (back_of frame.part)) × (bytes ≡ 66 ∷ after)

-- a bound on the steps that frames take
unfoldable pub within_weight : ℕ → ℕ → ℕ
within_weight level zero = 1
within_weight level (suc width) = 1 + 16 * (level + within_weight level width)

unfoldable pub level_weight : ℕ → ℕ → ℕ
level_weight size zero = 1
level_weight size (suc levels) = 1 + 16 * (level_weight size levels + within_weight (level_weight size levels) (size + 8))

abbrev pub part_weight : ℕ → ℕ → ℕ → Part → ℕ
part_weight size levels width (Deep k) = level_weight size levels
part_weight size levels width (Back k) = level_weight size levels
part_weight size levels width (Made part) = within_weight (level_weight size levels) width
part_weight size levels width (Within part) = within_weight (level_weight size levels) width
part_weight size levels width part = 1

unfoldable pub frame_weight : ℕ → Frame → ℕ
frame_weight size frame = part_weight size frame.levels frame.width frame.part

abbrev pub total : (Frame → ℕ) → List Frame → ℕ
total f [] = 0
total f (frame ∷ frames) = f frame + total f frames

unfoldable pub weight : ℕ → List Frame → ℕ
weight size frames = total (frame_weight size) frames
