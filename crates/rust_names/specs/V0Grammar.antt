-- The grammar of v0 names (RFC 2603), production by production. Given a symbol's first byte, a production gives the parts that the symbol is made of,
-- with the words that are shown between them, and the bytes that are left.
use Rattle.std.specs.Prelude.{ℕ, ◌+◌, ◌-◌, ◌^◌, ◌==◌, ◌&&◌, ◌||◌, nat_le, nat_lt, Bool, true, false, not, if◌then◌else◌, List, [], ◌∷◌, ◌++◌, length, Option, Some, None}
use Rattle.std.specs.Option.{option_map, option_and_then}
use Rattle.rust_names.specs.declared.words.Word.{Word}
use Rattle.rust_names.specs.declared.words.Word.TheVariants as word
use Rattle.rust_names.specs.declared.grammar.Kind.{Kind}
use Rattle.rust_names.specs.declared.grammar.Kind.TheVariants as kind
use Rattle.rust_names.specs.declared.grammar.Item.{Item}
use Rattle.rust_names.specs.declared.grammar.Item.TheVariants as item
use Rattle.rust_names.specs.declared.grammar.Count.{Count}
use Rattle.rust_names.specs.declared.grammar.Count.TheVariants.{Zero, One, Many}
use Rattle.rust_names.specs.declared.grammar.Phrase.{Phrase}
use Rattle.rust_names.specs.declared.grammar.Phrase.TheVariants as phrase
use Rattle.rust_names.specs.declared.grammar.Inner.{Inner}
use Rattle.rust_names.specs.declared.grammar.Inner.TheVariants as inner
use Rattle.rust_names.specs.declared.grammar.Leaf.TheVariants as leaf
use Rattle.rust_names.specs.declared.grammar.Part.{Part}
use Rattle.rust_names.specs.declared.grammar.Part.TheVariants.{Deep, Back, Phrase as Made, Inner as Within, Leaf as Read, Goto, Opened}
use Rattle.rust_names.specs.declared.grammar.Scope.{Scope}
use Rattle.rust_names.specs.V0Words.{basic_type}
use Rattle.rust_names.specs.V0Numbers.{front, eat, base_62, after_letter}

abbrev pub say : Word → Part
say w = Read (leaf.Say w)

-- one letter
abbrev pub sign : ℕ → Part
sign b = Read (leaf.Letter b)

abbrev pub any_type : Part
any_type = Made phrase.AnyType

abbrev pub list_of : Item → Part
list_of i = Made (phrase.Items i Zero)

-- <namespace>: a letter
abbrev pub is_namespace : ℕ → Bool
is_namespace b = nat_le 65 b && nat_le b 90 || nat_le 97 b && nat_le b 122

-- a nested path: its outer path, and its name in a namespace
abbrev pub nested_by : Kind → ℕ × List ℕ → Option (List Part × List ℕ)
nested_by outer x = if is_namespace x.0 then Some (Deep outer ∷ Made (phrase.Named x.0) ∷ [], x.1) else None

unfoldable pub nested_parts : Kind → List ℕ → Option (List Part × List ℕ)
nested_parts outer bytes = option_and_then (nested_by outer) (front bytes)

-- <T>, and <T as Trait>; if these are of an impl, the impl's path comes first
abbrev pub inherent : List Part
inherent = Read leaf.Disambiguator ∷ Within inner.ImplPath ∷ say word.Less ∷ any_type ∷ say word.Greater ∷ []

abbrev pub of_trait : List Part
of_trait = say word.Less ∷ any_type ∷ say word.As ∷ Deep kind.Path ∷ say word.Greater ∷ []

abbrev pub of_impl : List Part
of_impl = Read leaf.Disambiguator ∷ Within inner.ImplPath ∷ of_trait

-- <path>: `outer` is the kind of the outer path in it, and `opening` the word before generic arguments
unfoldable pub path_parts : Kind → Word → ℕ → List ℕ → Option (List Part × List ℕ)
path_parts outer opening b bytes =
    -- C: a crate
    if b == 67 then Some (Read leaf.Disambiguator ∷ Read leaf.Identifier ∷ [], bytes)
    -- M: <T>, in an impl
    else if b == 77 then Some (inherent, bytes)
    -- X: <T as Trait>, in an impl
    else if b == 88 then Some (of_impl, bytes)
    -- Y: <T as Trait>
    else if b == 89 then Some (of_trait, bytes)
    -- N: a name in a path
    else if b == 78 then nested_parts outer bytes
    -- I: generic arguments
    else if b == 73 then Some (Deep outer ∷ say opening ∷ list_of item.Argument ∷ say word.Greater ∷ [], bytes)
    -- B: a backreference
    else if b == 66 then Some (Back outer ∷ [], bytes)
    else None

-- the path of a trait: its generic arguments stay open (without `>`), since bindings may follow
abbrev pub closed : Option (List Part × List ℕ) → Option (List Part × List ℕ)
closed found = option_map (λ x. (x.0 ++ Opened false ∷ [], x.1)) found

unfoldable pub trait_parts : ℕ → List ℕ → Option (List Part × List ℕ)
trait_parts b bytes =
    if b == 73 then Some (Deep kind.Path ∷ say word.Less ∷ list_of item.Argument ∷ Opened true ∷ [], bytes)
    else if b == 66 then Some (Back kind.TraitPath ∷ [], bytes)
    else closed (path_parts kind.Path word.Less b bytes)

-- an array
abbrev pub array : List Part
array = say word.OpenBracket ∷ any_type ∷ say word.Semicolon ∷ Deep kind.Value ∷ say word.CloseBracket ∷ []

-- <type>, if it is not basic: `whole` is the first byte with the bytes after it
unfoldable pub type_parts : List ℕ → ℕ → List ℕ → Option (List Part × List ℕ)
type_parts whole b bytes =
    -- A: an array, and S: a slice
    if b == 65 then Some (array, bytes)
    else if b == 83 then Some (say word.OpenBracket ∷ any_type ∷ say word.CloseBracket ∷ [], bytes)
    -- T: a tuple
    else if b == 84 then Some (say word.OpenParenthesis ∷ list_of item.Member ∷ say word.CloseParenthesis ∷ [], bytes)
    -- R and Q: references
    else if b == 82 then Some (say word.Ampersand ∷ Made phrase.Borrow ∷ any_type ∷ [], bytes)
    else if b == 81 then Some (say word.Ampersand ∷ Made phrase.Borrow ∷ say word.Mut ∷ any_type ∷ [], bytes)
    -- P and O: pointers
    else if b == 80 then Some (say word.PointerConst ∷ any_type ∷ [], bytes)
    else if b == 79 then Some (say word.PointerMut ∷ any_type ∷ [], bytes)
    -- F: a function
    else if b == 70 then Some (Within inner.Function ∷ [], bytes)
    -- D: a `dyn` type, whose own lifetime stands outside of its binder
    else if b == 68 then Some (say word.Dyn ∷ Within inner.Object ∷ Made phrase.Outlives ∷ [], bytes)
    -- B: a backreference
    else if b == 66 then Some (Back kind.Type ∷ [], bytes)
    -- a path
    else Some (Deep kind.Path ∷ [], whole)

-- the letters of the unsigned integers (h t m y o j), and of the signed ones (a s l x n i)
abbrev pub is_unsigned : ℕ → Bool
is_unsigned b = b == 104 || b == 116 || b == 109 || b == 121 || b == 111 || b == 106

abbrev pub is_signed : ℕ → Bool
is_signed b = b == 97 || b == 115 || b == 108 || b == 120 || b == 110 || b == 105

-- the parts of a reference to a constant; if the constant is a text, no `&` is shown
abbrev pub reference_by : List ℕ → Option (List ℕ) → List Part × List ℕ
reference_by bytes (Some after) = (Read leaf.Text ∷ [], after)
reference_by bytes None = (say word.Ampersand ∷ Deep kind.Value ∷ [], bytes)

unfoldable pub reference_parts : List ℕ → List Part × List ℕ
reference_parts bytes = reference_by bytes (eat 101 bytes)

-- <const>: `again` is the kind of constant to which a backreference leads
unfoldable pub value_parts : Kind → ℕ → List ℕ → Option (List Part × List ℕ)
value_parts again b bytes =
    -- p: a placeholder
    if b == 112 then Some (say word.Placeholder ∷ [], bytes)
    -- integers, b: bool, c: char
    else if is_unsigned b then Some (Read leaf.Number ∷ [], bytes)
    else if is_signed b then Some (Made phrase.Sign ∷ Read leaf.Number ∷ [], bytes)
    else if b == 98 then Some (Read leaf.Boolean ∷ [], bytes)
    else if b == 99 then Some (Read leaf.Character ∷ [], bytes)
    -- e: a text
    else if b == 101 then Some (sign 42 ∷ Read leaf.Text ∷ [], bytes)
    -- R and Q: references
    else if b == 82 then Some (reference_parts bytes)
    else if b == 81 then Some (say word.AmpersandMut ∷ Deep kind.Value ∷ [], bytes)
    -- A: an array
    else if b == 65 then Some (say word.OpenBracket ∷ list_of item.Element ∷ say word.CloseBracket ∷ [], bytes)
    -- T: a tuple
    else if b == 84 then Some (say word.OpenParenthesis ∷ list_of item.Component ∷ say word.CloseParenthesis ∷ [], bytes)
    -- V: a value of a struct or an enum
    else if b == 86 then Some (Deep kind.ValuePath ∷ Made phrase.Fields ∷ [], bytes)
    -- B: a backreference
    else if b == 66 then Some (Back again ∷ [], bytes)
    else None

-- whether a constant among generic arguments is shown in braces; a reference (R) is, unless it
-- leads to a text
abbrev pub is_none : Option (List ℕ) → Bool
is_none None = true
is_none (Some bytes) = false

unfoldable pub is_braced : ℕ → List ℕ → Bool
is_braced b bytes = b == 101 || b == 81 || b == 65 || b == 84 || b == 86 || b == 82 && is_none (eat 101 bytes)

abbrev pub braced : Option (List Part × List ℕ) → Option (List Part × List ℕ)
braced found = option_map (λ x. (say word.OpenBrace ∷ x.0 ++ say word.CloseBrace ∷ [], x.1)) found

unfoldable pub constant_parts : ℕ → List ℕ → Option (List Part × List ℕ)
constant_parts b bytes = if is_braced b bytes then braced (value_parts kind.Constant b bytes) else value_parts kind.Constant b bytes

-- the parts of a level of nesting, whose first byte is `b`: a path, a type that is not basic, or a
-- constant
unfoldable pub deep_by : Kind → List ℕ → ℕ → List ℕ → Option (List Part × List ℕ)
deep_by kind.Path whole b bytes = path_parts kind.Path word.Less b bytes
deep_by kind.ValuePath whole b bytes = path_parts kind.ValuePath word.Turbofish b bytes
deep_by kind.TraitPath whole b bytes = trait_parts b bytes
deep_by kind.Type whole b bytes = type_parts whole b bytes
deep_by kind.Constant whole b bytes = constant_parts b bytes
deep_by kind.Value whole b bytes = value_parts kind.Value b bytes

unfoldable pub deep_parts : Kind → List ℕ → Option (List Part × List ℕ)
deep_parts k bytes = option_and_then (λ x. deep_by k bytes x.0 x.1) (front bytes)

-- what is read at the place to which a backreference leads: what the backreference stands for; for
-- a type it may also be a basic type
abbrev pub target : Kind → Part
target kind.Type = any_type
target k = Deep k

-- <backref>: a place before its own `B`, counted from the first byte after `_R`. What is at that
-- place is read again, unless nothing is shown.
abbrev pub back_by : ℕ → Kind → Bool → List ℕ → ℕ × List ℕ → Option (List Part × List ℕ)
back_by size k visible bytes x =
    if not (nat_lt (x.0 + 1 + length bytes) size) then None
    else if visible then Some (Goto x.0 ∷ target k ∷ Goto (size - length x.1) ∷ [], x.1)
    else Some ([], x.1)

unfoldable pub back_parts : ℕ → Kind → Bool → List ℕ → Option (List Part × List ℕ)
back_parts size k visible bytes = option_and_then (back_by size k visible bytes) (base_62 bytes)

-- <type>: a basic type is no level of nesting
abbrev pub type_by : List ℕ → ℕ × List ℕ → List Part × List ℕ
type_by bytes x = elim (basic_type x.0) [
  | None ↦ (Deep kind.Type ∷ [], bytes)
  | Some w ↦ (say w ∷ [], x.1)
]

unfoldable pub any_type_parts : List ℕ → Option (List Part × List ℕ)
any_type_parts bytes = option_map (type_by bytes) (front bytes)

-- the parts of an item of a list
unfoldable pub item_parts : Item → List Part
item_parts item.Argument = Made phrase.Argument ∷ []
item_parts item.Parameter = any_type ∷ []
item_parts item.Member = any_type ∷ []
item_parts item.Element = Deep kind.Value ∷ []
item_parts item.Component = Deep kind.Value ∷ []
item_parts item.Field = Read leaf.Disambiguator ∷ Read leaf.Identifier ∷ say word.FieldColon ∷ Deep kind.Value ∷ []
item_parts item.Bound = Deep kind.TraitPath ∷ Made phrase.Bindings ∷ []

-- what is shown between two items
abbrev pub separator : Item → Word
separator item.Bound = word.Plus
separator i = word.CommaSpace

-- what is shown after the last item: a comma in a tuple of one item, otherwise nothing
unfoldable pub ending : Item → Count → List Part
ending item.Member One = sign 44 ∷ []
ending item.Component One = sign 44 ∷ []
ending i n = []

-- an item, and the list of those after it
unfoldable pub items_from : Item → Count → List Part
items_from i Zero = item_parts i ++ Made (phrase.Items i One) ∷ []
items_from i n = (say (separator i) ∷ []) ++ item_parts i ++ Made (phrase.Items i Many) ∷ []

abbrev pub items_by : Item → Count → List ℕ → Option (List ℕ) → List Part × List ℕ
items_by i n bytes (Some after) = (ending i n, after)
items_by i n bytes None = (items_from i n, bytes)

unfoldable pub items_parts : Item → Count → List ℕ → List Part × List ℕ
items_parts i n bytes = items_by i n bytes (eat 69 bytes)

-- <generic-arg>: a lifetime, a constant, or a type
abbrev pub argument_lifetime : ℕ × List ℕ → List Part × List ℕ
argument_lifetime x = (Read (leaf.Lifetime x.0) ∷ [], x.1)

abbrev pub argument_else : List ℕ → Option (List ℕ) → List Part × List ℕ
argument_else bytes (Some after) = (Deep kind.Constant ∷ [], after)
argument_else bytes None = (any_type ∷ [], bytes)

abbrev pub argument_by : List ℕ → Option (List ℕ) → Option (List Part × List ℕ)
argument_by bytes (Some after) = option_map argument_lifetime (base_62 after)
argument_by bytes None = Some (argument_else bytes (eat 75 bytes))

unfoldable pub argument_parts : List ℕ → Option (List Part × List ℕ)
argument_parts bytes = argument_by bytes (eat 76 bytes)

-- <dyn-trait-assoc-binding>: a binding follows `, ` if the trait's arguments are open, and opens
-- them with `<` if not. After the last binding, open arguments end with `>`
abbrev pub binding_opening : Bool → Word
binding_opening opened = if opened then word.CommaSpace else word.Less

abbrev pub bindings_end : Bool → List Part
bindings_end opened = if opened then say word.Greater ∷ [] else []

abbrev pub bindings_by : Bool → List ℕ → Option (List ℕ) → List Part × List ℕ
bindings_by opened bytes (Some after) = (say (binding_opening opened) ∷ Read leaf.Identifier ∷ say word.Equals ∷ any_type ∷ Made phrase.LaterBindings ∷ [], after)
bindings_by opened bytes None = (bindings_end opened, bytes)

unfoldable pub bindings_parts : Bool → List ℕ → List Part × List ℕ
bindings_parts opened bytes = bindings_by opened bytes (eat 112 bytes)

-- the name of a nested path. In a namespace in upper case it is shown with its number. In another
-- namespace an empty identifier shows nothing
abbrev pub space_part : ℕ → Part
space_part space = if space == 67 then say word.Closure else if space == 83 then say word.Shim else Read (leaf.Letter space)

abbrev pub unless_empty : Part → Option (List ℕ) → List Part
unless_empty p (Some after) = []
unless_empty p None = p ∷ []

unfoldable pub named_parts : ℕ → ℕ × List ℕ → List Part × List ℕ
named_parts space x =
    if nat_le 97 space then (unless_empty (say word.Scope) (eat 48 x.1) ++ Read leaf.Identifier ∷ [], x.1)
    else ((say word.OpenSpace ∷ space_part space ∷ []) ++ unless_empty (sign 58) (eat 48 x.1) ++ Read leaf.Identifier ∷ sign 35 ∷ Read (leaf.Index x.0) ∷ say word.CloseBrace ∷ [], x.1)

-- the lifetime of a reference, if it has one, and the lifetime of a `dyn` type; lifetime 0 is not shown
abbrev pub borrow_lifetime : ℕ × List ℕ → List Part × List ℕ
borrow_lifetime x = if x.0 == 0 then ([], x.1) else (Read (leaf.Lifetime x.0) ∷ sign 32 ∷ [], x.1)

abbrev pub borrow_by : List ℕ → Option (List ℕ) → Option (List Part × List ℕ)
borrow_by bytes (Some after) = option_map borrow_lifetime (base_62 after)
borrow_by bytes None = Some ([], bytes)

unfoldable pub borrow_parts : List ℕ → Option (List Part × List ℕ)
borrow_parts bytes = borrow_by bytes (eat 76 bytes)

abbrev pub outlives_lifetime : ℕ × List ℕ → List Part × List ℕ
outlives_lifetime x = if x.0 == 0 then ([], x.1) else (say word.Plus ∷ Read (leaf.Lifetime x.0) ∷ [], x.1)

abbrev pub outlives_by : Option (List ℕ) → Option (List Part × List ℕ)
outlives_by (Some after) = option_map outlives_lifetime (base_62 after)
outlives_by None = None

unfoldable pub outlives_parts : List ℕ → Option (List Part × List ℕ)
outlives_parts bytes = outlives_by (eat 76 bytes)

-- <abi>
abbrev pub convention_of : List ℕ → Option (List ℕ) → List Part × List ℕ
convention_of bytes (Some after) = (say word.ExternC ∷ [], after)
convention_of bytes None = (say word.Extern ∷ Read leaf.Convention ∷ say word.CloseExtern ∷ [], bytes)

abbrev pub convention_by : List ℕ → Option (List ℕ) → List Part × List ℕ
convention_by bytes (Some after) = convention_of after (eat 67 after)
convention_by bytes None = ([], bytes)

unfoldable pub convention_parts : List ℕ → List Part × List ℕ
convention_parts bytes = convention_by bytes (eat 75 bytes)

-- the fields of a value: U means that there are none, T that they are shown like a tuple, and S
-- that they have names
abbrev pub fields_by : ℕ × List ℕ → Option (List Part × List ℕ)
fields_by x =
    if x.0 == 85 then Some ([], x.1)
    else if x.0 == 84 then Some (say word.OpenParenthesis ∷ list_of item.Element ∷ say word.CloseParenthesis ∷ [], x.1)
    else if x.0 == 83 then Some (say word.OpenFields ∷ list_of item.Field ∷ say word.CloseFields ∷ [], x.1)
    else None

unfoldable pub fields_parts : List ℕ → Option (List Part × List ℕ)
fields_parts bytes = option_and_then fields_by (front bytes)

-- one part if bytes begin with the letter, otherwise none
abbrev pub part_by : Part → List ℕ → Option (List ℕ) → List Part × List ℕ
part_by p bytes (Some after) = (p ∷ [], after)
part_by p bytes None = ([], bytes)

unfoldable pub part_after : ℕ → Part → List ℕ → List Part × List ℕ
part_after letter p bytes = part_by p bytes (eat letter bytes)

-- the type that a function returns: `()` is not shown
abbrev pub returned_by : List ℕ → Option (List ℕ) → List Part × List ℕ
returned_by bytes (Some after) = ([], after)
returned_by bytes None = (say word.Arrow ∷ any_type ∷ [], bytes)

unfoldable pub returned_parts : List ℕ → List Part × List ℕ
returned_parts bytes = returned_by bytes (eat 117 bytes)

-- the parts of a symbol within a level; `opened` says whether the last trait's generic arguments
-- are open
unfoldable pub phrase_parts : Phrase → Bool → List ℕ → Option (List Part × List ℕ)
phrase_parts phrase.AnyType opened bytes = any_type_parts bytes
phrase_parts (phrase.Items i n) opened bytes = Some (items_parts i n bytes)
phrase_parts phrase.Argument opened bytes = argument_parts bytes
phrase_parts phrase.Bindings opened bytes = Some (bindings_parts opened bytes)
phrase_parts phrase.LaterBindings opened bytes = Some (bindings_parts true bytes)
phrase_parts (phrase.Named space) opened bytes = option_map (named_parts space) (after_letter 115 bytes)
phrase_parts phrase.Borrow opened bytes = borrow_parts bytes
phrase_parts phrase.Outlives opened bytes = outlives_parts bytes
phrase_parts phrase.Unsafety opened bytes = Some (part_after 85 (say word.Unsafe) bytes)
phrase_parts phrase.Convention opened bytes = Some (convention_parts bytes)
phrase_parts phrase.Returned opened bytes = Some (returned_parts bytes)
phrase_parts phrase.Fields opened bytes = fields_parts bytes
phrase_parts phrase.Sign opened bytes = Some (part_after 110 (sign 45) bytes)

-- the scope within a binder of `n` lifetimes. If they are shown, they are counted, and their count
-- must stay below 2^64
abbrev pub bound_in : Scope → ℕ → Option Scope
bound_in scope n = if scope.visible then (if nat_lt (scope.bound + n) (2 ^ 64) then Some (record scope { bound = scope.bound + n }) else None) else Some scope

abbrev pub with_lifetimes : ℕ → List Part → List ℕ → Scope → List Part × Scope × List ℕ
with_lifetimes n parts bytes within = ((Read (leaf.ForAll n) ∷ []) ++ parts, within, bytes)

abbrev pub binder_by : List Part → Scope → ℕ × List ℕ → Option (List Part × Scope × List ℕ)
binder_by parts scope x = option_map (with_lifetimes x.0 parts x.1) (bound_in scope x.0)

unfoldable pub binder_parts : List Part → Scope → List ℕ → Option (List Part × Scope × List ℕ)
binder_parts parts scope bytes = option_and_then (binder_by parts scope) (after_letter 71 bytes)

-- the path of an impl and an instantiating path are not shown
abbrev pub hidden : Scope → Scope
hidden scope = record scope { visible = false }

-- a path begins with a letter in upper case
abbrev pub begins_path : Option (ℕ × List ℕ) → Bool
begins_path None = false
begins_path (Some x) = nat_le 65 x.0 && nat_le x.0 90

abbrev pub function_parts : List Part
function_parts = Made phrase.Unsafety ∷ Made phrase.Convention ∷ say word.Fn ∷ list_of item.Parameter ∷ say word.CloseParenthesis ∷ Made phrase.Returned ∷ []

-- the parts of a symbol with a scope of its own
unfoldable pub inner_parts : Inner → Scope → List ℕ → Option (List Part × Scope × List ℕ)
inner_parts inner.ImplPath scope bytes = Some (Deep kind.Path ∷ [], hidden scope, bytes)
inner_parts inner.Instance scope bytes = if begins_path (front bytes) then Some (Deep kind.Path ∷ [], hidden scope, bytes) else Some ([], scope, bytes)
inner_parts inner.Function scope bytes = binder_parts function_parts scope bytes
inner_parts inner.Object scope bytes = binder_parts (list_of item.Bound ∷ []) scope bytes
