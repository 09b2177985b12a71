-- The bytes that are left after a symbol is read are a suffix of the bytes before it.
use Rattle.std.proofs.Common.{◌≡◌, ℕ, zero, suc, ◌+◌, ◌-◌, ◌≤◌, ◌==◌, cond, nat_le, Bool, true, false, List, [], ◌∷◌, ◌++◌, length, take, drop, not, ◌&&◌, nat_lt, Option, Some, None, IfSome, refl, sym, ◌∙◌, ap, arith, subst, ⊎_elim}
use Rattle.std.specs.Borrow.{Bor}
use Rattle.std.specs.Option.{option_map, option_and_then}
use Rattle.std.proofs.lemmas.Bool.{cases_lt}
use Rattle.std.proofs.lemmas.List.{drop-drop, drop_all, length-drop}
use Rattle.rust_names.specs.declared.words.Word.{Word}
use Rattle.rust_names.specs.declared.words.Word.TheVariants as word
use Rattle.rust_names.specs.declared.grammar.Kind.{Kind}
use Rattle.rust_names.specs.declared.grammar.Kind.TheVariants as kind
use Rattle.rust_names.specs.declared.grammar.Item.{Item}
use Rattle.rust_names.specs.declared.grammar.Item.TheVariants as item
use Rattle.rust_names.specs.declared.grammar.Count.{Count}
use Rattle.rust_names.specs.declared.grammar.Phrase.{Phrase}
use Rattle.rust_names.specs.declared.grammar.Phrase.TheVariants as phrase
use Rattle.rust_names.specs.declared.grammar.Inner.{Inner}
use Rattle.rust_names.specs.declared.grammar.Inner.TheVariants as inner
use Rattle.rust_names.specs.declared.grammar.Leaf.{Leaf}
use Rattle.rust_names.specs.declared.grammar.Leaf.TheVariants as leaf
use Rattle.rust_names.specs.declared.grammar.Part.{Part}
use Rattle.rust_names.specs.declared.grammar.Part.TheVariants.{Deep, Back, Phrase as Made, Inner as Within, Leaf as Read, Goto, Opened}
use Rattle.rust_names.specs.declared.grammar.Scope.{Scope}
use Rattle.rust_names.specs.declared.grammar.Frame.{Frame}
use Rattle.rust_names.specs.V0Words.{basic_type}
use Rattle.rust_names.specs.V0Numbers.{hex_from, front, if_first, eat, below_64, next_62, base_62_digit, base_62_from, base_62_by, base_62, raised, after_letter_by, after_letter, hex_digit, with_digit, hex_digits}
use Rattle.rust_names.specs.V0Identifiers.{or_all, after_separator, length_by, length_in_front, identifier_cut, identifier_from, identifier_by, identifier}
use Rattle.rust_names.specs.V0Leaves.{named_by, leaf_of, read_leaf, shown_on, valued, convention_by}
use Rattle.rust_names.specs.V0Texts.{integer_text, boolean_by, character_by, bytes_of, string_by}
use Rattle.rust_names.specs.V0Grammar.{say, sign, is_unsigned, is_signed, nested_by, nested_parts, path_parts, closed, trait_parts, type_parts, reference_by, reference_parts, value_parts, braced, is_braced, constant_parts, deep_by, deep_parts, back_by, back_parts, type_by, any_type_parts, items_by, items_parts, argument_lifetime, argument_else, argument_by, argument_parts, bindings_by, bindings_parts, named_parts, borrow_lifetime, borrow_by, borrow_parts, outlives_lifetime, outlives_by, outlives_parts, convention_of, convention_by as convention_parts_by, convention_parts, fields_by, fields_parts, part_by, part_after, returned_by, returned_parts, phrase_parts, bound_in, with_lifetimes, binder_by, binder_parts, begins_path, inner_parts, function_parts, list_of, hidden}
use Rattle.rust_names.specs.internal.Running.{Expanded, in_scope, in_own_scope, crate_read, name_read, named_read, expand, expand_by, level_in, level_by, phrase_in, inner_in}
use Rattle.rust_names.specs.internal.Passing.{IsEnd}

pub here : (bytes : List ℕ) → IsEnd bytes bytes
here bytes = record { place = 0; is = refl }

next : (b : ℕ) (bytes : List ℕ) → IsEnd (b ∷ bytes) bytes
next b bytes = record { place = 1; is = refl }

pub beyond : (a b c : List ℕ) → IsEnd a b → IsEnd b c → IsEnd a c
beyond a b c first second = record { place = first.place + second.place; is = second.is ∙ ap (drop second.place) first.is ∙ drop-drop second.place first.place a }

abbrev Follow : {A : Type 0} → List ℕ → Option (A × List ℕ) → Type 0
Follow bytes None = Unit {0}
Follow bytes (Some x) = IsEnd bytes x.1

abbrev Ends : List ℕ → Option (List ℕ) → Type 0
Ends bytes None = Unit {0}
Ends bytes (Some rest) = IsEnd bytes rest

abbrev Follows : {A B : Type 0} → List ℕ → Option (A × B × List ℕ) → Type 0
Follows bytes None = Unit {0}
Follows bytes (Some x) = IsEnd bytes x.2

behind : {A : Type 0} (a b : List ℕ) (o : Option (A × List ℕ)) → IsEnd a b → Follow b o → Follow a o
behind a b None is follows = tt
behind a b (Some x) is follows = beyond a b x.1 is follows

behind_own : {A B : Type 0} (a b : List ℕ) (o : Option (A × B × List ℕ)) → IsEnd a b → Follows b o → Follows a o
behind_own a b None is follows = tt
behind_own a b (Some x) is follows = beyond a b x.2 is follows

-- The result of a test.
record Chain {A : Type 0} (bytes : List ℕ) (o : Option (A × List ℕ)) : Type 0 where
  ends : Follow bytes o

stay : {A : Type 0} {bytes : List ℕ} {a : A} → Chain bytes (Some (a, bytes))
stay {A} {bytes} = record { ends = here bytes }

stop : {A : Type 0} {bytes : List ℕ} → Chain {A = A} bytes None
stop = record { ends = tt }

either : {A : Type 0} {bytes : List ℕ} {o p : Option (A × List ℕ)} (b : Bool) → Chain bytes o → Chain bytes p → Chain bytes (cond b o p)
either true first second = first
either false first second = second

mapped : {A B : Type 0} (f : A × List ℕ → B × List ℕ) → ((x : A × List ℕ) → (f x).1 ≡ x.1) → (bytes : List ℕ) (o : Option (A × List ℕ)) → Follow bytes o → Follow bytes (option_map f o)
mapped f same bytes None follows = tt
mapped f same bytes (Some x) follows = subst (IsEnd bytes) (sym (same x)) follows

chained : {A B : Type 0} (f : A × List ℕ → Option (B × List ℕ)) → ((x : A × List ℕ) → Follow x.1 (f x)) → (bytes : List ℕ) (o : Option (A × List ℕ)) → Follow bytes o → Follow bytes (option_and_then f o)
chained f each bytes None follows = tt
chained f each bytes (Some x) follows = behind bytes x.1 (f x) follows (each x)

-- Numbers.

front_ends : (bytes : List ℕ) → Follow bytes (front bytes)
unfolding front
front_ends [] = tt
front_ends (b ∷ bytes) = next b bytes

chosen_end : (bytes : List ℕ) (b : Bool) (rest : List ℕ) → IsEnd bytes rest → Ends bytes (cond b (Some rest) None)
chosen_end bytes true rest is = is
chosen_end bytes false rest is = tt

eat_by : (wanted : ℕ) (bytes : List ℕ) (o : Option (ℕ × List ℕ)) → Follow bytes o → Ends bytes (if_first wanted o)
eat_by wanted bytes None is = tt
eat_by wanted bytes (Some x) is = chosen_end bytes (x.0 == wanted) x.1 is

eat_ends : (wanted : ℕ) (bytes : List ℕ) → Ends bytes (eat wanted bytes)
unfolding eat
eat_ends wanted bytes = eat_by wanted bytes (front bytes) (front_ends bytes)

with_number : (bytes rest : List ℕ) (o : Option ℕ) → IsEnd bytes rest → Follow bytes (option_map (λ (n : ℕ). (n, rest)) o)
with_number bytes rest None is = tt
with_number bytes rest (Some n) is = is

more_digits : (b : ℕ) (bytes : List ℕ) (o : Option ℕ) → ((more : ℕ) → Follow bytes (base_62_from more bytes)) → Follow (b ∷ bytes) (option_and_then (λ more. base_62_from more bytes) o)
more_digits b bytes None each = tt
more_digits b bytes (Some more) each = behind (b ∷ bytes) bytes (base_62_from more bytes) (next b bytes) (each more)

digit_ends : (value b : ℕ) (bytes : List ℕ) (is : Bool) → ((more : ℕ) → Follow bytes (base_62_from more bytes))
    → Follow (b ∷ bytes) (elim is [ true ↦ option_map (λ (n : ℕ). (n, bytes)) (below_64 (value + 1)) | false ↦ option_and_then (λ more. base_62_from more bytes) (next_62 value (base_62_digit b)) ])
digit_ends value b bytes true each = with_number (b ∷ bytes) bytes (below_64 (value + 1)) (next b bytes)
digit_ends value b bytes false each = more_digits b bytes (next_62 value (base_62_digit b)) each

base_62_from_ends : (value : ℕ) (bytes : List ℕ) → Follow bytes (base_62_from value bytes)
unfolding base_62_from
base_62_from_ends value [] = tt
base_62_from_ends value (b ∷ bytes) = digit_ends value b bytes (b == 95) (λ more. base_62_from_ends more bytes)

base_62_or : (bytes : List ℕ) (o : Option (List ℕ)) → Ends bytes o → Follow bytes (base_62_by bytes o)
base_62_or bytes None is = base_62_from_ends 0 bytes
base_62_or bytes (Some after) is = is

base_62_ends : (bytes : List ℕ) → Follow bytes (base_62 bytes)
unfolding base_62
base_62_ends bytes = base_62_or bytes (eat 95 bytes) (eat_ends 95 bytes)

raised_ends : (bytes : List ℕ) (o : Option (ℕ × List ℕ)) → Follow bytes o → Follow bytes (raised o)
raised_ends bytes None is = tt
raised_ends bytes (Some x) is = with_number bytes x.1 (below_64 (x.0 + 1)) is

letter_or : (bytes : List ℕ) (o : Option (List ℕ)) → Ends bytes o → Follow bytes (after_letter_by bytes o)
letter_or bytes None is = here bytes
letter_or bytes (Some after) is = behind bytes after (raised (base_62 after)) is (raised_ends after (base_62 after) (base_62_ends after))

after_letter_ends : (letter : ℕ) (bytes : List ℕ) → Follow bytes (after_letter letter bytes)
unfolding after_letter
after_letter_ends letter bytes = letter_or bytes (eat letter bytes) (eat_ends letter bytes)

hex_more : (b : ℕ) (bytes : List ℕ) (digit : Option ℕ) (later : Option (List ℕ × List ℕ)) → Follow bytes later → Follow (b ∷ bytes) (with_digit b digit later)
hex_more b bytes None later is = tt
hex_more b bytes (Some digit) None is = tt
hex_more b bytes (Some digit) (Some x) is = beyond (b ∷ bytes) bytes x.1 (next b bytes) is

hex_ends_by : (b : ℕ) (bytes : List ℕ) (is : Bool) → Follow bytes (hex_digits bytes) → Follow (b ∷ bytes) (elim is [ true ↦ Some ([], bytes) | false ↦ with_digit b (hex_digit b) (hex_digits bytes) ])
hex_ends_by b bytes true later = next b bytes
hex_ends_by b bytes false later = hex_more b bytes (hex_digit b) (hex_digits bytes) later

hex_ends : (bytes : List ℕ) → Follow bytes (hex_digits bytes)
unfolding hex_digits
hex_ends [] = tt
hex_ends (b ∷ bytes) = hex_ends_by b bytes (b == 95) (hex_ends bytes)

-- Identifiers.

separator_by : (bytes : List ℕ) (o : Option (List ℕ)) → Ends bytes o → IsEnd bytes (or_all bytes o)
separator_by bytes None is = here bytes
separator_by bytes (Some after) is = is

separator_ends : (bytes : List ℕ) → IsEnd bytes (after_separator bytes)
unfolding after_separator
separator_ends bytes = separator_by bytes (eat 95 bytes) (eat_ends 95 bytes)

dropped : (bytes : List ℕ) (k : ℕ) (o : Option ℕ) → Follow bytes (option_map (λ (n : ℕ). (n, drop k bytes)) o)
dropped bytes k None = tt
dropped bytes k (Some n) = record { place = k; is = refl }

length_or : (bytes : List ℕ) (o : Option (List ℕ)) → Ends bytes o → Follow bytes (length_by bytes o)
length_or bytes None is = dropped bytes _ _
length_or bytes (Some after) is = is

length_ends : (bytes : List ℕ) → Follow bytes (length_in_front bytes)
unfolding length_in_front
length_ends bytes = length_or bytes (eat 48 bytes) (eat_ends 48 bytes)

cut_by : (marked : Bool) (n : ℕ) (bytes : List ℕ) (b : Bool) → Follows bytes (cond b (Some (marked, take n bytes, drop n bytes)) None)
cut_by marked n bytes true = record { place = n; is = refl }
cut_by marked n bytes false = tt

from_ends : (marked : Bool) (bytes : List ℕ) (o : Option (ℕ × List ℕ)) → Follow bytes o → Follows bytes (identifier_from marked o)
from_ends marked bytes None is = tt
from_ends marked bytes (Some x) is =
    behind_own bytes (after_separator x.1) (identifier_cut marked x.0 (after_separator x.1)) (beyond bytes x.1 (after_separator x.1) is (separator_ends x.1)) (cut_by marked x.0 (after_separator x.1) _)

identifier_or : (bytes : List ℕ) (o : Option (List ℕ)) → Ends bytes o → Follows bytes (identifier_by bytes o)
identifier_or bytes None is = from_ends false bytes (length_in_front bytes) (length_ends bytes)
identifier_or bytes (Some after) is = behind_own bytes after (identifier_from true (length_in_front after)) is (from_ends true after (length_in_front after) (length_ends after))

identifier_ends : (bytes : List ℕ) → Follows bytes (identifier bytes)
unfolding identifier
identifier_ends bytes = identifier_or bytes (eat 117 bytes) (eat_ends 117 bytes)

-- Leaves.

named_ends : (bytes : List ℕ) (o : Option (Bool × List ℕ × List ℕ)) → Follows bytes o → Follow bytes (option_and_then named_by o)
named_ends bytes None is = tt
named_ends bytes (Some x) is = is

convention_ends : (bytes : List ℕ) (o : Option (Bool × List ℕ × List ℕ)) → Follows bytes o → Follow bytes (option_and_then convention_by o)
convention_ends bytes None is = tt
convention_ends bytes (Some x) is =
    let found : Chain bytes (convention_by x) = either (not x.0 && nat_lt 0 (length x.1)) (record { ends = is }) stop in
    found.ends

valued_ends : (o : Option (List ℕ)) (bytes : List ℕ) → Follow bytes (valued o bytes)
valued_ends None bytes = tt
valued_ends (Some text) bytes = here bytes

leaf_ends : (bound : ℕ) (bytes : List ℕ) (a : Leaf) → Follow bytes (leaf_of a bound bytes)
unfolding leaf_of
leaf_ends bound bytes (leaf.Say w) = here bytes
leaf_ends bound bytes (leaf.Letter b) = here bytes
leaf_ends bound bytes (leaf.Index n) = here bytes
leaf_ends bound bytes (leaf.Lifetime n) = here bytes
leaf_ends bound bytes (leaf.ForAll n) = here bytes
leaf_ends bound bytes leaf.Disambiguator = mapped (λ (x : ℕ × List ℕ). (Some [], x.1)) (λ x. refl) bytes (after_letter 115 bytes) (after_letter_ends 115 bytes)
leaf_ends bound bytes leaf.Identifier = named_ends bytes (identifier bytes) (identifier_ends bytes)
leaf_ends bound bytes leaf.Convention = convention_ends bytes (identifier bytes) (identifier_ends bytes)
leaf_ends bound bytes leaf.Number = mapped (λ (x : List ℕ × List ℕ). (Some (integer_text x.0), x.1)) (λ x. refl) bytes (hex_digits bytes) (hex_ends bytes)
leaf_ends bound bytes leaf.Boolean = chained (λ (x : List ℕ × List ℕ). valued (boolean_by (hex_from 0 x.0)) x.1) (λ x. valued_ends _ x.1) bytes (hex_digits bytes) (hex_ends bytes)
leaf_ends bound bytes leaf.Character = chained (λ (x : List ℕ × List ℕ). valued (character_by (hex_from 0 x.0)) x.1) (λ x. valued_ends _ x.1) bytes (hex_digits bytes) (hex_ends bytes)
leaf_ends bound bytes leaf.Text = chained (λ (x : List ℕ × List ℕ). valued (string_by (bytes_of x.0)) x.1) (λ x. valued_ends _ x.1) bytes (hex_digits bytes) (hex_ends bytes)
leaf_ends bound bytes leaf.End =
    let found : Chain bytes (leaf_of leaf.End bound bytes) = search (either, stay, stop) in
    found.ends

-- The bytes that are left, if a text is found.
abbrev Leads : List ℕ → Option (List ℕ × List ℕ) → Type 0
Leads bytes None = Unit {0}
Leads bytes (Some x) = IsEnd bytes x.0

abbrev with_rest : List ℕ → List ℕ → List ℕ × List ℕ
with_rest rest text = (rest, text)

shown_ends : (bytes rest : List ℕ) (o : Option (List ℕ)) → IsEnd bytes rest → Leads bytes (option_map (with_rest rest) o)
shown_ends bytes rest None is = tt
shown_ends bytes rest (Some text) is = is

read_by : (visible : Bool) (bytes text : List ℕ) (o : Option (Option (List ℕ) × List ℕ)) → Follow bytes o → Leads bytes (option_and_then (λ (x : Option (List ℕ) × List ℕ). option_map (with_rest x.1) (shown_on visible text x.0)) o)
read_by visible bytes text None is = tt
read_by visible bytes text (Some x) is = shown_ends bytes x.1 (shown_on visible text x.0) is

read_ends : (a : Leaf) (scope : Scope) (bytes text : List ℕ) → Leads bytes (read_leaf a scope bytes text)
unfolding read_leaf
read_ends a scope bytes text = read_by scope.visible bytes text (leaf_of a scope.bound bytes) (leaf_ends scope.bound bytes a)

led : (a b : List ℕ) (o : Option (List ℕ × List ℕ)) → IsEnd a b → Leads b o → Leads a o
led a b None is leads = tt
led a b (Some x) is leads = beyond a b x.0 is leads

led_on : (f : List ℕ × List ℕ → Option (List ℕ × List ℕ)) → ((x : List ℕ × List ℕ) → Leads x.0 (f x)) → (bytes : List ℕ) (o : Option (List ℕ × List ℕ)) → Leads bytes o → Leads bytes (option_and_then f o)
led_on f each bytes None leads = tt
led_on f each bytes (Some x) leads = led bytes x.0 (f x) leads (each x)

crate_ends : (scope : Scope) (bytes text : List ℕ) → Leads bytes (crate_read scope bytes text)
crate_ends scope bytes text = led_on (λ x. read_leaf leaf.Identifier scope x.0 x.1) (λ x. read_ends leaf.Identifier scope x.0 x.1) bytes (read_leaf leaf.Disambiguator scope bytes text) (read_ends leaf.Disambiguator scope bytes text)

name_ends : (scope : Scope) (bytes text : List ℕ) (o : Option (List ℕ)) → Leads bytes (name_read scope o bytes text)
name_ends scope bytes text None = led_on (λ x. read_leaf leaf.Identifier scope x.0 x.1) (λ x. read_ends leaf.Identifier scope x.0 x.1) bytes (read_leaf (leaf.Say word.Scope) scope bytes text) (read_ends (leaf.Say word.Scope) scope bytes text)
name_ends scope bytes text (Some after) = read_ends leaf.Identifier scope bytes text

named_by_ends : (scope : Scope) (bytes text : List ℕ) (o : Option (ℕ × List ℕ)) → Follow bytes o → Leads bytes (option_and_then (λ (x : ℕ × List ℕ). name_read scope (eat 48 x.1) x.1 text) o)
named_by_ends scope bytes text None is = tt
named_by_ends scope bytes text (Some x) is = led bytes x.1 (name_read scope (eat 48 x.1) x.1 text) is (name_ends scope x.1 text (eat 48 x.1))

named_read_ends : (scope : Scope) (bytes text : List ℕ) → Leads bytes (named_read scope bytes text)
named_read_ends scope bytes text = named_by_ends scope bytes text (after_letter 115 bytes) (after_letter_ends 115 bytes)

-- Levels.

space_ends : (outer : Kind) (x : ℕ × List ℕ) → Follow x.1 (nested_by outer x)
space_ends outer x =
    let found : Chain x.1 (nested_by outer x) = search (either, stay, stop) in
    found.ends

nested_ends : (outer : Kind) (bytes : List ℕ) → Chain bytes (nested_parts outer bytes)
unfolding nested_parts
nested_ends outer bytes = record { ends = chained (nested_by outer) (space_ends outer) bytes (front bytes) (front_ends bytes) }

path_ends : (outer : Kind) (opening : Word) (b : ℕ) (bytes : List ℕ) → Chain bytes (path_parts outer opening b bytes)
unfolding path_parts
path_ends outer opening b bytes =
    either (b == 67) stay (either (b == 77) stay (either (b == 88) stay (either (b == 89) stay (either (b == 78) (nested_ends outer bytes) (either (b == 73) stay (either (b == 66) stay stop))))))

closed_ends : (b : ℕ) (bytes : List ℕ) → Chain bytes (closed (path_parts kind.Path word.Less b bytes))
closed_ends b bytes = record {
  ends = mapped (λ (x : List Part × List ℕ). (x.0 ++ Opened false ∷ [], x.1)) (λ x. refl) bytes (path_parts kind.Path word.Less b bytes) (path_ends kind.Path word.Less b bytes).ends;
}

trait_ends : (b : ℕ) (bytes : List ℕ) → Chain bytes (trait_parts b bytes)
unfolding trait_parts
trait_ends b bytes = search (either, stay, closed_ends)

-- The same for bytes that have another byte in front.
after_byte : {A : Type 0} {bytes whole : List ℕ} {o : Option (A × List ℕ)} → IsEnd whole bytes → Chain bytes o → Chain whole o
after_byte {A} {bytes} {whole} {o} is found = record { ends = behind whole bytes o is found.ends }

given : {A : Type 0} {bytes rest : List ℕ} {a : A} → IsEnd bytes rest → Chain bytes (Some (a, rest))
given is = record { ends = is }

type_ends : (whole : List ℕ) (b : ℕ) (bytes : List ℕ) → IsEnd whole bytes → Chain whole (type_parts whole b bytes)
unfolding type_parts
type_ends whole b bytes is =
    let pointers : Chain whole _ = either (b == 80) (given is) (either (b == 79) (given is) (either (b == 70) (given is) (either (b == 68) (given is) (either (b == 66) (given is) stay)))) in
    either (b == 65) (given is) (either (b == 83) (given is) (either (b == 84) (given is) (either (b == 82) (given is) (either (b == 81) (given is) pointers))))

reference_by_ends : (bytes : List ℕ) (o : Option (List ℕ)) → Ends bytes o → IsEnd bytes (reference_by bytes o).1
reference_by_ends bytes None is = here bytes
reference_by_ends bytes (Some after) is = is

reference_ends : (bytes : List ℕ) → Chain bytes (Some (reference_parts bytes))
unfolding reference_parts
reference_ends bytes = record { ends = reference_by_ends bytes (eat 101 bytes) (eat_ends 101 bytes) }

value_ends : (again : Kind) (b : ℕ) (bytes : List ℕ) → Chain bytes (value_parts again b bytes)
unfolding value_parts
value_ends again b bytes =
    let lists : Chain bytes _ = either (b == 65) stay (either (b == 84) stay (either (b == 86) stay (either (b == 66) stay stop))) in
    let others : Chain bytes _ = either (b == 101) stay (either (b == 82) (reference_ends bytes) (either (b == 81) stay lists)) in
    either (b == 112) stay (either (is_unsigned b) stay (either (is_signed b) stay (either (b == 98) stay (either (b == 99) stay others))))

braced_ends : (b : ℕ) (bytes : List ℕ) → Chain bytes (braced (value_parts kind.Constant b bytes))
braced_ends b bytes = record {
  ends = mapped (λ (x : List Part × List ℕ). (say word.OpenBrace ∷ x.0 ++ say word.CloseBrace ∷ [], x.1)) (λ x. refl) bytes (value_parts kind.Constant b bytes) (value_ends kind.Constant b bytes).ends;
}

constant_ends : (b : ℕ) (bytes : List ℕ) → Chain bytes (constant_parts b bytes)
unfolding constant_parts
constant_ends b bytes = either (is_braced b bytes) (braced_ends b bytes) (value_ends kind.Constant b bytes)

deep_by_ends : (whole : List ℕ) (b : ℕ) (bytes : List ℕ) → IsEnd whole bytes → (k : Kind) → Chain whole (deep_by k whole b bytes)
unfolding deep_by
deep_by_ends whole b bytes is kind.Path = after_byte is (path_ends kind.Path word.Less b bytes)
deep_by_ends whole b bytes is kind.ValuePath = after_byte is (path_ends kind.ValuePath word.Turbofish b bytes)
deep_by_ends whole b bytes is kind.TraitPath = after_byte is (trait_ends b bytes)
deep_by_ends whole b bytes is kind.Type = type_ends whole b bytes is
deep_by_ends whole b bytes is kind.Constant = after_byte is (constant_ends b bytes)
deep_by_ends whole b bytes is kind.Value = after_byte is (value_ends kind.Value b bytes)

deep_or : (k : Kind) (bytes : List ℕ) (o : Option (ℕ × List ℕ)) → Follow bytes o → Follow bytes (option_and_then (λ (x : ℕ × List ℕ). deep_by k bytes x.0 x.1) o)
deep_or k bytes None is = tt
deep_or k bytes (Some x) is = (deep_by_ends bytes x.0 x.1 is k).ends

deep_ends : (k : Kind) (bytes : List ℕ) → Follow bytes (deep_parts k bytes)
unfolding deep_parts
deep_ends k bytes = deep_or k bytes (front bytes) (front_ends bytes)

back_by_ends : (size : ℕ) (k : Kind) (visible : Bool) (bytes : List ℕ) (x : ℕ × List ℕ) → Chain x.1 (back_by size k visible bytes x)
back_by_ends size k visible bytes x = either (not (nat_lt (x.0 + 1 + length bytes) size)) stop (either visible stay stay)

back_ends : (size : ℕ) (k : Kind) (visible : Bool) (bytes : List ℕ) → Follow bytes (back_parts size k visible bytes)
unfolding back_parts
back_ends size k visible bytes = chained (back_by size k visible bytes) (λ x. (back_by_ends size k visible bytes x).ends) bytes (base_62 bytes) (base_62_ends bytes)

-- Symbols within a level.

abbrev type_or : List ℕ → List ℕ → Option Word → List Part × List ℕ
type_or bytes after o = elim o [ None ↦ (Deep kind.Type ∷ [], bytes) | Some w ↦ (say w ∷ [], after) ]

type_by_ends : (bytes : List ℕ) (x : ℕ × List ℕ) (o : Option Word) → IsEnd bytes x.1 → IsEnd bytes (type_or bytes x.1 o).1
type_by_ends bytes x None is = here bytes
type_by_ends bytes x (Some w) is = is

any_by_ends : (bytes : List ℕ) (o : Option (ℕ × List ℕ)) → Follow bytes o → Follow bytes (option_map (type_by bytes) o)
any_by_ends bytes None is = tt
any_by_ends bytes (Some x) is = type_by_ends bytes x (basic_type x.0) is

items_by_ends : (i : Item) (n : Count) (bytes : List ℕ) (o : Option (List ℕ)) → Ends bytes o → IsEnd bytes (items_by i n bytes o).1
items_by_ends i n bytes None is = here bytes
items_by_ends i n bytes (Some after) is = is

else_ends : (bytes : List ℕ) (o : Option (List ℕ)) → Ends bytes o → IsEnd bytes (argument_else bytes o).1
else_ends bytes None is = here bytes
else_ends bytes (Some after) is = is

argument_by_ends : (bytes : List ℕ) (o : Option (List ℕ)) → Ends bytes o → Follow bytes (argument_by bytes o)
argument_by_ends bytes None is = else_ends bytes (eat 75 bytes) (eat_ends 75 bytes)
argument_by_ends bytes (Some after) is = behind bytes after (option_map argument_lifetime (base_62 after)) is (mapped argument_lifetime (λ x. refl) after (base_62 after) (base_62_ends after))

bindings_by_ends : (opened : Bool) (bytes : List ℕ) (o : Option (List ℕ)) → Ends bytes o → IsEnd bytes (bindings_by opened bytes o).1
bindings_by_ends opened bytes None is = here bytes
bindings_by_ends opened bytes (Some after) is = is

bindings_ends : (opened : Bool) (bytes : List ℕ) → IsEnd bytes (bindings_parts opened bytes).1
unfolding bindings_parts
bindings_ends opened bytes = bindings_by_ends opened bytes (eat 112 bytes) (eat_ends 112 bytes)

same_rest : (b : Bool) (x y : List Part) (rest : List ℕ) → (cond {A = List Part × List ℕ} b (x, rest) (y, rest)).1 ≡ rest
same_rest true x y rest = refl
same_rest false x y rest = refl

named_same : (space : ℕ) (x : ℕ × List ℕ) → (named_parts space x).1 ≡ x.1
unfolding named_parts
named_same space x = same_rest (nat_le 97 space) _ _ x.1

borrow_same : (x : ℕ × List ℕ) → (borrow_lifetime x).1 ≡ x.1
borrow_same x = same_rest (x.0 == 0) [] (Read (leaf.Lifetime x.0) ∷ sign 32 ∷ []) x.1

outlives_same : (x : ℕ × List ℕ) → (outlives_lifetime x).1 ≡ x.1
outlives_same x = same_rest (x.0 == 0) [] (say word.Plus ∷ Read (leaf.Lifetime x.0) ∷ []) x.1

borrow_by_ends : (bytes : List ℕ) (o : Option (List ℕ)) → Ends bytes o → Follow bytes (borrow_by bytes o)
borrow_by_ends bytes None is = here bytes
borrow_by_ends bytes (Some after) is = behind bytes after (option_map borrow_lifetime (base_62 after)) is (mapped borrow_lifetime borrow_same after (base_62 after) (base_62_ends after))

outlives_by_ends : (bytes : List ℕ) (o : Option (List ℕ)) → Ends bytes o → Follow bytes (outlives_by o)
outlives_by_ends bytes None is = tt
outlives_by_ends bytes (Some after) is = behind bytes after (option_map outlives_lifetime (base_62 after)) is (mapped outlives_lifetime outlives_same after (base_62 after) (base_62_ends after))

convention_of_ends : (bytes : List ℕ) (o : Option (List ℕ)) → Ends bytes o → IsEnd bytes (convention_of bytes o).1
convention_of_ends bytes None is = here bytes
convention_of_ends bytes (Some after) is = is

convention_by_ends : (bytes : List ℕ) (o : Option (List ℕ)) → Ends bytes o → IsEnd bytes (convention_parts_by bytes o).1
convention_by_ends bytes None is = here bytes
convention_by_ends bytes (Some after) is = beyond bytes after (convention_of after (eat 67 after)).1 is (convention_of_ends after (eat 67 after) (eat_ends 67 after))

fields_by_ends : (x : ℕ × List ℕ) → Chain x.1 (fields_by x)
fields_by_ends x = either (x.0 == 85) stay (either (x.0 == 84) stay (either (x.0 == 83) stay stop))

part_by_ends : (p : Part) (bytes : List ℕ) (o : Option (List ℕ)) → Ends bytes o → IsEnd bytes (part_by p bytes o).1
part_by_ends p bytes None is = here bytes
part_by_ends p bytes (Some after) is = is

part_after_ends : (letter : ℕ) (p : Part) (bytes : List ℕ) → IsEnd bytes (part_after letter p bytes).1
unfolding part_after
part_after_ends letter p bytes = part_by_ends p bytes (eat letter bytes) (eat_ends letter bytes)

returned_by_ends : (bytes : List ℕ) (o : Option (List ℕ)) → Ends bytes o → IsEnd bytes (returned_by bytes o).1
returned_by_ends bytes None is = here bytes
returned_by_ends bytes (Some after) is = is

phrase_ends : (opened : Bool) (bytes : List ℕ) (p : Phrase) → Follow bytes (phrase_parts p opened bytes)
unfolding phrase_parts any_type_parts items_parts argument_parts borrow_parts outlives_parts convention_parts fields_parts returned_parts
phrase_ends opened bytes phrase.AnyType = any_by_ends bytes (front bytes) (front_ends bytes)
phrase_ends opened bytes (phrase.Items i n) = items_by_ends i n bytes (eat 69 bytes) (eat_ends 69 bytes)
phrase_ends opened bytes phrase.Argument = argument_by_ends bytes (eat 76 bytes) (eat_ends 76 bytes)
phrase_ends opened bytes phrase.Bindings = bindings_ends opened bytes
phrase_ends opened bytes phrase.LaterBindings = bindings_ends true bytes
phrase_ends opened bytes (phrase.Named space) = mapped (named_parts space) (named_same space) bytes (after_letter 115 bytes) (after_letter_ends 115 bytes)
phrase_ends opened bytes phrase.Borrow = borrow_by_ends bytes (eat 76 bytes) (eat_ends 76 bytes)
phrase_ends opened bytes phrase.Outlives = outlives_by_ends bytes (eat 76 bytes) (eat_ends 76 bytes)
phrase_ends opened bytes phrase.Unsafety = part_after_ends 85 (say word.Unsafe) bytes
phrase_ends opened bytes phrase.Convention = convention_by_ends bytes (eat 75 bytes) (eat_ends 75 bytes)
phrase_ends opened bytes phrase.Returned = returned_by_ends bytes (eat 117 bytes) (eat_ends 117 bytes)
phrase_ends opened bytes phrase.Fields = chained fields_by (λ x. (fields_by_ends x).ends) bytes (front bytes) (front_ends bytes)
phrase_ends opened bytes phrase.Sign = part_after_ends 110 (sign 45) bytes

-- Symbols with a scope of their own.

bound_ends : (n : ℕ) (parts : List Part) (bytes rest : List ℕ) (o : Option Scope) → IsEnd bytes rest → Follows bytes (option_map (with_lifetimes n parts rest) o)
bound_ends n parts bytes rest None is = tt
bound_ends n parts bytes rest (Some scope) is = is

binder_by_ends : (parts : List Part) (scope : Scope) (bytes : List ℕ) (o : Option (ℕ × List ℕ)) → Follow bytes o → Follows bytes (option_and_then (binder_by parts scope) o)
binder_by_ends parts scope bytes None is = tt
binder_by_ends parts scope bytes (Some x) is = bound_ends x.0 parts bytes x.1 (bound_in scope x.0) is

instance_ends : (b : Bool) (scope : Scope) (bytes : List ℕ) → Follows bytes (cond b (Some (Deep kind.Path ∷ [], hidden scope, bytes)) (Some ([], scope, bytes)))
instance_ends true scope bytes = here bytes
instance_ends false scope bytes = here bytes

inner_ends : (scope : Scope) (bytes : List ℕ) (p : Inner) → Follows bytes (inner_parts p scope bytes)
unfolding inner_parts binder_parts
inner_ends scope bytes inner.ImplPath = here bytes
inner_ends scope bytes inner.Instance = instance_ends (begins_path (front bytes)) scope bytes
inner_ends scope bytes inner.Function = binder_by_ends function_parts scope bytes (after_letter 71 bytes) (after_letter_ends 71 bytes)
inner_ends scope bytes inner.Object = binder_by_ends (list_of item.Bound ∷ []) scope bytes (after_letter 71 bytes) (after_letter_ends 71 bytes)

-- Frames.

own_ends : (levels width : ℕ) (bytes : List ℕ) (o : Option (List Part × Scope × List ℕ)) → Follows bytes o → Follow bytes (option_map (in_own_scope levels width) o)
own_ends levels width bytes None is = tt
own_ends levels width bytes (Some x) is = is

level_by_ends : (size : ℕ) (scope : Scope) (bytes : List ℕ) (p : Part) → Follow bytes (level_by size scope p bytes)
level_by_ends size scope bytes (Deep k) = deep_ends k bytes
level_by_ends size scope bytes (Back k) = back_ends size k scope.visible bytes
level_by_ends size scope bytes (Made p) = tt
level_by_ends size scope bytes (Within p) = tt
level_by_ends size scope bytes (Read p) = tt
level_by_ends size scope bytes (Goto q) = tt
level_by_ends size scope bytes (Opened q) = tt

level_in_ends : (size : ℕ) (scope : Scope) (p : Part) (bytes : List ℕ) (levels : ℕ) → Follow bytes (level_in size scope p bytes levels)
level_in_ends size scope p bytes zero = tt
level_in_ends size scope p bytes (suc levels) = mapped (in_scope scope levels (size + 8)) (λ x. refl) bytes (level_by size scope p bytes) (level_by_ends size scope bytes p)

phrase_in_ends : (p : Phrase) (scope : Scope) (levels : ℕ) (opened : Bool) (bytes : List ℕ) (width : ℕ) → Follow bytes (phrase_in p scope levels opened bytes width)
phrase_in_ends p scope levels opened bytes zero = tt
phrase_in_ends p scope levels opened bytes (suc width) = mapped (in_scope scope levels width) (λ x. refl) bytes (phrase_parts p opened bytes) (phrase_ends opened bytes p)

inner_in_ends : (p : Inner) (scope : Scope) (levels : ℕ) (bytes : List ℕ) (width : ℕ) → Follow bytes (inner_in p scope levels bytes width)
inner_in_ends p scope levels bytes zero = tt
inner_in_ends p scope levels bytes (suc width) = own_ends levels width bytes (inner_parts p scope bytes) (inner_ends scope bytes p)

expand_by_ends : (size : ℕ) (frame : Frame) (opened : Bool) (bytes : List ℕ) (p : Part) → Follow bytes (expand_by size frame opened bytes p)
expand_by_ends size frame opened bytes (Made p) = phrase_in_ends p frame.scope frame.levels opened bytes frame.width
expand_by_ends size frame opened bytes (Within p) = inner_in_ends p frame.scope frame.levels bytes frame.width
expand_by_ends size frame opened bytes (Deep k) = level_in_ends size frame.scope frame.part bytes frame.levels
expand_by_ends size frame opened bytes (Back k) = level_in_ends size frame.scope frame.part bytes frame.levels
expand_by_ends size frame opened bytes (Read p) = level_in_ends size frame.scope frame.part bytes frame.levels
expand_by_ends size frame opened bytes (Goto q) = level_in_ends size frame.scope frame.part bytes frame.levels
expand_by_ends size frame opened bytes (Opened q) = level_in_ends size frame.scope frame.part bytes frame.levels

expand_ends : (size : ℕ) (frame : Frame) (opened : Bool) (bytes : List ℕ) → Follow bytes (expand size frame opened bytes)
unfolding expand
expand_ends size frame opened bytes = expand_by_ends size frame opened bytes frame.part

expanded_by_end : (old new : List Frame) (bytes after : List ℕ) (o : Option (List Frame × List ℕ)) → Follow bytes o → Expanded old new o (Some after) → IsEnd bytes after
expanded_by_end old new bytes after None follows is = absurd is
expanded_by_end old new bytes after (Some x) follows is = subst (IsEnd bytes) is.2 follows

-- What is left of a name.

left : (name bytes more : List ℕ) (o : Option (Bor (List ℕ))) → IsEnd name bytes → Leads bytes (option_map (λ (a : Bor (List ℕ)). (a.now, more)) o) → IfSome o (λ a. IsEnd name a.now)
left name bytes more None ends leads = tt
left name bytes more (Some a) ends leads = beyond name bytes a.now ends leads

pub leaf_end : (a : Leaf) (scope : Scope) (name bytes text more : List ℕ) (o : Option (Bor (List ℕ))) → IsEnd name bytes → read_leaf a scope bytes text ≡ option_map (λ (r : Bor (List ℕ)). (r.now, more)) o → IfSome o (λ r. IsEnd name r.now)
leaf_end a scope name bytes text more o ends reads = left name bytes more o ends (subst (Leads bytes) reads (read_ends a scope bytes text))

pub named_end : (scope : Scope) (name bytes text more : List ℕ) (o : Option (Bor (List ℕ))) → IsEnd name bytes → named_read scope bytes text ≡ option_map (λ (r : Bor (List ℕ)). (r.now, more)) o → IfSome o (λ r. IsEnd name r.now)
named_end scope name bytes text more o ends reads = left name bytes more o ends (subst (Leads bytes) reads (named_read_ends scope bytes text))

pub crate_end : (scope : Scope) (name rest after text more : List ℕ) (o : Option (Bor (List ℕ))) → IsEnd name rest → rest ≡ 67 ∷ after → crate_read scope after text ≡ option_map (λ (r : Bor (List ℕ)). (r.now, more)) o → IfSome o (λ r. IsEnd name r.now)
crate_end scope name rest after text more o ends begins reads =
    left name after more o (beyond name rest after ends (subst (λ r. IsEnd r after) (sym begins) (next 67 after))) (subst (Leads after) reads (crate_ends scope after text))

pub nested_end : (start bytes after : List ℕ) (space : ℕ) → IsEnd start bytes → bytes ≡ 78 ∷ space ∷ after → IsEnd start after
nested_end start bytes after space ends begins =
    beyond start bytes after ends (subst (λ r. IsEnd r after) (sym begins) (beyond (78 ∷ space ∷ after) (space ∷ after) after (next 78 (space ∷ after)) (next space after)))

pub back_end : (bytes after : List ℕ) → bytes ≡ 66 ∷ after → IsEnd bytes after
back_end bytes after begins = subst (λ r. IsEnd r after) (sym begins) (next 66 after)

pub expanded_end : (size : ℕ) (frame : Frame) (opened : Bool) (old new : List Frame) (name bytes after : List ℕ) → IsEnd name bytes → Expanded old new (expand size frame opened bytes) (Some after) → IsEnd name after
expanded_end size frame opened old new name bytes after ends is = beyond name bytes after ends (expanded_by_end old new bytes after (expand size frame opened bytes) (expand_ends size frame opened bytes) is)

-- A suffix begins at a place of the name.

pub shorter : (bytes rest : List ℕ) → IsEnd bytes rest → length rest ≤ length bytes
shorter bytes rest is = omega (arith, length-drop is.place bytes, ap length is.is)

place_within : (bytes rest : List ℕ) (k : ℕ) → rest ≡ drop k bytes → k ≤ length bytes → rest ≡ drop (length bytes - length rest) bytes
place_within bytes rest k is within = is ∙ ap (λ n. drop n bytes) (let e : k ≡ length bytes - length rest = omega (arith, length-drop k bytes, ap length is, within) in e)

place_beyond : (bytes rest : List ℕ) (k : ℕ) → rest ≡ drop k bytes → length bytes ≤ k → rest ≡ drop (length bytes - length rest) bytes
place_beyond bytes rest k is over = is ∙ drop_all k bytes over ∙ sym (drop_all (length bytes - length rest) bytes (omega (arith, length-drop k bytes, ap length is, over)))

pub placed : (bytes rest : List ℕ) → IsEnd bytes rest → rest ≡ drop (length bytes - length rest) bytes
placed bytes rest is = ⊎_elim (λ over. place_beyond bytes rest is.place is.is (omega (arith, over))) (place_within bytes rest is.place is.is) (cases_lt (length bytes) is.place)
