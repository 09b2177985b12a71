-- The values of constants, for `bytes_of`.
use Rattle.std.proofs.Common.{◌≡◌, ℕ, ◌+◌, ◌*◌, nat_eq, cond, Bool, true, false, List, [], ◌∷◌, ◌++◌, IsUtf8, chars, Option, Some, None, refl, sym, ◌∙◌, ap, append_assoc}
use Rattle.std.specs.Option.{option_map}
use Rattle.std.specs.Str.{is_utf8}
use Rattle.std.proofs.lemmas.Str.{IsUtf8-from_is_utf8, is_utf8-from_IsUtf8}
use Rattle.std.proofs.lemmas.List.{append-nil}
use Rattle.rust_names.specs.V0Numbers.{front, hex_digit}
use Rattle.rust_names.specs.V0Texts.{byte_by, bytes_of, quoted, string_by}
use Rattle.rust_names.specs.V0Identifiers.{hyphened, decoded, identifier_text}
use Rattle.rust_names.specs.V0Leaves.{is_end}
use Rattle.rust_names.proofs.NumberLemmas.{front_is, front_end}

pair_is : (a b : ℕ) (digits : List ℕ) → bytes_of (a ∷ b ∷ digits) ≡ byte_by (hex_digit a) (hex_digit b) (bytes_of digits)
unfolding bytes_of
pair_is a b digits = refl

single_is : (a : ℕ) → bytes_of (a ∷ []) ≡ None
unfolding bytes_of
single_is a = refl

none_is : bytes_of [] ≡ Some []
unfolding bytes_of
none_is = refl

joined : (high low : ℕ) (later : Option (List ℕ)) → byte_by (Some high) (Some low) later ≡ option_map (λ ys. (high * 16 + low) ∷ ys) later
joined high low None = refl
joined high low (Some ys) = refl

at_front : (a b : ℕ) (digits after : List ℕ) → Some (b, after) ≡ front digits → bytes_of (a ∷ digits) ≡ byte_by (hex_digit a) (hex_digit b) (bytes_of after)
at_front a b digits after is = ap (λ xs. bytes_of (a ∷ xs)) (front_is b after digits is) ∙ pair_is a b after

pub byte_some : (a b high low : ℕ) (digits after : List ℕ) → Some (b, after) ≡ front digits → Some high ≡ hex_digit a → Some low ≡ hex_digit b → bytes_of (a ∷ digits) ≡ option_map (λ ys. (high * 16 + low) ∷ ys) (bytes_of after)
byte_some a b high low digits after is first second = at_front a b digits after is ∙ ap (λ h. byte_by h (hex_digit b) (bytes_of after)) (sym first) ∙ ap (λ l. byte_by (Some high) l (bytes_of after)) (sym second) ∙ joined high low (bytes_of after)

pub one_digit : (a : ℕ) (digits : List ℕ) → None ≡ front digits → bytes_of (a ∷ digits) ≡ None
one_digit a digits is = ap (λ xs. bytes_of (a ∷ xs)) (front_end digits is) ∙ single_is a

pub no_high : (a b : ℕ) (digits after : List ℕ) → Some (b, after) ≡ front digits → None ≡ hex_digit a → bytes_of (a ∷ digits) ≡ None
no_high a b digits after is none = at_front a b digits after is ∙ ap (λ h. byte_by h (hex_digit b) (bytes_of after)) (sym none)

pub no_low : (a b high : ℕ) (digits after : List ℕ) → Some (b, after) ≡ front digits → Some high ≡ hex_digit a → None ≡ hex_digit b → bytes_of (a ∷ digits) ≡ None
no_low a b high digits after is first none = at_front a b digits after is ∙ ap (λ h. byte_by h (hex_digit b) (bytes_of after)) (sym first) ∙ ap (λ l. byte_by (Some high) l (bytes_of after)) (sym none)

-- The bytes that were read, and those still to be read.

abbrev pub onto : List ℕ → Option (List ℕ) → Option (List ℕ)
onto front later = option_map (λ ys. front ++ ys) later

one_more : (front : List ℕ) (b : ℕ) (o : Option (List ℕ)) → onto front (option_map (λ ys. b ∷ ys) o) ≡ onto (front ++ b ∷ []) o
one_more front b None = refl
one_more front b (Some ys) = ap Some (sym (append_assoc front (b ∷ []) ys))

pub bytes_more : (digits rest more after held new : List ℕ) (a b : ℕ) → bytes_of digits ≡ onto held (bytes_of rest) → Some (a, more) ≡ front rest → bytes_of (a ∷ more) ≡ option_map (λ ys. b ∷ ys) (bytes_of after) → new ≡ held ++ b ∷ [] → bytes_of digits ≡ onto new (bytes_of after)
bytes_more digits rest more after held new a b so_far is one grows =
    so_far ∙ ap (onto held) (ap bytes_of (front_is a more rest is) ∙ one) ∙ one_more held b (bytes_of after) ∙ ap (λ xs. onto xs (bytes_of after)) (sym grows)

pub bytes_none : (digits rest more held : List ℕ) (a : ℕ) → bytes_of digits ≡ onto held (bytes_of rest) → Some (a, more) ≡ front rest → bytes_of (a ∷ more) ≡ None → None ≡ bytes_of digits
bytes_none digits rest more held a so_far is none = sym (so_far ∙ ap (onto held) (ap bytes_of (front_is a more rest is) ∙ none))

pub bytes_end : (digits rest held : List ℕ) → bytes_of digits ≡ onto held (bytes_of rest) → None ≡ front rest → Some held ≡ bytes_of digits
bytes_end digits rest held so_far ends = sym (so_far ∙ ap (onto held) (ap bytes_of (front_end rest ends) ∙ none_is) ∙ ap Some (append-nil held))

-- Suffixes of names.

pub end_some : (bytes after : List ℕ) (b : ℕ) → Some (b, after) ≡ front bytes → nat_eq b 46 ≡ is_end bytes
end_some bytes after b is = sym (ap is_end (front_is b after bytes is))

pub end_none : (bytes : List ℕ) → None ≡ front bytes → true ≡ is_end bytes
end_none bytes is = sym (ap is_end (front_end bytes is))

-- Texts in UTF-8.

not_utf8 : (bytes : List ℕ) (b : Bool) → is_utf8 bytes ≡ b → (IsUtf8 bytes → ⊥) → is_utf8 bytes ≡ false
not_utf8 bytes true is isnt = absurd (isnt (IsUtf8-from_is_utf8 bytes is))
not_utf8 bytes false is isnt = is

pub text_ok : (o : Option (List ℕ)) (bytes slice string cs : List ℕ) → Some bytes ≡ o → slice ≡ bytes → string ≡ slice → IsUtf8 slice → cs ≡ chars string → string_by o ≡ Some (quoted 34 cs)
text_ok o bytes slice string cs is first second good third =
    ap string_by (sym is) ∙ ap (λ bs. string_by (Some bs)) (sym first) ∙ ap (λ b. cond b (Some (quoted 34 (chars slice))) None) (is_utf8-from_IsUtf8 slice good)
    ∙ ap (λ xs. Some (quoted 34 xs)) (sym (third ∙ ap chars second))

pub text_bad : (o : Option (List ℕ)) (bytes slice : List ℕ) → Some bytes ≡ o → slice ≡ bytes → (IsUtf8 slice → ⊥) → string_by o ≡ None
text_bad o bytes slice is first bad =
    ap string_by (sym is) ∙ ap (λ bs. string_by (Some bs)) (sym first) ∙ ap (λ b. cond b (Some (quoted 34 (chars slice))) None) (not_utf8 slice (is_utf8 slice) refl bad)

pub marked_ok : (marked : Bool) (bytes input slice string : List ℕ) → marked ≡ true → input ≡ hyphened bytes → slice ≡ input → string ≡ slice → IsUtf8 slice → identifier_text marked bytes ≡ decoded string
unfolding identifier_text
marked_ok true bytes input slice string is first second third good =
    ap (λ xs. cond (is_utf8 xs) (decoded xs) None) (sym (second ∙ first)) ∙ ap (λ b. cond b (decoded slice) None) (is_utf8-from_IsUtf8 slice good) ∙ ap decoded (sym third)
marked_ok false bytes input slice string is first second third good = cc

pub marked_bad : (marked : Bool) (bytes input slice : List ℕ) → marked ≡ true → input ≡ hyphened bytes → slice ≡ input → (IsUtf8 slice → ⊥) → identifier_text marked bytes ≡ None
unfolding identifier_text
marked_bad true bytes input slice is first second bad =
    ap (λ xs. cond (is_utf8 xs) (decoded xs) None) (sym (second ∙ first)) ∙ ap (λ b. cond b (decoded slice) None) (not_utf8 slice (is_utf8 slice) refl bad)
marked_bad false bytes input slice is first second bad = cc
