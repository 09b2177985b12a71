-- The reading of frame rules (Breakpad's symbol_files.md). The rest of a line after its numbers is
-- split into words at spaces. A word that ends with `:` begins a rule. Any fault inside the rules
-- has the kind `Rule`.
use Rattle.std.specs.Prelude.{ℕ, ◌-◌, ◌==◌, ◌||◌, ◌&&◌, Bool, true, false, not, nat_lt, nat_le, if◌then◌else◌, ℤ, pos, neg_ℤ, List, [], ◌∷◌, length, take, drop, slice_index, codes, Option, Some, None, ok_or, Result, Ok, Err}
use Rattle.std.specs.Option.{option_or, option_map, option_map_or}
use Rattle.std.specs.List.{list_all, position}
use Rattle.std.specs.Char.{digit_value}
use Rattle.std.specs.Str.{bytes_eq}
use Rattle.std.specs.Str.Parse.{digits_value}
use Rattle.sym_edges.specs.Results.{◌>>=◌}
use Rattle.sym_rules.specs.Cuts.{onto, last_is}
use Rattle.sym_edges.specs.Abi.{register_names}
use Rattle.sym_edges.specs.Integers.{fits_i64}
use Rattle.sym_rules.specs.declared.rules.Target.{Target}
use Rattle.sym_rules.specs.declared.rules.Target.TheVariants as target
use Rattle.sym_rules.specs.declared.rules.Token.{Token}
use Rattle.sym_rules.specs.declared.rules.Token.TheVariants as token
use Rattle.sym_rules.specs.declared.rules.RuleText.{RuleText}
use Rattle.sym_rules.specs.declared.text_fault.TextKind.{TextKind}
use Rattle.sym_rules.specs.declared.text_fault.TextKind.TheVariants.{Rule}

-- whether the next byte is a space, or no byte is left
abbrev pub ends_word : List ℕ → Bool
ends_word [] = true
ends_word (b ∷ bytes) = b == 32

-- the words of bytes: a word ends before a space or at the end of the bytes
unfoldable pub words : List ℕ → List (List ℕ)
words [] = []
words (b ∷ bytes) =
    if b == 32 then words bytes
    else if ends_word bytes then (b ∷ []) ∷ words bytes
    else onto b (words bytes)

-- whether a word ends with `:`
abbrev pub ends_in_colon : List ℕ → Bool
ends_in_colon word = last_is (λ b. b == 58) word

-- whether the next word begins a rule
abbrev pub begins_rule : List (List ℕ) → Bool
begins_rule [] = false
begins_rule (word ∷ later) = ends_in_colon word

-- the words of each rule: each word that ends with `:` begins a rule
unfoldable pub groups : List (List ℕ) → List (List (List ℕ))
groups [] = []
groups (word ∷ later) = if begins_rule later then (word ∷ []) ∷ groups later else onto word (groups later)

-- a byte with which a name in a rule may begin: `$`, `.` or an ASCII letter
abbrev pub begins_symbol : ℕ → Bool
begins_symbol b = b == 36 || b == 46 || (nat_le 65 b && nat_le b 90) || (nat_le 97 b && nat_le b 122)

-- a name in a rule: it begins with such a byte, and does not end with `:`
unfoldable pub is_symbol : List ℕ → Bool
is_symbol name = begins_symbol (slice_index name 0) && not (ends_in_colon name)

-- the DWARF number of a register, given its name
unfoldable pub register_of : List ℕ → Option ℕ
register_of name = position (bytes_eq name) register_names

-- the target that a name stands for
unfoldable pub named_target : List ℕ → Target
named_target name =
    if bytes_eq name (codes ".cfa") then target.Cfa
    else if bytes_eq name (codes ".ra") then target.Ra
    else option_map_or target.Reg (register_of name) (target.Other name)

-- bytes without the last byte
abbrev pub but_last : List ℕ → List ℕ
but_last bytes = take (length bytes - 1) bytes

-- the target of a word that ends with `:`
unfoldable pub target_at : List ℕ → Result Target TextKind
target_at word = if ends_in_colon word && is_symbol (but_last word) then Ok (named_target (but_last word)) else Err Rule

-- a decimal digit
abbrev pub is_digit : ℕ → Bool
is_digit b = nat_lt (digit_value b) 10

-- one to 20 decimal digits
unfoldable pub are_digits : List ℕ → Bool
are_digits bytes = nat_lt 0 (length bytes) && nat_le (length bytes) 20 && list_all is_digit bytes

-- an integer, if it is in the range of i64
abbrev pub in_i64 : ℤ → Option ℤ
in_i64 n = if fits_i64 n then Some n else None

-- an integer: an optional `-`, then digits
unfoldable pub integer_of : List ℕ → Option ℤ
integer_of word =
    if slice_index word 0 == 45 then (if are_digits (drop 1 word) then in_i64 (neg_ℤ (pos (digits_value 10 (drop 1 word)))) else None)
    else if are_digits word then in_i64 (pos (digits_value 10 word))
    else None

-- the operator that a word spells
unfoldable pub sign_of : List ℕ → Option Token
sign_of word =
    if bytes_eq word (codes "+") then Some token.Add
    else if bytes_eq word (codes "-") then Some token.Sub
    else if bytes_eq word (codes "*") then Some token.Mul
    else if bytes_eq word (codes "/") then Some token.Div
    else if bytes_eq word (codes "%") then Some token.Rem
    else if bytes_eq word (codes "@") then Some token.Align
    else if bytes_eq word (codes "^") then Some token.Fetch
    else None

-- the token that a name stands for
unfoldable pub named_token : List ℕ → Token
named_token name =
    if bytes_eq name (codes ".cfa") then token.Cfa
    else if bytes_eq name (codes ".undef") then token.Undef
    else option_map_or token.Reg (register_of name) (token.Other name)

-- the token of a word: a name, an integer or an operator
unfoldable pub token_at : List ℕ → Result Token TextKind
token_at word =
    if is_symbol word then Ok (named_token word)
    else ok_or (option_or (option_map token.Number (integer_of word)) (sign_of word)) Rule

-- the results of `f` for all members, in order, or the first fault
unfoldable pub each : {A B : Type 0} → (A → Result B TextKind) → List A → Result (List B) TextKind
each f [] = Ok []
each f (x ∷ xs) = do
  y ← f x
  ys ← each f xs
  Ok (y ∷ ys)

-- the list, or a fault if it is empty
abbrev pub some_of : {A : Type 0} → List A → Result (List A) TextKind
some_of [] = Err Rule
some_of (x ∷ xs) = Ok (x ∷ xs)

-- a rule: a target and at least one token
unfoldable pub rule_at : List (List ℕ) → Result RuleText TextKind
rule_at [] = Err Rule
rule_at (word ∷ later) = do
  target ← target_at word
  given ← some_of later
  tokens ← each token_at given
  Ok (record { target = target; tokens = tokens })

-- the rules of a line, or a fault if there is none
unfoldable pub rules_at : List ℕ → Result (List RuleText) TextKind
rules_at bytes = do
  given ← some_of (groups (words bytes))
  each rule_at given
