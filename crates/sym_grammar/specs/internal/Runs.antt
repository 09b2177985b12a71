-- Digits and words, read one after another in the order of the code.
use Rattle.std.specs.Prelude.{ℕ, ◌+◌, ◌*◌, nat_le, nat_lt, ◌&&◌, if◌then◌else◌, List, [], ◌∷◌, ◌++◌, length, Option, Some, None, Result, Ok, Err}
use Rattle.std.specs.Char.{digit_value}
use Rattle.sym_records.specs.FieldReading.{hex_of, hex_at}
use Rattle.sym_records.specs.declared.line.Extent.{Extent}
use Rattle.sym_edges.specs.Results.{◌>>=◌}
use Rattle.sym_rules.specs.Cuts.{before, from}
use Rattle.sym_rules.specs.RuleReading.{is_digit, ends_in_colon, target_at, token_at, some_of}
use Rattle.sym_rules.specs.declared.rules.Token.{Token}
use Rattle.sym_rules.specs.declared.rules.RuleText.{RuleText}
use Rattle.sym_rules.specs.declared.text_fault.TextKind.{TextKind}
use Rattle.sym_rules.specs.declared.text_fault.TextKind.TheVariants.{Rule}

-- the number in a field, and the bytes after the field
unfoldable pub hex_field : List ℕ → Result (ℕ × List ℕ) TextKind
hex_field field = hex_of (before 32 field) >>= λ n. Ok (n, from 32 field)

-- the value of a decimal digit
abbrev pub ten_digit : ℕ → Option ℕ
ten_digit d = if is_digit d then Some (digit_value d) else None

-- n followed by these decimal digits, as one number, if it is at most `limit`
unfoldable pub upto : ℕ → ℕ → List ℕ → Option ℕ
upto limit n [] = if nat_le n limit then Some n else None
upto limit n (d ∷ ds) = if is_digit d then upto limit (n * 10 + digit_value d) ds else None

-- the value of one to 20 decimal digits, if it is at most `limit`
unfoldable pub digits_upto : ℕ → List ℕ → Option ℕ
digits_upto limit ds = if nat_lt 0 (length ds) && nat_le (length ds) 20 then upto limit 0 ds else None

-- the members xs, followed by those that were read; or the fault
abbrev pub behind : {A : Type 0} → List A → Result (List A) TextKind → Result (List A) TextKind
behind xs read = read >>= λ ys. Ok (xs ++ ys)

-- a token, followed by the tokens of a run; or the fault
abbrev pub grown : Token → Result (List Token × List (List ℕ)) TextKind → Result (List Token × List (List ℕ)) TextKind
grown t run = run >>= λ x. Ok (t ∷ x.0, x.1)

-- the tokens up to the next word that ends with `:`, and the words from there on
unfoldable pub token_run : List (List ℕ) → Result (List Token × List (List ℕ)) TextKind
token_run [] = Ok ([], [])
token_run (w ∷ ws) = if ends_in_colon w then Ok ([], w ∷ ws) else token_at w >>= λ t. grown t (token_run ws)

-- the first rule in words, and the words after it
unfoldable pub rule_run : List (List ℕ) → Result (RuleText × List (List ℕ)) TextKind
rule_run [] = Err Rule
rule_run (w ∷ ws) = do
  target ← target_at w
  run ← token_run ws
  tokens ← some_of run.0
  Ok (record { target = target; tokens = tokens }, run.1)

-- tokens, followed by the tokens of a run; or the fault
abbrev pub put_before : List Token → Result (List Token × List (List ℕ)) TextKind → Result (List Token × List (List ℕ)) TextKind
put_before ts run = run >>= λ x. Ok (ts ++ x.0, x.1)

-- the next range, and the bytes after it
unfoldable pub range_run : List ℕ → Result (Extent × List ℕ) TextKind
range_run bytes = do
  address ← hex_at bytes
  size ← hex_at address.1
  Ok (record { address = address.0; size = size.0 }, size.1)
