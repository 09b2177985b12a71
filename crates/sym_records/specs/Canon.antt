-- The canonical spelling of a record (Breakpad's symbol_files.md): a keyword, its fields with one
-- space before each, and LF at the end. Numbers are in lower-case hexadecimal or in decimal, in
-- both cases without leading zeros.
use Rattle.std.specs.Prelude.{ℕ, List, [], ◌∷◌, ◌++◌, drop, codes}
use Rattle.std.specs.List.{flat_map}
use Rattle.sym_records.specs.Fields.{spelled, hex}
use Rattle.sym_records.specs.Records.{layout, headed, keyword, values}
use Rattle.sym_records.specs.declared.line.SymLine.{SymLine}

-- a word, then more words with one space before each
abbrev pub spaced : List ℕ → List (List ℕ) → List ℕ
spaced word rest = word ++ flat_map (λ field. 32 ∷ field) rest

-- a record without LF; the space before its first word is left out
unfoldable pub body : SymLine → List ℕ
body s = drop 1 (headed (keyword s) ++ spelled (layout (keyword s)) (values s))

-- the one canonical spelling of a record
unfoldable pub canon : SymLine → List ℕ
canon s = body s ++ 10 ∷ []

-- the canonical spellings of records, one after another
unfoldable pub canon_text : List SymLine → List ℕ
canon_text lines = flat_map canon lines

-- a frame record up to its rules: its keyword and its numbers
unfoldable pub init_front : ℕ → ℕ → List ℕ
init_front address size = codes "STACK CFI INIT" ++ ((32 ∷ hex address) ++ (32 ∷ hex size))

unfoldable pub change_front : ℕ → List ℕ
change_front address = codes "STACK CFI" ++ (32 ∷ hex address)
