-- Worked examples: function symbols that no piece covers.
use Rattle.std.proofs.Common.{◌≡◌, ℕ, Bool, true, false, List, [], ◌∷◌, codes, rules}
use Rattle.elf_sections.specs.Symbols.{SymbolParts}
use Rattle.func_flatten.specs.declared.piece.Piece.{Piece}
use Rattle.func_flatten.specs.Publics.{PublicParts, publics}
use Rattle.func_flatten.proofs.Computing.{func_flatten_computes}

abbrev symbol : ℕ → List ℕ → SymbolParts
symbol address name = record { address = address; name = name }

abbrev piece : ℕ → ℕ → Piece
piece start end = record { unit = 0; entry = 1; start = start; end = end; many = false }

abbrev public : ℕ → Bool → List ℕ → PublicParts
public address many name = record { address = address; many = many; name = name }

record Symbols : Type 0 where
  -- A symbol inside a function.
  inside : publics (piece 0x1000 0x1010 ∷ []) (symbol 0x1004 (codes "x") ∷ []) ≡ []
  -- Symbols at the first and the last address of a function, at its end, and below it.
  around : publics (piece 0x1000 0x1010 ∷ []) (symbol 0x1010 (codes "end") ∷ symbol 0x1000 (codes "first") ∷ symbol 0x100f (codes "last") ∷ symbol 0x0fff (codes "below") ∷ []) ≡ public 0x0fff false (codes "below") ∷ public 0x1010 false (codes "end") ∷ []
  -- A symbol between two pieces.
  between_pieces : publics (piece 2 4 ∷ piece 5 7 ∷ []) (symbol 4 (codes "x") ∷ symbol 5 (codes "y") ∷ []) ≡ public 4 false (codes "x") ∷ []
  -- Several symbols at one address: the first name, marked if there is another name.
  several : publics [] (symbol 8 (codes "b") ∷ symbol 4 (codes "x") ∷ symbol 8 (codes "a") ∷ symbol 4 (codes "x") ∷ []) ≡ public 4 false (codes "x") ∷ public 8 true (codes "b") ∷ []
  -- Names are compared after cleaning.
  cleaned_names : publics [] (symbol 4 (codes " ?") ∷ symbol 4 (9 ∷ []) ∷ []) ≡ public 4 false (codes "?") ∷ []
  -- No symbol, and a symbol at the last address.
  no_symbol : publics (piece 2 4 ∷ []) [] ≡ []
  last_address : publics (piece 0 18446744073709551615 ∷ []) (symbol 18446744073709551615 (codes "x") ∷ symbol 18446744073709551614 (codes "y") ∷ []) ≡ public 18446744073709551615 false (codes "x") ∷ []

symbols : Symbols
unfolding func_flatten_computes
symbols = search rules
