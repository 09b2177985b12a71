-- Symbols sorted by address, in groups with one address.
use Rattle.std.specs.Prelude.{◌≡◌, ℕ, Bool, true, not, List, [], ◌∷◌, if◌then◌else◌, nat_le}
use Rattle.std.specs.List.{list_all}
use Rattle.sym_edges.specs.Addresses.{Range}
use Rattle.range_set.specs.Members.{holds_any}
use Rattle.elf_sections.specs.Symbols.{SymbolParts}
use Rattle.func_flatten.specs.Publics.{stands_at, names_of, PublicParts, public_named}

-- the symbols are sorted by address
abbrev pub IsOrdered : List SymbolParts → Type 0
IsOrdered [] = Unit {0}
IsOrdered (s ∷ symbols) = (list_all (λ t. nat_le s.address t.address) symbols ≡ true) × IsOrdered symbols

-- the first symbol has another address, or there is no symbol
abbrev pub starts_elsewhere : ℕ → List SymbolParts → Bool
starts_elsewhere a [] = true
starts_elsewhere a (s ∷ symbols) = not (stands_at a s)

-- what is said of the symbols with one address, unless the address is covered
abbrev pub group_public : Bool → List SymbolParts → List PublicParts
group_public covered [] = []
group_public covered (s ∷ symbols) = if covered then [] else public_named s.address (names_of (s ∷ symbols)) ∷ []

-- each symbol's address is in both sets or in neither
abbrev pub AgreeAt : List Range → List Range → List SymbolParts → Type 0
AgreeAt xs ys [] = Unit {0}
AgreeAt xs ys (s ∷ symbols) = (holds_any xs s.address ≡ holds_any ys s.address) × AgreeAt xs ys symbols
