-- What PUBLIC records (Breakpad's symbol_files.md) say of the function symbols that no function covers: one record for each of their addresses.
use Rattle.std.specs.Prelude.{◌≡◌, ℕ, ◌==◌, ◌&&◌, Bool, true, false, not, List, [], ◌∷◌, map, filter, nat_lt, nat_le, if◌then◌else◌}
use Rattle.std.specs.List.{list_any, list_all}
use Rattle.std.specs.Str.{bytes_eq}
use Rattle.elf_sections.specs.Symbols.{SymbolParts}
use Rattle.clean_names.specs.Cleaning.{cleaned}
use Rattle.func_flatten.specs.declared.piece.Piece.{Piece}
use Rattle.func_flatten.specs.declared.public.PublicAt.{PublicAt}

-- an ascending list with a number inserted, unless the list has it already
unfoldable pub with_number : ℕ → List ℕ → List ℕ
with_number a [] = a ∷ []
with_number a (b ∷ numbers) = if nat_lt a b then a ∷ b ∷ numbers else (if a == b then b ∷ numbers else b ∷ with_number a numbers)

-- the numbers of a list in ascending order, each once
unfoldable pub ascending : List ℕ → List ℕ
ascending [] = []
ascending (a ∷ numbers) = with_number a (ascending numbers)

-- the number is in the list
abbrev pub has : ℕ → List ℕ → Bool
has a numbers = list_any (λ b. b == a) numbers

-- the list rises strictly
abbrev pub IsRising : List ℕ → Type 0
IsRising [] = Unit {0}
IsRising (a ∷ numbers) = (list_all (λ b. nat_lt a b) numbers ≡ true) × IsRising numbers

-- the symbol has the address
abbrev pub stands_at : ℕ → SymbolParts → Bool
stands_at a s = s.address == a

-- the symbols' addresses in ascending order, each once
unfoldable pub addresses : List SymbolParts → List ℕ
addresses symbols = ascending (map (λ s. s.address) symbols)

-- the cleaned names of symbols
abbrev pub names_of : List SymbolParts → List (List ℕ)
names_of symbols = map (λ s. cleaned s.name) symbols

-- the first of some names
abbrev pub first_name : List (List ℕ) → List ℕ
first_name [] = []
first_name (name ∷ names) = name

-- some name differs from the first
abbrev pub has_other_name : List (List ℕ) → Bool
has_other_name [] = false
has_other_name (name ∷ names) = list_any (λ other. not (bytes_eq other name)) names

-- what a PUBLIC record says of an address: the name, cleaned for records, and whether there are
-- other names
pub record PublicParts : Type 0 where
  pub address : ℕ
  pub many : Bool
  pub name : List ℕ

abbrev pub public_named : ℕ → List (List ℕ) → PublicParts
public_named a names = record { address = a; many = has_other_name names; name = first_name names }

-- for an address: the name of its first symbol, marked if another symbol there has another name
unfoldable pub public_at : List SymbolParts → ℕ → PublicParts
public_at symbols a = public_named a (names_of (filter (stands_at a) symbols))

-- what PUBLIC records say of those addresses of symbols that are not covered
unfoldable pub publics_where : (ℕ → Bool) → List SymbolParts → List PublicParts
publics_where covered symbols = map (public_at symbols) (filter (λ a. not (covered a)) (addresses symbols))

-- whether a piece has the address: from its start on, and below its end
abbrev pub is_inside : ℕ → Piece → Bool
is_inside a p = nat_le p.start a && nat_lt a p.end

unfoldable pub is_covered : List Piece → ℕ → Bool
is_covered pieces a = list_any (is_inside a) pieces

-- what PUBLIC records say of those addresses of symbols that no piece has
unfoldable pub publics : List Piece → List SymbolParts → List PublicParts
publics pieces symbols = publics_where (is_covered pieces) symbols

-- what a PUBLIC record says of an address, given the name as it is in the file
abbrev pub public_view : PublicAt → PublicParts
public_view p = record { address = p.address; many = p.many; name = cleaned p.name.now }
