-- What the private functions of the crate return.
use Rattle.std.specs.Prelude.{◌≡◌, ℕ, ◌==◌, ◌&&◌, true, false, List, Option, Some, None, length, is_none, map}
use Rattle.sym_edges.specs.Addresses.{Range}
use Rattle.elf_sections.specs.Notes.{NoteParts}
use Rattle.elf_sections.specs.Symbols.{symbol_view, is_nameless, function_of, has_nameless, functions}
use Rattle.elf_sections.specs.Image.{identity_of}
use Rattle.elf_sections.specs.declared.notes.Note.{Note}
use Rattle.elf_sections.specs.declared.symbols.SymbolEntry.{SymbolEntry}
use Rattle.elf_sections.specs.declared.symbols.Symbol.{Symbol}
use Rattle.elf_sections.specs.declared.symbols.Found.{Found}
use Rattle.elf_sections.specs.declared.symbols.Found.TheVariants.{Nameless, Other, Function}

-- a note, as the specs see it
abbrev pub note_view : Note → NoteParts
note_view n = record { name = n.name.now; kind = n.kind; descriptor = n.descriptor.now }

-- what it means if an entry of a symbol table was found to be nameless, no function symbol, or a
-- function symbol
abbrev pub Classifies : Found → List Range → List ℕ → SymbolEntry → Type 0
Classifies Nameless ranges strings e = is_nameless ranges strings e ≡ true
Classifies Other ranges strings e = (is_nameless ranges strings e ≡ false) × (function_of ranges strings e ≡ None)
Classifies (Function s) ranges strings e = (is_nameless ranges strings e ≡ false) × (function_of ranges strings e ≡ Some (symbol_view s))

-- the result of reading the symbols: `None` exactly if some function has no zero-ended name
abbrev pub ReadsSymbols : Option (List Symbol) → List Range → List ℕ → List SymbolEntry → Type 0
ReadsSymbols None ranges strings found = has_nameless ranges strings found ≡ true
ReadsSymbols (Some list) ranges strings found = (has_nameless ranges strings found ≡ false) × (map symbol_view list ≡ functions ranges strings found)

-- the result of reading the identity: `None` exactly if the file has none
abbrev pub ReadsIdentity : Option (List ℕ) → List ℕ → Option (List ℕ) → Type 0
ReadsIdentity None text id = (is_none id && (length text == 0)) ≡ true
ReadsIdentity (Some identity) text id = ((is_none id && (length text == 0)) ≡ false) × (identity ≡ identity_of text id)
