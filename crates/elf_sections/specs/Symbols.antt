-- The symbol table and the functions in it (System V gABI, "Symbol Table").
use Rattle.std.specs.Prelude.{ℕ, ◌+◌, ◌*◌, ◌/◌, ◌%◌, ◌==◌, ◌||◌, ◌&&◌, Bool, not, List, [], ◌∷◌, Option, Some, None, length, map, find, is_none, slice_get, slice_index, option_and_then, if◌then◌else◌}
use Rattle.std.specs.List.{list_any, range_with_len, filter_map}
use Rattle.std.specs.Option.{option_map, option_or}
use Rattle.sym_edges.specs.Addresses.{Range}
use Rattle.text_table.specs.Spaces.{held_text}
use Rattle.elf_sections.specs.Numbers.{u16_at, u32_at, u64_at}
use Rattle.elf_sections.specs.Strings.{string_at}
use Rattle.sym_edges.specs.Results.{fault_if}
use Rattle.elf_sections.specs.Sections.{sections, bytes_of}
use Rattle.elf_sections.specs.Programs.{code, is_in_code}
use Rattle.elf_sections.specs.declared.section.SectionHeader.{SectionHeader}
use Rattle.elf_sections.specs.declared.symbols.SymbolEntry.{SymbolEntry}
use Rattle.elf_sections.specs.declared.symbols.Symbol.{Symbol}
use Rattle.elf_sections.specs.declared.fault.ElfFault.{ElfFault}
use Rattle.elf_sections.specs.declared.fault.ElfFault.TheVariants.{SymbolTable}
use Rattle.elf_sections.specs.ElfNumbers.{shn_undef, sht_symtab, sht_dynsym, sht_strtab, symbol_size, stt_func, stt_gnu_ifunc}

-- a symbol at a place (Elf64_Sym)
unfoldable pub symbol_at : List ℕ → ℕ → SymbolEntry
symbol_at table at = record {
  -- st_name
  name = u32_at table at;
  -- st_info
  info = slice_index table (at + 4);
  -- st_shndx
  section = u16_at table (at + 6);
  -- st_value
  value = u64_at table (at + 8);
}

-- the first `count` symbols of a table
unfoldable pub entries_of : List ℕ → ℕ → List SymbolEntry
entries_of table count = map (λ k. symbol_at table (symbol_size * k)) (range_with_len 0 count)

-- the symbols of a table; bytes after the last whole symbol are ignored
unfoldable pub entries : List ℕ → List SymbolEntry
entries table = entries_of table (length table / symbol_size)

-- the symbol is a function in code: it has the type of a function, is defined in some section, and has an address in code
unfoldable pub is_function : List Range → SymbolEntry → Bool
is_function ranges e = (e.info % 16 == stt_func || e.info % 16 == stt_gnu_ifunc) && (not (e.section == shn_undef) && is_in_code ranges e.value)

-- the first symbol table, or if there is none the first table of dynamic symbols
unfoldable pub symbol_table : List SectionHeader → Option SectionHeader
symbol_table all = option_or (find (λ s. s.kind == sht_symtab) all) (find (λ s. s.kind == sht_dynsym) all)

-- the string table to which a symbol table links
unfoldable pub linked : List SectionHeader → SectionHeader → Option SectionHeader
linked all table = option_and_then (λ s. if s.kind == sht_strtab then Some s else None) (slice_get all table.link)

-- a function symbol: its address in the file, and its name
pub record SymbolParts : Type 0 where
  pub address : ℕ
  pub name : List ℕ

-- a symbol, as the specs see it
abbrev pub symbol_view : Symbol → SymbolParts
symbol_view s = record { address = s.address; name = s.name.now }

-- the symbol is a function in code without a zero-ended name
unfoldable pub is_nameless : List Range → List ℕ → SymbolEntry → Bool
is_nameless ranges strings e = is_function ranges e && is_none (string_at strings e.name)

-- a symbol with this address and this name, if the name is there and not empty
abbrev pub named_symbol : ℕ → Option (List ℕ) → Option SymbolParts
named_symbol address None = None
named_symbol address (Some []) = None
named_symbol address (Some (b ∷ text)) = Some (record { address = address; name = b ∷ text })

-- the function symbol of an entry, if the entry is a function in code with a name. A symbol has what is held of its name, and so has a name exactly
-- if the name in the file is not empty
unfoldable pub function_of : List Range → List ℕ → SymbolEntry → Option SymbolParts
function_of ranges strings e = if is_function ranges e then named_symbol e.value (option_map held_text (string_at strings e.name)) else None

-- some function has no zero-ended name
unfoldable pub has_nameless : List Range → List ℕ → List SymbolEntry → Bool
has_nameless ranges strings found = list_any (is_nameless ranges strings) found

-- the function symbols among entries
unfoldable pub functions : List Range → List ℕ → List SymbolEntry → List SymbolParts
functions ranges strings found = filter_map (function_of ranges strings) found

-- the fault of a symbol table, given the string table to which it links, if there is one
abbrev pub linked_fault : List ℕ → List ℕ → Option SectionHeader → Option ElfFault
linked_fault file table None = Some SymbolTable
linked_fault file table (Some s) = fault_if (has_nameless (code file) (bytes_of file s) (entries table)) SymbolTable None

abbrev pub linked_symbols : List ℕ → List ℕ → Option SectionHeader → List SymbolParts
linked_symbols file table None = []
linked_symbols file table (Some s) = functions (code file) (bytes_of file s) (entries table)

-- the fault of a file, given its symbol table, if it has one
abbrev pub table_fault : List ℕ → Option SectionHeader → Option ElfFault
table_fault file None = None
table_fault file (Some table) = linked_fault file (bytes_of file table) (linked (sections file) table)

abbrev pub table_symbols : List ℕ → Option SectionHeader → List SymbolParts
table_symbols file None = []
table_symbols file (Some table) = linked_symbols file (bytes_of file table) (linked (sections file) table)

-- the symbol table links to no string table, or some function has no zero-ended name
unfoldable pub symbols_fault : List ℕ → Option ElfFault
symbols_fault file = table_fault file (symbol_table (sections file))

-- the function symbols of the file, in the order of their table
unfoldable pub symbols : List ℕ → List SymbolParts
symbols file = table_symbols file (symbol_table (sections file))
