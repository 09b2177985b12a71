use Rattle.std.proofs.Common.{◌≡◌, ℕ, ◌%◌, ◌==◌, ◌||◌, not, cond, Bool, true, false, List, [], ◌∷◌, Option, Some, None, map, refl, sym, ◌∙◌, ap}
use Rattle.std.specs.List.{filter, filter_map, cons_option}
use Rattle.std.specs.Option.{option_map}
use Rattle.std.proofs.lemmas.Bool.{and_parts}
use Rattle.sym_edges.specs.Addresses.{Range}
use Rattle.range_set.specs.Members.{holds_any}
use Rattle.text_table.specs.Spaces.{held_text}
use Rattle.elf_sections.specs.declared.section.SectionHeader.{SectionHeader}
use Rattle.elf_sections.specs.declared.symbols.SymbolEntry.{SymbolEntry}
use Rattle.elf_sections.specs.declared.symbols.Symbol.{Symbol}
use Rattle.elf_sections.specs.ElfNumbers.{shn_undef, stt_func, stt_gnu_ifunc}
use Rattle.elf_sections.specs.Strings.{string_at}
use Rattle.elf_sections.specs.Programs.{is_in_code, code}
use Rattle.elf_sections.specs.Sections.{sections, bytes_of}
use Rattle.elf_sections.specs.Symbols.{SymbolParts, symbol_view, entries, is_function, named_symbol, function_of, functions, linked, linked_symbols, symbol_table, table_symbols, symbols}
use Rattle.elf_sections.specs.Image.{parts_of}
use Rattle.elf_sections.specs.Pair.{first_symbols, symbols_in, paired}
use Rattle.elf_sections.proofs.CodeLemmas.{in_code}

kept_view : (b : Bool) (s : Symbol) (rest : List Symbol) (views : List SymbolParts) → map symbol_view rest ≡ views → map symbol_view (cond b (s ∷ rest) rest) ≡ cond b (symbol_view s ∷ views) views
kept_view true s rest views is = ap (λ l. symbol_view s ∷ l) is
kept_view false s rest views is = is

filtered_views : (set ranges : List Range) (found : List Symbol) → ((a : ℕ) → is_in_code set a ≡ is_in_code ranges a) → map symbol_view (filter (λ s. is_in_code set s.address) found) ≡ filter (λ s. is_in_code ranges s.address) (map symbol_view found)
filtered_views set ranges [] same = refl
filtered_views set ranges (s ∷ found) same =
    kept_view (is_in_code set s.address) s _ _ (filtered_views set ranges found same) ∙ rw (same s.address) refl

-- Two lists of ranges with the same addresses keep the same symbols.
pub kept_views : (set ranges : List Range) (found kept : List Symbol) → ((a : ℕ) → holds_any set a ≡ holds_any ranges a) → kept ≡ filter (λ s. is_in_code set s.address) found → map symbol_view kept ≡ symbols_in ranges (map symbol_view found)
unfolding symbols_in
kept_views set ranges found kept same is = ap (map symbol_view) is ∙ filtered_views set ranges found (λ a. in_code set a ∙ same a ∙ sym (in_code ranges a))

-- The symbols of a file lie in its code, so none is lost if the file is its own debug file.
named_at : (address : ℕ) (name : Option (List ℕ)) (s : SymbolParts) → named_symbol address name ≡ Some s → s.address ≡ address
named_at address None s is = cc
named_at address (Some []) s is = cc
named_at address (Some (b ∷ text)) s is = (let e : s ≡ record { address = address; name = b ∷ text } = cc in ap (λ p. p.address) e)

function_at : (b : Bool) (address : ℕ) (name : Option (List ℕ)) (s : SymbolParts) → cond b (named_symbol address name) None ≡ Some s → (b ≡ true) × (s.address ≡ address)
function_at true address name s is = (refl, named_at address name s is)
function_at false address name s is = cc

function_in_code : (ranges : List Range) (strings : List ℕ) (e : SymbolEntry) (s : SymbolParts) → function_of ranges strings e ≡ Some s → is_in_code ranges s.address ≡ true
unfolding function_of is_function
function_in_code ranges strings e s is =
    let at = function_at (is_function ranges e) e.value (option_map held_text (string_at strings e.name)) s is in
    let kind = and_parts (e.info % 16 == stt_func || e.info % 16 == stt_gnu_ifunc) _ at.0 in
    let defined = and_parts (not (e.section == shn_undef)) _ kind.1 in
    ap (is_in_code ranges) at.1 ∙ defined.1

option_kept : (p : SymbolParts → Bool) (o : Option SymbolParts) (rest : List SymbolParts) → ((s : SymbolParts) → o ≡ Some s → p s ≡ true) → filter p rest ≡ rest → filter p (cons_option o rest) ≡ cons_option o rest
option_kept p None rest holds same = same
option_kept p (Some s) rest holds same = rw (holds s refl) (ap (λ l. s ∷ l) same)

functions_kept : (ranges : List Range) (strings : List ℕ) (found : List SymbolEntry) → filter (λ s. is_in_code ranges s.address) (filter_map (function_of ranges strings) found) ≡ filter_map (function_of ranges strings) found
functions_kept ranges strings [] = refl
functions_kept ranges strings (e ∷ found) =
    option_kept (λ s. is_in_code ranges s.address) (function_of ranges strings e) (filter_map (function_of ranges strings) found) (function_in_code ranges strings e) (functions_kept ranges strings found)

linked_kept : (file table : List ℕ) (o : Option SectionHeader) → symbols_in (code file) (linked_symbols file table o) ≡ linked_symbols file table o
unfolding symbols_in functions
linked_kept file table None = refl
linked_kept file table (Some s) = functions_kept (code file) (bytes_of file s) (entries table)

table_kept : (file : List ℕ) (o : Option SectionHeader) → symbols_in (code file) (table_symbols file o) ≡ table_symbols file o
unfolding symbols_in
table_kept file None = refl
table_kept file (Some table) = linked_kept file (bytes_of file table) (linked (sections file) table)

own_symbols : (found : List SymbolParts) → first_symbols found found ≡ found
own_symbols [] = refl
own_symbols (s ∷ found) = refl

file_kept : (file : List ℕ) → symbols_in (code file) (symbols file) ≡ symbols file
unfolding symbols
file_kept file = table_kept file (symbol_table (sections file))

-- A file that is its own debug file has its own image.
pub paired_with_itself : (file : List ℕ) → paired (parts_of file) (parts_of file) ≡ parts_of file
unfolding paired parts_of
paired_with_itself file = rw (own_symbols (symbols file), file_kept file) refl
