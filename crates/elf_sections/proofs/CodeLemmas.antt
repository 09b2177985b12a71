use Rattle.std.proofs.Common.{◌≡◌, ℕ, ◌+◌, ◌≤◌, ◌&&◌, ◌||◌, cond, Bool, true, false, nat_le, nat_lt, List, [], ◌∷◌, Option, Some, None, refl, sym, ◌∙◌, ap, subst}
use Rattle.std.specs.List.{list_any, filter_map, cons_option}
use Rattle.std.proofs.lemmas.Bool.{and_parts, leb-true}
use Rattle.sym_edges.specs.Addresses.{Range}
use Rattle.range_set.specs.Starts.{AllFrom}
use Rattle.range_set.specs.Members.{holds, holds_any}
use Rattle.elf_sections.specs.declared.symbols.SymbolEntry.{SymbolEntry}
use Rattle.elf_sections.specs.declared.symbols.Symbol.{Symbol}
use Rattle.elf_sections.specs.declared.section.SectionHeader.{SectionHeader}
use Rattle.elf_sections.specs.Sections.{has_flag}
use Rattle.elf_sections.specs.ElfNumbers.{shf_alloc, shf_execinstr}
use Rattle.elf_sections.specs.Programs.{is_code, code_range, is_in_code}
use Rattle.elf_sections.specs.Symbols.{SymbolParts, is_function, is_nameless, function_of, has_nameless, functions}
use Rattle.elf_sections.specs.internal.Steps.{ReadsSymbols}

-- An address is in code if the list of ranges holds it.
pub in_code : (ranges : List Range) (a : ℕ) → is_in_code ranges a ≡ holds_any ranges a
unfolding is_in_code
in_code [] a = refl
in_code (range ∷ ranges) a = ap (λ b. holds range a || b) (in_code ranges a)

-- Two lists hold the same addresses.
pub record AlikeIn (set ranges : List Range) : Type 0 where
  pub same : (a : ℕ) → holds_any set a ≡ holds_any ranges a

alike_code : (set ranges : List Range) → AlikeIn set ranges → (a : ℕ) → is_in_code set a ≡ is_in_code ranges a
alike_code set ranges alike a = in_code set a ∙ alike.same a ∙ sym (in_code ranges a)

alike_function : (set ranges : List Range) → AlikeIn set ranges → (e : SymbolEntry) → is_function set e ≡ is_function ranges e
unfolding is_function
alike_function set ranges alike e = rw (alike_code set ranges alike e.value) refl

alike_nameless : (set ranges : List Range) (strings : List ℕ) → AlikeIn set ranges → (e : SymbolEntry) → is_nameless set strings e ≡ is_nameless ranges strings e
unfolding is_nameless
alike_nameless set ranges strings alike e = rw (alike_function set ranges alike e) refl

alike_symbol : (set ranges : List Range) (strings : List ℕ) → AlikeIn set ranges → (e : SymbolEntry) → function_of set strings e ≡ function_of ranges strings e
unfolding function_of
alike_symbol set ranges strings alike e = rw (alike_function set ranges alike e) refl

any_by : (p q : SymbolEntry → Bool) → ((e : SymbolEntry) → p e ≡ q e) → (found : List SymbolEntry) → list_any p found ≡ list_any q found
any_by p q same [] = refl
any_by p q same (e ∷ found) = rw (same e, any_by p q same found) refl

kept_by : (f g : SymbolEntry → Option SymbolParts) → ((e : SymbolEntry) → f e ≡ g e) → (found : List SymbolEntry) → filter_map f found ≡ filter_map g found
kept_by f g same [] = refl
kept_by f g same (e ∷ found) = rw (same e, kept_by f g same found) refl

alike_fault : (set ranges : List Range) (strings : List ℕ) (found : List SymbolEntry) → AlikeIn set ranges → has_nameless set strings found ≡ has_nameless ranges strings found
unfolding has_nameless
alike_fault set ranges strings found alike = any_by (is_nameless set strings) (is_nameless ranges strings) (alike_nameless set ranges strings alike) found

alike_symbols : (set ranges : List Range) (strings : List ℕ) (found : List SymbolEntry) → AlikeIn set ranges → functions set strings found ≡ functions ranges strings found
unfolding functions
alike_symbols set ranges strings found alike = kept_by (function_of set strings) (function_of ranges strings) (alike_symbol set ranges strings alike) found

alike_reading : (read : Option (List Symbol)) (set ranges : List Range) (strings : List ℕ) (found : List SymbolEntry) → AlikeIn set ranges → ReadsSymbols read set strings found → ReadsSymbols read ranges strings found
alike_reading None set ranges strings found alike reads = sym (alike_fault set ranges strings found alike) ∙ reads
alike_reading (Some list) set ranges strings found alike reads =
    (sym (alike_fault set ranges strings found alike) ∙ reads.0, reads.1 ∙ alike_symbols set ranges strings found alike)

-- Two lists of ranges with the same addresses give the same function symbols.
pub same_reading : (read : Option (List Symbol)) (set ranges : List Range) (strings : List ℕ) (found : List SymbolEntry) → ((a : ℕ) → holds_any set a ≡ holds_any ranges a) → ReadsSymbols read set strings found → ReadsSymbols read ranges strings found
same_reading read set ranges strings found same reads = alike_reading read set ranges strings found (record { same = same }) reads

-- Code starts at or above the base.
starts_above : (base : ℕ) (s : SectionHeader) → is_code base s ≡ true → base ≤ s.address
unfolding is_code
starts_above base s is =
    let placed = and_parts (has_flag shf_alloc s && has_flag shf_execinstr s) _ is in
    let above = and_parts (nat_lt 0 s.size) _ placed.1 in
    leb-true base s.address (and_parts (nat_le base s.address) _ above.1).0

onto_above : (base : ℕ) (b : Bool) (range : Range) (ranges : List Range) → (b ≡ true → base ≤ range.start) → AllFrom base ranges → AllFrom base (cons_option (cond b (Some range) None) ranges)
onto_above base true range ranges here all = (here refl, all)
onto_above base false range ranges here all = all

above : (base : ℕ) (sections : List SectionHeader) → AllFrom base (filter_map (code_range base) sections)
unfolding code_range
above base [] = tt
above base (s ∷ sections) = onto_above base (is_code base s) (record { start = s.address; end = s.address + s.size }) (filter_map (code_range base) sections) (starts_above base s) (above base sections)

pub code_above : (base : ℕ) (sections : List SectionHeader) (items : List Range) → items ≡ filter_map (code_range base) sections → AllFrom base items
code_above base sections items is = subst (AllFrom base) (sym is) (above base sections)
