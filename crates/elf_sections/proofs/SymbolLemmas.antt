use Rattle.std.proofs.Common.{◌≡◌, ℕ, zero, suc, ◌+◌, ◌*◌, ◌<◌, ◌||◌, Bool, true, false, List, [], ◌∷◌, ◌++◌, Some, None, map, refl, sym, ◌∙◌, ap, arith, append-nil}
use Rattle.std.specs.List.{list_any, filter_map, range_with_len}
use Rattle.std.proofs.lemmas.Bool.{or_from, or_left, or_right}
use Rattle.std.proofs.lemmas.List.{map-append}
use Rattle.std.proofs.lemmas.List.Folds.{list_any-append}
use Rattle.std.proofs.lemmas.List.Elements.{filter_map-append}
use Rattle.std.proofs.lemmas.List.FromFn.{map-range_with_len_more}
use Rattle.sym_edges.specs.Addresses.{Range}
use Rattle.elf_sections.specs.declared.symbols.SymbolEntry.{SymbolEntry}
use Rattle.elf_sections.specs.declared.symbols.Symbol.{Symbol}
use Rattle.elf_sections.specs.ElfNumbers.{symbol_size}
use Rattle.elf_sections.specs.Symbols.{symbol_view, symbol_at, entries_of, is_nameless, function_of, has_nameless, functions}
use Rattle.elf_sections.specs.internal.Steps.{ReadsSymbols}

entries_more : (table : List ℕ) (k : ℕ) → entries_of table (k + 1) ≡ entries_of table k ++ symbol_at table (symbol_size * k) ∷ []
unfolding entries_of
entries_more table k = map-range_with_len_more (λ j. symbol_at table (symbol_size * j)) 0 k k (omega arith)

any_more : (p : SymbolEntry → Bool) (xs : List SymbolEntry) (e : SymbolEntry) → list_any p xs ≡ false → p e ≡ false → list_any p (xs ++ e ∷ []) ≡ false
any_more p xs e none last = list_any-append p xs (e ∷ []) ∙ or_from (list_any p xs) (p e || false) none (or_from (p e) false last refl)

any_in : (p : SymbolEntry → Bool) (f : ℕ → SymbolEntry) (a n k : ℕ) → k < n → p (f (a + k)) ≡ true → list_any p (map f (range_with_len a n)) ≡ true
any_in p f a zero k below is = absurd (omega arith)
any_in p f a (suc n) zero below is = (let e : a + 0 ≡ a = omega arith in or_left (p (f a)) (list_any p (map f (range_with_len (a + 1) n))) (ap (λ i. p (f i)) (sym e) ∙ is))
any_in p f a (suc n) (suc k) below is =
    let e : a + suc k ≡ (a + 1) + k = omega arith in
    or_right (p (f a)) (list_any p (map f (range_with_len (a + 1) n))) (any_in p f (a + 1) n k (omega arith) (ap (λ i. p (f i)) (sym e) ∙ is))

pub reading_begins : (ranges : List Range) (strings table : List ℕ) (list : List Symbol) → list ≡ [] → ReadsSymbols (Some list) ranges strings (entries_of table 0)
unfolding has_nameless functions entries_of
reading_begins ranges strings table list is = (refl, ap (map symbol_view) is)

pub reading_other : (ranges : List Range) (strings table : List ℕ) (list later : List Symbol) (k : ℕ) → later ≡ list → ReadsSymbols (Some list) ranges strings (entries_of table k) → is_nameless ranges strings (symbol_at table (symbol_size * k)) ≡ false → function_of ranges strings (symbol_at table (symbol_size * k)) ≡ None → ReadsSymbols (Some later) ranges strings (entries_of table (k + 1))
unfolding has_nameless functions
reading_other ranges strings table list later k is so named none =
    let e = symbol_at table (symbol_size * k) in (
      ap (list_any (is_nameless ranges strings)) (entries_more table k) ∙ any_more (is_nameless ranges strings) (entries_of table k) e so.0 named,
      ap (map symbol_view) is ∙ so.1 ∙ sym (ap (filter_map (function_of ranges strings)) (entries_more table k) ∙ filter_map-append (function_of ranges strings) (entries_of table k) (e ∷ []) ∙ ap (λ l. filter_map (function_of ranges strings) (entries_of table k) ++ l) (rw none refl) ∙ append-nil (filter_map (function_of ranges strings) (entries_of table k))),
    )

pub reading_found : (ranges : List Range) (strings table : List ℕ) (list later : List Symbol) (s : Symbol) (k : ℕ) → ReadsSymbols (Some list) ranges strings (entries_of table k) → is_nameless ranges strings (symbol_at table (symbol_size * k)) ≡ false → function_of ranges strings (symbol_at table (symbol_size * k)) ≡ Some (symbol_view s) → later ≡ list ++ s ∷ [] → ReadsSymbols (Some later) ranges strings (entries_of table (k + 1))
unfolding has_nameless functions
reading_found ranges strings table list later s k so named found is =
    let e = symbol_at table (symbol_size * k) in (
      ap (list_any (is_nameless ranges strings)) (entries_more table k) ∙ any_more (is_nameless ranges strings) (entries_of table k) e so.0 named,
      ap (map symbol_view) is ∙ map-append symbol_view list (s ∷ []) ∙ ap (λ l. l ++ symbol_view s ∷ []) so.1 ∙ sym (ap (filter_map (function_of ranges strings)) (entries_more table k) ∙ filter_map-append (function_of ranges strings) (entries_of table k) (e ∷ []) ∙ ap (λ l. filter_map (function_of ranges strings) (entries_of table k) ++ l) (rw found refl)),
    )

pub reading_nameless : (ranges : List Range) (strings table : List ℕ) (n k : ℕ) → k < n → is_nameless ranges strings (symbol_at table (symbol_size * k)) ≡ true → ReadsSymbols None ranges strings (entries_of table n)
unfolding has_nameless entries_of
reading_nameless ranges strings table n k below nameless = any_in (is_nameless ranges strings) (λ j. symbol_at table (symbol_size * j)) 0 n k below (let e : 0 + k ≡ k = omega arith in ap (λ j. is_nameless ranges strings (symbol_at table (symbol_size * j))) e ∙ nameless)
