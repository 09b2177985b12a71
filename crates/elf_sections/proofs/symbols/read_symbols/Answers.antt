use Rattle.std.proofs.Common.{◌/◌, length, sym, ◌∙◌, ap}
use Rattle.elf_sections.specs.ElfNumbers.{symbol_size}
use Rattle.elf_sections.specs.Symbols.{is_nameless, function_of}
use Rattle.elf_sections.proofs.SymbolLemmas.{reading_begins, reading_other, reading_found, reading_nameless}
use Rattle.elf_sections.proofs.symbols.read_symbols.Goals as goal
use Rattle.elf_sections.proofs.symbols.read_symbols.Goals.{in-Other, in-Function+in_ok-push-in-Function}

pub entries-init : goal.entries-init
entries-init c = reading_begins c.args.code.now c.args.strings.now c.args.table.now c.new-symbols.result.items c.new-symbols.ensures.items

pub returns-in-Nameless : goal.returns-in-Nameless
returns-in-Nameless c =
    reading_nameless c.args.code.now c.args.strings.now c.args.table.now (length c.args.table.now / symbol_size) c.entries.k c.entries-test.true
    (ap (is_nameless c.args.code.now c.args.strings.now) (sym c.read_symbol-entry.ensures) ∙ c.in-Nameless.ensures)

pub entries-preserved : goal.entries-preserved
entries-preserved c =
    let read = c.read_symbol-entry.ensures in
    let ranges = c.args.code.now in
    let texts = c.args.strings.now in
    elim c.match-classify.branch [
      | in-Other w ↦
          reading_other ranges texts c.args.table.now c.entries.symbols.items c.match-classify.symbols.items c.entries.k
          (ap (λ v. v.items) w.symbols-is) c.entries.invariant
          (ap (is_nameless ranges texts) (sym read) ∙ w.in-Other.ensures.0) (ap (function_of ranges texts) (sym read) ∙ w.in-Other.ensures.1)
      | in-Function+in_ok-push-in-Function w ↦
          reading_found ranges texts c.args.table.now c.entries.symbols.items c.match-classify.symbols.items w.in-Function.symbol c.entries.k
          c.entries.invariant
          (ap (is_nameless ranges texts) (sym read) ∙ w.in-Function.ensures.0) (ap (function_of ranges texts) (sym read) ∙ w.in-Function.ensures.1)
          (ap (λ v. v.items) w.symbols-is ∙ w.in_ok-push-in-Function.ensures.items)
    ]
