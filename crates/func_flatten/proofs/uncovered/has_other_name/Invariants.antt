use Rattle.std.proofs.Common.{◌≡◌, not, map, drop}
use Rattle.std.specs.List.{list_any}
use Rattle.std.specs.Str.{bytes_eq}
use Rattle.elf_sections.specs.Symbols.{symbol_view}
use Rattle.clean_names.specs.Cleaning.{cleaned}
use Rattle.func_flatten.specs.Publics.{names_of}
use Rattle.func_flatten.proofs.uncovered.has_other_name.Given as goal

abbrev pub invariant-others : goal.invariant-others
invariant-others l =
    list_any (λ other. not (bytes_eq other (cleaned l.first))) (names_of (map symbol_view (drop l.symbol-index l.others)))
    ≡ list_any (λ other. not (bytes_eq other (cleaned l.first))) (names_of (map symbol_view l.others))
