use Rattle.std.proofs.Common.{◌≡◌, true, map, take}
use Rattle.std.specs.List.{list_all}
use Rattle.elf_sections.specs.Symbols.{symbol_view}
use Rattle.func_flatten.specs.Publics.{stands_at}
use Rattle.func_flatten.proofs.uncovered.group_len.Given as goal

abbrev pub invariant-symbols : goal.invariant-symbols
invariant-symbols l = list_all (stands_at l.address) (map symbol_view (take l.k l.symbols)) ≡ true
