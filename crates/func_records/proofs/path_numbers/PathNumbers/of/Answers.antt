use Rattle.std.proofs.Common.{IsPermutation, sym, subst, List, ℕ}
use Rattle.std.specs.List.{All}
use Rattle.std.proofs.lemmas.List.Sorted.{All-permutation}
use Rattle.func_records.specs.internal.Gathering.{bytes_of}
use Rattle.func_records.specs.internal.Spelling.{unit_numbers, IsNumbered}
use Rattle.func_records.proofs.TextLemmas.{sorted_in_place}
use Rattle.func_records.proofs.path_numbers.PathNumbers.of.Goals as goal

pub invariant_of-result : goal.invariant_of-result
invariant_of-result g c =
    let rows : List (List ℕ) = unit_numbers (bytes_of c.args.sorted.now) c.args.units.now in
    let moved : IsPermutation c.in_ok-list.list.items c.sort.new.items = subst (λ old. IsPermutation old c.sort.new.items) c.as_mut_slice.ensures.value c.in_ok-sort.ensures.same in
    let all : All (IsNumbered rows) c.sort.new.items = All-permutation (IsNumbered rows) c.in_ok-list.list.items c.sort.new.items moved c.in_ok-list.ensures in
    let kept = subst (All (IsNumbered rows)) (sym (sorted_in_place c.in_ok-list.list.items c.sort.new.items c.in_ok-list.list.len c.in_ok-list.list.ok.0 moved)) all in (
      record { sorted = c.requires.sorted; few = c.requires.few },
      c.in_ok-slots.ensures rows (subst (All (IsNumbered rows)) (sym c.as_slice.ensures.value) kept),
    )
