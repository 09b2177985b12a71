use Rattle.std.proofs.Common.{◌≡◌, ◌<◌, ℕ, List, length, Option, Ok, IfSome, [], arith, sym, ap, subst}
use Rattle.std.specs.List.{slice_get}
use Rattle.sym_edges.specs.Addresses.{Range}
use Rattle.range_lists.specs.EntryRanges.{pairs_of, pairs_at}
use Rattle.debug_read.specs.Each.{each_of, Match, Says}
use Rattle.debug_read.specs.UnitsRead.{IsSet}
use Rattle.debug_read.proofs.SetLemmas.{says_none, sets_more, sets_again, sets_all, sets_stopped}
use Rattle.debug_read.proofs.ranges.read_sets.Goals as goal

pub returns-in-Err : goal.returns-in-Err
returns-in-Err c =
    let inside : c.entries.entry < length c.args.table.now.dies = omega (arith, c.len-count.ensures, ap length c.dies.ensures, c.entries-test.true) in
    sets_stopped c.args.sections.now c.args.unit.now c.args.table.now.root c.args.base c.args.code.now c.args.table.now.dies c.entries.entry c.entries.sets c.in-Err.stop inside c.entries.invariant c.in-Err.ensures

pub entries-preserved : goal.entries-preserved
entries-preserved c =
    let inside : c.entries.entry < length c.args.table.now.dies = omega (arith, c.len-count.ensures, ap length c.dies.ensures, c.entries-test.true) in
    sets_more c.args.sections.now c.args.unit.now c.args.table.now.root c.args.base c.args.code.now c.args.table.now.dies c.entries.entry c.entries.sets c.push.new.self c.in-Ok.set inside c.entries.invariant c.in-Ok.ensures c.in_ok-push-in-Ok.ensures

pub entries-preserved-in-Some : goal.entries-preserved-in-Some
entries-preserved-in-Some c =
    let inside : c.entries.entry < length c.args.table.now.dies = omega (arith, c.len-count.ensures, ap length c.dies.ensures, c.entries-test.true) in
    let gives : ℕ → ℕ → Type 0 = λ earlier entry. (base : ℕ) (pairs : List Range) → pairs_at c.args.sections.now c.args.unit.now c.args.table.now.root base (slice_get c.args.table.now.dies earlier) ≡ Ok pairs → pairs_at c.args.sections.now c.args.unit.now c.args.table.now.root base (slice_get c.args.table.now.dies entry) ≡ Ok pairs in
    let below : c.in-Some.earlier < c.entries.entry = subst (λ (found : Option ℕ). IfSome found (λ earlier. earlier < c.entries.entry)) c.in-Some.is c.in_ok-earlier.ensures.below in
    let same : gives c.in-Some.earlier c.entries.entry = subst (λ (found : Option ℕ). IfSome found (λ earlier. gives earlier c.entries.entry)) c.in-Some.is c.in_ok-earlier.ensures.same in
    sets_again c.args.sections.now c.args.unit.now c.args.table.now.root c.args.base c.args.code.now c.args.table.now.dies c.entries.entry c.entries.sets c.push_again.new.self c.in-Some.earlier inside c.entries.invariant below (same c.args.base) c.in_ok-push_again.ensures

pub returns : goal.returns
returns c =
    let end : c.entries.entry ≡ length c.args.table.now.dies = omega (arith, c.len-count.ensures, ap length c.dies.ensures, c.entries-test.false, c.entries.auto.entry-end) in
    subst (λ sets. Says (Match (IsSet c.args.code.now)) (each_of (pairs_of c.args.sections.now c.args.unit.now c.args.table.now.root c.args.base) c.args.table.now.dies) sets) (sym c.shrink.ensures)
    (sets_all c.args.sections.now c.args.unit.now c.args.table.now.root c.args.base c.args.code.now c.args.table.now.dies c.entries.entry c.entries.sets end c.entries.invariant)

pub entries-preserved-then-not-counts_at : goal.entries-preserved-then-not-counts_at
entries-preserved-then-not-counts_at c =
    let inside : c.entries.entry < length c.args.table.now.dies = omega (arith, c.len-count.ensures, ap length c.dies.ensures, c.entries-test.true) in
    sets_more c.args.sections.now c.args.unit.now c.args.table.now.root c.args.base c.args.code.now c.args.table.now.dies c.entries.entry c.entries.sets c.push_none.new.self [] inside c.entries.invariant
    (says_none c.args.code.now (pairs_at c.args.sections.now c.args.unit.now c.args.table.now.root c.args.base (slice_get c.args.table.now.dies c.entries.entry)) (c.counts_at.ensures c.if-not-counts_at.true c.args.sections.now c.args.unit.now c.args.base))
    c.in_ok-push_none.ensures
