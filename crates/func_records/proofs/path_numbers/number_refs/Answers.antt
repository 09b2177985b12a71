use Rattle.std.proofs.Common.{List, ℕ, subst, sym, ap, ◌∙◌, arith}
use Rattle.std.specs.List.{All}
use Rattle.func_records.specs.internal.Gathering.{bytes_of}
use Rattle.func_records.specs.internal.Spelling.{unit_numbers, IsNumbered}
use Rattle.func_records.proofs.RowLemmas.{numbered_more, text_of_ref}
use Rattle.func_records.proofs.path_numbers.number_refs.Goals.{in-Some+in_ok-push, in_default}
use Rattle.func_records.proofs.path_numbers.number_refs.Goals as goal

pub number_ref-requires-clause-text : goal.number_ref-requires-clause-text
number_ref-requires-clause-text c = text_of_ref c.args.units.now c.args.refs.now c.args.texts.now c.refs.place _ _ c.refs-test.true c.requires.texts

pub refs-preserved : goal.refs-preserved
refs-preserved c =
    let rows : List (List ℕ) = unit_numbers (bytes_of c.args.sorted.now) c.args.units.now in
    elim c.match-number_ref.branch [
      | in-Some+in_ok-push w ↦ numbered_more rows c.refs.list.items c.match-number_ref.list.items _ c.refs.invariant w.in-Some.ensures (ap (λ l. l.items) w.list-is ∙ w.in_ok-push.ensures.items)
      | in_default w ↦ subst (λ l. All (IsNumbered rows) l.items) (sym w.list-is) c.refs.invariant
    ]
