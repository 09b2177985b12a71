use Rattle.std.proofs.Common.{◌≡◌, ◌<◌, length, drop, sym, ◌∙◌, ap, arith, length-drop}
use Rattle.core_file.specs.CoreNotes.{is_whole_note, are_whole_notes}
use Rattle.core_file.specs.internal.Gathering.{so_far, gathered}
use Rattle.core_file.proofs.NoteLemmas.{whole_none, whole_bad, whole_here, whole_end, notes_of_none}
use Rattle.core_file.proofs.GatherLemmas.{gather_step, gathered_end}
use Rattle.core_file.proofs.gather.gather.Goals as goal

pub returns-in_default-clause-whole : goal.returns-in_default-clause-whole
returns-in_default-clause-whole c =
    let some : 0 < length (drop c.notes.at c.args.part.now) = omega (arith, length-drop c.notes.at c.args.part.now) in
    sym (whole_none (drop c.notes.at c.args.part.now) c.in_default.ensures.note some) ∙ c.notes.invariant.whole

pub returns-then-not-branch-clause-whole : goal.returns-then-not-branch-clause-whole
returns-then-not-branch-clause-whole c =
    let n = c.in-Some.ensures.note in
    sym (whole_bad (drop c.notes.at c.args.part.now) n.0 (ap is_whole_note (sym n.1) ∙ sym c.in_ok-take_note.ensures.whole ∙ c.if-not-branch.true))
    ∙ c.notes.invariant.whole

pub notes-preserved : goal.notes-preserved
notes-preserved c =
    let n = c.in-Some.ensures.note in
    record {
      within = c.in-Some.ensures.within;
      limit = c.in_ok-take_note.ensures.limit ∙ c.notes.invariant.limit;
      fit = c.in_ok-take_note.ensures.fit;
      few = c.in_ok-take_note.ensures.few;
      whole = ap are_whole_notes n.2
          ∙ sym (whole_here (drop c.notes.at c.args.part.now) n.0 (ap is_whole_note (sym n.1) ∙ sym c.in_ok-take_note.ensures.whole ∙ c.if-not-branch.false))
          ∙ c.notes.invariant.whole;
      left = gather_step c.args.found.now.limit c.notes.found.limit (so_far c.notes.found) (so_far c.take_note.new.found)
          (drop c.notes.at c.args.part.now) (drop c.in-Some.note.next c.args.part.now) _ c.notes.invariant.limit n.0 n.1 n.2
          (c.in_ok-take_note.ensures.taken c.if-not-branch.false)
          ∙ c.notes.invariant.left;
    }

pub returns-clause-whole : goal.returns-clause-whole
returns-clause-whole c =
    let none : length (drop c.notes.at c.args.part.now) ≡ 0 = omega (arith, length-drop c.notes.at c.args.part.now) in
    sym (whole_end (drop c.notes.at c.args.part.now) none) ∙ c.notes.invariant.whole

pub returns-clause-gathered : goal.returns-clause-gathered
returns-clause-gathered c =
    let none : length (drop c.notes.at c.args.part.now) ≡ 0 = omega (arith, length-drop c.notes.at c.args.part.now) in
    λ _. sym (gathered_end c.args.found.now.limit (so_far c.notes.found) (rw (← c.notes.invariant.limit) c.notes.invariant.few))
    ∙ sym (ap (gathered c.args.found.now.limit (so_far c.notes.found)) (notes_of_none (drop c.notes.at c.args.part.now) none))
    ∙ c.notes.invariant.left
