use Rattle.std.proofs.Common.{sym, ◌∙◌}
use Rattle.core_file.specs.internal.NotePlaces.{note_view}
use Rattle.core_file.specs.internal.Gathering.{so_far}
use Rattle.core_file.proofs.GatherLemmas.{gathered_state, gathered_files, gathered_other}
use Rattle.core_file.proofs.gather.take_note.Goals as goal

pub returns-then-is_state-clause-taken : goal.returns-then-is_state-clause-taken
returns-then-is_state-clause-taken c =
    λ _. gathered_state c.args.found.now.limit (so_far c.args.found.now) (so_far c.take_thread.new.found) (note_view c.args.part.now c.args.note.now)
    (sym c.is_state.ensures ∙ c.if-is_state.true) c.in_ok-take_thread.ensures.files
    (λ more. rw (← c.part-descriptor.ensures) (c.in_ok-take_thread.ensures.taken more))

pub returns-else-not-has_files-clause-taken : goal.returns-else-not-has_files-clause-taken
returns-else-not-has_files-clause-taken c =
    λ _. gathered_files c.args.found.now.limit (so_far c.args.found.now) (so_far c.take_files.new.found) (note_view c.args.part.now c.args.note.now)
    (sym c.is_state.ensures ∙ c.if-is_state.false) (sym c.is_mapped.ensures ∙ c.if-is_mapped.true) c.take_files.ensures.threads
    (rw (← c.part-descriptor.ensures) c.take_files.ensures.files)

pub returns-else-is_mapped-clause-taken : goal.returns-else-is_mapped-clause-taken
returns-else-is_mapped-clause-taken c =
    λ _. gathered_other c.args.found.now.limit (so_far c.args.found.now) (note_view c.args.part.now c.args.note.now)
    (sym c.is_state.ensures ∙ c.if-is_state.false) (sym c.is_mapped.ensures ∙ c.if-is_mapped.false)
