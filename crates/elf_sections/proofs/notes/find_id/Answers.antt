use Rattle.std.proofs.Common.{◌+◌, ◌-◌, Some, length, sym, ◌∙◌, ap, arith}
use Rattle.elf_sections.specs.Notes.{NoteParts, is_build_id}
use Rattle.elf_sections.proofs.NoteLemmas.{next_id, notes_end}
use Rattle.elf_sections.proofs.notes.find_id.Goals as goal

pub returns-then-is_id-clause-first : goal.returns-then-is_id-clause-first
returns-then-is_id-clause-first c =
    let read = c.in-Some.ensures in
    ap (λ (note : NoteParts). Some note.descriptor) read.1
    ∙ sym (next_id (length c.args.bytes.now - c.notes.counter) (length c.args.bytes.now - (c.notes.counter + 1)) c.notes.rest.now (omega arith) read.0
    (ap is_build_id (sym read.1) ∙ sym c.is_id.ensures.exact ∙ c.if-is_id.true))
    ∙ c.notes.invariant

pub returns-clause-first : goal.returns-clause-first
returns-clause-first c = sym (notes_end (length c.args.bytes.now - c.notes.counter) c.notes.rest.now (omega arith)) ∙ c.notes.invariant
