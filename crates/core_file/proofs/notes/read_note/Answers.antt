use Rattle.std.proofs.Common.{◌≡◌, ◌+◌, ◌-◌, length, min, arith, refl, ap, ◌∙◌}
use Rattle.elf_sections.specs.Numbers.{u32_at}
use Rattle.elf_sections.specs.Notes.{padded}
use Rattle.core_file.proofs.NoteLemmas.{no_fit, fits_here, note_here, after_here}
use Rattle.core_file.proofs.notes.read_note.Goals as goal

pub returns-then-descriptor-from-clause-note : goal.returns-then-descriptor-from-clause-note
returns-then-descriptor-from-clause-note g c =
    let p : c.padded_len-descriptor.result ≡ padded c.read_u32-name_len.result = c.padded_len-descriptor.ensures.exact in
    no_fit (g.B.ByteList.bytes c.args.list.now) c.args.at _ _ c.requires c.read_u32-name_len.ensures c.read_u32-size.ensures (omega arith)

pub returns-clause-note : goal.returns-clause-note
returns-clause-note g c =
    let name : c.padded_len-descriptor.result ≡ padded (u32_at (g.B.ByteList.bytes c.args.list.now) c.args.at) =
    c.padded_len-descriptor.ensures.exact ∙ ap padded c.read_u32-name_len.ensures in
    let size : c.padded_len.result ≡ padded (u32_at (g.B.ByteList.bytes c.args.list.now) (c.args.at + 4)) =
    c.padded_len.ensures.exact ∙ ap padded c.read_u32-size.ensures in
    let next : c.args.at + c.min-next.result ≡ c.args.at + min (length (g.B.ByteList.bytes c.args.list.now) - c.args.at) (12 + padded (u32_at (g.B.ByteList.bytes c.args.list.now) c.args.at) + padded (u32_at (g.B.ByteList.bytes c.args.list.now) (c.args.at + 4))) =
    omega (arith, c.min-next.ensures) in (
      fits_here (g.B.ByteList.bytes c.args.list.now) c.args.at c.requires (omega arith),
      note_here (g.B.ByteList.bytes c.args.list.now) (record { name = c.args.at + 12; name_len = c.read_u32-name_len.result; kind = c.read_u32.result; descriptor = c.args.at + (12 + c.padded_len-descriptor.result); size = c.read_u32-size.result; next = c.args.at + c.min-next.result })
          c.args.at refl c.read_u32-name_len.ensures c.read_u32.ensures (ap (λ k. c.args.at + (12 + k)) name) c.read_u32-size.ensures,
      after_here (g.B.ByteList.bytes c.args.list.now) c.args.at _ c.requires next,
    )
