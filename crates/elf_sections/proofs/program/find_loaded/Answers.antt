use Rattle.std.proofs.Common.{◌+◌, ◌-◌, eq-eqb, sym, ◌∙◌, ap, arith}
use Rattle.elf_sections.specs.declared.program.ProgramHeader.{ProgramHeader}
use Rattle.elf_sections.specs.ElfNumbers.{pt_load}
use Rattle.elf_sections.proofs.ProgramLemmas.{address_found, address_none}
use Rattle.elf_sections.proofs.program.find_loaded.Goals as goal

pub returns-then-program-eq-PT_LOAD : goal.returns-then-program-eq-PT_LOAD
returns-then-program-eq-PT_LOAD c =
    let is = c.read_program-program.ensures in
    ap (λ (p : ProgramHeader). p.address) is
    ∙ sym (address_found c.args.file.now c.args.table c.headers.k (c.args.count - c.headers.k) (c.args.count - (c.headers.k + 1)) (omega arith)
    (eq-eqb _ pt_load (ap (λ (p : ProgramHeader). p.kind) (sym is) ∙ c.if-program-eq-PT_LOAD.true)))
    ∙ c.headers.invariant

pub returns : goal.returns
returns c = sym (address_none c.args.file.now c.args.table c.headers.k (c.args.count - c.headers.k) (omega arith)) ∙ c.headers.invariant
