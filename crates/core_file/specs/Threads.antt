-- The threads of a core file: its notes NT_PRSTATUS, whose descriptor is a struct elf_prstatus of Linux x86-64.
use Rattle.std.specs.Prelude.{ℕ, ◌+◌, ◌*◌, List, take, map, filter}
use Rattle.elf_sections.specs.Numbers.{u16_at, u32_at, u64_at}
use Rattle.elf_sections.specs.Notes.{NoteParts}
use Rattle.core_file.specs.CoreNotes.{is_prstatus}
use Rattle.core_file.specs.declared.threads.Registers.{Registers}
use Rattle.core_file.specs.declared.threads.Thread.{Thread}

-- general register k of pr_reg, a struct user_regs_struct at offset 112
unfoldable pub register_at : List ℕ → ℕ → ℕ
register_at state k = u64_at state (112 + 8 * k)

unfoldable pub registers_of : List ℕ → Registers
registers_of state = record {
  r15 = register_at state 0;
  r14 = register_at state 1;
  r13 = register_at state 2;
  r12 = register_at state 3;
  rbp = register_at state 4;
  rbx = register_at state 5;
  r11 = register_at state 6;
  r10 = register_at state 7;
  r9 = register_at state 8;
  r8 = register_at state 9;
  rax = register_at state 10;
  rcx = register_at state 11;
  rdx = register_at state 12;
  rsi = register_at state 13;
  rdi = register_at state 14;
  rip = register_at state 16;
  rsp = register_at state 19;
}

-- a thread, given its state
unfoldable pub thread_of : List ℕ → Thread
thread_of state = record {
  -- pr_pid
  number = u32_at state 32;
  -- pr_cursig
  signal = u16_at state 12;
  registers = registers_of state;
}

-- the threads among notes, in their order, `limit` at most
unfoldable pub threads_in : ℕ → List NoteParts → List Thread
threads_in limit notes = take limit (map (λ note. thread_of note.descriptor) (filter is_prstatus notes))
