-- The stacks of a core file's threads, given the symbol files in a folder.
use Rattle.std.specs.Prelude.{ℕ, ◌^◌, true, List, [], ◌∷◌, Some}
use Rattle.sym_edges.specs.Outside.{Files}
use Rattle.cfi_eval.specs.declared.registers.Regs.{Regs}
use Rattle.core_file.specs.Core.{CoreParts}
use Rattle.core_file.specs.Code.{is_code}
use Rattle.core_file.specs.declared.threads.Registers.{Registers}
use Rattle.core_file.specs.declared.threads.Thread.{Thread}
use Rattle.stack_walk.specs.Walk.{Process, walk_from, first_place}
use Rattle.stack_walk.specs.declared.steps.Walk.{Walk}
use Rattle.module_stacks.specs.CoreRuns.{core_runs}
use Rattle.module_stacks.specs.SymbolFiles.{Found, found_in}
use Rattle.module_stacks.specs.Symbols.{records_at}

-- the registers of a thread by their DWARF numbers (System V ABI for AMD64, figure 3.36)
abbrev pub regs_of : Registers → Regs
regs_of r = record {
  values =
      Some r.rax ∷ Some r.rdx ∷ Some r.rcx ∷ Some r.rbx ∷ Some r.rsi ∷ Some r.rdi ∷ Some r.rbp ∷ Some r.rsp
      ∷ Some r.r8 ∷ Some r.r9 ∷ Some r.r10 ∷ Some r.r11 ∷ Some r.r12 ∷ Some r.r13 ∷ Some r.r14 ∷ Some r.r15 ∷ [];
  rip = Some r.rip;
}

-- a process, given its core file and what was found under each path
unfoldable pub process_by : (List ℕ → Found) → List ℕ → CoreParts → Process
process_by found folder core = record {
  memory = core_runs core.memory;
  known_at = λ a. record { records = records_at found folder core.modules a; is_code = is_code core.memory core.modules a };
  signals = true;
}

-- a process, given the files
abbrev pub process_of : Files → List ℕ → CoreParts → Process
process_of got folder core = process_by (λ path. found_in (got path)) folder core

-- the stack of a thread, of at most 2^20 steps
unfoldable pub stack_of : Files → List ℕ → CoreParts → Thread → Walk
stack_of got folder core thread = walk_from (process_of got folder core) (2 ^ 20) (first_place (regs_of thread.registers) thread.registers.rip)
