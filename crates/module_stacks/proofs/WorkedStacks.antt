-- Worked examples of the stacks of a thread: the addresses of each step, why the walk ends, and why
-- a module has no records.
use Rattle.std.proofs.Common.{◌≡◌, ℕ, List, [], ◌∷◌, codes, map, Option, Some, None, Result, Ok, Err, if◌then◌else◌, refl}
use Prim.Native.String.{String}
use Rattle.std.specs.Char.{encode_utf8}
use Rattle.std.specs.Str.{bytes_eq, is_utf8, chars}
use Rattle.sym_edges.specs.Outside.{Files}
use Rattle.debug_pair.proofs.Computing.{debug_pair_computes}
use Rattle.core_file.specs.Core.{CoreParts}
use Rattle.core_file.specs.declared.modules.Module.{Module}
use Rattle.core_file.specs.declared.segments.Segment.{Segment}
use Rattle.core_file.specs.declared.threads.Thread.{Thread}
use Rattle.sym_records.specs.declared.line.SymLine.{SymLine}
use Rattle.sym_grammar.specs.Input.{file_reading}
use Rattle.sym_grammar.specs.declared.refusal.SymRefusal.TheVariants.{Text}
use Rattle.sym_rules.specs.declared.text_fault.TextKind.TheVariants.{NoModule}
use Rattle.stack_walk.specs.declared.steps.Walk.{Walk}
use Rattle.stack_walk.specs.declared.steps.WalkStep.{WalkStep}
use Rattle.stack_walk.specs.declared.steps.WalkEnd.{WalkEnd}
use Rattle.stack_walk.specs.declared.steps.WalkEnd.TheVariants.{NoSymbols, RaUndefined}
use Rattle.stack_walk.proofs.Computing.{stack_walk_computes}
use Rattle.module_stacks.specs.SymbolFiles.{found_in}
use Rattle.module_stacks.specs.Symbols.{name_of, symbols_of, records_at}
use Rattle.module_stacks.specs.Stacks.{process_by, stack_of}
use Rattle.module_stacks.specs.declared.lack.Lack.{Lack}
use Rattle.module_stacks.specs.declared.lack.Lack.TheVariants.{NoBuildId, Missing, Refused, OtherModule}
use Rattle.module_stacks.proofs.Computing.{module_stacks_computes}

-- `f` calls `g`, which has no rule for its return address.
abbrev text : String
text = "MODULE Linux x86_64 030201000504070608090A0B0C0D0E0F0 a\nFUNC 1000 20 0 f\nFUNC 2000 10 0 g\nSTACK CFI INIT 1000 20 .cfa: $rsp 8 + .ra: .cfa -8 + ^\nSTACK CFI INIT 2000 10 .cfa: $rsp 8 +\n"

abbrev path : String
path = "store/a/030201000504070608090A0B0C0D0E0F0/a.sym"

-- Files of which one has a text.
abbrev only : String → String → Files
only name text other = if bytes_eq other (codes name) then Some (codes text) else None

abbrev nothing : Files
nothing name = None

-- A process of one module at 555555550000, with some bytes at 7000. The module's code is a segment
-- whose bytes are not in the file.
abbrev some_id : List ℕ
some_id = 0 ∷ 1 ∷ 2 ∷ 3 ∷ 4 ∷ 5 ∷ 6 ∷ 7 ∷ 8 ∷ 9 ∷ 10 ∷ 11 ∷ 12 ∷ 13 ∷ 14 ∷ 15 ∷ []

abbrev module_a : Option (List ℕ) → Module
module_a id = record { start = 0x555555550000; end = 0x555555554000; base = 0x555555550000; name = codes "a"; build_id = id }

abbrev stack_segment : ℕ → Segment
stack_segment size = record { kind = 1; flags = 6; offset = 0; address = 0x7000; file_size = size; memory_size = size }

abbrev code_segment : Segment
code_segment = record { kind = 1; flags = 5; offset = 0; address = 0x555555550000; file_size = 0; memory_size = 0x3010 }

abbrev core_with : List ℕ → ℕ → CoreParts
core_with bytes size = record { memory = record { file = bytes; segments = stack_segment size ∷ code_segment ∷ [] }; threads = []; modules = module_a (Some some_id) ∷ [] }

abbrev thread_at : ℕ → Thread
thread_at rip = record {
  number = 1;
  signal = 11;
  registers = record { r15 = 0; r14 = 0; r13 = 0; r12 = 0; rbp = 0; rbx = 0; r11 = 0; r10 = 0; r9 = 0; r8 = 0; rax = 0; rcx = 0; rdx = 0; rsi = 0; rdi = 0; rip = rip; rsp = 0x7000 };
}

abbrev spots : Walk → List (ℕ × ℕ) × WalkEnd
spots walk = (map {B = ℕ × ℕ} (λ (s : WalkStep). (s.rip, s.at)) walk.steps, walk.end)

-- The return address 555555552005, and in front of it 555555551005.
abbrev to_g : List ℕ
to_g = 0x05 ∷ 0x20 ∷ 0x55 ∷ 0x55 ∷ 0x55 ∷ 0x55 ∷ 0 ∷ 0 ∷ []

abbrev to_f : List ℕ
to_f = 0x05 ∷ 0x10 ∷ 0x55 ∷ 0x55 ∷ 0x55 ∷ 0x55 ∷ 0 ∷ 0 ∷ to_g

a_stack : spots (stack_of (only path text) (codes "store") (core_with to_g 8) (thread_at 0x555555551005)) ≡ ((0x555555551005, 0x555555551005) ∷ (0x555555552005, 0x555555552004) ∷ [], RaUndefined)
unfolding stack_of process_by records_at symbols_of name_of debug_pair_computes is_utf8 chars encode_utf8 file_reading module_stacks_computes stack_walk_computes
a_stack = refl

-- Without its symbol file, a module has no records.
no_file : spots (stack_of nothing (codes "store") (core_with to_g 8) (thread_at 0x555555551005)) ≡ ((0x555555551005, 0x555555551005) ∷ [], NoSymbols)
unfolding stack_of process_by records_at symbols_of name_of debug_pair_computes is_utf8 chars encode_utf8 file_reading module_stacks_computes stack_walk_computes
no_file = refl

-- A call through a null pointer.
a_null_call : spots (stack_of (only path text) (codes "store") (core_with to_f 16) (thread_at 0)) ≡ ((0, 0) ∷ (0x555555551005, 0x555555551004) ∷ (0x555555552005, 0x555555552004) ∷ [], RaUndefined)
unfolding stack_of process_by records_at symbols_of name_of debug_pair_computes is_utf8 chars encode_utf8 file_reading module_stacks_computes stack_walk_computes
a_null_call = refl

-- Why a module has no records.
abbrev lack_in : Result (List SymLine) Lack → Option Lack
lack_in (Ok lines) = None
lack_in (Err lack) = Some lack

unfoldable lacks : Files → Module → Option Lack
unfolding symbols_of
lacks got m = lack_in (symbols_of (λ path. found_in (got path)) (codes "store") m)

without_id : lacks (only path text) (module_a None) ≡ Some NoBuildId
unfolding lacks name_of
without_id = refl

not_there : lacks nothing (module_a (Some some_id)) ≡ Some Missing
unfolding lacks name_of debug_pair_computes is_utf8 chars encode_utf8 module_stacks_computes stack_walk_computes
not_there = refl

another_build : lacks (only path "MODULE Linux x86_64 030201000504070608090A0B0C0D0E0F1 a\n") (module_a (Some some_id)) ≡ Some OtherModule
unfolding lacks name_of debug_pair_computes is_utf8 chars encode_utf8 file_reading module_stacks_computes stack_walk_computes
another_build = refl

no_text : lacks (only path "FUNC 1000 20 0 f\n") (module_a (Some some_id)) ≡ Some (Refused (Text (record { kind = NoModule; line = 1 })))
unfolding lacks name_of debug_pair_computes is_utf8 chars encode_utf8 file_reading module_stacks_computes stack_walk_computes
no_text = refl

-- An id of fewer than 16 bytes is padded with zeros.
a_short_id : lacks (only "store/a/000000AB0000000000000000000000000/a.sym" "MODULE Linux x86_64 000000AB0000000000000000000000000 a\n") (module_a (Some (0xab ∷ []))) ≡ None
unfolding lacks name_of debug_pair_computes is_utf8 chars encode_utf8 file_reading module_stacks_computes stack_walk_computes
a_short_id = refl
