-- Worked examples: the two texts of small processes, of which one calls through a null pointer.
use Rattle.std.proofs.Common.{◌≡◌, ℕ, List, [], ◌∷◌, codes, Option, Some, None, if◌then◌else◌, refl}
use Prim.Native.String.{String}
use Rattle.std.specs.Str.{bytes_eq}
use Rattle.sym_edges.specs.Outside.{Files}
use Rattle.core_file.specs.Core.{CoreParts}
use Rattle.core_file.specs.declared.modules.Module.{Module}
use Rattle.core_file.specs.declared.segments.Segment.{Segment}
use Rattle.core_file.specs.declared.threads.Thread.{Thread}
use Rattle.stack_text.specs.Once.{once}
use Rattle.stack_text.specs.StacksText.{stacks_text, lacks_text}
use Rattle.stack_text.proofs.Computing.{stack_text_computes}

-- `f` calls `g`, which has no rule for its return address.
abbrev text : String
text = "MODULE Linux x86_64 030201000504070608090A0B0C0D0E0F0 a\nFUNC 1000 20 0 f\nFUNC 2000 10 0 g\nSTACK CFI INIT 1000 20 .cfa: $rsp 8 + .ra: .cfa -8 + ^\nSTACK CFI INIT 2000 10 .cfa: $rsp 8 +\n"

abbrev path : String
path = "store/a/030201000504070608090A0B0C0D0E0F0/a.sym"

-- Files of which one has a text.
abbrev only : String → String → Files
only name text other = if bytes_eq other (codes name) then Some (codes text) else None

abbrev nothing : Files
nothing name = None

abbrev some_id : Option (List ℕ)
some_id = Some (0 ∷ 1 ∷ 2 ∷ 3 ∷ 4 ∷ 5 ∷ 6 ∷ 7 ∷ 8 ∷ 9 ∷ 10 ∷ 11 ∷ 12 ∷ 13 ∷ 14 ∷ 15 ∷ [])

abbrev module_a : Option (List ℕ) → Module
module_a id = record { start = 0x555555550000; end = 0x555555554000; base = 0x555555550000; name = codes "a"; build_id = id }

abbrev stack_segment : ℕ → Segment
stack_segment size = record { kind = 1; flags = 6; offset = 0; address = 0x7000; file_size = size; memory_size = size }

abbrev code_segment : Segment
code_segment = record { kind = 1; flags = 5; offset = 0; address = 0x555555550000; file_size = 0; memory_size = 0x3010 }

abbrev thread_at : ℕ → ℕ → ℕ → Thread
thread_at number signal rip = record {
  number = number;
  signal = signal;
  registers = record { r15 = 0; r14 = 0; r13 = 0; r12 = 0; rbp = 0; rbx = 0; r11 = 0; r10 = 0; r9 = 0; r8 = 0; rax = 0; rcx = 0; rdx = 0; rsi = 0; rdi = 0; rip = rip; rsp = 0x7000 };
}

-- A process with some bytes at 7000.
abbrev process : List ℕ → ℕ → Option (List ℕ) → List Thread → CoreParts
process bytes size id threads = record { memory = record { file = bytes; segments = stack_segment size ∷ code_segment ∷ [] }; threads = threads; modules = module_a id ∷ [] }

-- The return address 555555552005, and in front of it 555555551005.
abbrev to_g : List ℕ
to_g = 0x05 ∷ 0x20 ∷ 0x55 ∷ 0x55 ∷ 0x55 ∷ 0x55 ∷ 0 ∷ 0 ∷ []

abbrev to_f : List ℕ
to_f = 0x05 ∷ 0x10 ∷ 0x55 ∷ 0x55 ∷ 0x55 ∷ 0x55 ∷ 0 ∷ 0 ∷ to_g

in_f : stacks_text (only path text) (codes "store") (process to_g 8 some_id (thread_at 1 11 0x555555551005 ∷ []))
    ≡ codes "signal 11\nmodule 555555550000 555555554000 a 030201000504070608090A0B0C0D0E0F0\nthread 1\n0 555555551005 a\nf at ?\n1 555555552005 a\ng at ?\nend ra-undefined\n"
unfolding stack_text_computes
in_f = refl

nothing_lacks : lacks_text (only path text) (codes "store") (process to_g 8 some_id (thread_at 1 11 0x555555551005 ∷ [])) ≡ []
unfolding stack_text_computes
nothing_lacks = refl

-- The symbol file is missing. The line about it is written once for two threads.
not_there : stacks_text nothing (codes "store") (process to_g 8 some_id (thread_at 1 11 0x555555551005 ∷ []))
    ≡ codes "signal 11\nmodule 555555550000 555555554000 a 030201000504070608090A0B0C0D0E0F0\nthread 1\n0 555555551005 a\nnone\nend no-symbols\n"
unfolding stack_text_computes
not_there = refl

named_once : lacks_text nothing (codes "store") (process to_g 8 some_id (thread_at 1 11 0x555555551005 ∷ thread_at 2 11 0x555555552005 ∷ [])) ≡ codes "missing a 030201000504070608090A0B0C0D0E0F0\n"
unfolding stack_text_computes
named_once = refl

-- A call through a null pointer.
a_null_call : stacks_text (only path text) (codes "store") (process to_f 16 some_id (thread_at 1 11 0 ∷ []))
    ≡ codes "signal 11\nmodule 555555550000 555555554000 a 030201000504070608090A0B0C0D0E0F0\nthread 1\n0 0\nnone\n1 555555551005 a\nf at ?\n2 555555552005 a\ng at ?\nend ra-undefined\n"
unfolding stack_text_computes
a_null_call = refl

-- No signal and no build id.
no_id : stacks_text (only path text) (codes "store") (process to_g 8 None (thread_at 1 0 0x555555551005 ∷ [])) ≡ codes "module 555555550000 555555554000 a -\nthread 1\n0 555555551005 a\nnone\nend no-symbols\n"
unfolding stack_text_computes
no_id = refl

missing_id : lacks_text (only path text) (codes "store") (process to_g 8 None (thread_at 1 0 0x555555551005 ∷ [])) ≡ codes "missing a\n"
unfolding stack_text_computes
missing_id = refl

-- Symbol files that are refused.
other_build : lacks_text (only path "MODULE Linux x86_64 030201000504070608090A0B0C0D0E0F1 a\n") (codes "store") (process to_g 8 some_id (thread_at 1 11 0x555555551005 ∷ [])) ≡ codes "refused a 030201000504070608090A0B0C0D0E0F0 other-module\n"
unfolding stack_text_computes
other_build = refl

no_text : lacks_text (only path "FUNC 1000 20 0 f\n") (codes "store") (process to_g 8 some_id (thread_at 1 11 0x555555551005 ∷ [])) ≡ codes "refused a 030201000504070608090A0B0C0D0E0F0 no-module line 1\n"
unfolding stack_text_computes
no_text = refl

twice : once (codes "a" ∷ codes "b" ∷ codes "a" ∷ codes "c" ∷ codes "b" ∷ []) ≡ codes "a" ∷ codes "b" ∷ codes "c" ∷ []
unfolding stack_text_computes
twice = refl
