-- Worked examples: the parts of a core of one thread and one module.
use Rattle.std.proofs.Common.{◌≡◌, ℕ, true, false, List, [], ◌∷◌, ◌++◌, Some, None, codes, refl}
use Rattle.sym_edges.proofs.Hex.{hex, little}
use Rattle.core_file.specs.Memory.{byte_at, word_at}
use Rattle.core_file.specs.Code.{is_code}
use Rattle.core_file.specs.Core.{core_fault, parts_upto, CoreParts}
use Rattle.core_file.proofs.Cores.{load, noted, core_of, thread_note, files, mapping, image, cores_build}
use Rattle.core_file.proofs.Computing.{core_file_computes}

unfoldable one : List ℕ
unfolding cores_build
one = core_of (
    noted (thread_note ++ files 1 (mapping 0x555555550000 0x555555554000 0) (codes "/x/a\0" ++ 0 ∷ 0 ∷ 0 ∷ []))
    ∷ load 5 0x555555550000 0x4000 image
    ∷ load 6 0x7000 0x1000 (little 8 0x555555552005)
    ∷ [])

unfoldable parts : CoreParts
unfolding cores_build core_file_computes one
parts = parts_upto 8 one

no_fault : core_fault one ≡ None
unfolding cores_build core_file_computes one
no_fault = refl

threads : parts.threads ≡ record {
  number = 1;
  signal = 11;
  registers = record {
    r15 = 1;
    r14 = 2;
    r13 = 3;
    r12 = 4;
    rbp = 5;
    rbx = 6;
    r11 = 7;
    r10 = 8;
    r9 = 9;
    r8 = 10;
    rax = 11;
    rcx = 12;
    rdx = 13;
    rsi = 14;
    rdi = 15;
    rip = 0x555555551005;
    rsp = 0x7000;
  };
} ∷ []
unfolding cores_build core_file_computes one parts
threads = refl

modules : parts.modules ≡ record {
  start = 0x555555550000;
  end = 0x555555554000;
  base = 0x555555550000;
  name = codes "a";
  build_id = Some (hex "000102030405060708090a0b0c0d0e0f");
} ∷ []
unfolding cores_build core_file_computes one parts
modules = refl

-- The byte and the word at an address, or none.
a_byte : byte_at parts.memory 0x7000 ≡ Some 5
unfolding cores_build core_file_computes one parts
a_byte = refl

a_word : word_at parts.memory 0x7000 ≡ Some 0x555555552005
unfolding cores_build core_file_computes one parts
a_word = refl

no_byte : byte_at parts.memory 0x7008 ≡ None
unfolding cores_build core_file_computes one parts
no_byte = refl

no_word : word_at parts.memory 0x7001 ≡ None
unfolding cores_build core_file_computes one parts
no_word = refl

-- Code is what may be executed, up to the segment's size in memory.
in_code : is_code parts.memory parts.modules 0x555555553fff ≡ true
unfolding cores_build core_file_computes one parts
in_code = refl

on_stack : is_code parts.memory parts.modules 0x7000 ≡ false
unfolding cores_build core_file_computes one parts
on_stack = refl

nowhere : is_code parts.memory parts.modules 0 ≡ false
unfolding cores_build core_file_computes one parts
nowhere = refl
