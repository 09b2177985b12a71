-- The registers of x86-64 in frame rules (System V ABI, AMD64 supplement: 3.2.1 "Registers", and "DWARF Register Number Mapping").
use Rattle.std.specs.Prelude.{ℕ, ◌==◌, ◌||◌, ◌&&◌, nat_le, Bool, if◌then◌else◌, List, [], ◌∷◌, slice_index_or, codes}

-- the names of the registers with the DWARF numbers 0 to 15, as Breakpad's symbol_files.md writes them
unfoldable pub register_names : List (List ℕ)
register_names =
    codes "$rax" ∷ codes "$rdx" ∷ codes "$rcx" ∷ codes "$rbx" ∷ codes "$rsi" ∷ codes "$rdi" ∷ codes "$rbp" ∷ codes "$rsp"
    ∷ codes "$r8" ∷ codes "$r9" ∷ codes "$r10" ∷ codes "$r11" ∷ codes "$r12" ∷ codes "$r13" ∷ codes "$r14" ∷ codes "$r15" ∷ []

-- the name of the register with a DWARF number; it is empty from 16 on
unfoldable pub register_name : ℕ → List ℕ
register_name number = slice_index_or register_names number []

-- the DWARF number of rsp
abbrev pub stack_pointer : ℕ
stack_pointer = 7

-- the column of the return address, after the columns of the registers
abbrev pub return_address : ℕ
return_address = 16

-- the registers besides rsp that a called function preserves: rbx, rbp, r12 to r15
unfoldable pub is_kept : ℕ → Bool
is_kept column = column == 3 || (column == 6 || (nat_le 12 column && nat_le column 15))

-- what is known of a column for which no rule is given
pub data Default : Type 0 where
  -- the register still has its value in the caller
  KeepsValue : Default
  -- the value of the register is the CFA, as that of rsp is after a return
  IsCfa : Default
  -- nothing is specified
  Unspecified : Default

unfoldable pub default_of : ℕ → Default
default_of column = if is_kept column then KeepsValue else if column == stack_pointer then IsCfa else Unspecified
