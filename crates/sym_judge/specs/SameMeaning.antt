-- What two symbol files that say the same have in common: what a look-up names, and what the frame rules evaluate to.
use Rattle.std.specs.Prelude.{◌≡◌, ℕ, List, map, Option, None, Some}
use Rattle.sym_records.specs.declared.line.SymLine.{SymLine}
use Rattle.sym_meaning.specs.TextNames.{Call, text_owner, text_chain, text_line}
use Rattle.sym_lookup.specs.AnswerTexts.{call_name}
use Rattle.cfi_eval.specs.declared.registers.Regs.{Regs}
use Rattle.cfi_eval.specs.declared.memory.MemRun.{MemRun}
use Rattle.cfi_eval.specs.declared.outcome.Frame.{Frame}
use Rattle.cfi_eval.specs.TextValue.{text_frame}
use Rattle.cfi_eval.specs.Known.{AreWords, IsKnown}

-- an inlined call: the function's name, or `<name omitted>`, and the path and the line of the call
pub record CallSaid : Type 0 where
  pub name : List ℕ
  pub path : Option (List ℕ)
  pub line : ℕ

abbrev pub said : Call → CallSaid
said call = record { name = call_name call; path = call.path; line = call.line }

-- both files name the same function, the same inlined calls and the same line at an address
pub record NameTheSame (own other : List SymLine) (x : ℕ) : Type 0 where
  pub owner : text_owner own x ≡ text_owner other x
  pub chain : map said (text_chain own x) ≡ map said (text_chain other x)
  pub line : text_line own x ≡ text_line other x

-- if the first file gives no frame at an address, the second gives none. If the first gives a frame
-- whose CFA is not undefined, the second gives the same frame, for all memory and all registers of
-- 64 bits. The same frame has the same CFA, return address and registers, and the same cause for
-- each of these without a value
pub record UnwindTheSame (own other : List SymLine) (x : ℕ) : Type 0 where
  pub nowhere : (regs : Regs) (memory : List MemRun) → text_frame own x regs memory ≡ None → text_frame other x regs memory ≡ None
  pub frame : (regs : Regs) (memory : List MemRun) (f : Frame) → AreWords regs → IsKnown f.cfa → text_frame own x regs memory ≡ Some f → text_frame other x regs memory ≡ Some f
