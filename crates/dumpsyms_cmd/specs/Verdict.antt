-- What the program answers: a status and two texts.
use Rattle.std.specs.Prelude.{ℕ, ◌^◌, Bool, List, []}
use Rattle.dumpsyms_cmd.specs.Refusals.{unread_line, unread_lines}

-- a status, and the texts on standard output and standard error
pub record Verdict : Type 0 where
  pub status : ℕ
  pub out : List ℕ
  pub err : List ℕ

-- the verdict of a refusal
abbrev pub refused : List ℕ → Verdict
refused text = record { status = 1; out = []; err = text }

-- the verdict if a file could not be read, with this line
abbrev pub unread_by : List ℕ → Verdict
unread_by text = record { status = 3; out = []; err = text }

abbrev pub unread : Verdict
unread = unread_by unread_line

-- the verdict if a file could not be read, which the line names if `full`
abbrev pub unread_file : Bool → List ℕ → Verdict
unread_file full name = unread_by (unread_lines full name)

-- the verdict if memory ran out
abbrev pub no_memory : Verdict
no_memory = record { status = 5; out = []; err = [] }

-- an ELF file or a symbol file has at most 2^29 bytes
abbrev pub LIMIT : ℕ
LIMIT = 2 ^ 29
