-- The small file of the worked examples, files made from it, and what the program answers to a
-- file.
use Rattle.std.proofs.Common.{ℕ, ◌+◌, ◌==◌, ◌&&◌, Bool, List, [], ◌∷◌, ◌++◌, length, codes, Option, None, Some, false, if◌then◌else◌}
use Prim.Native.String.{String}
use Rattle.std.specs.Prelude.{⊤}
use Rattle.std.specs.Str.{bytes_eq}
use Rattle.sym_edges.proofs.Shown.{shown}
use Rattle.dumpsyms_cmd.specs.Verdict.{Verdict}
use Rattle.worked.proofs.Computing.{verdict_computes}
use Rattle.worked.proofs.Plain.{plain_verdict}
use Rattle.worked.proofs.Elf.{Section, Symbol, Program, null, plain, linked, code, function, loaded, file_of, entries, strings, id_note, hex, files_are_built}

-- A note with the build id 00 01 .. 13.
abbrev pub id : Section
id = plain ".note.gnu.build-id" 7 (id_note (hex "000102030405060708090a0b0c0d0e0f10111213"))

-- Sixteen bytes of code.
unfoldable pub text : List ℕ
text = hex "f30f1efa 31c0c390 c3909090 90909090"

-- A file of section 0, sections, a symbol table that links to the names after it, and more
-- sections.
unfoldable pub file_with : List Program → List Section → List Symbol → List Section → List ℕ
file_with ps front ss back =
    file_of ps (null ∷ front ++ linked ".symtab" 2 (length front + 2) (entries ss) ∷ plain ".strtab" 3 (strings ss) ∷ back)

-- A file with a build id (section 1), code from 1000 to 1010 (2), symbols (3), their names (4), and
-- more sections.
unfoldable pub worked : List Symbol → List Section → List ℕ
worked ss back = file_with (loaded 0 ∷ []) (id ∷ code 0x1000 text ∷ []) ss back

abbrev pub main : Symbol
main = function "main" 0x1000

-- The small file: a build id, and the function `main` at 1000.
unfoldable pub small : List ℕ
small = worked (main ∷ []) []

-- The small file with more sections.
unfoldable pub small_and : List Section → List ℕ
small_and back = worked (main ∷ []) back

-- A status, and the texts on standard output and standard error; `None` if the verdict is not
-- computed.
abbrev pub Told : Type 0
Told = Option (ℕ × String × String)

abbrev pub told : Option Verdict → Told
told None = None
told (Some v) = Some (v.status, shown v.out, shown v.err)

-- The answer to arguments and one file.
unfoldable pub ran : List (List ℕ) → List ℕ → List ℕ → Told
ran words name file = told (plain_verdict words (λ asked. if bytes_eq asked name then Some file else None))

-- The answer of `dump d/a.out` to a file.
unfoldable pub dump : List ℕ → Told
dump file = ran (codes "dump" ∷ codes "d/a.out" ∷ []) (codes "d/a.out") file

-- The verdict is a refusal with only this line.
abbrev pub is_refusal : String → Option Verdict → Bool
is_refusal line None = false
is_refusal line (Some v) = v.status == 1 && bytes_eq v.out [] && bytes_eq v.err (codes line)

-- A dump of the file is refused with this line.
unfoldable pub refuses : String → List ℕ → Bool
refuses line file = is_refusal line (plain_verdict (codes "dump" ∷ codes "d/a.out" ∷ []) (λ asked. Some file))

-- The MODULE and INFO lines of the small file.
abbrev pub front : List ℕ
front = codes "MODULE Linux x86_64 030201000504070608090A0B0C0D0E0F0 a.out\nINFO CODE_ID 000102030405060708090A0B0C0D0E0F10111213\n"

-- Status 0, a text, and nothing on standard error.
abbrev pub texts : String → Told
texts out = Some (0, out, "")

-- Status 0, the small file's first lines and these records, and these lines on standard error.
abbrev pub gives_and_omits : String → String → Told
gives_and_omits out err = Some (0, shown (front ++ codes out), err)

abbrev pub gives : String → Told
gives out = gives_and_omits out ""

-- Status 1, and this line on standard error.
abbrev pub refused : String → Told
refused line = Some (1, "", line)

unfoldable pub files : ⊤
unfolding verdict_computes files_are_built text file_with worked small small_and ran dump refuses
files = tt
