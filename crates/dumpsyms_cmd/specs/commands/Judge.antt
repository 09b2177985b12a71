-- `judge ELF SYM`, also with `--full`, and with `--debug FILE` or `--debug-root DIR`: whether a symbol file says the same as what `dump` writes. The
-- answer is `yes`; or it is `no`, the least address at which they differ, and what differs there first: `func`, `chain`, `line`, `init`, `cfa`, `ra`
-- or a register's name. If `dump` refuses, `judge` refuses too, and it does not ask for the symbol file.
use Rattle.std.specs.Prelude.{◌≡◌, ◌⊎◌, ℕ, zero, suc, Bool, List, [], ◌∷◌, ◌++◌, codes, Option, Some, None, Result, Ok, Err}
use Rattle.sym_edges.specs.Outside.{Files, Tells}
use Rattle.sym_rules.specs.declared.text_fault.TextFault.{TextFault}
use Rattle.sym_records.specs.Canon.{canon_text}
use Rattle.sym_records.specs.Fields.{hex}
use Rattle.sym_records.specs.Reading.{reading}
use Rattle.sym_records.specs.declared.line.SymLine.{SymLine}
use Rattle.sym_grammar.specs.Input.{file_reading}
use Rattle.sym_grammar.specs.declared.refusal.SymRefusal.{SymRefusal}
use Rattle.sym_judge.specs.Rulings.{IsRuling}
use Rattle.sym_judge.specs.declared.ruling.Aspect.{Aspect}
use Rattle.sym_judge.specs.declared.ruling.Aspect.TheVariants.{Func, Chain, Line, Init, Cfa, Ra, Reg}
use Rattle.sym_judge.specs.declared.ruling.Ruling.{Ruling}
use Rattle.sym_judge.specs.declared.ruling.Ruling.TheVariants.{Yes, No}
use Rattle.stack_text.specs.Lines.{line}
use Rattle.stack_text.specs.FrameText.{short_name}
use Rattle.dumpsyms_cmd.specs.Verdict.{Verdict, refused, unread_file, LIMIT}
use Rattle.dumpsyms_cmd.specs.ElfInput.{ElfSource}
use Rattle.dumpsyms_cmd.specs.SymbolInput.{refusal_line}
use Rattle.dumpsyms_cmd.specs.Judgement.{judgement_verdict}
use Rattle.dumpsyms_cmd.specs.commands.Dump.{IsSourceVerdict, DumpsSource}
use Rattle.dumpsyms_cmd.specs.declared.judgement.Judgement.{Judgement}

abbrev pub aspect_word : Aspect → List ℕ
aspect_word Func = codes "func"
aspect_word Chain = codes "chain"
aspect_word Line = codes "line"
aspect_word Init = codes "init"
aspect_word Cfa = codes "cfa"
aspect_word Ra = codes "ra"
aspect_word (Reg register) = short_name register

abbrev pub ruling_verdict : Ruling → Verdict
ruling_verdict Yes = record { status = 0; out = line (codes "yes"); err = [] }
ruling_verdict (No address aspect) = record { status = 1; out = line (codes "no " ++ (hex address ++ 32 ∷ aspect_word aspect)); err = [] }

-- the verdict on two lists of records
pub record IsRuled (own other : List SymLine) (v : Verdict) : Type 0 where
  pub ruling : Ruling
  pub ruling_is : IsRuling own other ruling
  pub is : v ≡ ruling_verdict ruling

-- the verdict on records and on the result of reading a symbol file
abbrev pub IsReadVerdict : List SymLine → Result (List SymLine) SymRefusal → Verdict → Type 0
IsReadVerdict own (Ok other) v = IsRuled own other v
IsReadVerdict own (Err why) v = v ≡ refused (refusal_line why)

-- the verdict on records and a symbol file. For a missing file, the line names it if `full`
abbrev pub IsSymVerdict : Bool → List ℕ → List SymLine → Option (List ℕ) → Verdict → Type 0
IsSymVerdict full sym own None v = v ≡ unread_file full sym
IsSymVerdict full sym own (Some bytes) v = IsReadVerdict own (file_reading LIMIT bytes) v

-- the verdict on the text that `dump` writes, which reads without a fault
abbrev pub IsTextVerdict : Bool → List ℕ → Result (List SymLine) TextFault → Option (List ℕ) → Verdict → Type 0
IsTextVerdict full sym (Ok own) file v = IsSymVerdict full sym own file v
IsTextVerdict full sym (Err fault) file v = ⊥

-- the verdict, given that of `dump`: if its status is not 0, `judge` has the same verdict
abbrev pub IsDumpedVerdict : Bool → List ℕ → ℕ → Verdict → Option (List ℕ) → Verdict → Type 0
IsDumpedVerdict full sym zero dumped file v = IsTextVerdict full sym (reading dumped.out) file v
IsDumpedVerdict full sym (suc status) dumped file v = v ≡ dumped

-- the verdict of `judge` on the files
pub record IsJudgeVerdict (source : ElfSource) (sym : List ℕ) (files : Files) (v : Verdict) : Type 0 where
  pub dumped : Verdict
  pub dumped_is : IsSourceVerdict source files dumped
  pub is : IsDumpedVerdict source.full sym dumped.status dumped (files sym) v

-- a judgement on records and the bytes of a symbol file. If the store's files are known, these are the bytes of that file
pub record JudgesSym (own : List SymLine) (sym : List ℕ) (files : Option Files) (j : Judgement) : Type 0 where
  pub bytes : List ℕ
  pub there : Tells files (λ f. f sym ≡ Some bytes)
  pub is : IsReadVerdict own (file_reading LIMIT bytes) (judgement_verdict j)

-- a judgement with which `dump` refuses
pub record RefusesElf (source : ElfSource) (files : Option Files) (j : Judgement) : Type 0 where
  pub err : List ℕ
  pub is : judgement_verdict j ≡ refused err
  pub told : Tells files (λ f. IsSourceVerdict source f (refused err))

-- a judgement on the symbol file, given the records of the image. These are the records that `dump` writes, and they keep the promises of `dump`
pub record JudgesBoth (source : ElfSource) (sym : List ℕ) (files : Option Files) (j : Judgement) : Type 0 where
  pub own : List SymLine
  pub err : List ℕ
  pub reads : reading (canon_text own) ≡ Ok own
  pub dumps : Tells files (λ f. DumpsSource source f own err)
  pub judged : JudgesSym own sym files j

-- what `judge` promises about its judgement
abbrev pub JudgePromises : ElfSource → List ℕ → Option Files → Judgement → Type 0
JudgePromises source sym files j = RefusesElf source files j ⊎ JudgesBoth source sym files j
