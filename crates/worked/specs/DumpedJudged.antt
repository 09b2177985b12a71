-- Two runs: the first dumps a source (an ELF file, alone or with its debug file), and the second judges the text that the first wrote.
use Rattle.std.specs.Prelude.{◌≡◌, ℕ, ◌≤◌, List, [], codes, length, Some}
use Rattle.sym_edges.specs.Outside.{Files, append_told}
use Rattle.dumpsyms_cmd.specs.Words.{dump, judge}
use Rattle.dumpsyms_cmd.specs.Verdict.{LIMIT}
use Rattle.dumpsyms_cmd.specs.ElfInput.{ElfSource, given_image}
use Rattle.dumpsyms_cmd.specs.Program.{Run, command}

-- the first run dumped a source with status 0. The second run is asked to judge the same source and a symbol file. The store still gives the same
-- image. The bytes of the symbol file are the text that the first run wrote, at most 2^29 of them
pub record JudgesWhatWasDumped (dumping judging : Run) : Type 0 where
  pub source : ElfSource
  pub sym : List ℕ
  pub workers : ℕ
  pub text : List ℕ
  pub before : Files
  pub after : Files
  pub dumps : command dumping ≡ Some (dump source workers)
  pub judges : command judging ≡ Some (judge source sym)
  pub dumping_tells : dumping.store.files ≡ Some before
  pub judging_tells : judging.store.files ≡ Some after
  pub same_image : given_image source before ≡ given_image source after
  pub done : dumping.status ≡ 0
  pub out : dumping.out.taken ≡ Some []
  pub wrote : dumping.out.taken_after ≡ Some text
  pub kept : after sym ≡ Some text
  pub fits : length text ≤ LIMIT

-- the answer is yes
pub record AnswersYes (judging : Run) : Type 0 where
  pub status : judging.status ≡ 0
  pub out : judging.out.taken_after ≡ append_told judging.out.taken (codes "yes\n")
