-- Lemmas about a symbol file for which `judge` answers yes.
use Rattle.std.proofs.Common.{◌≡◌, inl, inr, ℕ, ◌-◌, List, [], ◌∷◌, map, Option, None, Some, Result, Ok, Err, refl, sym, ap, subst, ◌∙◌, arith}
use Rattle.std.specs.List.{AllByRecursion}
use Rattle.sym_edges.specs.Outside.{Files}
use Rattle.frame_entries.specs.FdeFields.{FdeFields}
use Rattle.frame_rows.specs.declared.row.Row.{Row}
use Rattle.frame_rows.specs.Rows.{row_at}
use Rattle.sym_records.specs.declared.line.SymLine.{SymLine}
use Rattle.sym_grammar.specs.Input.{file_reading}
use Rattle.sym_grammar.specs.declared.refusal.SymRefusal.{SymRefusal}
use Rattle.cfi_eval.specs.declared.outcome.Frame.{Frame}
use Rattle.cfi_eval.specs.TextValue.{text_frame}
use Rattle.rule_postfix.specs.RowValue.{row_frame}
use Rattle.rule_postfix.specs.FrameMeaning.{SaysFrame, KeepsRows, KeepsFrames}
use Rattle.rule_postfix.specs.KnownCfa.{HasKnownCfa}
use Rattle.rule_postfix.proofs.CfaLemmas.{written_known}
use Rattle.debug_units.specs.declared.unit_read.UnitRead.{UnitRead}
use Rattle.func_records.specs.TextNames.{Names}
use Rattle.cfi_eval.specs.Known.{IsKnown}
use Rattle.sym_judge.specs.SameMeaning.{said, NameTheSame}
use Rattle.sym_judge.specs.Rulings.{IsRuling}
use Rattle.sym_judge.specs.declared.ruling.Ruling.{Ruling}
use Rattle.sym_judge.specs.declared.ruling.Ruling.TheVariants.{Yes, No}
use Rattle.sym_judge.proofs.LawLemmas.{yes_names, yes_frames}
use Rattle.dumpsyms_cmd.specs.Verdict.{Verdict, LIMIT}
use Rattle.dumpsyms_cmd.specs.Judgement.{judgement_verdict}
use Rattle.dumpsyms_cmd.specs.declared.judgement.Judgement.{Judgement}
use Rattle.dumpsyms_cmd.specs.commands.Dump.{DumpsSource, written_of}
use Rattle.dumpsyms_cmd.specs.ElfInput.{ElfSource}
use Rattle.dumpsyms_cmd.specs.commands.Judge.{ruling_verdict, IsReadVerdict, JudgePromises}
use Rattle.worked.specs.Judged.{NamesAsFile, KeepsRowsOfWords, KeepsFramesOfWords, SaysAsFile}

-- If the verdict on records has status 0, the ruling is yes.
yes_of : (own other : List SymLine) (v : Verdict) (ruling : Ruling) → IsRuling own other ruling → v ≡ ruling_verdict ruling → v.status ≡ 0 → IsRuling own other Yes
yes_of own other v Yes is verdict zero = is
yes_of own other v (No address aspect) is verdict zero = let one : v.status ≡ 1 = ap (λ (w : Verdict). w.status) verdict in absurd (omega arith)

record Judged (own : List SymLine) (read : Result (List SymLine) SymRefusal) : Type 0 where
  other : List SymLine
  reads : read ≡ Ok other
  told : IsRuling own other Yes

judged : (own : List SymLine) (read : Result (List SymLine) SymRefusal) (v : Verdict) → v.status ≡ 0 → IsReadVerdict own read v → Judged own read
judged own (Ok other) v zero is = record { other = other; reads = refl; told = yes_of own other v is.ruling is.ruling_is is.is zero }
judged own (Err why) v zero is = let one : v.status ≡ 1 = ap (λ (w : Verdict). w.status) is in absurd (omega arith)

names_too : (base : ℕ) (units : List UnitRead) (own other : List SymLine) (x : ℕ) → Names base units own x → NameTheSame own other x → NamesAsFile base units other x
names_too base units own other x names same = record {
  function = sym same.owner ∙ names.function;
  chain = sym same.chain ∙ ap (map said) names.chain;
  line = sym same.line ∙ names.line;
}

-- A frame whose CFA is known.
row_too : (row : Row) (meant : Frame) (mine theirs : Option Frame) → SaysFrame row meant mine → IsKnown meant.cfa → ((f : Frame) → IsKnown f.cfa → mine ≡ Some f → theirs ≡ Some f) → SaysFrame row meant theirs
row_too row meant None theirs says known same = absurd says
row_too row meant (Some f) theirs says known same = subst (SaysFrame row meant) (sym (same f (subst IsKnown (sym says.cfa) known) refl)) says

rows_too : (base : ℕ) (own other : List SymLine) → IsRuling own other Yes → (entries : List FdeFields) → AllByRecursion HasKnownCfa entries → AllByRecursion (KeepsRows base own) entries → AllByRecursion (KeepsRowsOfWords base other) entries
rows_too base own other told [] known all = tt
rows_too base own other told (e ∷ entries) known all = (
  record {
    at = λ a regs memory fits holds words bytes. row_too (row_at e a) (row_frame e (row_at e a) regs memory) (text_frame own (a - base) regs memory) (text_frame other (a - base) regs memory) (all.0.at a regs memory holds) (known.0.at a regs memory holds bytes)
        (λ f k is. (yes_frames own other (a - base) told fits).frame regs memory f words k is);
  },
  rows_too base own other told entries known.1 all.1,
)

frames_too : (base : ℕ) (own other : List SymLine) (entries : List FdeFields) → IsRuling own other Yes → AllByRecursion HasKnownCfa entries → KeepsFrames base entries own → KeepsFramesOfWords base entries other
frames_too base own other entries told known keeps = record {
  rows = rows_too base own other told entries known keeps.rows;
  nothing_else = λ x regs memory fits none. (yes_frames own other x told fits).nowhere regs memory (keeps.nothing_else x regs memory none);
}

says_as : (source : ElfSource) (sym : List ℕ) (files : Files) (own : List SymLine) (err bytes : List ℕ) → DumpsSource source files own err → files sym ≡ Some bytes → Judged own (file_reading LIMIT bytes) → SaysAsFile source sym files
says_as source sym files own err bytes dumps there is = record {
  parts = dumps.parts;
  image_is = dumps.image_is;
  found = dumps.dumps.found;
  found_is = dumps.dumps.found_is;
  units = dumps.dumps.canon.units;
  units_are = dumps.dumps.canon.units_are;
  bytes = bytes;
  there = there;
  lines = is.other;
  reads = is.reads;
  names = λ x fits. names_too dumps.parts.base dumps.dumps.canon.units own is.other x (dumps.dumps.names x) (yes_names own is.other x is.told fits);
  frames = frames_too dumps.parts.base own is.other (written_of dumps.parts dumps.dumps.found) is.told (written_known dumps.parts.code dumps.dumps.found.first dumps.dumps.found.second) dumps.dumps.means;
}

pub yes_says : (source : ElfSource) (sym : List ℕ) (files : Files) (j : Judgement) → JudgePromises source sym (Some files) j → (judgement_verdict j).status ≡ 0 → SaysAsFile source sym files
yes_says source sym files j (inl refuses) zero = let one : (judgement_verdict j).status ≡ 1 = ap (λ (w : Verdict). w.status) refuses.is in absurd (omega arith)
yes_says source sym files j (inr both) zero =
    says_as source sym files both.own both.err both.judged.bytes both.dumps both.judged.there (judged both.own (file_reading LIMIT both.judged.bytes) (judgement_verdict j) zero both.judged.is)
