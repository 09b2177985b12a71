-- Answers of a store that did not fail: its count of faults is unchanged.
use Rattle.std.proofs.Common.{◌≡◌, ℕ, List, Err, ◌∙◌}
use Rattle.sym_edges.specs.WholeFile.{IsSteady}
use Rattle.sym_edges.specs.declared.fault.Stop.{Stop}
use Rattle.sym_edges.specs.declared.fault.Stop.TheVariants.{Fault}
use Rattle.sym_edges.specs.declared.fault.Stop.TheVariants as stop
use Rattle.sym_edges.specs.declared.whole_file.ReadEnd.{ReadEnd}
use Rattle.sym_edges.specs.declared.whole_file.ReadEnd.TheVariants.{CantOpen, CantRead, TooLong}
use Rattle.sym_grammar.specs.Input.{IsSteadyRead}
use Rattle.sym_grammar.specs.declared.refusal.SymEnd.{SymEnd}
use Rattle.sym_grammar.specs.declared.refusal.SymEnd.TheVariants as end
use Rattle.dumpsyms_cmd.specs.internal.Judged.{AnswersStop, AnswersEnd, IsSteadyAnswer}
use Rattle.dumpsyms_cmd.specs.declared.judgement.Answer.{Answer}
use Rattle.dumpsyms_cmd.specs.declared.judgement.Answer.TheVariants.{Judged, Unread, NoMemory}

pub any_steady : (answer : Answer) (before after : ℕ) → after ≡ before → IsSteadyAnswer answer before after
any_steady (Judged j) before after same = same
any_steady (Unread m) before after same = tt
any_steady NoMemory before after same = same

pub steady_behind : (answer : Answer) (before mid after : ℕ) → mid ≡ before → IsSteadyAnswer answer mid after → IsSteadyAnswer answer before after
steady_behind (Judged j) before mid after same is = is ∙ same
steady_behind (Unread m) before mid after same is = tt
steady_behind NoMemory before mid after same is = is ∙ same

pub stop_steady : (answer : Answer) (text : List ℕ) (stopped : Stop ReadEnd) (before after : ℕ) → IsSteady (Err stopped) before after → AnswersStop answer text stopped → IsSteadyAnswer answer before after
stop_steady answer text (Fault TooLong) before after same says = any_steady answer before after same
stop_steady answer text stop.NoMemory before after same says = any_steady answer before after same
stop_steady (Judged j) text (Fault CantOpen) before after same says = absurd says
stop_steady (Judged j) text (Fault CantRead) before after same says = absurd says
stop_steady (Unread m) text (Fault CantOpen) before after same says = tt
stop_steady (Unread m) text (Fault CantRead) before after same says = tt
stop_steady NoMemory text (Fault CantOpen) before after same says = absurd says
stop_steady NoMemory text (Fault CantRead) before after same says = absurd says

pub end_steady : (answer : Answer) (text : List ℕ) (stopped : Stop SymEnd) (before after : ℕ) → IsSteadyRead (Err stopped) before after → AnswersEnd answer text stopped → IsSteadyAnswer answer before after
end_steady answer text (Fault (end.Refused why)) before after same says = any_steady answer before after same
end_steady answer text stop.NoMemory before after same says = any_steady answer before after same
end_steady (Judged j) text (Fault end.Unread) before after same says = absurd says
end_steady (Unread m) text (Fault end.Unread) before after same says = tt
end_steady NoMemory text (Fault end.Unread) before after same says = absurd says
