-- The definitions that a worked example unfolds to compute the verdict of a command on symbol
-- files.
use Rattle.std.specs.Prelude.{⊤}
use Rattle.sym_edges.proofs.Shown.{shown}
use Rattle.sym_lookup.proofs.Computing.{sym_lookup_computes}
use Rattle.sym_findings.proofs.Computing.{sym_findings_computes}
use Rattle.cfi_eval.proofs.Computing.{cfi_eval_computes}
use Rattle.state_file.proofs.Computing.{state_file_computes}
use Rattle.stack_walk.proofs.Computing.{stack_walk_computes}
use Rattle.sym_judge.proofs.Computing.{sym_judge_computes}
use Rattle.sym_judge.specs.internal.Stops.{run_stops, first_in, with_stop, with_stops, half_ruling}
use Rattle.rust_names.proofs.Computing.{rust_names_computes}
use Rattle.sym_grammar.specs.Input.{decided, file_reading}
use Rattle.dumpsyms_cmd.specs.Words.{number_upto, address_of}
use Rattle.dumpsyms_cmd.specs.commands.Check.{findings_text, check_answer}
use Rattle.dumpsyms_cmd.specs.commands.Lookup.{lookup_answer}
use Rattle.stack_text.specs.FrameText.{short_name, registers_text}
use Rattle.stack_text.specs.WalkText.{steps_text}
use Rattle.dumpsyms_cmd.specs.commands.Names.{names_answer}

unfoldable pub symbols_compute : ⊤
unfolding sym_judge_computes run_stops first_in with_stop with_stops half_ruling shown sym_findings_computes sym_lookup_computes cfi_eval_computes state_file_computes stack_walk_computes rust_names_computes decided file_reading number_upto address_of findings_text check_answer lookup_answer short_name registers_text steps_text names_answer
symbols_compute = tt
