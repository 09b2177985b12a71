use Rattle.std.proofs.Common.{sym, subst}
use Rattle.line_program.specs.LineMaps.{LineMap}
use Rattle.debug_read.specs.internal.Owing.{WholeBy}
use Rattle.debug_read.proofs.OwingLemmas.{whole_sound}
use Rattle.debug_read.proofs.named_tables.keep_table.Goals as goal

pub returns-then-not-kept : goal.returns-then-not-kept
returns-then-not-kept c = λ code sections offset comp_dir whole. whole_sound code sections offset comp_dir c.args.table whole

pub returns : goal.returns
returns c = λ code sections offset comp_dir whole. subst (λ (t : LineMap). WholeBy code sections offset comp_dir t) (sym c.in_ok-lines.ensures) whole
