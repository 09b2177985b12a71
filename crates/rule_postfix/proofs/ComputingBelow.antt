-- The definitions of the crates below rule_postfix that a proof unfolds to compute a worked
-- example.
use Rattle.std.specs.Prelude.{⊤}
use Rattle.range_set.specs.Enclosing.{encloses}
use Rattle.sym_edges.specs.Abi.{is_kept, default_of}
use Rattle.sym_edges.proofs.Hex.{bytes, hex, little}
use Rattle.sym_edges.proofs.Shown.{shown}
use Rattle.frame_rows.proofs.Computing.{frame_rows_computes}
use Rattle.expr_postfix.proofs.Computing.{expr_postfix_computes}
use Rattle.sym_records.proofs.Computing.{sym_records_computes}

unfoldable pub frames_below_compute : ⊤
unfolding encloses is_kept default_of bytes hex little shown frame_rows_computes expr_postfix_computes sym_records_computes
frames_below_compute = tt
