use Rattle.std.proofs.Common.{arith}
use Rattle.sym_records.proofs.AddingLemmas.{adds_file, tail_added, on_ok}
use Rattle.sym_records.proofs.text_lines.add_file.Goals as goal

pub returns : goal.returns
returns c = on_ok c.end_with_name.result (λ last. adds_file _ _ _ _ _ _ _ _ c.write_last-at.ensures.written c.write_decimal_field-at.ensures.written c.write_bytes-at.ensures.written (tail_added _ c.write_bytes-at.new.line _ 64 c.write_bytes-at.result (omega arith) c.in_ok-begin.ensures) last) c.end_with_name.ensures
