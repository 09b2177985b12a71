use Rattle.std.proofs.Common.{arith}
use Rattle.sym_records.proofs.AddingLemmas.{adds_line, tail_added}
use Rattle.sym_records.proofs.text_lines.add_line.Goals as goal

pub returns : goal.returns
returns c =
    adds_line c.args.address c.args.size c.args.number c.args.file _ _ _ _ _ _ _ c.write_last-at.ensures.written c.write_decimal_field-at.ensures.written c.write_decimal_field-at-2.ensures.written c.write_hex_field-at.ensures.written c.write_hex-at.ensures.written
    (tail_added _ c.write_hex-at.new.line _ 64 c.write_hex-at.result (omega arith) c.in_ok-extend_from_slice.ensures.items)
