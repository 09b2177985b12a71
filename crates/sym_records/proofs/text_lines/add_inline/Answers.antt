use Rattle.std.proofs.Common.{arith, replicate, ℕ}
use Rattle.std.proofs.lemmas.List.{length-replicate}
use Rattle.sym_records.proofs.AddingLemmas.{adds_inline, tail_added, on_ok}
use Rattle.sym_records.proofs.text_lines.add_inline.Goals as goal

pub returns : goal.returns
returns c =
    on_ok c.end.result
    (λ last.
    adds_inline c.args.level c.args.call_line c.args.call_file c.args.origin c.args.ranges.now _ (replicate 64 0) _ _ _ _ _ _ _ _ 64 (omega (arith, length-replicate {A = ℕ} 64 0)) c.write_decimal_field-at.ensures.written c.write_decimal_field-at-2.ensures.written c.write_decimal_field-at-3.ensures.written
    c.write_decimal_field-at-4.ensures.written c.write_bytes-at.ensures.written (tail_added _ c.write_bytes-at.new.line _ 64 c.write_bytes-at.result (omega arith) c.in_ok-begin.ensures) c.in_ok-add_ranges.ensures last)
    c.end.ensures
