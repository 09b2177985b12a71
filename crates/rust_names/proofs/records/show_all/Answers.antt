use Rattle.std.proofs.Common.{map, length, set, ◌∙◌, ap, arith}
use Rattle.std.proofs.lemmas.List.Edits.{map_over_more}
use Rattle.sym_records.specs.Validity.{first_bad}
use Rattle.rust_names.specs.ShownRecords.{renamed}
use Rattle.rust_names.specs.Named.{named}
use Rattle.rust_names.proofs.RecordLemmas.{shown_good, shown_all, all_written}
use Rattle.rust_names.proofs.records.show_all.Goals as goal

pub loop-at-preserved : goal.loop-at-preserved
loop-at-preserved c =
    ap (set c.loop-at.lines.items c.loop-at.at) c.in_ok-show_record.ensures
    ∙ map_over_more (renamed named) c.into_vec-lines.result.items c.loop-at.lines.items c.loop-at.at c.index_mut.result.now
    (omega (arith, c.loop-at-test.true, ap length c.into_vec-lines.ensures, ap length c.as_slice-count.ensures.lines)) c.loop-at.invariant c.index_mut.ensures.value

pub file_of_valid-requires : goal.file_of_valid-requires
file_of_valid-requires c =
    ap first_bad (all_written c.into_vec-lines.result.items c.loop-at.lines.items c.loop-at.at (omega (arith, c.loop-at-test.false, ap length c.into_vec-lines.ensures, ap length c.as_slice-count.ensures.lines)) c.loop-at.invariant
    ∙ ap (map (renamed named)) c.into_vec-lines.ensures) ∙ shown_good c.args.file c.as_slice-count.ensures.valid

pub returns-clause-shown : goal.returns-clause-shown
returns-clause-shown c =
    shown_all c.args.file c.file_of_valid.result (c.file_of_valid.ensures
    ∙ all_written c.into_vec-lines.result.items c.loop-at.lines.items c.loop-at.at (omega (arith, c.loop-at-test.false, ap length c.into_vec-lines.ensures, ap length c.as_slice-count.ensures.lines)) c.loop-at.invariant
    ∙ ap (map (renamed named)) c.into_vec-lines.ensures)

pub returns-clause-named : goal.returns-clause-named
returns-clause-named c =
    c.file_of_valid.ensures
    ∙ all_written c.into_vec-lines.result.items c.loop-at.lines.items c.loop-at.at (omega (arith, c.loop-at-test.false, ap length c.into_vec-lines.ensures, ap length c.as_slice-count.ensures.lines)) c.loop-at.invariant
    ∙ ap (map (renamed named)) c.into_vec-lines.ensures
