use Rattle.std.proofs.Common.{◌+◌, ◌-◌, length, Ok, sym, ap, ◌∙◌, arith}
use Rattle.frame_entries.specs.declared.raw_entries.Mark.{Mark}
use Rattle.frame_entries.proofs.ListingLemmas.{listing_ended, listing_refused}
use Rattle.frame_entries.proofs.raw_entries.read_listing.Goals as goal

pub returns-in-Err : goal.returns-in-Err
returns-in-Err c =
    sym c.marks.invariant.listed
    ∙ listing_refused c.marks.raws.items (length c.args.bytes.now - c.marks.counter) (length c.args.bytes.now - (c.marks.counter + 1)) c.args.which c.marks.cursor c.in-Err.fault
    (omega arith) (sym (c.if-is_at_end.ensures)) (c.in-Err.ensures)

pub returns-in-Terminator : goal.returns-in-Terminator
returns-in-Terminator c =
    sym c.marks.invariant.listed
    ∙ listing_ended c.marks.raws.items (length c.args.bytes.now - c.marks.counter) (length c.args.bytes.now - (c.marks.counter + 1)) c.args.which c.marks.cursor c.read_mark.new.cursor
    (omega arith) (sym (c.if-is_at_end.ensures))
    (ap (λ (mark : Mark). Ok (mark, c.read_mark.new.cursor)) (sym c.in-Terminator.is) ∙ c.in-Ok.ensures)
