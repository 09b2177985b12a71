-- Records with readable names read back from their text.
use Rattle.std.proofs.Common.{List, map}
use Rattle.sym_records.specs.declared.line.SymLine.{SymLine}
use Rattle.sym_records.specs.Validity.{AreValid}
use Rattle.sym_records.proofs.ValidityLemmas.{none_valid}
use Rattle.sym_records.proofs.ReadingLemmas.{reads_back}
use Rattle.rust_names.specs.ShownRecords.{renamed}
use Rattle.rust_names.specs.Named.{named}
use Rattle.rust_names.proofs.RecordLemmas.{shown_good}
use Rattle.rust_names.proofs.FindingLemmas.{same_findings}
use Rattle.dumpsyms_cmd.specs.commands.Names.{ReadsBackNamed}

pub names_read_back : (lines : List SymLine) → AreValid lines → ReadsBackNamed lines
names_read_back lines valid =
    let good : AreValid (map (renamed named) lines) = none_valid (map (renamed named) lines) (shown_good lines valid) in
    record { valid = good; reads = reads_back (map (renamed named) lines) good; findings = same_findings named lines }
