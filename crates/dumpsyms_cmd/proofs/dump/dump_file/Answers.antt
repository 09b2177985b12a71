use Rattle.std.proofs.Common.{rules, List, ◌++◌, ◌∙◌, IfOk, subst, sym}
use Rattle.sym_records.specs.declared.line.SymLine.{SymLine}
use Rattle.sym_records.specs.Spelled.{text_bytes}
use Rattle.sym_records.proofs.SpelledLemmas.{spelled_reads}
use Rattle.rule_postfix.specs.Written.{written, written_lines}
use Rattle.rule_postfix.proofs.WrittenLemmas.{written_valid}
use Rattle.dumpsyms_cmd.specs.commands.Dump.{identity_lines, public_lines}
use Rattle.dumpsyms_cmd.specs.internal.Spelled.{HasHead, HasFrames}
use Rattle.debug_units.specs.CleanPaths.{HaveCleanPaths}
use Rattle.debug_read.proofs.PathLemmas.{read_clean}
use Rattle.dumpsyms_cmd.proofs.CanonLemmas.{whole_spelled, whole_records, file_dumped}
use Rattle.dumpsyms_cmd.proofs.dump.dump_file.Goals as goal

pub both-front-requires-after_bounds : goal.both-front-requires-after_bounds
both-front-requires-after_bounds g c κs within =
    let clean : HaveCleanPaths c.args.debug.now.units = read_clean c.args.image.now c.args.debug.now c.requires.found in
    (((search rules, clean), search rules), (search rules, search rules))

pub of-requires : goal.of-requires
of-requires g c =
    let front : HasHead c.args.image.now c.args.name.now c.args.debug.now.units (text_bytes c.in_ok-head.head) =
    subst (λ r. IfOk r (λ text. HasHead c.args.image.now c.args.name.now c.args.debug.now.units (text_bytes text))) c.in_ok-head.was c.both-front.ensures.first in
    let framed : HasFrames c.args.image.now c.args.debug.now (text_bytes c.in_ok-framed.framed.text) c.in_ok-framed.framed.omitted =
    subst (λ r. IfOk r (λ frames. HasFrames c.args.image.now c.args.debug.now (text_bytes frames.text) frames.omitted)) c.in_ok-framed.was c.both-front.ensures.second in
    let lines : List SymLine = written_lines c.args.image.now.base (written c.args.image.now.code c.args.debug.now.first c.args.debug.now.second) in
    let head : List SymLine = identity_lines c.args.image.now c.args.name.now ++ (front.functions ++ public_lines c.args.image.now front.pieces) in
    whole_spelled (text_bytes c.in_ok-head.head) (text_bytes c.in_ok-framed.framed.text) (text_bytes c.append.new.self) head lines
    front.text_is front.valid framed.text_is (written_valid c.args.image.now.base c.args.image.now.code c.args.debug.now.first c.args.debug.now.second) c.in_ok-append.ensures

pub returns : goal.returns
returns g c =
    let front : HasHead c.args.image.now c.args.name.now c.args.debug.now.units (text_bytes c.in_ok-head.head) =
    subst (λ r. IfOk r (λ text. HasHead c.args.image.now c.args.name.now c.args.debug.now.units (text_bytes text))) c.in_ok-head.was c.both-front.ensures.first in
    let framed : HasFrames c.args.image.now c.args.debug.now (text_bytes c.in_ok-framed.framed.text) c.in_ok-framed.framed.omitted =
    subst (λ r. IfOk r (λ frames. HasFrames c.args.image.now c.args.debug.now (text_bytes frames.text) frames.omitted)) c.in_ok-framed.was c.both-front.ensures.second in
    let lines : List SymLine = written_lines c.args.image.now.base (written c.args.image.now.code c.args.debug.now.first c.args.debug.now.second) in
    let head : List SymLine = identity_lines c.args.image.now c.args.name.now ++ (front.functions ++ public_lines c.args.image.now front.pieces) in
    file_dumped c.args.image.now c.args.name.now c.args.debug.now c.of.result c.in_ok-framed.framed.omitted (text_bytes c.in_ok-head.head) (text_bytes c.in_ok-framed.framed.text)
    c.requires.found front framed
    (c.of.ensures ∙ whole_records (text_bytes c.in_ok-head.head) (text_bytes c.in_ok-framed.framed.text) (text_bytes c.append.new.self) head lines front.text_is front.valid framed.text_is (written_valid c.args.image.now.base c.args.image.now.code c.args.debug.now.first c.args.debug.now.second) c.in_ok-append.ensures)
    (spelled_reads (text_bytes c.append.new.self) c.of.result
    (whole_spelled (text_bytes c.in_ok-head.head) (text_bytes c.in_ok-framed.framed.text) (text_bytes c.append.new.self) head lines front.text_is front.valid framed.text_is (written_valid c.args.image.now.base c.args.image.now.code c.args.debug.now.first c.args.debug.now.second) c.in_ok-append.ensures)
    (sym c.of.ensures))
