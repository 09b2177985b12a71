use Rattle.line_program.proofs.ValueLemmas.{number_cut, path_cut}
use Rattle.line_program.proofs.entries.read_value.Goals as goal

pub returns-in-Err : goal.returns-in-Err
returns-in-Err c = number_cut c.args.wide c.args.form c.args.cursor.now c.in-Err.fault c.into.result c.in-15.is c.in-Err.ensures.read c.into.ensures

pub returns-in-Err-read_place : goal.returns-in-Err-read_place
returns-in-Err-read_place c = path_cut c.args.wide c.args.form c.args.cursor.now c.in-Err-read_place.fault c.into-in-Err-read_place.result c.in-31.is c.in-Err-read_place.ensures.read c.into-in-Err-read_place.ensures
