use Rattle.sym_judge.proofs.TableLemmas.{put_cfa, put_ra, put_register, put_no_register, put_name}
use Rattle.sym_judge.proofs.rule_tables.put_rule.Goals as goal

pub returns-in-Cfa : goal.returns-in-Cfa
returns-in-Cfa c = λ lines rules words before. put_cfa lines rules c.args.rule.now c.args.place c.args.table.now c.in-Cfa.is words before

pub returns-in-Ra : goal.returns-in-Ra
returns-in-Ra c = λ lines rules words before. put_ra lines rules c.args.rule.now c.args.place c.args.table.now c.in-Ra.is words before

pub returns-then-register-lt16 : goal.returns-then-register-lt16
returns-then-register-lt16 c = λ lines rules words before. rw c.from.ensures (put_register lines rules c.args.rule.now c.args.place c.args.table.now c.in-Reg.register c.in-Reg.is c.if-register-lt16.true words before)

pub returns-else-register-lt16 : goal.returns-else-register-lt16
returns-else-register-lt16 c = λ lines rules words before. put_no_register lines rules c.args.rule.now c.args.table.now c.in-Reg.register c.in-Reg.is c.if-register-lt16.false before

pub returns-in-Other : goal.returns-in-Other
returns-in-Other c = λ lines rules words before. put_name lines rules c.args.rule.now c.args.table.now c.in-Other.field-0 c.in-Other.is before
