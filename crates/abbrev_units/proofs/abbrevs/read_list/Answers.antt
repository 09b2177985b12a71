use Rattle.std.proofs.Common.{Ok, Option, subst}
use Rattle.abbrev_units.specs.declared.lists.Head.{Head}
use Rattle.abbrev_units.specs.internal.Used.{used_abbrev_at}
use Rattle.abbrev_units.specs.internal.Listed.{ReadsAt}
use Rattle.abbrev_units.proofs.ListedLemmas.{reads_more, reads_end}
use Rattle.abbrev_units.proofs.abbrevs.read_list.Goals as goal

pub abbrevs-preserved : goal.abbrevs-preserved
abbrevs-preserved c =
    reads_more c.args.forms.now c.abbrevs.lists c.read_abbrev.new.lists c.abbrevs.heads.items c.push.new.self.items c.in-Some.head c.abbrevs.cursor c.read_abbrev.new.cursor _ c.abbrevs.invariant
    (subst (λ (next : Option Head). ReadsAt (Ok next) c.read_abbrev.new.lists c.read_abbrev.new.cursor (used_abbrev_at c.args.forms.now c.abbrevs.cursor)) c.in-Some.is c.in_ok-head.ensures.read)
    c.in_ok-head.ensures.grown c.in_ok-push.ensures.items

pub returns-in_default-clause-read : goal.returns-in_default-clause-read
returns-in_default-clause-read c =
    reads_end c.args.forms.now c.abbrevs.lists c.read_abbrev.new.lists c.abbrevs.heads.items c.abbrevs.cursor c.read_abbrev.new.cursor _ c.abbrevs.invariant
    (subst (λ (next : Option Head). ReadsAt (Ok next) c.read_abbrev.new.lists c.read_abbrev.new.cursor (used_abbrev_at c.args.forms.now c.abbrevs.cursor)) c.in_default.is c.in_ok-head.ensures.read)
    c.in_ok-head.ensures.grown
