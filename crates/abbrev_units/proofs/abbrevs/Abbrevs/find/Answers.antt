use Rattle.std.proofs.Common.{sym, ap, ◌∙◌}
use Rattle.abbrev_units.specs.Abbreviations.{abbrev_of}
use Rattle.abbrev_units.proofs.PlaceLemmas.{found_by_map, missed_by_map}
use Rattle.abbrev_units.proofs.abbrevs.Abbrevs.find.Goals as goal

pub returns-in-Some : goal.returns-in-Some
returns-in-Some c =
    c.get-in-Some.ensures
    ∙ found_by_map c.self.inside.list c.self.inside.dense c.self.inside.places c.args.code c.in-Some.place c.self.invariant.others
    (λ all. c.if-self-len.false (all ∙ sym c.len.ensures)) (sym c.in-Some.is ∙ c.place_of.ensures)
    ∙ ap (abbrev_of c.args.code) c.self.view_is

pub returns-in-None : goal.returns-in-None
returns-in-None c =
    missed_by_map c.self.inside.list c.self.inside.dense c.self.inside.places c.args.code c.self.invariant.others
    (λ all. c.if-self-len.false (all ∙ sym c.len.ensures)) (sym c.in-None.is ∙ c.place_of.ensures)
    ∙ ap (abbrev_of c.args.code) c.self.view_is
