use Rattle.sym_lookup.proofs.UnderOfLemmas.{searchable, lines_map}
use Rattle.sym_lookup.proofs.under.line_finder.Goals as goal

pub returns-then-are_rising : goal.returns-then-are_rising
returns-then-are_rising c =
    searchable c.args.lines.now c.under_func-records.result.now c.split_at.result.1.now c.args.func c.inlines_in_front-skip.result c.under_func-records.ensures.under c.under_func-records.ensures.within
    c.inlines_in_front-skip.ensures.within c.inlines_in_front-skip.ensures.same c.split_at.ensures.back c.if-are_rising.ensures

pub returns : goal.returns
returns c = lines_map c.args.lines.now c.under_func-records.result.now c.args.func c.in_ok-map.map c.under_func-records.ensures.under c.in_ok-map.ensures
