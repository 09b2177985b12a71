use Rattle.std.proofs.Common.{◌≡◌, ◌-◌, ◌<◌, ◌≤◌, length, take, drop, get_or, Some, sym, ap, subst, ◌∙◌, rules}
use Rattle.std.specs.List.{slice_get}
use Rattle.flat_lists.specs.Ends.{begun}
use Rattle.flat_lists.proofs.EndLemmas.{list_there, none_there, ordered}
use Rattle.flat_lists.proofs.lists.FlatLists.get.Goals as goal

pub returns-in_default : goal.returns-in_default
returns-in_default g c =
    let past : length c.self.inside.ends.items ≤ c.args.k = search rules in
    none_there 0 c.self.inside.ends.items c.self.inside.members.items c.args.k past ∙ ap (λ lists. slice_get lists c.args.k) c.self.view_is

pub list_between-requires-clause-rising : goal.list_between-requires-clause-rising
list_between-requires-clause-rising g c =
    let there : c.args.k < length c.self.inside.ends.items = search rules in
    let end : c.in-Some.end.now ≡ get_or c.self.inside.ends.items c.args.k c.in-Some.end.now = search rules in
    let start : c.begun-start.result ≡ begun 0 c.self.inside.ends.items c.args.k = search rules in
    subst (λ n. n ≤ c.in-Some.end.now) (sym start) (ordered 0 c.self.inside.ends.items _ c.args.k c.in-Some.end.now c.self.invariant there end).0

pub list_between-requires-clause-inside : goal.list_between-requires-clause-inside
list_between-requires-clause-inside g c =
    let there : c.args.k < length c.self.inside.ends.items = search rules in
    let end : c.in-Some.end.now ≡ get_or c.self.inside.ends.items c.args.k c.in-Some.end.now = search rules in
    subst (λ members. c.in-Some.end.now ≤ length members) (sym c.as_slice-2.ensures.value) (ordered 0 c.self.inside.ends.items _ c.args.k c.in-Some.end.now c.self.invariant there end).1

pub returns : goal.returns
returns g c =
    let there : c.args.k < length c.self.inside.ends.items = search rules in
    let end : c.in-Some.end.now ≡ get_or c.self.inside.ends.items c.args.k c.in-Some.end.now = search rules in
    let start : c.begun-start.result ≡ begun 0 c.self.inside.ends.items c.args.k = search rules in
    ap Some
    (c.list_between.ensures
    ∙ ap (λ members. take (c.in-Some.end.now - c.begun-start.result) (drop c.begun-start.result members)) c.as_slice-2.ensures.value
    ∙ ap (λ n. take (c.in-Some.end.now - n) (drop n c.self.inside.members.items)) start)
    ∙ sym (list_there 0 c.self.inside.ends.items c.self.inside.members.items c.args.k c.in-Some.end.now there end)
    ∙ ap (λ lists. slice_get lists c.args.k) c.self.view_is
