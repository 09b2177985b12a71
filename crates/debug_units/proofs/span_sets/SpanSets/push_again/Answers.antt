use Rattle.std.proofs.Common.{◌≡◌, ◌<◌, ℕ, List, length, None, sym, ap, subst, ◌∙◌}
use Rattle.std.specs.List.{slice_get}
use Rattle.sym_edges.specs.Addresses.{Range}
use Rattle.debug_units.proofs.SetLemmas.{never_past}
use Rattle.debug_units.proofs.span_sets.SpanSets.push_again.Goals as goal

pub unreachable-requires : goal.unreachable-requires
unreachable-requires c =
    let none : None ≡ slice_get c.self.inside.numbers.items c.args.entry = sym c.in-None.is ∙ c.number_of.ensures ∙ ap (λ (l : List ℕ). slice_get l c.args.entry) c.as_slice.ensures.value in
    never_past c.self.inside.sets c.self.inside.numbers.items c.args.entry (subst (λ (l : List (List Range)). c.args.entry < length l) (sym c.self.view_is) c.requires) none
