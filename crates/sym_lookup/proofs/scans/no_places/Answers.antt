use Rattle.std.proofs.Common.{[], ◌∷◌, ◌++◌, ◌∙◌, ap, None}
use Rattle.std.proofs.lemmas.List.{replicate_more}
use Rattle.sym_lookup.proofs.scans.no_places.Goals as goal

pub levels-preserved : goal.levels-preserved
levels-preserved c = c.in_ok-push.ensures.items ∙ ap (λ xs. xs ++ None ∷ []) c.levels.invariant ∙ replicate_more c.levels.level None
