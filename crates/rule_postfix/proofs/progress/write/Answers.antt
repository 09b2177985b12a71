use Rattle.std.proofs.Common.{◌∙◌, ◌++◌, ◌∷◌, [], ap, refl}
use Rattle.std.specs.List.{flat_map}
use Rattle.frame_entries.specs.FdeFields.{FdeFields}
use Rattle.rule_postfix.specs.Written.{range_of, entry_lines}
use Rattle.rule_postfix.proofs.DecidedLemmas.{shows_more}
use Rattle.rule_postfix.proofs.progress.write.Goals as goal

pub returns-clause-shown : goal.returns-clause-shown
unfolding entry_lines
returns-clause-shown c = λ d so.
    shows_more c.args.base c.args.progress.now _ c.args.fde.now d
    (flat_map (λ piece. piece) c.args.progress.now.text.full.items) c.args.progress.now.text.last.items c.spell_entry.new.text.items (entry_lines c.args.base c.args.fde.now)
    refl refl c.in-Ok.ensures.text c.in_ok-turn.ensures refl
    (c.in_ok-put.ensures ∙ ap (λ (e : FdeFields). c.args.progress.now.taken ++ range_of e ∷ []) c.fde.view_is) so
