use Rattle.std.proofs.Common.{◌∷◌, ◌+◌, ap}
use Rattle.frame_entries.specs.FdeFields.{FdeFields}
use Rattle.rule_postfix.proofs.EntryLemmas.{entry_text, pass_bad, pass_lack, pass_good}
use Rattle.rule_postfix.proofs.entry_records.spell_entry.Goals as goal

pub returns-in-Err-spell_steps-clause-exact : goal.returns-in-Err-spell_steps-clause-exact
returns-in-Err-spell_steps-clause-exact c = pass_bad _ _ c.in-Err-spell_steps.stop c.args.fde.now c.in-Ok.stepper _ _ c.in-Ok.ensures.begins c.in-Err-spell_steps.ensures.fault

pub returns-then-lacking-clause-exact : goal.returns-then-lacking-clause-exact
returns-then-lacking-clause-exact c = pass_lack c.args.fde.now c.in-Ok.stepper c.in-Ok-spell_steps.lacking c.in-Ok.ensures.begins c.in-Ok-spell_steps.ensures.fault c.in-Ok-spell_steps.ensures.lacking c.if-lacking.true

pub returns-clause-text : goal.returns-clause-text
returns-clause-text c =
    entry_text c.args.base (c.fde.inside.start + c.fde.inside.size) c.args.fde.now (c.in-Ok.stepper.here ∷ c.in-Ok.stepper.later) c.args.text.now.items c.spell_steps.new.text.items (c.in-Ok.ensures.begins.rows c.in-Ok-spell_steps.ensures.fault) c.requires.some
    (ap (λ (e : FdeFields). e.start + e.size) c.fde.view_is)
    c.in-Ok-spell_steps.ensures.text

pub returns-clause-exact : goal.returns-clause-exact
returns-clause-exact c = pass_good c.args.fde.now c.in-Ok.stepper c.in-Ok-spell_steps.lacking c.in-Ok.ensures.begins c.in-Ok-spell_steps.ensures.fault c.in-Ok-spell_steps.ensures.lacking c.if-lacking.false
