use Rattle.func_flatten.proofs.NameLemmas.{held_none}
use Rattle.func_flatten.proofs.name_classes.NameClasses.new.Goals as goal

pub returns : goal.returns
returns c = λ units name. held_none units name _ c.new.ensures.empty c.new-2.ensures.empty c.new-3.ensures.empty
