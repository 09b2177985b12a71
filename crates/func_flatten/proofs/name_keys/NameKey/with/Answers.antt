use Rattle.func_flatten.proofs.KeyLemmas.{key_added}
use Rattle.func_flatten.proofs.name_keys.NameKey.with.Goals as goal

pub returns : goal.returns
returns c = λ units text of. key_added units c.args.self text c.args.bytes.now c.kept_part-front.result.now _ _ c.kept_part-front.ensures c.hash_from.ensures c.saturating_add.ensures of
