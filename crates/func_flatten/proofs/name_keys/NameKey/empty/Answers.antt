use Rattle.std.proofs.Common.{refl}
use Rattle.func_flatten.proofs.KeyLemmas.{empty_key}
use Rattle.func_flatten.proofs.name_keys.NameKey.empty.Goals as goal

pub returns : goal.returns
returns c = λ units. empty_key units _ refl
