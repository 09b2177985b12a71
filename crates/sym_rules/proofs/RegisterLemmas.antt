-- The numbers of registers, given their names (for `register_named` and `register_of`).
use Rattle.std.proofs.Common.{◌≡◌, ◌≢◌, ℕ, List, ◌∷◌, [], length, Option, None, refl, sym, ◌∙◌, arith}
use Rattle.std.specs.Str.{bytes_eq}
use Rattle.std.proofs.lemmas.Iterator.Adapters.{position_from-zero}
use Rattle.sym_edges.specs.Abi.{register_names}
use Rattle.sym_rules.specs.RuleReading.{register_of}
use Rattle.sym_rules.specs.internal.Registers.{register_in}

pub register_is : (name : List ℕ) (found : Option ℕ) → found ≡ register_in name → found ≡ register_of (36 ∷ name)
unfolding register_of
register_is name found is = is ∙ sym (position_from-zero (bytes_eq (36 ∷ name)) register_names)

pub none_without_sign : (name bare : List ℕ) (sign : ℕ) → name ≡ sign ∷ bare → sign ≢ 36 → None ≡ register_of name
unfolding register_of register_names
none_without_sign name bare sign is other = grind (arith)

pub none_without_name : (name : List ℕ) → length name ≡ 0 → None ≡ register_of name
unfolding register_of register_names
none_without_name [] is = refl
none_without_name (b ∷ name) is = absurd (omega (arith, is))
