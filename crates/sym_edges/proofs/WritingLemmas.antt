use Rattle.std.proofs.Common.{◌≡◌, ℕ, List, [], ◌++◌, Option, Some, None, length, refl, ◌∙◌, ap, arith, append_assoc}
use Rattle.std.proofs.lemmas.Grind.{common_steps}
use Rattle.sym_edges.specs.Outside.{append_told, AddsFront}

-- Taking two pieces one after the other is taking the joined piece.
pub told_twice : (held : Option (List ℕ)) (first second : List ℕ) → append_told (append_told held first) second ≡ append_told held (first ++ second)
told_twice None first second = refl
told_twice (Some held) first second = ap Some (append_assoc held first second)

-- Taking an empty piece changes nothing.
pub told_nothing : (held : Option (List ℕ)) → append_told held [] ≡ held
told_nothing None = refl
told_nothing (Some held) = grind (arith, common_steps)

-- If `written` is a prefix of the bytes and was taken, a prefix of the bytes was added.
pub adds_front : (before after : Option (List ℕ)) (bytes written rest : List ℕ) → bytes ≡ written ++ rest → after ≡ append_told before written → AddsFront before after bytes
adds_front before after bytes written rest is told = record {
  count = length written;
  within = grind (arith, common_steps);
  added = told ∙ ap (append_told before) (grind (arith, common_steps));
}
