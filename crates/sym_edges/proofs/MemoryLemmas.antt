use Rattle.std.proofs.Common.{◌≡◌, ℕ, ◌+◌, ◌<◌, ◌≤◌, List, [], ◌∷◌, ◌++◌, Option, Some, None, length, take, drop, min, refl, ap, arith}
use Rattle.std.proofs.lemmas.Grind.{common_steps}
use Rattle.sym_edges.specs.Outside.{ReadsFront}
use Rattle.sym_edges.specs.Memory.{left_of}
use Rattle.sym_edges.specs.declared.name.NamedFile.{NamedFile}

-- What is left after `n` more bytes were read.
pub left_more : (files : List NamedFile) (chosen : Option ℕ) (place n : ℕ) → left_of files chosen (place + n) ≡ drop n (left_of files chosen place)
unfolding left_of
left_more files None place n = grind (arith, common_steps)
left_more files (Some i) place n = grind (arith, common_steps)

no_length : (left : List ℕ) → length left ≡ 0 → left ≡ []
no_length [] is = refl
no_length (x ∷ left) is = cc

-- The bytes that are read into a buffer are a prefix of what was left.
pub reads_front : (left buf piece : List ℕ) (n step : ℕ) (after : Option (List ℕ)) → 0 < step → n ≡ min step (min (length buf) (length left)) → piece ≡ take n left → after ≡ Some (drop n left) → ReadsFront left n (length buf) (take n (piece ++ drop n buf)) after
reads_front left buf piece n step after some is front rest =
    let inside : n ≤ length left = omega arith in
    record {
      front = grind (arith, common_steps);
      rest = rest;
      ended = λ room. (λ none. no_length left (omega arith), λ none. omega (arith, ap length none));
      inside = inside;
    }
