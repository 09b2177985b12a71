-- Lemmas about the numbers under which two files have one name.
use Rattle.std.proofs.Common.{◌≡◌, ℕ, zero, suc, ◌+◌, Bool, true, false, List, [], ◌∷◌, ◌++◌, length, sym, ap, ◌∙◌, arith}
use Rattle.sym_records.specs.declared.line.SymLine.{SymLine}
use Rattle.sym_judge.specs.internal.Blocks.{is_told, are_told, AreTold}
use Rattle.sym_judge.proofs.SameLemmas.{never, numbers, and_left, and_right}

told_at : (same : ℕ → Bool) (at : ℕ) (told : List Bool) (b : Bool) → ((n : ℕ) → is_told told n ≡ true → same (at + n) ≡ true) → same (at + length told) ≡ b → (n : ℕ) → is_told (told ++ b ∷ []) n ≡ true → same (at + n) ≡ true
told_at same at [] true all is zero e = is
told_at same at [] false all is zero e = never e
told_at same at [] b all is (suc n) e = never e
told_at same at (t ∷ told) b all is zero e = all zero e
told_at same at (t ∷ told) b all is (suc n) e =
    let step : at + suc n ≡ (at + 1) + n = omega arith in
    let end : (at + 1) + length told ≡ at + suc (length told) = omega arith in
    ap same step ∙ told_at same (at + 1) told b (λ m f. (let back : (at + 1) + m ≡ at + suc m = omega arith in ap same back ∙ all (suc m) f)) (ap same end ∙ is) n e

-- One more number is added to the list.
pub one_more_told : (same : List SymLine → List SymLine → ℕ → ℕ → Bool) (own other : List SymLine) (told : List Bool) (b : Bool) (n : ℕ) → AreTold same own other told → length told ≡ n → b ≡ same own other n n → AreTold same own other (told ++ b ∷ [])
one_more_told same own other told b n all many is = record { holds = λ m e. ap test (sym (plus m)) ∙ told_at test 0 told b (λ k f. ap test (plus k) ∙ all.holds k f) (ap test (plus (length told) ∙ many) ∙ sym is) m e }
  where
    test : ℕ → Bool
    test m = same own other m m

    plus : (m : ℕ) → 0 + m ≡ m
    plus m = omega arith

-- Two equal numbers at which the list is true.
pub told_both : (same : List SymLine → List SymLine → ℕ → ℕ → Bool) (own other : List SymLine) (told : List Bool) (a b : ℕ) → AreTold same own other told → are_told told a b ≡ true → true ≡ same own other a b
told_both same own other told a b all is =
    let one : a ≡ b = numbers a b (and_left _ _ is) in
    sym (all.holds a (and_right _ _ is)) ∙ ap (same own other a) one
