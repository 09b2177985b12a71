use Rattle.std.proofs.Common.{◌≡◌, ◌<◌, ◌==◌, length, ◌∙◌, true, false, refl, sym, ap, arith, List, ℕ}
use Rattle.std.proofs.lemmas.Bool.{eqb-true, eqb-false}
use Rattle.sym_rules.specs.Cuts.{is_space, before, from, skip}
use Rattle.state_file.proofs.CutLemmas.{Found, two_few, two_exact, two_many}
use Rattle.state_file.proofs.cuts.two_words.Goals as goal

found : (bytes first behind second rest skipped again : List ℕ) → skipped ≡ skip is_space bytes → first ≡ before 32 skipped → behind ≡ from 32 skipped → again ≡ skip is_space behind → second ≡ before 32 again → rest ≡ from 32 again
    → Found bytes first behind second rest
found bytes first behind second rest skipped again s f b a w r = record {
  word = f ∙ ap (before 32) s;
  after = b ∙ ap (from 32) s;
  next = w ∙ ap (before 32) a;
  last = r ∙ ap (from 32) a;
}

none_from : (xs ys : List ℕ) → true ≡ (length xs == 0) → xs ≡ ys → length ys ≡ 0
none_from xs ys h e = ap length (sym e) ∙ eqb-true (length xs) 0 (sym h)

some_from : (xs ys : List ℕ) → false ≡ (length xs == 0) → xs ≡ ys → 0 < length ys
some_from xs ys h e =
    let some : length xs ≡ 0 → ⊥ = eqb-false (length xs) 0 (sym h) in
    let same : length xs ≡ length ys = ap length e in
    omega arith

pub returns-then-is_empty : goal.returns-then-is_empty
returns-then-is_empty c =
    two_few c.args.bytes.now c.cut_word.result.0.now c.cut_word.result.1.now c.cut_word-2.result.0.now c.cut_word-2.result.1.now
    (found _ _ _ _ _ _ _ c.skip_spaces.ensures.skipped c.cut_word.ensures.word c.cut_word.ensures.rest c.skip_spaces-2.ensures.skipped c.cut_word-2.ensures.word c.cut_word-2.ensures.rest)
    (none_from c.cut_word-2.result.0.now c.cut_word-2.result.0.now c.if-is_empty.ensures refl)

pub returns-then-not-is_empty : goal.returns-then-not-is_empty
returns-then-not-is_empty c =
    two_many c.args.bytes.now c.cut_word.result.0.now c.cut_word.result.1.now c.cut_word-2.result.0.now c.cut_word-2.result.1.now
    (found _ _ _ _ _ _ _ c.skip_spaces.ensures.skipped c.cut_word.ensures.word c.cut_word.ensures.rest c.skip_spaces-2.ensures.skipped c.cut_word-2.ensures.word c.cut_word-2.ensures.rest)
    (some_from c.cut_word-2.result.0.now c.cut_word-2.result.0.now c.if-is_empty.ensures refl)
    (some_from c.skip_spaces-3.result.now (skip is_space c.cut_word-2.result.1.now) (sym c.if-not-is_empty.true ∙ c.is_empty-2.ensures) c.skip_spaces-3.ensures.skipped)

pub returns : goal.returns
returns c =
    two_exact c.args.bytes.now c.cut_word.result.0.now c.cut_word.result.1.now c.cut_word-2.result.0.now c.cut_word-2.result.1.now
    (found _ _ _ _ _ _ _ c.skip_spaces.ensures.skipped c.cut_word.ensures.word c.cut_word.ensures.rest c.skip_spaces-2.ensures.skipped c.cut_word-2.ensures.word c.cut_word-2.ensures.rest)
    (some_from c.cut_word-2.result.0.now c.cut_word-2.result.0.now c.if-is_empty.ensures refl)
    (none_from c.skip_spaces-3.result.now (skip is_space c.cut_word-2.result.1.now) (sym c.if-not-is_empty.false ∙ c.is_empty-2.ensures) c.skip_spaces-3.ensures.skipped)
