-- The bytes after the limit of a name do not change the cleaned name.
use Rattle.std.proofs.Common.{◌≡◌, ◌≢◌, ◌<◌, ◌≤◌, ◌+◌, ◌==◌, ◌++◌, ℕ, zero, suc, true, List, [], ◌∷◌, length, map, take, get_or, sym, ap, ◌∙◌, arith, append-nil}
use Rattle.std.proofs.lemmas.Bool.Decides.{nat_tests}
use Rattle.std.proofs.lemmas.List.{append_assoc, map-append, length-map, take-append-le}
use Rattle.clean_names.specs.Names.{is_space, skip}
use Rattle.clean_names.specs.Cleaning.{shown_byte, or_omitted, cleaned, cleaned_upto}

shown_space : (x : ℕ) → (shown_byte x == 32) ≡ true → x ≡ 32
shown_space x is = grind (arith, nat_tests)

-- The printed bytes of a name, without the spaces at the start.
abbrev shown : List ℕ → List ℕ
shown bytes = skip is_space (map shown_byte bytes)

shown_more : (text more : List ℕ) (k : ℕ) → k < length text → get_or text k 0 ≢ 32 → (shown (text ++ more) ≡ shown text ++ map shown_byte more) × (length text ≤ length (shown text) + k)
unfolding skip
shown_more [] more k within other = absurd (omega (arith, within))
shown_more (x ∷ xs) more zero within other = grind (arith, nat_tests, other, shown_space x, map-append shown_byte xs more, length-map xs shown_byte)
shown_more (x ∷ xs) more (suc k) within other =
    let rest = shown_more xs more k (omega (arith, within)) other in
    grind (arith, nat_tests, rest.0, rest.1, map-append shown_byte xs more, length-map xs shown_byte)

cut_more : (limit k : ℕ) (text more : List ℕ) → k < length text → get_or text k 0 ≢ 32 → k + limit ≤ length text → cleaned_upto limit (text ++ more) ≡ cleaned_upto limit text
unfolding cleaned_upto
cut_more limit k text more within other long =
    let rest = shown_more text more k within other in
    ap (λ (l : List ℕ). or_omitted (take limit l)) rest.0 ∙ ap or_omitted (take-append-le limit (shown text) (map shown_byte more) (omega (arith, rest.1, long)))

pub cleaned_cut : (text more : List ℕ) (k : ℕ) → k < length text → get_or text k 0 ≢ 32 → k + 65536 ≤ length text → cleaned (text ++ more) ≡ cleaned text
unfolding cleaned
cleaned_cut text more k within other long = cut_more 65536 k text more within other long

pub cut_whole : (text left whole name : List ℕ) → ((more : List ℕ) → cleaned (text ++ more) ≡ cleaned text) → text ++ left ≡ whole → cleaned text ≡ cleaned (whole ++ name)
cut_whole text left whole name full rest = sym (full (left ++ name)) ∙ ap cleaned (sym (append_assoc text left name)) ∙ ap (λ (w : List ℕ). cleaned (w ++ name)) rest

pub uncut : (text whole name joined : List ℕ) → joined ≡ text ++ name → text ++ [] ≡ whole → cleaned joined ≡ cleaned (whole ++ name)
uncut text whole name joined is rest = ap cleaned is ∙ ap (λ (w : List ℕ). cleaned (w ++ name)) (sym (append-nil text) ∙ rest)
