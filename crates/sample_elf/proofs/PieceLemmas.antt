-- Parts that are joined one after another, for the loops over units.
use Rattle.std.proofs.Common.{◌≡◌, ℕ, ◌+◌, List, [], ◌∷◌, ◌++◌, map, refl, ap, sym, ◌∙◌, arith, append_assoc, append-nil, length}
use Rattle.std.specs.List.{flat_map, range_with_len}
use Rattle.std.proofs.lemmas.Grind.{flat_map-append}
use Rattle.std.proofs.lemmas.List.FromFn.{map-range_with_len_more}
use Rattle.sample_elf.specs.Made.{code_at, each_below, line_table, line_tables, numbered_unit, unit, units}

same : (xs : List ℕ) → map (λ k. k) xs ≡ xs
same [] = refl
same (x ∷ xs) = ap (λ ys. x ∷ ys) (same xs)

range_more : (n : ℕ) → range_with_len 0 (n + 1) ≡ range_with_len 0 n ++ n ∷ []
range_more n = sym (same (range_with_len 0 (n + 1))) ∙ map-range_with_len_more (λ k. k) 0 n n (omega arith) ∙ ap (λ xs. xs ++ n ∷ []) (same (range_with_len 0 n))

pub more_below : (piece : ℕ → List ℕ) (n : ℕ) → each_below piece (n + 1) ≡ each_below piece n ++ piece n
more_below piece n = ap (flat_map piece) (range_more n) ∙ flat_map-append piece (range_with_len 0 n) (n ∷ []) ∙ ap (λ rest. each_below piece n ++ rest) (append-nil (piece n))

-- One part after another.
pub both : (before mid new one other : List ℕ) → mid ≡ before ++ one → new ≡ mid ++ other → new ≡ before ++ (one ++ (other ++ []))
both before mid new one other first second =
    second ∙ ap (λ m. m ++ other) first ∙ append_assoc before one other ∙ ap (λ rest. before ++ (one ++ rest)) (sym (append-nil other))

pub started : (front new rest : List ℕ) (first : List ℕ) → first ≡ front → new ≡ first ++ rest → new ≡ front ++ (rest ++ [])
started front new rest first is more = more ∙ ap (λ f. f ++ rest) is ∙ ap (λ r. front ++ r) (sym (append-nil rest))

pub three : (before mid more new one other last : List ℕ) → mid ≡ before ++ one → more ≡ mid ++ other → new ≡ more ++ last → new ≡ before ++ (one ++ (other ++ (last ++ [])))
three before mid more new one other last first second third =
    third ∙ ap (λ m. m ++ last) (second ∙ ap (λ m. m ++ other) first) ∙ append_assoc (before ++ one) other last ∙ append_assoc before one (other ++ last)
    ∙ ap (λ rest. before ++ (one ++ (other ++ rest))) (sym (append-nil last))

-- A loop that adds parts: before the first one, after one more, and at the end.
pub no_pieces : (front : List ℕ) (piece : ℕ → List ℕ) → front ≡ front ++ each_below piece 0
no_pieces front piece = sym (append-nil front)

pub one_more : (front text new : List ℕ) (piece : ℕ → List ℕ) (n : ℕ) → text ≡ front ++ each_below piece n → new ≡ text ++ piece n → new ≡ front ++ each_below piece (n + 1)
one_more front text new piece n is more =
    more ∙ ap (λ t. t ++ piece n) is ∙ append_assoc front (each_below piece n) (piece n) ∙ ap (λ rest. front ++ rest) (sym (more_below piece n))

pub ended : (text new front end : List ℕ) (pieces : List ℕ) → text ≡ front ++ pieces → new ≡ text ++ end → new ≡ front ++ (pieces ++ (end ++ []))
ended text new front end pieces is more = both front text new pieces end is more

-- Units and their line tables.
pub one_unit : (text new : List ℕ) (n at : ℕ) → text ≡ units n → at ≡ length (line_tables n) → new ≡ text ++ unit n (code_at n) at → new ≡ units (n + 1)
unfolding units
one_unit text new n at is offset more =
    more ∙ ap (λ t. t ++ unit n (code_at n) at) is ∙ ap (λ a. each_below numbered_unit n ++ unit n (code_at n) a) offset ∙ sym (more_below numbered_unit n)

pub one_table : (text new : List ℕ) (n : ℕ) → text ≡ line_tables n → new ≡ text ++ line_table n → new ≡ line_tables (n + 1)
unfolding line_tables
one_table text new n is more = more ∙ ap (λ t. t ++ line_table n) is ∙ sym (more_below line_table n)

-- Four parts that are added to an empty list.
pub four_parts : (mid more most new one other third last : List ℕ) → mid ≡ [] ++ one → more ≡ mid ++ other → most ≡ more ++ third → new ≡ most ++ last → new ≡ one ++ (other ++ (third ++ (last ++ [])))
four_parts mid more most new one other third last a b c d =
    both more most new third last c d ∙ ap (λ m. m ++ (third ++ (last ++ []))) (b ∙ ap (λ m. m ++ other) a) ∙ append_assoc one other (third ++ (last ++ []))
