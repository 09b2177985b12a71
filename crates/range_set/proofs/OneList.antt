use Rattle.std.proofs.Common.{◌≡◌, ℕ, ◌≤◌, true, false, ◌||◌, List, [], ◌∷◌, refl, sym, ap, ◌∙◌, arith, inl, inr}
use Rattle.std.proofs.lemmas.Bool.Decides.{leb_tells}
use Rattle.sym_edges.specs.Addresses.{Range}
use Rattle.range_set.specs.Members.{holds_any}
use Rattle.range_set.specs.Canonical.{IsCanonical}
use Rattle.range_set.proofs.MemberLemmas.{first_held, above_not, above_none, first_below}

-- A canonical list does not hold the end of its first range.
end_not_held : (x : Range) (xs : List Range) → IsCanonical (x ∷ xs) → holds_any (x ∷ xs) x.end ≡ false
end_not_held x xs canonical =
    ap (λ b. b || holds_any xs x.end) (above_not x x.end (omega arith))
    ∙ above_none x.end xs x.end canonical.1 canonical.2 (omega arith)

-- A canonical list that holds no address is empty.
none_alike : (x : Range) (xs : List Range) → IsCanonical (x ∷ xs) → ((a : ℕ) → holds_any (x ∷ xs) a ≡ false) → ⊥
none_alike x xs canonical none =
    let held : holds_any (x ∷ xs) x.start ≡ true = first_held x xs x.start (omega arith) (omega arith) in
    let not : holds_any (x ∷ xs) x.start ≡ false = none x.start in
    cc

-- Of two canonical lists with the same addresses, the second does not start above the start of the
-- first.
starts_alike : (x y : Range) (xs ys : List Range) → IsCanonical (x ∷ xs) → IsCanonical (y ∷ ys) → ((a : ℕ) → holds_any (x ∷ xs) a ≡ holds_any (y ∷ ys) a) → y.start ≤ x.start
starts_alike x y xs ys p q same = elim (leb_tells y.start x.start) [
  | inl low ↦ low.1
  | inr high ↦
      let held : holds_any (x ∷ xs) x.start ≡ true = first_held x xs x.start (omega arith) (omega arith) in
      let not : holds_any (y ∷ ys) x.start ≡ false = first_below y ys x.start q high.1 in
      let alike : holds_any (x ∷ xs) x.start ≡ holds_any (y ∷ ys) x.start = same x.start in
      cc
]

-- If both start at the same address, the first range of the second does not end above the end of
-- the other.
ends_alike : (x y : Range) (xs ys : List Range) → IsCanonical (x ∷ xs) → IsCanonical (y ∷ ys) → x.start ≡ y.start → ((a : ℕ) → holds_any (x ∷ xs) a ≡ holds_any (y ∷ ys) a) → y.end ≤ x.end
ends_alike x y xs ys p q start same = elim (leb_tells y.end x.end) [
  | inl low ↦ low.1
  | inr high ↦
      let held : holds_any (y ∷ ys) x.end ≡ true = first_held y ys x.end (omega (arith, p.0, start)) high.1 in
      let not : holds_any (x ∷ xs) x.end ≡ false = end_not_held x xs p in
      let alike : holds_any (x ∷ xs) x.end ≡ holds_any (y ∷ ys) x.end = same x.end in
      cc
]

-- What is left of the two lists after the same first range has the same addresses.
rest_alike : (x y : Range) (xs ys : List Range) → IsCanonical (x ∷ xs) → IsCanonical (y ∷ ys) → x.end ≡ y.end → ((a : ℕ) → holds_any (x ∷ xs) a ≡ holds_any (y ∷ ys) a) → (a : ℕ) → holds_any xs a ≡ holds_any ys a
rest_alike x y xs ys p q end same a = elim (leb_tells x.end a) [
  | inl high ↦
      let left : holds_any (x ∷ xs) a ≡ holds_any xs a = ap (λ b. b || holds_any xs a) (above_not x a high.1) in
      let right : holds_any (y ∷ ys) a ≡ holds_any ys a = ap (λ b. b || holds_any ys a) (above_not y a (omega arith)) in
      sym left ∙ same a ∙ right
  | inr low ↦ above_none x.end xs a p.1 p.2 (omega arith) ∙ sym (above_none y.end ys a q.1 q.2 (omega arith))
]

range_alike : (x y : Range) → x.start ≡ y.start → x.end ≡ y.end → x ≡ y
range_alike x y start end =
    let from : ℕ → Range = λ n. record { start = n; end = x.end } in
    let to : ℕ → Range = λ n. record { start = y.start; end = n } in
    ap from start ∙ ap to end

-- Two canonical lists with the same addresses are equal.
pub one_list : (xs ys : List Range) → IsCanonical xs → IsCanonical ys → ((a : ℕ) → holds_any xs a ≡ holds_any ys a) → xs ≡ ys
one_list [] [] p q same = refl
one_list [] (y ∷ ys) p q same = absurd (none_alike y ys q (λ a. sym (same a)))
one_list (x ∷ xs) [] p q same = absurd (none_alike x xs p same)
one_list (x ∷ xs) (y ∷ ys) p q same =
    let back : (a : ℕ) → holds_any (y ∷ ys) a ≡ holds_any (x ∷ xs) a = λ a. sym (same a) in
    let start : x.start ≡ y.start = omega (arith, starts_alike x y xs ys p q same, starts_alike y x ys xs q p back) in
    let end : x.end ≡ y.end = omega (arith, ends_alike x y xs ys p q start same, ends_alike y x ys xs q p (sym start) back) in
    let first : x ≡ y = range_alike x y start end in
    let rest : xs ≡ ys = one_list xs ys p.2 q.2 (rest_alike x y xs ys p q end same) in
    ap (λ r. r ∷ xs) first ∙ ap (λ l. y ∷ l) rest
