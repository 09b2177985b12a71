-- The nearest of the members whose keys are at or below a given one. A test decides which of two
-- members counts, and sees only their keys.
use Rattle.std.proofs.Common.{◌≡◌, ◌≢◌, ℕ, zero, suc, ◌==◌, not, ◌&&◌, nat_le, nat_lt, Bool, cond, true, false, List, [], ◌∷◌, Option, Some, None, refl, sym, ◌∙◌, ap, inl, inr, arith}
use Rattle.std.specs.List.{filter}
use Rattle.std.specs.List.Sorted.{IsStableByKey, ties}
use Rattle.std.specs.Ordering.{nat_cmp, is_lt}
use Rattle.std.proofs.lemmas.Bool.{cases_order, le-leb, lt-leb, eq-eqb, ne_eqb, eqb-true}
use Rattle.std.proofs.lemmas.Bool.Decides.{nat_tests}
use Rattle.std.proofs.lemmas.List.Elements.{filter_agree}

-- A test of keys that agrees with their order: whether the second of two members counts.
pub record IsKeyTest (test : ℕ → ℕ → Bool) : Type 0 where
  pub through : (a b c : ℕ) → test a b ≡ true → test b c ≡ true → test a c ≡ true
  pub back : (a b c : ℕ) → test a b ≡ false → test b c ≡ false → test a c ≡ false
  pub turned : (a b : ℕ) → a ≢ b → test a b ≡ not (test b a)

-- Two such tests: of members with one key, the last counts, or the first.
pub last_counts : IsKeyTest nat_le
last_counts = record {
  through = λ a b c h k. grind (arith, nat_tests);
  back = λ a b c h k. grind (arith, nat_tests);
  turned = λ a b h. grind (arith, nat_tests);
}

pub first_counts : IsKeyTest nat_lt
first_counts = record {
  through = λ a b c h k. grind (arith, nat_tests);
  back = λ a b c h k. grind (arith, nat_tests);
  turned = λ a b h. grind (arith, nat_tests);
}

tie_is : (v w : ℕ) → (not (is_lt (nat_cmp v w)) && not (is_lt (nat_cmp w v))) ≡ (w == v)
tie_is v w = grind (arith, nat_tests)

below_zero : (v : ℕ) → (v == 0) ≡ nat_le v 0
below_zero v = grind (arith, nat_tests)

module _ {X : Type 0} (test : ℕ → ℕ → Bool) (key : X → ℕ) where
  -- The one of two members that counts.
  abbrev pub nearer : Option X → Option X → Option X
  nearer None other = other
  nearer (Some x) None = Some x
  nearer (Some x) (Some y) = cond (test (key x) (key y)) (Some y) (Some x)

  -- The one of the members at or below a key that counts.
  abbrev pub nearest : List X → ℕ → Option X
  nearest [] a = None
  nearest (x ∷ xs) a = nearer (cond (nat_le (key x) a) (Some x) None) (nearest xs a)

  none_behind : (o : Option X) → nearer o None ≡ o
  none_behind None = refl
  none_behind (Some x) = refl

  three : IsKeyTest test → (x y z : X) → nearer (nearer (Some x) (Some y)) (Some z) ≡ nearer (Some x) (nearer (Some y) (Some z))
  three is x y z = go (test (key x) (key y)) (test (key y) (key z)) refl refl
    where
      go : (b c : Bool) → test (key x) (key y) ≡ b → test (key y) (key z) ≡ c → nearer (cond b (Some y) (Some x)) (Some z) ≡ nearer (Some x) (cond c (Some z) (Some y))
      go true true p q = ap (λ b. cond b (Some z) (Some y)) q ∙ sym (ap (λ b. cond b (Some z) (Some x)) (is.through _ _ _ p q))
      go true false p q = ap (λ b. cond b (Some z) (Some y)) q ∙ sym (ap (λ b. cond b (Some y) (Some x)) p)
      go false true p q = refl
      go false false p q = ap (λ b. cond b (Some z) (Some x)) (is.back _ _ _ p q) ∙ sym (ap (λ b. cond b (Some y) (Some x)) p)

  nearer_nearer : IsKeyTest test → (o p q : Option X) → nearer (nearer o p) q ≡ nearer o (nearer p q)
  nearer_nearer is None p q = refl
  nearer_nearer is (Some x) None q = refl
  nearer_nearer is (Some x) (Some y) None = none_behind (nearer (Some x) (Some y))
  nearer_nearer is (Some x) (Some y) (Some z) = three is x y z

  turn : (b : Bool) (x y : X) → cond (not b) (Some y) (Some x) ≡ cond b (Some x) (Some y)
  turn true x y = refl
  turn false x y = refl

  swapped : IsKeyTest test → (x y : X) (rest : Option X) → key x ≢ key y → nearer (Some x) (nearer (Some y) rest) ≡ nearer (Some y) (nearer (Some x) rest)
  swapped is x y rest other =
      sym (nearer_nearer is (Some x) (Some y) rest)
      ∙ ap (λ o. nearer o rest) (ap (λ b. cond b (Some y) (Some x)) (is.turned _ _ other) ∙ turn (test (key y) (key x)) x y)
      ∙ nearer_nearer is (Some y) (Some x) rest

  -- The members of one key, in their order.
  abbrev pub with_key : ℕ → List X → List X
  with_key v xs = filter (λ x. key x == v) xs

  -- The one of all members that counts.
  abbrev joined : List X → Option X
  joined [] = None
  joined (x ∷ xs) = nearer (Some x) (joined xs)

  joined_one : (b : Bool) (x : X) (xs : List X) → joined (cond b (x ∷ xs) xs) ≡ nearer (cond b (Some x) None) (joined xs)
  joined_one true x xs = refl
  joined_one false x xs = refl

  abbrev Passes : X → Option X → List X → Type 0
  Passes x rest xs = nearer (joined xs) (nearer (Some x) rest) ≡ nearer (Some x) (nearer (joined xs) rest)

  passes : IsKeyTest test → (v : ℕ) (x : X) (rest : Option X) (xs : List X) → key x ≢ v → Passes x rest (with_key v xs)
  passes is v x rest [] other = refl
  passes is v x rest (y ∷ xs) other = go (passes is v x rest xs other) (key y == v) refl
    where
      go : Passes x rest (with_key v xs) → (b : Bool) → (key y == v) ≡ b → Passes x rest (cond b (y ∷ with_key v xs) (with_key v xs))
      go less true e =
          nearer_nearer is (Some y) (joined (with_key v xs)) (nearer (Some x) rest)
          ∙ ap (nearer (Some y)) less
          ∙ swapped is y x (nearer (joined (with_key v xs)) rest) (λ k. other (sym k ∙ eqb-true (key y) v e))
          ∙ ap (nearer (Some x)) (sym (nearer_nearer is (Some y) (joined (with_key v xs)) rest))
      go less false e = less

  by_keys : List X → ℕ → Option X
  by_keys xs zero = joined (with_key 0 xs)
  by_keys xs (suc a) = nearer (joined (with_key (suc a) xs)) (by_keys xs a)

  by_keys_none : (a : ℕ) → by_keys [] a ≡ None
  unfolding by_keys
  by_keys_none zero = refl
  by_keys_none (suc a) = by_keys_none a

  by_keys_more : IsKeyTest test → (x : X) (xs : List X) (a : ℕ) → by_keys (x ∷ xs) a ≡ nearer (cond (nat_le (key x) a) (Some x) None) (by_keys xs a)
  unfolding by_keys
  by_keys_more is x xs zero = joined_one (key x == 0) x (with_key 0 xs) ∙ ap (λ b. nearer (cond b (Some x) None) (joined (with_key 0 xs))) (below_zero (key x))
  by_keys_more is x xs (suc a) =
      let top : Option X = joined (with_key (suc a) xs) in
      let rest : Option X = by_keys xs a in
      let one : Bool → Option X = λ b. cond b (Some x) None in
      ap (λ o. nearer o (by_keys (x ∷ xs) a)) (joined_one (key x == suc a) x (with_key (suc a) xs))
      ∙ ap (nearer (nearer (one (key x == suc a)) top)) (by_keys_more is x xs a)
      ∙ elim (cases_order (key x) (suc a)) [
        | inl same ↦
            ap (λ b. nearer (nearer (one b) top) (nearer (one (nat_le (key x) a)) rest)) (eq-eqb (key x) (suc a) same)
            ∙ ap (λ b. nearer (nearer (Some x) top) (nearer (one b) rest)) (lt-leb (key x) a (omega arith))
            ∙ nearer_nearer is (Some x) top rest
            ∙ sym (ap (λ b. nearer (one b) (nearer top rest)) (le-leb (key x) (suc a) (omega arith)))
        | inr (inl less) ↦
            ap (λ b. nearer (nearer (one b) top) (nearer (one (nat_le (key x) a)) rest)) (ne_eqb (key x) (suc a) (λ e. absurd (omega arith)))
            ∙ ap (λ b. nearer top (nearer (one b) rest)) (le-leb (key x) a (omega arith))
            ∙ passes is (suc a) x rest xs (λ e. absurd (omega arith))
            ∙ sym (ap (λ b. nearer (one b) (nearer top rest)) (le-leb (key x) (suc a) (omega arith)))
        | inr (inr more) ↦
            ap (λ b. nearer (nearer (one b) top) (nearer (one (nat_le (key x) a)) rest)) (ne_eqb (key x) (suc a) (λ e. absurd (omega arith)))
            ∙ ap (λ b. nearer top (nearer (one b) rest)) (lt-leb (key x) a (omega arith))
            ∙ sym (ap (λ b. nearer (one b) (nearer top rest)) (lt-leb (key x) (suc a) more))
      ]

  nearest_by_keys : IsKeyTest test → (xs : List X) (a : ℕ) → nearest xs a ≡ by_keys xs a
  nearest_by_keys is [] a = sym (by_keys_none a)
  nearest_by_keys is (x ∷ xs) a = ap (nearer (cond (nat_le (key x) a) (Some x) None)) (nearest_by_keys is xs a) ∙ sym (by_keys_more is x xs a)

  by_keys_same : (xs ys : List X) → ((v : ℕ) → with_key v xs ≡ with_key v ys) → (a : ℕ) → by_keys xs a ≡ by_keys ys a
  unfolding by_keys
  by_keys_same xs ys same zero = ap joined (same 0)
  by_keys_same xs ys same (suc a) = ap (λ l. nearer (joined l) (by_keys xs a)) (same (suc a)) ∙ ap (nearer (joined (with_key (suc a) ys))) (by_keys_same xs ys same a)

  -- A stable sort by keys keeps the nearest member. `some` gives a member for each key.
  pub nearest_sorted : IsKeyTest test → (some : ℕ → X) → ((v : ℕ) → key (some v) ≡ v) → (xs ys : List X) → IsStableByKey key nat_cmp xs ys → (a : ℕ) → nearest ys a ≡ nearest xs a
  nearest_sorted is some has xs ys stable a =
      nearest_by_keys is ys a ∙ by_keys_same ys xs same a ∙ sym (nearest_by_keys is xs a)
    where
      tied : (v : ℕ) (zs : List X) → with_key v zs ≡ filter (ties (λ x y. is_lt (nat_cmp (key x) (key y))) (some v)) zs
      tied v zs = sym (filter_agree (ties (λ x y. is_lt (nat_cmp (key x) (key y))) (some v)) (λ x. key x == v) (λ x. ap (λ w. not (is_lt (nat_cmp w (key x))) && not (is_lt (nat_cmp (key x) w))) (has v) ∙ tie_is v (key x)) zs)

      same : (v : ℕ) → with_key v ys ≡ with_key v xs
      same v = tied v ys ∙ stable (some v) ∙ sym (tied v xs)
