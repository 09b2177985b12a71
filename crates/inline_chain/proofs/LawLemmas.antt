-- A piece has only one list of inlined copies.
use Rattle.std.proofs.Common.{◌≡◌, ℕ, ◌+◌, ◌<◌, ◌≤◌, ◌==◌, ◌&&◌, ◌||◌, ◌++◌, Bool, true, false, if◌then◌else◌, nat_le, nat_lt, List, [], ◌∷◌, length, map, Option, None, Some, arith, refl, sym, ap, subst, ◌∙◌}
use Rattle.std.specs.List.{filter, list_all, slice_get}
use Rattle.std.specs.Option.{option_map_or}
use Rattle.std.proofs.lemmas.Bool.{cond-true, cond-false, eq-eqb, eqb-true}
use Rattle.std.proofs.lemmas.Bool.Decides.{nat_tests}
use Rattle.std.proofs.lemmas.List.{append_assoc, append-nil, length-append}
use Rattle.sym_edges.specs.Addresses.{Range}
use Rattle.range_set.specs.Members.{holds, holds_any}
use Rattle.range_set.specs.Canonical.{IsCanonical}
use Rattle.range_set.proofs.OneList.{one_list}
use Rattle.debug_units.specs.declared.unit_read.UnitRead.{UnitRead}
use Rattle.debug_units.specs.Owners.{Covering, entry_chain}
use Rattle.func_flatten.specs.declared.piece.Piece.{Piece}
use Rattle.func_flatten.specs.Publics.{is_inside}
use Rattle.inline_chain.specs.InlineRuns.{InlineParts, is_on_chain, is_of, spans_of, joined, AreParts, first_address, is_before, IsOrdered, IsCopy, AreInlineRuns}
use Rattle.inline_chain.proofs.GroupLemmas.{spans_joined}
use Rattle.inline_chain.proofs.OrderLemmas.{RiseBy, of_number, one_order}

heads_same : {X : Type 0} (x y : X) (xs ys : List X) → x ∷ xs ≡ y ∷ ys → x ≡ y
heads_same x y xs ys is = cc

tails_same : {X : Type 0} (x y : X) (xs ys : List X) → x ∷ xs ≡ y ∷ ys → xs ≡ ys
tails_same x y xs ys is = cc

-- Two prefixes of the same length are equal if the whole lists are.
fronts_same : {X : Type 0} (xs ys us vs : List X) → length xs ≡ length ys → xs ++ us ≡ ys ++ vs → (xs ≡ ys) × (us ≡ vs)
fronts_same [] [] us vs long same = (refl, same)
fronts_same [] (y ∷ ys) us vs long same = absurd (omega arith)
fronts_same (x ∷ xs) [] us vs long same = absurd (omega arith)
fronts_same (x ∷ xs) (y ∷ ys) us vs long same =
    (let rest : (xs ≡ ys) × (us ≡ vs) = fronts_same xs ys us vs (omega arith) (tails_same x y (xs ++ us) (ys ++ vs) same) in
    ((λ i. (heads_same x y (xs ++ us) (ys ++ vs) same) i ∷ rest.0 i), rest.1))

some_parts : (p : List Range) (parts : List (List Range)) → AreParts (p ∷ parts) → 0 < length p
some_parts p [] are = are.0
some_parts p (q ∷ parts) are = omega (arith, are.0)

-- There is only one way to cut ranges into such lists.
one_parts : (ps qs : List (List Range)) → AreParts ps → AreParts qs → joined ps ≡ joined qs → ps ≡ qs
unfolding joined
one_parts [] [] a b same = refl
one_parts [] (q ∷ qs) a b same = (let some : 0 < length q = some_parts q qs b in let long : 0 ≡ length q + length (joined qs) = ap length same ∙ length-append q (joined qs) in absurd (omega (arith, some, long)))
one_parts (p ∷ ps) [] a b same = (let some : 0 < length p = some_parts p ps a in let long : length p + length (joined ps) ≡ 0 = sym (length-append p (joined ps)) ∙ ap length same in absurd (omega (arith, some, long)))
one_parts (p ∷ []) (q ∷ []) a b same = ap (λ l. l ∷ []) (sym (append-nil p) ∙ same ∙ append-nil q)
one_parts (p ∷ []) (q ∷ r ∷ qs) a b same =
    (let some : 0 < length r = some_parts r qs b.1 in
    let long : length p + 0 ≡ length q + (length r + length (joined qs)) = sym (length-append p []) ∙ ap length same ∙ length-append q (r ++ joined qs) ∙ ap (λ n. length q + n) (length-append r (joined qs)) in absurd (omega (arith, some, long, a.1, b.0)))
one_parts (p ∷ r ∷ ps) (q ∷ []) a b same =
    (let some : 0 < length r = some_parts r ps a.1 in
    let long : length p + (length r + length (joined ps)) ≡ length q + 0 = ap (λ n. length p + n) (sym (length-append r (joined ps))) ∙ sym (length-append p (r ++ joined ps)) ∙ ap length same ∙ length-append q [] in absurd (omega (arith, some, long, b.1, a.0)))
one_parts (p ∷ r ∷ ps) (q ∷ s ∷ qs) a b same =
    (let parts : (p ≡ q) × (joined (r ∷ ps) ≡ joined (s ∷ qs)) = fronts_same p q (joined (r ∷ ps)) (joined (s ∷ qs)) (a.0 ∙ sym b.0) same in
    (λ i. parts.0 i ∷ (one_parts (r ∷ ps) (s ∷ qs) a.1 b.1 parts.1) i))

-- The records of one entry at one level differ only in their ranges.
abbrev AreOf : ℕ → ℕ → List InlineParts → Type 0
AreOf level entry [] = Prim.Unit {0}
AreOf level entry (r ∷ runs) = (r.level ≡ level) × (r.entry ≡ entry) × AreOf level entry runs

filter_of : (level entry : ℕ) (runs : List InlineParts) → AreOf level entry (filter (is_of level entry) runs)
filter_of level entry [] = tt
filter_of level entry (r ∷ runs) = go (is_of level entry r) refl (filter_of level entry runs)
  where
    go : (b : Bool) → is_of level entry r ≡ b → AreOf level entry (filter (is_of level entry) runs) → AreOf level entry (if b then r ∷ filter (is_of level entry) runs else filter (is_of level entry) runs)
    go true is later = (first_test (r.level == level) (r.entry == entry) is (λ e. eqb-true r.level level e), second_test (r.level == level) (r.entry == entry) is (λ e. eqb-true r.entry entry e), later)
      where
        first_test : (b c : Bool) → (b && c) ≡ true → (b ≡ true → r.level ≡ level) → r.level ≡ level
        first_test true c is tells = tells refl
        first_test false c is tells = absurd (cc)

        second_test : (b c : Bool) → (b && c) ≡ true → (c ≡ true → r.entry ≡ entry) → r.entry ≡ entry
        second_test true c is tells = tells is
        second_test false c is tells = absurd (cc)
    go false is later = later

parts_same : (r s : InlineParts) → r.level ≡ s.level → r.entry ≡ s.entry → r.spans ≡ s.spans → r ≡ s
parts_same r s l e p = λ i. record { level = l i; entry = e i; spans = p i }

of_same : (level entry : ℕ) (rs ss : List InlineParts) → AreOf level entry rs → AreOf level entry ss → map (λ (r : InlineParts). r.spans) rs ≡ map (λ (r : InlineParts). r.spans) ss → rs ≡ ss
of_same level entry [] [] a b same = refl
of_same level entry [] (s ∷ ss) a b same = absurd (cc)
of_same level entry (r ∷ rs) [] a b same = absurd (cc)
of_same level entry (r ∷ rs) (s ∷ ss) a b same =
    (λ i. (parts_same r s (a.0 ∙ sym b.0) (a.1 ∙ sym b.1) (heads_same r.spans s.spans _ _ same)) i ∷ (of_same level entry rs ss a.2 b.2 (tails_same r.spans s.spans _ _ same)) i)

same_entry : (units : List UnitRead) (piece : Piece) (level entry : ℕ) (xs ys : List InlineParts) → IsCopy units piece xs level entry → IsCopy units piece ys level entry → filter (is_of level entry) xs ≡ filter (is_of level entry) ys
same_entry units piece level entry xs ys p q =
    of_same level entry _ _ (filter_of level entry xs) (filter_of level entry ys)
    (one_parts _ _ p.parts q.parts (one_list _ _ p.canonical q.canonical (λ a. p.members a ∙ sym (q.members a))))

-- All records at a level with a first address are of the same entry.
abbrev IsThere : ℕ → ℕ → ℕ → InlineParts → Type 0
IsThere level v e r = (r.level ≡ level) → (first_address r.spans ≡ v) → r.entry ≡ e

abbrev AreThere : ℕ → ℕ → ℕ → List InlineParts → Type 0
AreThere level v e [] = Prim.Unit {0}
AreThere level v e (r ∷ runs) = IsThere level v e r × AreThere level v e runs

chain_entry : List UnitRead → Piece → ℕ → ℕ → ℕ
chain_entry units piece level a = option_map_or (λ (c : Covering). c.entry) (slice_get (entry_chain units piece.unit piece.entry a) level) 0

on_chain_is : (units : List UnitRead) (piece : Piece) (level entry a : ℕ) → is_on_chain units piece level entry a ≡ true → entry ≡ chain_entry units piece level a
unfolding is_on_chain chain_entry
on_chain_is units piece level entry a is = go (is_inside a piece) (slice_get (entry_chain units piece.unit piece.entry a) level) is
  where
    go : (b : Bool) (o : Option Covering) → (b && option_map_or (λ c. c.entry == entry) o false) ≡ true → entry ≡ option_map_or (λ (c : Covering). c.entry) o 0
    go true None is = absurd (cc)
    go true (Some c) is = sym (eqb-true c.entry entry is)
    go false o is = absurd (cc)

held_front : (xs ys : List Range) (a : ℕ) → holds_any ys a ≡ true → holds_any (xs ++ ys) a ≡ true
held_front [] ys a is = is
held_front (x ∷ xs) ys a is = go (holds x a) (held_front xs ys a is)
  where
    go : (b : Bool) → holds_any (xs ++ ys) a ≡ true → (b || holds_any (xs ++ ys) a) ≡ true
    go true is = refl
    go false is = is

held_first : (spans more : List Range) → 0 < length spans → IsCanonical (spans ++ more) → holds_any (spans ++ more) (first_address spans) ≡ true
held_first [] more some canonical = absurd (omega arith)
held_first (s ∷ spans) more some canonical = go (holds s s.start) (let in_it : (nat_le s.start s.start && nat_lt s.start s.end) ≡ true = grind (arith, nat_tests, canonical.0) in in_it)
  where
    go : (b : Bool) → b ≡ true → (b || holds_any (spans ++ more) s.start) ≡ true
    go true is = refl
    go false is = absurd (cc)

joined_front : (ps qs : List (List Range)) → joined (ps ++ qs) ≡ joined ps ++ joined qs
unfolding joined
joined_front [] qs = refl
joined_front (p ∷ ps) qs = ap (λ l. p ++ l) (joined_front ps qs) ∙ sym (append_assoc p (joined ps) (joined qs))

canonical_behind : (xs ys : List Range) → IsCanonical (xs ++ ys) → IsCanonical ys
canonical_behind [] ys canonical = canonical
canonical_behind (x ∷ xs) ys canonical = canonical_behind xs ys canonical.2

parts_behind : (ps : List (List Range)) (q : List Range) (qs : List (List Range)) → AreParts (ps ++ q ∷ qs) → 0 < length q
parts_behind [] q qs are = some_parts q qs are
parts_behind (p ∷ []) q qs are = some_parts q qs are.1
parts_behind (p ∷ r ∷ ps) q qs are = parts_behind (r ∷ ps) q qs are.1

own_first : (level entry : ℕ) (r : InlineParts) (runs : List InlineParts) → r.level ≡ level → r.entry ≡ entry → spans_of level entry (r ∷ runs) ≡ r.spans ∷ spans_of level entry runs
own_first level entry r runs l e = ap (map (λ (s : InlineParts). s.spans)) (cond-true _ (r ∷ filter (is_of level entry) runs) (filter (is_of level entry) runs) (grind (arith, nat_tests, l, e)))

-- The entry of a record is on the chain at the first address of the record.
is_there : (units : List UnitRead) (piece : Piece) (level v : ℕ) (front rest : List InlineParts) (r : InlineParts) → AreInlineRuns units piece (front ++ r ∷ rest) → IsThere level v (chain_entry units piece level v) r
unfolding joined
is_there units piece level v front rest r are l f =
    let copy : IsCopy units piece (front ++ r ∷ rest) level r.entry = are.copies level r.entry in
    let split : spans_of level r.entry (front ++ r ∷ rest) ≡ spans_of level r.entry front ++ r.spans ∷ spans_of level r.entry rest = spans_joined level r.entry front (r ∷ rest) ∙ ap (λ l. spans_of level r.entry front ++ l) (own_first level r.entry r rest l refl) in
    let some : 0 < length r.spans = parts_behind (spans_of level r.entry front) r.spans (spans_of level r.entry rest) (subst AreParts split copy.parts) in
    let ranges : joined (spans_of level r.entry (front ++ r ∷ rest)) ≡ joined (spans_of level r.entry front) ++ (r.spans ++ joined (spans_of level r.entry rest)) = ap joined split ∙ joined_front (spans_of level r.entry front) (r.spans ∷ spans_of level r.entry rest) in
    let canonical : IsCanonical (r.spans ++ joined (spans_of level r.entry rest)) = canonical_behind (joined (spans_of level r.entry front)) _ (subst IsCanonical ranges copy.canonical) in
    let held : holds_any (joined (spans_of level r.entry (front ++ r ∷ rest))) (first_address r.spans) ≡ true
    = ap (λ x. holds_any x (first_address r.spans)) ranges ∙ held_front (joined (spans_of level r.entry front)) _ (first_address r.spans) (held_first r.spans (joined (spans_of level r.entry rest)) some canonical) in
    on_chain_is units piece level r.entry (first_address r.spans) (sym (copy.members (first_address r.spans)) ∙ held) ∙ ap (chain_entry units piece level) f

are_there : (units : List UnitRead) (piece : Piece) (level v : ℕ) (front rest all : List InlineParts) → all ≡ front ++ rest → AreInlineRuns units piece all → AreThere level v (chain_entry units piece level v) rest
are_there units piece level v front [] all is are = tt
are_there units piece level v front (r ∷ rest) all is are =
    (is_there units piece level v front rest r (subst (AreInlineRuns units piece) is are), are_there units piece level v (front ++ r ∷ []) rest all (is ∙ sym (append_assoc front (r ∷ []) rest)) are)

-- The records at a level with a first address are those of the entry that is on the chain there.
there_same : (level v e : ℕ) (runs : List InlineParts) → AreThere level v e runs → of_number (λ r. first_address r.spans) v (of_number (λ r. r.level) level runs) ≡ of_number (λ r. first_address r.spans) v (filter (is_of level e) runs)
there_same level v e [] are = refl
there_same level v e (r ∷ runs) are = go (r.level == level) (r.entry == e) (first_address r.spans == v) refl refl refl (there_same level v e runs are.1)
  where
    go : (b c d : Bool) → (r.level == level) ≡ b → (r.entry == e) ≡ c → (first_address r.spans == v) ≡ d
        → of_number (λ r. first_address r.spans) v (of_number (λ r. r.level) level runs) ≡ of_number (λ r. first_address r.spans) v (filter (is_of level e) runs)
        → of_number (λ r. first_address r.spans) v (if b then r ∷ of_number (λ r. r.level) level runs else of_number (λ r. r.level) level runs) ≡ of_number (λ r. first_address r.spans) v (if b && c then r ∷ filter (is_of level e) runs else filter (is_of level e) runs)
    go false c d bl ce dv later = later
    go true true true bl ce dv later = cond-true _ _ _ dv ∙ ap (λ l. r ∷ l) later ∙ sym (cond-true _ _ _ dv)
    go true true false bl ce dv later = cond-false _ _ _ dv ∙ later ∙ sym (cond-false _ _ _ dv)
    go true false false bl ce dv later = cond-false _ _ _ dv ∙ later
    go true false true bl ce dv later =
        (let same : r.entry ≡ e = are.0 (eqb-true r.level level bl) (eqb-true (first_address r.spans) v dv) in
        let test : (r.entry == e) ≡ true = eq-eqb r.entry e same in absurd (cc))

-- The order of the list: by level, and then in one level.
abbrev AreFromLevel : ℕ → List InlineParts → Type 0
AreFromLevel low [] = Prim.Unit {0}
AreFromLevel low (r ∷ runs) = (low ≤ r.level) × AreFromLevel low runs

abbrev FirstsFrom : ℕ → ℕ → List InlineParts → Type 0
FirstsFrom level low [] = Prim.Unit {0}
FirstsFrom level low (r ∷ runs) = (r.level ≡ level → low ≤ first_address r.spans) × FirstsFrom level low runs

both_true : (b c : Bool) → (b && c) ≡ true → (b ≡ true) × (c ≡ true)
both_true true c is = (refl, is)
both_true false c is = absurd (cc)

before_level : (r s : InlineParts) → is_before r s ≡ true → r.level ≤ s.level
before_level r s is = grind (arith, nat_tests, is)

before_first : (r s : InlineParts) → is_before r s ≡ true → s.level ≡ r.level → first_address r.spans ≤ first_address s.spans
before_first r s is same = grind (arith, nat_tests, is, same)

levels_behind : (r : InlineParts) (runs : List InlineParts) → list_all (is_before r) runs ≡ true → AreFromLevel r.level runs
levels_behind r [] is = tt
levels_behind r (s ∷ runs) is = (let both : (is_before r s ≡ true) × (list_all (is_before r) runs ≡ true) = both_true (is_before r s) _ is in (before_level r s both.0, levels_behind r runs both.1))

firsts_behind : (r : InlineParts) (runs : List InlineParts) → list_all (is_before r) runs ≡ true → FirstsFrom r.level (first_address r.spans) runs
firsts_behind r [] is = tt
firsts_behind r (s ∷ runs) is = (let both : (is_before r s ≡ true) × (list_all (is_before r) runs ≡ true) = both_true (is_before r s) _ is in (λ same. before_first r s both.0 same, firsts_behind r runs both.1))

level_rises : (low : ℕ) (runs : List InlineParts) → IsOrdered runs → AreFromLevel low runs → RiseBy (λ r. r.level) low runs
level_rises low [] ordered from = tt
level_rises low (r ∷ runs) ordered from = (from.0, level_rises r.level runs ordered.1 (levels_behind r runs ordered.0))

firsts_rise : (level low : ℕ) (runs : List InlineParts) → IsOrdered runs → FirstsFrom level low runs → RiseBy (λ r. first_address r.spans) low (of_number (λ r. r.level) level runs)
firsts_rise level low [] ordered from = tt
firsts_rise level low (r ∷ runs) ordered from = go (r.level == level) refl (λ same. firsts_rise level (first_address r.spans) runs ordered.1 (subst (λ k. FirstsFrom k (first_address r.spans) runs) same (firsts_behind r runs ordered.0))) (firsts_rise level low runs ordered.1 from.1)
  where
    go : (b : Bool) → (r.level == level) ≡ b → (r.level ≡ level → RiseBy (λ r. first_address r.spans) (first_address r.spans) (of_number (λ r. r.level) level runs)) → RiseBy (λ r. first_address r.spans) low (of_number (λ r. r.level) level runs)
        → RiseBy (λ r. first_address r.spans) low (if b then r ∷ of_number (λ r. r.level) level runs else of_number (λ r. r.level) level runs)
    go true is own later = (from.0 (eqb-true r.level level is), own (eqb-true r.level level is))
    go false is own later = later

from_0 : (runs : List InlineParts) → AreFromLevel 0 runs
from_0 [] = tt
from_0 (r ∷ runs) = (omega arith, from_0 runs)

firsts_from_0 : (level : ℕ) (runs : List InlineParts) → FirstsFrom level 0 runs
firsts_from_0 level [] = tt
firsts_from_0 level (r ∷ runs) = (λ same. omega arith, firsts_from_0 level runs)

same_number : (units : List UnitRead) (piece : Piece) (xs ys : List InlineParts) → AreInlineRuns units piece xs → AreInlineRuns units piece ys → (level v : ℕ)
    → of_number (λ r. first_address r.spans) v (of_number (λ r. r.level) level xs) ≡ of_number (λ r. first_address r.spans) v (of_number (λ r. r.level) level ys)
same_number units piece xs ys p q level v =
    let e = chain_entry units piece level v in
    there_same level v e xs (are_there units piece level v [] xs xs refl p)
    ∙ ap (of_number (λ r. first_address r.spans) v) (same_entry units piece level e xs ys (p.copies level e) (q.copies level e))
    ∙ sym (there_same level v e ys (are_there units piece level v [] ys ys refl q))

pub one_runs : (units : List UnitRead) (piece : Piece) (xs ys : List InlineParts) → AreInlineRuns units piece xs → AreInlineRuns units piece ys → xs ≡ ys
one_runs units piece xs ys p q =
    one_order (λ r. r.level) 0 0 xs ys (level_rises 0 xs p.ordered (from_0 xs)) (level_rises 0 ys q.ordered (from_0 ys))
    (λ level. one_order (λ r. first_address r.spans) 0 0 (of_number (λ r. r.level) level xs) (of_number (λ r. r.level) level ys)
    (firsts_rise level 0 xs p.ordered (firsts_from_0 level xs)) (firsts_rise level 0 ys q.ordered (firsts_from_0 level ys)) (same_number units piece xs ys p q level))
