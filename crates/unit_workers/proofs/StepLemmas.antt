-- Each step on the word keeps the rule.
use Rattle.std.proofs.Common.{◌≡◌, ℕ, zero, suc, ◌+◌, ◌-◌, ◌%◌, ◌^◌, ◌<◌, ◌≤◌, ◌≢◌, min, List, [], ◌∷◌, ◌++◌, length, set, refl, sym, ap, ◌∙◌, subst, ⊎_elim, arith, mod-eq_of_lt}
use Rattle.std.specs.Prelude.{slice_index}
use Rattle.std.proofs.lemmas.Bool.Decides.{nat_tests}
use mathlib.Core.Logic.{dite}
use mathlib.Core.Option.{some, some-injective, some-ne-none}
use native.Mathlib.Decide.{dec_lt}
use lib.ListN.{get_elem?}
use Rattle.atomic_table.specs.Table.{State, Me, keeps, opening, Allows, Splits, Joins}
use Rattle.atomic_table.proofs.Lists.{at_set, at_snoc, set_else}
use Rattle.unit_workers.specs.Numbers.{total, times, once_below, HasEachBelow}
use Rattle.unit_workers.specs.Drawing.{IsView, Drawing}
use Rattle.unit_workers.specs.Steps.{first_view, with_number, with_less, Draws, giving, given, both, spent}
use Rattle.unit_workers.specs.declared.lot.Lot.{Lot}
use Rattle.unit_workers.specs.declared.view.View.{View}
use Rattle.unit_workers.proofs.SumLemmas.{total-append, total-set, term_le, terms_le, total-alone}
use Rattle.unit_workers.proofs.NumberLemmas.{times-append, times_push, once_below_more, below_if_once, all_below}

abbrev St : Type 0
St = State ℕ View

pub same_lot : (a b : Lot) → a.count ≡ b.count → a.workers ≡ b.workers → a ≡ b
same_lot a b count workers i = record { count = count i; workers = workers i }

word_set : (ws : List ℕ) (y : ℕ) → length ws ≡ 1 → (length (set ws 0 y) ≡ 1) × (slice_index (set ws 0 y) 0 ≡ y)
word_set [] y e = absurd (omega arith)
word_set (w ∷ ws) y e = (e, refl)

-- What holds of each view still does if one view is replaced by another of which it holds.
each_set : (P : View → Type 0) (views : List View) (id : ℕ) (w : View) → ((i : ℕ) (v : View) → get_elem? views i ≡ some v → P v) → P w
    → (i : ℕ) (v : View) → get_elem? (set views id w) i ≡ some v → P v
each_set P views id w all one i v e =
    ⊎_elim (λ (t : (i ≡ id) × (w ≡ v)). subst P t.1 one) (λ (t : (i ≢ id) × (get_elem? views i ≡ some v)). all i v t.1) (at_set views id i w v e)

-- A draw keeps the rule: the word grows by 1, and one view changes.
drawn_to : (lot : Lot) (s : St) (d : Drawing lot s) (id y : ℕ) (v w : View) → get_elem? s.views id ≡ some v → IsView lot w → w.share ≡ v.share
    → w.rights + (y - lot.count) ≡ v.rights + (slice_index s.words 0 - lot.count)
    → ((x : ℕ) → times x w.drawn + once_below (min (slice_index s.words 0) lot.count) x ≡ times x v.drawn + once_below (min y lot.count) x)
    → Drawing lot record { words = set s.words 0 y; homes = s.homes; views = set s.views id w }
drawn_to lot s d id y v w me is share rights numbers =
    let at = word_set s.words y d.wide in
    record {
      wide = at.0;
      few = d.few;
      drawn = λ x. omega (arith, total-set (λ u. times x u.drawn) s.views id v w me, d.drawn x, numbers x, ap (λ n. once_below (min n lot.count) x) at.1);
      rights = omega (arith, total-set (λ u. u.rights) s.views id v w me, term_le (λ u. u.rights) s.views id v me, d.rights, at.1, rights);
      shares = omega (arith, total-set (λ u. u.share) s.views id v w me, d.shares);
      each = each_set (IsView lot) s.views id w d.each is;
    }

pub draws : (lot : Lot) (slots id : ℕ) (m : Me ℕ View) → 0 < m.0.rights → Allows (Drawing lot) slots id m 0 (λ n. (n + 1) % 2 ^ 64) (Draws m)
draws lot slots id m right s d homes me small =
    let v : View = m.0 in
    let k : ℕ = slice_index s.words 0 in
    let mine : IsView lot v = d.each id v me in
    let of : v.lot ≡ lot = mine.knows (omega arith) in
    let count : v.lot.count ≡ lot.count = ap (λ (l : Lot). l.count) of in
    let part : v.rights ≤ total (λ u. u.rights) s.views = term_le (λ u. u.rights) s.views id v me in
    let next : (k + 1) % 2 ^ 64 ≡ k + 1 = mod-eq_of_lt (omega (arith, d.few, d.rights)) in
    let to : (w : View) → Drawing lot record { words = set s.words 0 (k + 1); homes = s.homes; views = set s.views id w }
    → Drawing lot record { words = set s.words 0 ((k + 1) % 2 ^ 64); homes = s.homes; views = set s.views id w }
    = λ w e. subst (λ (y : ℕ). Drawing lot record { words = set s.words 0 y; homes = s.homes; views = set s.views id w }) (sym next) e in
    dite (dec_lt k lot.count)
    (λ below.
    let low : min k lot.count ≡ k = omega arith in
    let high : min (k + 1) lot.count ≡ k + 1 = omega arith in
    let w : View = with_number v k in
    let numbers : (x : ℕ) → times x w.drawn + once_below (min k lot.count) x ≡ times x v.drawn + once_below (min (k + 1) lot.count) x
    = λ x. omega (arith, times_push x v.drawn k, once_below_more k x, ap (λ n. once_below n x) low, ap (λ n. once_below n x) high) in (
      w,
      keeps,
      tt,
      to w (drawn_to lot s d id (k + 1) v w me (record { rights = mine.rights; idle = λ z. absurd (omega arith); knows = λ _. of }) refl (omega arith) numbers),
      record {
        number = λ _. (refl, all_below k v.drawn (λ x there. below_if_once k x (omega (arith, there, term_le (λ u. times x u.drawn) s.views id v me, d.drawn x, ap (λ n. once_below n x) low))));
        none = λ past. absurd (omega arith);
      },
    ))
    (λ above.
    let past : lot.count ≤ k = omega arith in
    let w : View = with_less v in
    let stays : min k lot.count ≡ min (k + 1) lot.count = omega arith in
    let numbers : (x : ℕ) → times x w.drawn + once_below (min k lot.count) x ≡ times x v.drawn + once_below (min (k + 1) lot.count) x
    = λ x. ap (λ n. times x v.drawn + once_below n x) stays in (
      w,
      keeps,
      tt,
      to w (drawn_to lot s d id (k + 1) v w me (record { rights = omega (arith, mine.rights); idle = mine.idle; knows = λ _. of }) refl (omega arith) numbers),
      record { number = λ below. absurd (omega arith); none = λ _. refl },
    ))

pub splits : (lot : Lot) (id : ℕ) (v : View) → 2 ≤ v.rights → Splits (Drawing lot) id v (giving v) (given v)
splits lot id v two s d me =
    let mine : IsView lot v = d.each id v me in
    let of : v.lot ≡ lot = mine.knows (omega (arith, mine.rights)) in
    let vs : List View = set s.views id (giving v) in
    let sums : (g : View → ℕ) → total g (vs ++ given v ∷ []) + g v ≡ total g s.views + g (giving v) + g (given v)
    = λ g. omega (arith, total-append g vs (given v ∷ []), total-set g s.views id v (giving v) me) in
    let left : IsView lot (giving v) = record { rights = omega (arith, mine.rights); idle = λ z. absurd (omega (arith, mine.rights)); knows = λ _. of } in
    let right : IsView lot (given v) = record { rights = omega arith; idle = λ z. absurd (omega arith); knows = λ _. of } in
    record {
      wide = d.wide;
      few = d.few;
      drawn = λ x. omega (arith, sums (λ u. times x u.drawn), d.drawn x);
      rights = omega (arith, sums (λ u. u.rights), d.rights);
      shares = omega (arith, sums (λ u. u.share), d.shares, mine.rights);
      each = λ i u e. ⊎_elim (λ (t : get_elem? vs i ≡ some u). each_set (IsView lot) s.views id (giving v) d.each left i u t) (λ (t : given v ≡ u). subst (IsView lot) t right) (at_snoc vs (given v) u i e);
    }

pub joins : (lot : Lot) (id : ℕ) (v : View) (other : ℕ) (w : View) → v.lot ≡ lot → Joins (Drawing lot) id v other w (both v w) spent
joins lot id v other w of s d me apart them =
    let vs : List View = set s.views id (both v w) in
    let theirs : get_elem? s.views other ≡ some w = sym (set_else s.views id other (both v w) apart) ∙ them in
    let mine : IsView lot v = d.each id v me in
    let other' : IsView lot w = d.each other w theirs in
    let sums : (g : View → ℕ) → total g (set vs other spent) + g w + g v ≡ total g s.views + g (both v w) + g spent
    = λ g. omega (arith, total-set g s.views id v (both v w) me, total-set g vs other w spent them) in
    let idle : v.share + w.share ≡ 0 → v.drawn ++ w.drawn ≡ [] = λ z i. mine.idle (omega arith) i ++ other'.idle (omega arith) i in
    let left : IsView lot (both v w) = record { rights = omega (arith, mine.rights, other'.rights); idle = idle; knows = λ _. of } in
    let right : IsView lot spent = record { rights = omega arith; idle = λ _. refl; knows = λ some. absurd (omega arith) } in
    record {
      wide = d.wide;
      few = d.few;
      drawn = λ x. omega (arith, sums (λ u. times x u.drawn), d.drawn x, times-append x v.drawn w.drawn);
      rights = omega (arith, sums (λ u. u.rights), d.rights);
      shares = omega (arith, sums (λ u. u.share), d.shares);
      each = each_set (IsView lot) vs other spent (each_set (IsView lot) s.views id (both v w) d.each left) right;
    }

-- A view with the whole share and no right has each number below the count once.
pub closes : (lot : Lot) (s : St) (id : ℕ) (v : View) → Drawing lot s → get_elem? s.views id ≡ some v → 0 < lot.workers → v.share ≡ lot.workers → v.rights ≡ 0 → HasEachBelow lot.count v.drawn
closes lot s id v d me some_worker whole none x =
    let idle : (i : ℕ) (u : View) → i ≢ id → get_elem? s.views i ≡ some u → u.share ≡ 0
    = λ i u n e. omega (arith, terms_le (λ y. y.share) s.views id i v u n me e, d.shares) in
    let rights : total (λ u. u.rights) s.views ≡ v.rights
    = total-alone (λ u. u.rights) s.views id v me (λ i u n e. omega (arith, idle i u n e, (d.each i u e).rights)) in
    let drawn : total (λ u. times x u.drawn) s.views ≡ times x v.drawn
    = total-alone (λ u. times x u.drawn) s.views id v me (λ i u n e. ap (times x) ((d.each i u e).idle (idle i u n e))) in
    let past : min (slice_index s.words 0) lot.count ≡ lot.count = omega (arith, d.rights, rights) in
    sym drawn ∙ d.drawn x ∙ ap (λ n. once_below n x) past

only_view : (v : View) (i : ℕ) (u : View) → get_elem? (v ∷ []) i ≡ some u → v ≡ u
only_view v zero u e = some-injective v u e
only_view v (suc i) u e = absurd (some-ne-none u (sym e))

none_below : (n x : ℕ) → n ≡ 0 → 0 ≡ once_below n x
none_below n x e = grind (arith, nat_tests)

pub starts : (lot : Lot) → lot.count ≤ 2 ^ 32 → lot.workers ≤ 64 → Drawing lot (opening (0 ∷ []) [] (first_view lot))
starts lot few workers = record {
  wide = refl;
  few = omega arith;
  drawn = λ x. none_below (min 0 lot.count) x (omega arith);
  rights = omega arith;
  shares = omega arith;
  each = λ i u e. subst (IsView lot) (only_view (first_view lot) i u e) (record { rights = omega arith; idle = λ _. refl; knows = λ _. refl });
}
