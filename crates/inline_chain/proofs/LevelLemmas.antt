-- The inlined copies directly in the entries of a level.
use Rattle.std.proofs.Common.{◌≡◌, ℕ, zero, suc, ◌+◌, ◌<◌, ◌≤◌, ◌==◌, ◌^◌, ◌&&◌, ◌||◌, ◌++◌, Bool, true, false, if◌then◌else◌, nat_le, nat_lt, List, [], ◌∷◌, length, drop, get_or, map, Option, None, Some, arith, refl, sym, ap, subst, ◌∙◌, inl, inr}
use Rattle.std.specs.List.{list_any}
use Rattle.std.specs.List.Sorted.{IsNonDecreasingBy, IsPartitionedBy, IsPartitionPoint}
use Rattle.std.proofs.lemmas.Bool.{eq-eqb, eqb-true}
use Rattle.std.proofs.lemmas.Bool.Decides.{nat_tests, leb_tells}
use Rattle.std.proofs.lemmas.List.Sorted.{IsPartitionedBy-ltb}
use Rattle.std.proofs.lemmas.List.Folds.{list_any-append}
use Rattle.step_maps.specs.Runs.{has, value_in, AreRuns}
use Rattle.step_maps.specs.declared.stretch.Stretch.{Stretch}
use Rattle.step_maps.specs.declared.stretch.Cover.{Cover}
use Rattle.step_maps.specs.Covers.{reaches, cover_run}
use Rattle.step_maps.proofs.RunLemmas.{rest_above, none_after, none_below}
use Rattle.debug_units.specs.declared.unit_read.UnitRead.{UnitRead}
use Rattle.step_maps.specs.SpanStretches.{AreFit}
use Rattle.inline_chain.specs.Trees.{is_number, list_of, child_at, IsTree}
use Rattle.step_maps.proofs.SpanLemmas.{fit_joined}
use Rattle.inline_chain.specs.internal.Levels.{has_at, covers_at, reaches_under, cut, child_under, depth_at, IsLevel, ReachTo, StartsCovers}

-- The ends of the covers ascend.
last_above : (c : Cover) (covers : List Cover) (k : ℕ) (d : Cover) → AreRuns (map cover_run (c ∷ covers)) → k < length covers → c.last ≤ (get_or covers k d).last
last_above c [] k d runs inside = absurd (omega arith)
last_above c (e ∷ covers) zero d runs inside = omega (arith, runs.1.0, runs.2.0)
last_above c (e ∷ covers) (suc k) d runs inside =
    (let less : e.last ≤ (get_or covers k d).last = last_above e covers k d runs.2 (omega arith) in omega (arith, runs.1.0, runs.2.0))

lasts_rise : (covers : List Cover) → AreRuns (map cover_run covers) → IsNonDecreasingBy (λ c. c.last) covers
lasts_rise [] runs i j d up inside = absurd (omega arith)
lasts_rise (c ∷ covers) runs zero zero d up inside = omega arith
lasts_rise (c ∷ covers) runs zero (suc j) d up inside = last_above c covers j d runs (omega arith)
lasts_rise (c ∷ covers) runs (suc i) zero d up inside = absurd (omega arith)
lasts_rise (c ∷ covers) runs (suc i) (suc j) d up inside = lasts_rise covers runs.2 i j d (omega arith) (omega arith)

pub parted : (covers : List Cover) (first : ℕ) → AreRuns (map cover_run covers) → IsPartitionedBy (λ c. nat_lt c.last first) covers
parted covers first runs = IsPartitionedBy-ltb (λ c. c.last) covers first (lasts_rise covers runs)

passed : (covers : List Cover) (k first a : ℕ) → ((i : ℕ) (d : Cover) → i < k → (get_or covers i d).last < first) → first ≤ a → value_in (map cover_run (drop k covers)) a ≡ value_in (map cover_run covers) a
passed covers zero first a below up = refl
passed [] (suc k) first a below up = refl
passed (c ∷ covers) (suc k) first a below up =
    passed covers k first a (λ i d less. below (suc i) d (omega arith)) up ∙ sym (rest_above (cover_run c) (map cover_run covers) a (let less : c.last < first = below 0 c (omega arith) in omega (arith, less, up)))

runs_drop : (covers : List Cover) (k : ℕ) → AreRuns (map cover_run covers) → AreRuns (map cover_run (drop k covers))
runs_drop covers zero runs = runs
runs_drop [] (suc k) runs = tt
runs_drop (c ∷ covers) (suc k) runs = runs_drop covers k runs.2

reach_drop : (covers : List Cover) (k first : ℕ) → ((i : ℕ) (d : Cover) → k ≤ i → i < length covers → first ≤ (get_or covers i d).last) → ReachTo first (drop k covers)
reach_drop [] zero first up = tt
reach_drop [] (suc k) first up = tt
reach_drop (c ∷ covers) zero first up = (up 0 c (omega arith) (omega arith), reach_drop covers zero first (λ i d from inside. up (suc i) d (omega arith) (omega arith)))
reach_drop (c ∷ covers) (suc k) first up = reach_drop covers k first (λ i d from inside. up (suc i) d (omega arith) (omega arith))

pub starts : (covers : List Cover) (first k : ℕ) → AreRuns (map cover_run covers) → k ≤ length covers → IsPartitionPoint (λ c. nat_lt c.last first ≡ true) (λ c. nat_lt c.last first ≡ false) covers k → StartsCovers covers first k
starts covers first k runs inside point = record {
  inside = inside;
  same = λ a up. passed covers k first a (λ i d less. (let is : nat_lt (get_or covers i d).last first ≡ true = point.0 i d (omega arith) (omega arith) in grind (arith, nat_tests))) up;
  runs = runs_drop covers k runs;
  reach = reach_drop covers k first (λ i d from end. (let is : nat_lt (get_or covers i d).last first ≡ false = point.1 i d (omega arith) end in grind (arith, nat_tests)));
}

-- The covers from an index on give the same as all covers.
pub under_begins : (next : List Stretch) (covers front : List Cover) (around : Stretch) (k : ℕ) → StartsCovers covers around.first k → front ≡ drop k covers
    → (y a : ℕ) → (has_at next y a || (reaches around a && covers_at front y a)) ≡ (has_at next y a || (reaches around a && covers_at covers y a))
under_begins next covers front around k starts is y a =
    ap (λ t. has_at next y a || t)
    (ap (λ l. reaches around a && covers_at l y a) is ∙ elim (leb_tells around.first a) [
      | inl low ↦ ap (λ o. reaches around a && is_number y o) (starts.same a low.1)
      | inr low ↦ (ap (λ b. (b && nat_le a around.last) && covers_at (drop k covers) y a) low.0 ∙ sym (ap (λ b. (b && nat_le a around.last) && covers_at covers y a) low.0))
    ])

cut_reaches : (c : Cover) (around : Stretch) (a : ℕ) → reaches (cut c around) a ≡ (has (cover_run c) a && reaches around a)
cut_reaches c around a = grind (arith, nat_tests)

-- One more cover was cut.
mixed : (h i c r v : Bool) (o : Option ℕ) (y m : ℕ) → (m == y) ≡ i → is_number y o ≡ v → (c ≡ true → o ≡ None) → ((h || ((i && (c && r)) || false)) || (r && v)) ≡ (h || (r && is_number y (if c then Some m else o)))
mixed true i c r v o y m mi ov none = refl
mixed false i true r v o y m mi ov none =
    let out : v ≡ false = sym ov ∙ ap (is_number y) (none refl) in
    ap (λ t. ((i && r) || false) || (r && t)) out ∙ two i r ∙ ap (λ t. r && t) (sym mi)
  where
    two : (i r : Bool) → (((i && r) || false) || (r && false)) ≡ (r && i)
    two true true = refl
    two true false = refl
    two false true = refl
    two false false = refl
mixed false i false r v o y m mi ov none = two i (r && v) ∙ ap (λ t. r && t) (sym ov)
  where
    two : (i t : Bool) → (((i && false) || false) || t) ≡ t
    two true t = refl
    two false t = refl

pub under_more : (next : List Stretch) (rest later : List Cover) (c : Cover) (around : Stretch) (y a : ℕ) → rest ≡ c ∷ later → AreRuns (map cover_run rest)
    → (has_at (next ++ cut c around ∷ []) y a || (reaches around a && covers_at later y a)) ≡ (has_at next y a || (reaches around a && covers_at rest y a))
under_more next rest later c around y a is runs =
    ap (λ t. t || (reaches around a && covers_at later y a)) (list_any-append (λ (s : Stretch). (s.class == y) && reaches s a) next (cut c around ∷ []))
    ∙ ap (λ t. (has_at next y a || (((c.index == y) && t) || false)) || (reaches around a && covers_at later y a)) (cut_reaches c around a)
    ∙ mixed (has_at next y a) (c.index == y) (has (cover_run c) a) (reaches around a) (covers_at later y a) (value_in (map cover_run later) a) y c.index refl refl
    (λ on. none_after (cover_run c) (map cover_run later) a runs_c.1 runs_c.2 (grind (arith, nat_tests, on)))
    ∙ ap (λ l. has_at next y a || (reaches around a && covers_at l y a)) (sym is)
  where
    runs_c : AreRuns (map cover_run (c ∷ later))
    runs_c = subst (λ l. AreRuns (map cover_run l)) is runs

pub runs_later : (rest later : List Cover) (c : Cover) → rest ≡ c ∷ later → AreRuns (map cover_run rest) → AreRuns (map cover_run later)
runs_later rest later c is runs = (let both : AreRuns (map cover_run (c ∷ later)) = subst (λ l. AreRuns (map cover_run l)) is runs in both.2)

pub reach_later : (rest later : List Cover) (c : Cover) (first : ℕ) → rest ≡ c ∷ later → ReachTo first rest → ReachTo first later
reach_later rest later c first is reach = (let both : ReachTo first (c ∷ later) = subst (ReachTo first) is reach in both.1)

pub cut_fit : (next : List Stretch) (rest later : List Cover) (c : Cover) (around : Stretch) → rest ≡ c ∷ later → AreRuns (map cover_run rest) → ReachTo around.first rest → AreFit (around ∷ []) → c.first ≤ around.last
    → AreFit next → AreFit (next ++ cut c around ∷ [])
cut_fit next rest later c around is runs reach one inside fit = fit_joined next (cut c around) fit (omega (arith, runs_c.0, reach_c.0, one.0, inside)) (omega (arith, one.1))
  where
    runs_c : AreRuns (map cover_run (c ∷ later))
    runs_c = subst (λ l. AreRuns (map cover_run l)) is runs

    reach_c : ReachTo around.first (c ∷ later)
    reach_c = subst (ReachTo around.first) is reach

pub under_past : (next : List Stretch) (rest later : List Cover) (c : Cover) (around : Stretch) (y a : ℕ) → rest ≡ c ∷ later → AreRuns (map cover_run rest) → around.last < c.first
    → has_at next y a ≡ (has_at next y a || (reaches around a && covers_at rest y a))
under_past next rest later c around y a is runs past = elim (leb_tells a around.last) [
  | inl low ↦
      let none : value_in (map cover_run rest) a ≡ None = ap (λ l. value_in (map cover_run l) a) is ∙ none_below (cover_run c) (map cover_run later) a (subst (λ l. AreRuns (map cover_run l)) is runs) (omega (arith, low.1, past)) in
      sym (ap (λ o. has_at next y a || (reaches around a && is_number y o)) none ∙ away (has_at next y a) (reaches around a))
  | inr high ↦ sym (ap (λ b. has_at next y a || ((nat_le around.first a && b) && covers_at rest y a)) high.0 ∙ out (has_at next y a) (nat_le around.first a) (covers_at rest y a))
]
  where
    away : (h r : Bool) → (h || (r && false)) ≡ h
    away true r = refl
    away false true = refl
    away false false = refl

    out : (h b v : Bool) → (h || ((b && false) && v)) ≡ h
    out true b v = refl
    out false true v = refl
    out false false v = refl

pub under_ends : (next : List Stretch) (rest : List Cover) (around : Stretch) (y a : ℕ) → length rest ≡ 0 → has_at next y a ≡ (has_at next y a || (reaches around a && covers_at rest y a))
under_ends next [] around y a none = sym (away (has_at next y a) (reaches around a))
  where
    away : (h r : Bool) → (h || (r && false)) ≡ h
    away true r = refl
    away false true = refl
    away false false = refl
under_ends next (c ∷ rest) around y a none = absurd (omega arith)

pub or_assoc : (x y z : Bool) → ((x || y) || z) ≡ (x || (y || z))
or_assoc true y z = refl
or_assoc false y z = refl

-- One more stretch of the level is done.
pub level_more : (lists : List (List Cover)) (next made rest later : List Stretch) (s : Stretch) (y a : ℕ) → rest ≡ s ∷ later → has_at made y a ≡ (has_at next y a || (reaches s a && covers_at (list_of lists s.class) y a))
    → (has_at made y a || list_any (reaches_under lists y a) later) ≡ (has_at next y a || list_any (reaches_under lists y a) rest)
level_more lists next made rest later s y a is grown =
    ap (λ t. t || list_any (reaches_under lists y a) later) grown
    ∙ or_assoc (has_at next y a) (reaches_under lists y a s) (list_any (reaches_under lists y a) later)
    ∙ ap (λ l. has_at next y a || list_any (reaches_under lists y a) l) (sym is)

pub level_ends : (lists : List (List Cover)) (next rest : List Stretch) (y a : ℕ) → length rest ≡ 0 → has_at next y a ≡ (has_at next y a || list_any (reaches_under lists y a) rest)
level_ends lists next [] y a none = away (has_at next y a)
  where
    away : (h : Bool) → h ≡ (h || false)
    away true = refl
    away false = refl
level_ends lists next (s ∷ rest) y a none = absurd (omega arith)

pub first_fit : (rest later : List Stretch) (s : Stretch) → rest ≡ s ∷ later → AreFit rest → AreFit (s ∷ []) × AreFit later
first_fit rest later s is fit = (let both : AreFit (s ∷ later) = subst AreFit is fit in ((both.0, both.1, tt), both.2))

-- No stretch has the address.
any_none : (items : List Stretch) (P : ℕ → Bool) (a : ℕ) → ((x : ℕ) → has_at items x a ≡ false) → list_any (λ (s : Stretch). reaches s a && P s.class) items ≡ false
any_none [] P a none = refl
any_none (s ∷ items) P a none =
    ap (λ b. (b && P s.class) || list_any (λ (s : Stretch). reaches s a && P s.class) items) (off (s.class == s.class) (reaches s a) (has_at items s.class a) (eq-eqb s.class s.class refl) (none s.class))
    ∙ any_none items P a (λ x. later ((s.class == x) && reaches s a) (has_at items x a) (none x))
  where
    off : (e r h : Bool) → e ≡ true → ((e && r) || h) ≡ false → r ≡ false
    off true true h is no_one = absurd (cc)
    off true false h is no_one = refl
    off false r h is no_one = absurd (cc)

    later : (p h : Bool) → (p || h) ≡ false → h ≡ false
    later true h is = absurd (cc)
    later false h is = is

-- All stretches at an address are of one class.
any_one : (items : List Stretch) (P : ℕ → Bool) (a m : ℕ) → ((x : ℕ) → has_at items x a ≡ true → x ≡ m) → list_any (λ (s : Stretch). reaches s a && P s.class) items ≡ (has_at items m a && P m)
any_one [] P a m one = refl
any_one (s ∷ items) P a m one = go (reaches s a) refl (any_one items P a m (λ x is. one x (in_later ((s.class == x) && reaches s a) (has_at items x a) is)))
  where
    in_later : (p h : Bool) → h ≡ true → (p || h) ≡ true
    in_later true h is = refl
    in_later false h is = is

    go : (b : Bool) → reaches s a ≡ b → list_any (λ (s : Stretch). reaches s a && P s.class) items ≡ (has_at items m a && P m)
        → ((reaches s a && P s.class) || list_any (λ (s : Stretch). reaches s a && P s.class) items) ≡ ((((s.class == m) && reaches s a) || has_at items m a) && P m)
    go true is later =
        let same : s.class ≡ m = one s.class (ap (λ b. ((s.class == s.class) && b) || has_at items s.class a) is ∙ ap (λ e. (e && true) || has_at items s.class a) (eq-eqb s.class s.class refl)) in
        ap (λ b. (b && P s.class) || list_any (λ (s : Stretch). reaches s a && P s.class) items) is ∙ ap (λ t. P s.class || t) later ∙ ap (λ n. P n || (has_at items m a && P m)) same
        ∙ absorb (P m) (has_at items m a)
        ∙ sym (ap (λ b. (((s.class == m) && b) || has_at items m a) && P m) is ∙ ap (λ e. ((e && true) || has_at items m a) && P m) (eq-eqb s.class m same))
      where
        absorb : (p h : Bool) → (p || (h && p)) ≡ p
        absorb true h = refl
        absorb false true = refl
        absorb false false = refl
    go false is later =
        ap (λ b. (b && P s.class) || list_any (λ (s : Stretch). reaches s a && P s.class) items) is ∙ later
        ∙ sym (ap (λ b. (((s.class == m) && b) || has_at items m a) && P m) is ∙ off (s.class == m) (has_at items m a) (P m))
      where
        off : (e h p : Bool) → (((e && false) || h) && p) ≡ (h && p)
        off true h p = refl
        off false h p = refl

pub depth_next : (part : UnitRead) (owner depth a : ℕ) → depth_at part owner (depth + 1) a ≡ child_under part (depth_at part owner depth a) a
unfolding depth_at
depth_next part owner depth a = ap (λ n. depth_at part owner n a) (let next : depth + 1 ≡ suc depth = omega arith in next)

-- The covers of an entry give the inlined copy directly in it.
child_covers : (part : UnitRead) (lists : List (List Cover)) (owner : Stretch) (m y a : ℕ) → IsTree part lists → owner.last + 1 < 2 ^ 64 → (reaches owner a && covers_at (list_of lists m) y a) ≡ (reaches owner a && is_number y (child_at part m a))
child_covers part lists owner m y a tree last = elim (leb_tells a owner.last) [
  | inl low ↦
      let inside : (nat_le 0 a && nat_lt a 18446744073709551616) ≡ true = grind (arith, nat_tests, low.1, last) in
      ap (λ o. reaches owner a && is_number y o) ((tree m).values a ∙ ap (λ b. if b then child_at part m a else None) inside)
  | inr high ↦ (ap (λ b. (nat_le owner.first a && b) && covers_at (list_of lists m) y a) high.0 ∙ out (nat_le owner.first a) (covers_at (list_of lists m) y a) (is_number y (child_at part m a)) ∙ sym (ap (λ b. (nat_le owner.first a && b) && is_number y (child_at part m a)) high.0))
]
  where
    out : (b v w : Bool) → ((b && false) && v) ≡ ((b && false) && w)
    out true v w = refl
    out false v w = refl

pub next_level : (part : UnitRead) (lists : List (List Cover)) (owner : Stretch) (depth : ℕ) (items next : List Stretch) → IsTree part lists → owner.last + 1 < 2 ^ 64 → IsLevel part owner depth items
    → ((y a : ℕ) → has_at next y a ≡ list_any (reaches_under lists y a) items) → IsLevel part owner (depth + 1) next
next_level part lists owner depth items next tree last level made y a =
    made y a ∙ go (depth_at part owner.class depth a) (λ x. level x a) ∙ ap (λ o. reaches owner a && is_number y o) (sym (depth_next part owner.class depth a))
  where
    both_false : (b : Bool) → (b && false) ≡ false
    both_false true = refl
    both_false false = refl

    is_it : (r : Bool) (m x : ℕ) → (r && (m == x)) ≡ true → x ≡ m
    is_it true m x is = sym (eqb-true m x is)
    is_it false m x is = absurd (cc)

    with_true : (r p : Bool) → ((r && true) && p) ≡ (r && p)
    with_true true p = refl
    with_true false p = refl

    go : (o : Option ℕ) → ((x : ℕ) → has_at items x a ≡ (reaches owner a && is_number x o)) → list_any (reaches_under lists y a) items ≡ (reaches owner a && is_number y (child_under part o a))
    go None level = any_none items (λ x. covers_at (list_of lists x) y a) a (λ x. level x ∙ both_false (reaches owner a)) ∙ sym (both_false (reaches owner a))
    go (Some m) level =
        any_one items (λ x. covers_at (list_of lists x) y a) a m (λ x is. is_it (reaches owner a) m x (sym (level x) ∙ is))
        ∙ ap (λ t. t && covers_at (list_of lists m) y a) (level m ∙ ap (λ e. reaches owner a && e) (eq-eqb m m refl)) ∙ with_true (reaches owner a) (covers_at (list_of lists m) y a)
        ∙ child_covers part lists owner m y a tree last

pub first_level : (part : UnitRead) (owner : Stretch) → IsLevel part owner 0 (owner ∷ [])
unfolding depth_at
first_level part owner x a = go (owner.class == x) (reaches owner a)
  where
    go : (e r : Bool) → ((e && r) || false) ≡ (r && e)
    go true true = refl
    go true false = refl
    go false true = refl
    go false false = refl
