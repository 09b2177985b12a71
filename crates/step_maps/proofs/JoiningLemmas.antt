use Rattle.std.proofs.Common.{◌≡◌, ◌≢◌, ℕ, ◌+◌, ◌-◌, ◌^◌, ◌<◌, ◌≤◌, Bool, true, false, cond, ◌&&◌, nat_le, nat_lt, if◌then◌else◌, map, ◌⊎◌, List, [], ◌∷◌, length, Option, None, Some, arith, refl, sym, ap, ◌∙◌, inl, inr}
use Rattle.std.proofs.lemmas.Bool.{cases_lt, le-leb}
use Rattle.std.proofs.lemmas.Bool.Decides.{nat_tests}
use Rattle.std.specs.Option.{option_map}
use Rattle.step_maps.specs.declared.stretch.Stretch.{Stretch}
use Rattle.step_maps.specs.declared.stretch.FirstItem.{FirstItem}
use Rattle.step_maps.specs.declared.stretch.Cover.{Cover}
use Rattle.sym_edges.specs.Rising.{RisesFrom}
use Rattle.step_maps.specs.Stepping.{Stepping, held_from, value_at, last_from, IsStepping}
use Rattle.step_maps.specs.StepRuns.{with_piece}
use Rattle.step_maps.specs.Runs.{Run, value_in, Follows, AreRuns, between}
use Rattle.step_maps.specs.Covers.{index_at, first_item, cover_run, AreMarked, AreCovers}
use Rattle.step_maps.specs.internal.Laying.{laid}
use Rattle.step_maps.specs.internal.Joining.{is_same_index, with_cover, covers_from}
use Rattle.step_maps.proofs.SteppingLemmas.{held_before}
use Rattle.sym_edges.proofs.RisingLemmas.{rises_lower}
use Rattle.step_maps.proofs.PieceLemmas.{start_low, between_low, between_none, between_same, between_later, piece_above, piece_within}
use Rattle.step_maps.proofs.FirstLemmas.{first_where_laid, first_index, first_shared}

bool_tells : (b : Bool) → (b ≡ true) ⊎ (b ≡ false)
bool_tells true = inl refl
bool_tells false = inr refl

abbrev index_of : Option FirstItem → Option ℕ
index_of i = option_map (λ k. k.index) i

index_alike : (x y : Option FirstItem) → is_same_index x y ≡ true → index_of x ≡ index_of y
index_alike None None is = refl
index_alike None (Some y) is = absurd (cc)
index_alike (Some x) None is = absurd (cc)
index_alike (Some x) (Some y) is = (let same : x.index ≡ y.index = grind (arith, nat_tests) in ap (λ n. Some n) same)

some_alike : (x y : ℕ) → Some x ≡ Some y → x ≡ y
some_alike x y is = cc

index_other : (x y : Option FirstItem) → is_same_index x y ≡ false → index_of x ≢ index_of y
index_other None None is alike = absurd (cc)
index_other None (Some y) is alike = absurd (cc)
index_other (Some x) None is alike = absurd (cc)
index_other (Some x) (Some y) is alike = (let same : x.index ≡ y.index = some_alike x.index y.index alike in grind (arith, nat_tests))

index_held : (x y : Option FirstItem) (stops : List ℕ) (values : List (Option FirstItem)) (a : ℕ) → index_of x ≡ index_of y → index_of (held_from x stops values a) ≡ index_of (held_from y stops values a)
unfolding held_from
index_held x y [] values a is = is
index_held x y (s ∷ stops) [] a is = is
index_held x y (s ∷ stops) (v ∷ values) a is = index_held (cond (nat_le s a) v x) (cond (nat_le s a) v y) stops values a (go (nat_le s a))
  where
    go : (b : Bool) → index_of (cond b v x) ≡ index_of (cond b v y)
    go true = refl
    go false = is

-- The covers as runs: each ends at the address after its last.
abbrev runs_of : List Cover → List (Run ℕ)
runs_of covers = map cover_run covers

follows_covers : (r : Run ℕ) (s : ℕ) (v : Option FirstItem) (stops : List ℕ) (values : List (Option FirstItem)) → r.end ≤ s → (r.end ≡ s → Some r.value ≢ index_of v) → RisesFrom (s + 1) stops → Follows r (runs_of (covers_from s v stops values))
follows_covers r s None [] values low differs rises = tt
follows_covers r s (Some i) [] values low differs rises = (low, λ touch same. differs touch (ap (λ w. Some w) same))
follows_covers r s None (t ∷ stops) [] low differs rises = tt
follows_covers r s (Some i) (t ∷ stops) [] low differs rises = (low, λ touch same. differs touch (ap (λ w. Some w) same))
follows_covers r s None (t ∷ stops) (w ∷ values) low differs rises = elim (bool_tells (is_same_index None w)) [
  | inl on ↦ rw on (follows_covers r s None stops values low differs (rises_lower (t + 1) (s + 1) stops (omega (arith, rises.0)) rises.1))
  | inr off ↦ rw off (follows_covers r t w stops values (omega (arith, low, rises.0)) (λ touch same. absurd (omega (arith, low, rises.0, touch))) rises.1)
]
follows_covers r s (Some i) (t ∷ stops) (w ∷ values) low differs rises = elim (bool_tells (is_same_index (Some i) w)) [
  | inl on ↦ rw on (follows_covers r s (Some i) stops values low differs (rises_lower (t + 1) (s + 1) stops (omega (arith, rises.0)) rises.1))
  | inr off ↦ rw off (low, λ touch same. differs touch (ap (λ w. Some w) same))
]

last_lower : (low more : ℕ) (stops : List ℕ) → low ≤ more → last_from low stops ≤ last_from more stops
last_lower low more [] le = le
last_lower low more (s ∷ stops) le = omega arith

covers_apart : (first : ℕ) (now : Option FirstItem) (stops : List ℕ) (values : List (Option FirstItem)) → RisesFrom (first + 1) stops → last_from first stops < 2 ^ 64 → AreRuns (runs_of (covers_from first now stops values))
covers_apart first None [] values rises fits = tt
covers_apart first (Some i) [] values rises fits = (omega (arith, fits), tt, tt)
covers_apart first None (t ∷ stops) [] rises fits = tt
covers_apart first (Some i) (t ∷ stops) [] rises fits = (let up : first ≤ last_from first (t ∷ stops) = start_low first (t ∷ stops) rises in omega (arith, up, fits), tt, tt)
covers_apart first None (t ∷ stops) (w ∷ values) rises fits = elim (bool_tells (is_same_index None w)) [
  | inl on ↦ rw on (covers_apart first None stops values (rises_lower (t + 1) (first + 1) stops (omega (arith, rises.0)) rises.1) (omega (arith, fits, last_lower first t stops (omega (arith, rises.0)))))
  | inr off ↦ rw off (covers_apart t w stops values rises.1 fits)
]
covers_apart first (Some i) (t ∷ stops) (w ∷ values) rises fits = elim (bool_tells (is_same_index (Some i) w)) [
  | inl on ↦ rw on (covers_apart first (Some i) stops values (rises_lower (t + 1) (first + 1) stops (omega (arith, rises.0)) rises.1) (omega (arith, fits, last_lower first t stops (omega (arith, rises.0)))))
  | inr off ↦ rw off (
    omega (arith, rises.0),
    follows_covers (cover_run (record { first = first; last = t - 1; index = i.index; shared = i.shared })) t w stops values (omega (arith, rises.0)) (λ touch same. index_other (Some i) w off same) rises.1,
    covers_apart t w stops values rises.1 fits,
  )
]

-- A cover in front is, as a run, a piece in front.
with_cover_run : (first stop : ℕ) (now : Option FirstItem) (covers : List Cover) → 0 < stop → runs_of (with_cover first (stop - 1) now covers) ≡ with_piece first stop (index_of now) (runs_of covers)
with_cover_run first stop None covers some = refl
with_cover_run first stop (Some i) covers some = (let same : (stop - 1) + 1 ≡ stop = omega arith in ap (λ n. record { start = first; end = n; value = i.index } ∷ runs_of covers) same)

parted : (first t : ℕ) (now w : Option FirstItem) (stops : List ℕ) (values : List (Option FirstItem)) (a : ℕ) (rest : List (Run ℕ)) → RisesFrom (first + 1) (t ∷ stops) → last_from first (t ∷ stops) < 2 ^ 64 → value_in rest a ≡ between t (2 ^ 64) (λ b. index_of (held_from w stops values b)) a → value_in (with_piece first t (index_of now) rest) a ≡ between first (2 ^ 64) (λ b. index_of (held_from now (t ∷ stops) (w ∷ values) b)) a
unfolding held_from
parted first t now w stops values a rest rises fits is = elim (cases_lt a t) [
  | inl below ↦
      piece_within first t (2 ^ 64) (index_of now) rest a (omega (arith, fits, start_low t stops rises.1)) below (is ∙ between_low t (2 ^ 64) (λ b. index_of (held_from w stops values b)) a below)
      ∙ ap (λ o. if nat_le first a && nat_lt a (2 ^ 64) then index_of o else None) (sym (held_before now t (t ∷ stops) (w ∷ values) a (omega arith, rises.1) below))
  | inr above ↦
      piece_above first t (index_of now) rest a above
      ∙ is
      ∙ between_later first t (2 ^ 64) (λ b. index_of (held_from w stops values b)) a (omega (arith, rises.0)) above
      ∙ ap (λ b. if nat_le first a && nat_lt a (2 ^ 64) then index_of (held_from (cond b w now) stops values a) else None) (sym (le-leb t a above))
]

covers_values : (first : ℕ) (now : Option FirstItem) (stops : List ℕ) (values : List (Option FirstItem)) (a : ℕ) → length stops ≡ length values → RisesFrom (first + 1) stops → last_from first stops < 2 ^ 64 → value_in (runs_of (covers_from first now stops values)) a ≡ between first (2 ^ 64) (λ b. index_of (held_from now stops values b)) a
unfolding held_from
covers_values first None [] values a paired rises fits = sym (between_none first (2 ^ 64) (λ b. None) a refl)
covers_values first (Some i) [] values a paired rises fits = refl
covers_values first now (t ∷ stops) [] a paired rises fits = absurd (omega arith)
covers_values first now (t ∷ stops) (w ∷ values) a paired rises fits = elim (bool_tells (is_same_index now w)) [
  | inl on ↦ rw on (
      covers_values first now stops values a (omega arith) (rises_lower (t + 1) (first + 1) stops (omega (arith, rises.0)) rises.1) (omega (arith, fits, last_lower first t stops (omega (arith, rises.0))))
      ∙ ap (λ (o : Option ℕ). if nat_le first a && nat_lt a (2 ^ 64) then o else None) (index_held now (cond (nat_le t a) w now) stops values a (either_index now w (nat_le t a) on)))
  | inr off ↦ rw off (
      ap (λ runs. value_in runs a) (with_cover_run first t now (covers_from t w stops values) (omega (arith, rises.0)))
      ∙ parted first t now w stops values a (runs_of (covers_from t w stops values)) rises fits (covers_values t w stops values a (omega arith) rises.1 fits))
]
  where
    either_index : (x y : Option FirstItem) (b : Bool) → is_same_index x y ≡ true → index_of x ≡ index_of (cond b y x)
    either_index x y true on = index_alike x y on
    either_index x y false on = refl

-- From `first` on, the function has the value that the stops give.
abbrev pub Gives : (ℕ → Option FirstItem) → ℕ → Option FirstItem → List ℕ → List (Option FirstItem) → Type 0
Gives f first now stops values = (a : ℕ) → first ≤ a → f a ≡ held_from now stops values a

-- A cover begins at an address of 64 bits, and says whether this address is shared.
abbrev IsShownAt : (ℕ → Option FirstItem) → Cover → Type 0
IsShownAt f c = (c.first < 2 ^ 64) × (option_map (λ i. i.shared) (f c.first) ≡ Some c.shared)

abbrev pub AreShownAt : (ℕ → Option FirstItem) → List Cover → Type 0
AreShownAt f [] = Unit {0}
AreShownAt f (c ∷ covers) = IsShownAt f c × AreShownAt f covers

-- At each stop the function has the value of this stop.
abbrev pub StopsTell : (ℕ → Option FirstItem) → List ℕ → List (Option FirstItem) → Type 0
StopsTell f [] values = Unit {0}
StopsTell f (s ∷ stops) [] = Unit {0}
StopsTell f (s ∷ stops) (v ∷ values) = (f s ≡ v) × StopsTell f stops values

stops_tell : (f : ℕ → Option FirstItem) (first : ℕ) (now : Option FirstItem) (stops : List ℕ) (values : List (Option FirstItem)) → RisesFrom first stops → Gives f first now stops values → StopsTell f stops values
unfolding held_from
stops_tell f first now [] values rises gives = tt
stops_tell f first now (s ∷ stops) [] rises gives = tt
stops_tell f first now (s ∷ stops) (v ∷ values) rises gives =
    let later : Gives f s v stops values = λ a le. gives a (omega (arith, le, rises.0)) ∙ ap (λ b. held_from (cond b v now) stops values a) (le-leb s a le) in
    (later s (omega arith) ∙ held_before v (s + 1) stops values s rises.1 (omega arith), stops_tell f (s + 1) v stops values rises.1 (λ a le. later a (omega arith)))

shown_covers : (f : ℕ → Option FirstItem) (first : ℕ) (now : Option FirstItem) (stops : List ℕ) (values : List (Option FirstItem)) → first < 2 ^ 64 → last_from first stops < 2 ^ 64 → RisesFrom (first + 1) stops → f first ≡ now → StopsTell f stops values → AreShownAt f (covers_from first now stops values)
shown_covers f first None [] values low fits rises at tell = tt
shown_covers f first (Some i) [] values low fits rises at tell = ((low, ap (λ o. option_map (λ i. i.shared) o) at), tt)
shown_covers f first None (t ∷ stops) [] low fits rises at tell = tt
shown_covers f first (Some i) (t ∷ stops) [] low fits rises at tell = ((low, ap (λ o. option_map (λ i. i.shared) o) at), tt)
shown_covers f first None (t ∷ stops) (w ∷ values) low fits rises at tell = elim (bool_tells (is_same_index None w)) [
  | inl on ↦ rw on (shown_covers f first None stops values low (omega (arith, fits, last_lower first t stops (omega (arith, rises.0)))) (rises_lower (t + 1) (first + 1) stops (omega (arith, rises.0)) rises.1) at tell.1)
  | inr off ↦ rw off (shown_covers f t w stops values (omega (arith, fits, start_low t stops rises.1)) fits rises.1 tell.0 tell.1)
]
shown_covers f first (Some i) (t ∷ stops) (w ∷ values) low fits rises at tell = elim (bool_tells (is_same_index (Some i) w)) [
  | inl on ↦ rw on (shown_covers f first (Some i) stops values low (omega (arith, fits, last_lower first t stops (omega (arith, rises.0)))) (rises_lower (t + 1) (first + 1) stops (omega (arith, rises.0)) rises.1) at tell.1)
  | inr off ↦ rw off ((low, ap (λ o. option_map (λ i. i.shared) o) at), shown_covers f t w stops values (omega (arith, fits, start_low t stops rises.1)) fits rises.1 tell.0 tell.1)
]

-- The covers have the function's index at each address, and say whether their first addresses are
-- shared.
pub record Joined (f : ℕ → Option FirstItem) (covers : List Cover) : Type 0 where
  pub apart : AreRuns (runs_of covers)
  pub values : (a : ℕ) → value_in (runs_of covers) a ≡ between 0 (2 ^ 64) (λ b. index_of (f b)) a
  pub shown : AreShownAt f covers

joined_from : (f : ℕ → Option FirstItem) (first : ℕ) (now : Option FirstItem) (stops : List ℕ) (values : List (Option FirstItem)) → length stops ≡ length values → RisesFrom (first + 1) stops → last_from first stops < 2 ^ 64 → Gives f first now stops values → ((a : ℕ) → a < first → f a ≡ None) → Joined f (covers_from first now stops values)
joined_from f first now stops values paired rises fits gives none = record {
  apart = covers_apart first now stops values rises fits;
  values = λ a. covers_values first now stops values a paired rises fits ∙ elim (cases_lt a first) [
    | inl below ↦
        between_low first (2 ^ 64) (λ b. index_of (held_from now stops values b)) a below
        ∙ sym (between_none 0 (2 ^ 64) (λ b. index_of (f b)) a (ap (λ o. index_of o) (none a below)))
    | inr above ↦
        between_later 0 first (2 ^ 64) (λ b. index_of (held_from now stops values b)) a (omega arith) above
        ∙ ap (λ o. if nat_le 0 a && nat_lt a (2 ^ 64) then index_of o else None) (sym (gives a above))
  ];
  shown = shown_covers f first now stops values (omega (arith, fits, start_low first stops rises)) fits rises (gives first (omega arith) ∙ held_before now (first + 1) stops values first rises (omega arith)) (stops_tell f (first + 1) now stops values rises (λ a le. gives a (omega arith)));
}

same_either : (b : Bool) (x : Option FirstItem) → cond b x x ≡ x
same_either true x = refl
same_either false x = refl

joined_whole : (stops : List ℕ) (values : List (Option FirstItem)) → IsStepping stops values → Joined (held_from None stops values) (covers_from 0 None stops values)
unfolding held_from
joined_whole [] values is = joined_from (held_from None [] values) 0 None [] values is.paired tt is.fits (λ a le. refl) (λ a below. absurd (omega arith))
joined_whole (s ∷ stops) [] is = absurd (omega (arith, is.paired))
joined_whole (s ∷ stops) (None ∷ values) is =
    joined_from (held_from None (s ∷ stops) (None ∷ values)) 0 None stops values (omega (arith, is.paired)) (rises_lower (s + 1) 1 stops (omega arith) is.rising.1) (omega (arith, is.fits, last_lower 0 s stops (omega arith)))
    (λ a le. ap (λ o. held_from o stops values a) (same_either (nat_le s a) None))
    (λ a below. absurd (omega arith))
joined_whole (s ∷ stops) (Some i ∷ values) is =
    joined_from (held_from None (s ∷ stops) (Some i ∷ values)) s (Some i) stops values (omega (arith, is.paired)) is.rising.1 is.fits
    (λ a le. ap (λ b. held_from (cond b (Some i) None) stops values a) (le-leb s a le))
    (λ a below. held_before None s (s ∷ stops) (Some i ∷ values) a (omega arith, is.rising.1) below)

all_marked : (items : List Stretch) (f : ℕ → Option FirstItem) (covers : List Cover) → ((a : ℕ) → a < 2 ^ 64 → f a ≡ first_item items a) → AreShownAt f covers → AreMarked items covers
all_marked items f [] same shown = tt
all_marked items f (c ∷ covers) same shown = (
  first_shared items c.first c.shared (ap (λ o. option_map (λ i. i.shared) o) (sym (same c.first shown.0.0)) ∙ shown.0.1),
  all_marked items f covers same shown.1,
)

-- The covers joined from the stops are the covers of the stretches.
pub covers_are : (items : List Stretch) (steps : Stepping (Option FirstItem)) (covers : List Cover) → ((a : ℕ) → a < 2 ^ 64 → value_at None steps a ≡ laid items a) → IsStepping steps.stops steps.values → covers ≡ covers_from 0 None steps.stops steps.values → AreCovers items covers
covers_are items steps covers same is made =
    let joined : Joined (value_at None steps) (covers_from 0 None steps.stops steps.values) = joined_whole steps.stops steps.values is in
    let first : (a : ℕ) → a < 2 ^ 64 → value_at None steps a ≡ first_item items a = first_where_laid items steps same in
    rw made (record {
      runs = record {
        apart = joined.apart;
        values = λ a. joined.values a ∙ between_same 0 (2 ^ 64) (λ b. index_of (value_at None steps b)) (index_at items) (λ b fits. ap (λ o. index_of o) (first b fits) ∙ first_index items b) a;
      };
      marks = all_marked items (value_at None steps) (covers_from 0 None steps.stops steps.values) first joined.shown;
    })
