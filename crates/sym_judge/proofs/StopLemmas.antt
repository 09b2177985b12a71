-- The least stop at which two files differ is the least address at which they differ.
use Rattle.std.proofs.Common.{◌≡◌, ℕ, zero, suc, ◌+◌, ◌^◌, ◌<◌, ◌≤◌, leb, Bool, true, false, cond, List, [], ◌∷◌, ◌++◌, length, get_or, Option, None, Some, drop, refl, sym, ap, subst, ◌∙◌, add-one, drop-cons, arith, inl, inr}
use Rattle.std.proofs.lemmas.Bool.{cases_lt}
use Rattle.std.proofs.lemmas.Bool.Decides.{nat_tests}
use Rattle.std.specs.List.{find, Contains}
use Rattle.std.specs.Option.{option_or}
use Rattle.std.proofs.lemmas.List.{drop_all}
use Rattle.std.proofs.lemmas.List.Elements.{Contains-append_left, Contains-append_right}
use Rattle.std.proofs.lemmas.List.Folds.{find-append}
use Rattle.step_maps.specs.Stepping.{Stepping, value_at}
use Rattle.sym_records.specs.declared.line.SymLine.{SymLine}
use Rattle.sym_judge.specs.Alike.{first_unlike, name_aspects, frame_aspects, differs}
use Rattle.sym_judge.specs.Rulings.{IsRuling}
use Rattle.sym_judge.specs.declared.ruling.Aspect.{Aspect}
use Rattle.sym_judge.specs.declared.ruling.Ruling.{Ruling}
use Rattle.sym_judge.specs.declared.ruling.Ruling.TheVariants.{Yes, No}
use Rattle.sym_judge.specs.declared.ruling.Half.{Half}
use Rattle.sym_judge.specs.declared.ruling.Half.TheVariants.{Names, Frames}
use Rattle.sym_judge.specs.internal.Stops.{Compared, stops_of, first_in, is_settled, with_found, with_stop, with_stops, all_stops, half_ruling, doubted, sooner, Fits, IsHalfRuling}
use Rattle.sym_judge.specs.internal.Blocks.{AreDoubts}
use Rattle.sym_judge.proofs.SteadyLemmas.{AreOutside, steady, outside_both}

-- The address is below that of the ruling.
abbrev IsBelow : Ruling → ℕ → Type 0
IsBelow Yes x = Unit {0}
IsBelow (No address aspect) x = x < address

-- The files do not differ at those of the stops that are below the ruling's address.
abbrev AreClear : Half → List SymLine → List SymLine → Ruling → List ℕ → Type 0
AreClear half own other ruling [] = Unit {0}
AreClear half own other ruling (x ∷ stops) = (x < 2 ^ 64 → IsBelow ruling x → first_in half own other x ≡ None) × AreClear half own other ruling stops

-- What a ruling other than yes says is true.
abbrev IsTrueOf : Half → List SymLine → List SymLine → Ruling → Type 0
IsTrueOf half own other Yes = Unit {0}
IsTrueOf half own other (No address aspect) = first_in half own other address ≡ Some aspect

not_settled : (a x : ℕ) → leb a x ≡ false → x < a
not_settled a x is = grind (arith, nat_tests)

settled : (a x : ℕ) → leb a x ≡ true → a ≤ x
settled a x is = grind (arith, nat_tests)

-- The address of the ruling does not grow at a stop.
abbrev Falls : Ruling → Ruling → Type 0
Falls old new = (b : ℕ) → IsBelow new b → IsBelow old b

falls_by : (ruling : Ruling) (x : ℕ) (b : Bool) (found : Option Aspect) → is_settled ruling x ≡ b → Falls ruling (cond b ruling (with_found ruling x found))
falls_by ruling x true found is = λ c h. h
falls_by ruling x false None is = λ c h. h
falls_by Yes x false (Some aspect) is = λ c h. tt
falls_by (No a p) x false (Some aspect) is = λ c h. let above : x < a = not_settled a x is in omega arith

stop_falls : (half : Half) (own other : List SymLine) (ruling : Ruling) (x : ℕ) → Falls ruling (with_stop half own other ruling x)
unfolding with_stop
stop_falls half own other ruling x = falls_by ruling x (is_settled ruling x) (first_in half own other x) refl

-- After a stop, the files do not differ there if it is below the ruling's address.
clear_by : (half : Half) (own other : List SymLine) (ruling : Ruling) (x : ℕ) (b : Bool) (found : Option Aspect) → is_settled ruling x ≡ b → first_in half own other x ≡ found → IsBelow (cond b ruling (with_found ruling x found)) x → found ≡ None
clear_by half own other Yes x true found is e h = absurd (cc)
clear_by half own other (No a p) x true found is e h = let above : a ≤ x = settled a x is in absurd (omega arith)
clear_by half own other ruling x false None is e h = refl
clear_by half own other ruling x false (Some aspect) is e h = absurd (omega arith)

stop_clear : (half : Half) (own other : List SymLine) (ruling : Ruling) (x : ℕ) → IsBelow (with_stop half own other ruling x) x → first_in half own other x ≡ None
unfolding with_stop
stop_clear half own other ruling x h = clear_by half own other ruling x (is_settled ruling x) (first_in half own other x) refl refl h

true_by : (half : Half) (own other : List SymLine) (ruling : Ruling) (x : ℕ) (b : Bool) (found : Option Aspect) → first_in half own other x ≡ found → IsTrueOf half own other ruling → IsTrueOf half own other (cond b ruling (with_found ruling x found))
true_by half own other ruling x true found e h = h
true_by half own other ruling x false None e h = h
true_by half own other ruling x false (Some aspect) e h = e

stop_true : (half : Half) (own other : List SymLine) (ruling : Ruling) (x : ℕ) → IsTrueOf half own other ruling → IsTrueOf half own other (with_stop half own other ruling x)
unfolding with_stop
stop_true half own other ruling x h = true_by half own other ruling x (is_settled ruling x) (first_in half own other x) refl h

-- All stops.
stops_fall : (half : Half) (own other : List SymLine) (ruling : Ruling) (stops : List ℕ) → Falls ruling (with_stops half own other ruling stops)
unfolding with_stops
stops_fall half own other ruling [] = λ b h. h
stops_fall half own other ruling (x ∷ stops) = λ b h. stop_falls half own other ruling x b (stops_fall half own other (with_stop half own other ruling x) stops b h)

seen_clear : (half : Half) (own other : List SymLine) (ruling : Ruling) (stops : List ℕ) (k x : ℕ) → k < length stops → get_or stops k x ≡ x → IsBelow (with_stops half own other ruling stops) x → first_in half own other x ≡ None
unfolding with_stops
seen_clear half own other ruling [] k x l e h = absurd (omega arith)
seen_clear half own other ruling (y ∷ stops) zero x l e h =
    let below : IsBelow (with_stop half own other ruling y) x = stops_fall half own other (with_stop half own other ruling y) stops x h in
    ap (first_in half own other) (sym e) ∙ stop_clear half own other ruling y (subst (IsBelow (with_stop half own other ruling y)) (sym e) below)
seen_clear half own other ruling (y ∷ stops) (suc k) x l e h = seen_clear half own other (with_stop half own other ruling y) stops k x (omega arith) e h

stops_true : (half : Half) (own other : List SymLine) (ruling : Ruling) (stops : List ℕ) → IsTrueOf half own other ruling → IsTrueOf half own other (with_stops half own other ruling stops)
unfolding with_stops
stops_true half own other ruling [] h = h
stops_true half own other ruling (x ∷ stops) h = stops_true half own other (with_stop half own other ruling x) stops (stop_true half own other ruling x h)

-- If the files do not differ at any doubtful stop, they do not differ at any stop.
abbrev IsClearIn : Half → List SymLine → List SymLine → Ruling → List ℕ → Type 0
IsClearIn half own other ruling stops = (x : ℕ) → Contains stops x → x < 2 ^ 64 → IsBelow ruling x → first_in half own other x ≡ None

clear_more : (half : Half) (own other : List SymLine) (ruling : Ruling) (x : ℕ) (stops kept : List ℕ) (b : Bool) → (b ≡ false → x < 2 ^ 64 → first_in half own other x ≡ None) → IsClearIn half own other ruling (cond b (x ∷ kept) kept) → (IsClearIn half own other ruling kept → AreClear half own other ruling stops)
    → AreClear half own other ruling (x ∷ stops)
clear_more half own other ruling x stops kept true none told rest = (λ fits below. told x (Contains-append_left (x ∷ []) kept x (0, omega arith, refl)) fits below, rest (λ y has. told y (Contains-append_right (x ∷ []) kept y has)))
clear_more half own other ruling x stops kept false none told rest = (λ fits below. none refl fits, rest told)

all_clear : (half : Half) (own other : List SymLine) (ruling : Ruling) (doubts : Stepping Bool) → AreDoubts half own other doubts → (stops : List ℕ) → IsClearIn half own other ruling (doubted doubts stops) → AreClear half own other ruling stops
all_clear half own other ruling doubts are [] told = tt
all_clear half own other ruling doubts are (x ∷ stops) told =
    clear_more half own other ruling x stops (doubted doubts stops) (value_at false doubts x) (λ is fits. are.clear x fits is) told (all_clear half own other ruling doubts are stops)

-- The last stop that is at or below an address.
record Latest (half : Half) (own other : List SymLine) (x low : ℕ) (stops : List ℕ) : Type 0 where
  stop : ℕ
  above : low ≤ stop
  upto : stop ≤ x
  clear : first_in half own other stop ≡ None
  outside : AreOutside stop x stops

below_too : (ruling : Ruling) (b x : ℕ) → b ≤ x → IsBelow ruling x → IsBelow ruling b
below_too Yes b x l h = tt
below_too (No a p) b x l h = omega arith

latest : (half : Half) (own other : List SymLine) (ruling : Ruling) (x : ℕ) → x < 2 ^ 64 → IsBelow ruling x → (stops : List ℕ) → AreClear half own other ruling stops → (low : ℕ) → low ≤ x → first_in half own other low ≡ None → Latest half own other x low stops
latest half own other ruling x fits below [] clear low up none = record { stop = low; above = omega arith; upto = up; clear = none; outside = tt }
latest half own other ruling x fits below (b ∷ stops) clear low up none = elim (cases_lt x b) [
  | inl over ↦ let later : Latest half own other x low stops = latest half own other ruling x fits below stops clear.1 low up none in
      record { stop = later.stop; above = later.above; upto = later.upto; clear = later.clear; outside = (λ l. over, later.outside) }
  | inr under ↦ elim (cases_lt b low) [
    | inl less ↦ let later : Latest half own other x low stops = latest half own other ruling x fits below stops clear.1 low up none in
        record { stop = later.stop; above = later.above; upto = later.upto; clear = later.clear; outside = (λ l. let lower : low ≤ later.stop = later.above in absurd (omega arith), later.outside) }
    | inr more ↦ let later : Latest half own other x b stops = latest half own other ruling x fits below stops clear.1 b under (clear.0 (omega arith) (below_too ruling b x under below)) in
        record { stop = later.stop; above = let lower : b ≤ later.stop = later.above in omega arith; upto = later.upto; clear = later.clear; outside = (λ l. let lower : b ≤ later.stop = later.above in absurd (omega arith), later.outside) }
  ]
]

clear_below : (half : Half) (own other : List SymLine) (ruling : Ruling) → AreClear half own other ruling (all_stops half own other) → (x : ℕ) → x < 2 ^ 64 → IsBelow ruling x → first_in half own other x ≡ None
clear_below half own other ruling clear x fits below =
    let last : Latest half own other x 0 (stops_of half own ++ stops_of half other) = latest half own other ruling x fits below (stops_of half own ++ stops_of half other) clear.1 0 (omega arith) (clear.0 (omega arith) (below_too ruling 0 x (omega arith) below)) in
    let out = outside_both last.stop x (stops_of half own) (stops_of half other) last.outside in
    sym (steady half own other last.stop x last.upto fits out.0 out.1) ∙ last.clear

half_by : (half : Half) (own other : List SymLine) (ruling : Ruling) → Fits ruling → IsTrueOf half own other ruling → ((x : ℕ) → x < 2 ^ 64 → IsBelow ruling x → first_in half own other x ≡ None) → IsHalfRuling half own other ruling
half_by half own other Yes fits is clear = λ x l. clear x l tt
half_by half own other (No a p) fits is clear = (fits, (is, λ x l. clear x (omega arith) l))

half_by_stops : (half : Half) (own other : List SymLine) (doubts : Stepping Bool) (stops : List ℕ) (r : Ruling) → AreDoubts half own other doubts → ((x : ℕ) → Contains (doubted doubts (all_stops half own other)) x → Contains stops x) → r ≡ with_stops half own other Yes stops → Fits r → IsHalfRuling half own other r
half_by_stops half own other doubts stops r are kept is fits =
    let told : IsClearIn half own other r (doubted doubts (all_stops half own other))
    = λ x has small below. let has_it = kept x has in seen_clear half own other Yes stops has_it.0 x has_it.1 has_it.2 (subst (λ q. IsBelow q x) is below) in
    half_by half own other r fits (subst (IsTrueOf half own other) (sym is) (stops_true half own other Yes stops tt)) (clear_below half own other r (all_clear half own other r doubts are (all_stops half own other) told))

pub half_told : (half : Half) (own other first second : List SymLine) (c : Compared) (doubts : Stepping Bool) (items stops : List ℕ) (r : Ruling) → c ≡ record { half = half; own = own; other = other } → first ≡ own → second ≡ other → AreDoubts half own other doubts
    → ((x : ℕ) → Contains (doubted doubts (all_stops half first second)) x → Contains items x) → stops ≡ items → r ≡ with_stops c.half c.own c.other Yes stops → Fits r → IsHalfRuling half own other r
half_told half own other first second c doubts items stops r p e f are kept s is fits =
    half_by_stops half own other doubts items r are
    (λ x has. kept x (subst (λ lines. Contains (doubted doubts (all_stops half lines second)) x) (sym e) (subst (λ lines. Contains (doubted doubts (all_stops half own lines)) x) (sym f) has)))
    (is ∙ ap (λ (d : Compared). with_stops d.half d.own d.other Yes stops) p ∙ ap (with_stops half own other Yes) s) fits

-- The files are compared at all stops.
each_clear : (half : Half) (own other : List SymLine) (ruling : Ruling) (stops : List ℕ) → IsClearIn half own other ruling stops → AreClear half own other ruling stops
each_clear half own other ruling [] told = tt
each_clear half own other ruling (x ∷ stops) told = clear_more half own other ruling x stops stops true (λ e fits. absurd (cc)) told (each_clear half own other ruling stops)

pub half_is : (half : Half) (own other : List SymLine) → Fits (half_ruling half own other) → IsHalfRuling half own other (half_ruling half own other)
unfolding half_ruling
half_is half own other fits =
    half_by half own other (half_ruling half own other) fits (stops_true half own other Yes (all_stops half own other) tt)
    (clear_below half own other (half_ruling half own other) (each_clear half own other (half_ruling half own other) (all_stops half own other) (λ x has small below. seen_clear half own other Yes (all_stops half own other) has.0 x has.1 has.2 below)))

-- Both halves.
first_of_both : (own other : List SymLine) (x : ℕ) (a b : Option Aspect) → first_in Names own other x ≡ a → first_in Frames own other x ≡ b → first_unlike own other x ≡ option_or a b
unfolding first_in first_unlike
first_of_both own other x a b p q = find-append (differs own other x) name_aspects frame_aspects ∙ ap (λ o. option_or o (find (differs own other x) frame_aspects)) p ∙ ap (option_or a) q

pub rulings_join : (own other : List SymLine) (names frames : Ruling) → IsHalfRuling Names own other names → IsHalfRuling Frames own other frames → IsRuling own other (sooner names frames)
rulings_join own other Yes Yes p q = λ x l. first_of_both own other x None None (p x l) (q x l)
rulings_join own other Yes (No a f) p q = record { address_fits = q.0; differ = first_of_both own other a None (Some f) (p a q.0) q.1.0; alike_below = λ x l. first_of_both own other x None None (p x (omega (arith, q.0))) (q.1.1 x l) }
rulings_join own other (No a n) Yes p q = record { address_fits = p.0; differ = first_of_both own other a (Some n) None p.1.0 (q a p.0); alike_below = λ x l. first_of_both own other x None None (p.1.1 x l) (q x (omega (arith, p.0))) }
rulings_join own other (No a n) (No b f) p q = by (leb a b) refl
  where
    by : (c : Bool) → leb a b ≡ c → IsRuling own other (cond c (No a n) (No b f))
    by true is = let l : a ≤ b = settled a b is in record { address_fits = p.0; differ = first_of_both own other a (Some n) (first_in Frames own other a) p.1.0 refl; alike_below = λ x m. first_of_both own other x None None (p.1.1 x m) (q.1.1 x (omega arith)) }
    by false is = let l : b < a = not_settled a b is in record { address_fits = q.0; differ = first_of_both own other b None (Some f) (p.1.1 b l) q.1.0; alike_below = λ x m. first_of_both own other x None None (p.1.1 x (omega arith)) (q.1.1 x m) }

-- There is one stop more, or none.
pub stops_more : (half : Half) (own other : List SymLine) (known r all : Ruling) (stops : List ℕ) (at d : ℕ) → with_stops half own other known (drop at stops) ≡ all → at < length stops → r ≡ with_stop half own other known (get_or stops at d)
    → with_stops half own other r (drop (at + 1) stops) ≡ all
unfolding with_stops
stops_more half own other known r all stops at d before l e =
    ap (λ k. with_stops half own other r (drop k stops)) (add-one at)
    ∙ ap (λ q. with_stops half own other q (drop (suc at) stops)) e
    ∙ ap (with_stops half own other known) (sym (drop-cons stops at d l))
    ∙ before

pub stops_end : (half : Half) (own other : List SymLine) (known all : Ruling) (stops : List ℕ) (at : ℕ) → with_stops half own other known (drop at stops) ≡ all → length stops ≤ at → known ≡ all
unfolding with_stops
stops_end half own other known all stops at before l = ap (with_stops half own other known) (sym (drop_all at stops l)) ∙ before

pub none_left : {A : Type 0} (xs : List A) → length xs ≡ 0 → xs ≡ []
none_left [] is = refl
none_left (x ∷ xs) is = absurd (omega arith)
