-- The PUBLIC before an address, found by marks.
use Rattle.std.proofs.Common.{◌≡◌, ℕ, ◌+◌, ◌≤◌, ◌==◌, ◌&&◌, ◌||◌, max, nat_le, nat_lt, Bool, cond, true, false, List, [], ◌∷◌, Option, Some, None, refl, ◌∙◌, ap, subst, arith}
use Rattle.std.specs.List.{list_any, position, position_from}
use Rattle.std.specs.Option.{option_map, option_map_or, option_and_then}
use Rattle.std.proofs.lemmas.Bool.Decides.{nat_tests}
use Rattle.std.proofs.lemmas.Iterator.Adapters.{position_from-zero}
use Rattle.sym_records.specs.declared.line.SymLine.{SymLine}
use Rattle.sym_records.specs.declared.line.SymLine.TheVariants.{Func, Public}
use Rattle.sym_lookup.specs.declared.marks.Mark.{Mark}
use Rattle.sym_lookup.specs.declared.marks.Marked.TheVariants as marked
use Rattle.sym_lookup.specs.Answers.{greater, nearest_public, begins_between, is_public_of, public_place}
use Rattle.sym_lookup.specs.internal.Marks.{marks_of}
use Rattle.sym_lookup.specs.NearestMarks.{nearer_mark, mark_at, public_of}
use Rattle.sym_lookup.proofs.MarkLemmas.{IsUpTo, bounded}

-- The address of the nearest PUBLIC.
max_is : (a b : ℕ) → max a b ≡ cond (nat_lt a b) b a
max_is a b = grind (arith, nat_tests)

address_of : (b : Bool) (m t : Mark) → Some (cond b t.key m.key) ≡ option_map (λ (s : Mark). s.key) (cond b (Some t) (Some m))
address_of true m t = refl
address_of false m t = refl

nearest_step : (b : Bool) (m : Mark) (later : Option Mark) → cond b (greater m.key (option_map (λ (s : Mark). s.key) later)) (option_map (λ (s : Mark). s.key) later) ≡ option_map (λ (s : Mark). s.key) (nearer_mark (cond b (Some m) None) later)
nearest_step true m None = refl
nearest_step true m (Some t) = ap Some (max_is m.key t.key) ∙ address_of (nat_lt m.key t.key) m t
nearest_step false m later = refl

nearest_is : (n : ℕ) (lines : List SymLine) (x : ℕ) → nearest_public lines x ≡ option_map (λ (s : Mark). s.key) (mark_at (marks_of marked.Publics n lines) x)
unfolding nearest_public mark_at
nearest_is n [] x = refl
nearest_is n (Public many address params name ∷ lines) x =
    ap (λ o. cond (nat_le address x) (greater address o) o) (nearest_is (n + 1) lines x) ∙ nearest_step (nat_le address x) (record { key = address; place = n }) (mark_at (marks_of marked.Publics (n + 1) lines) x)
nearest_is n (_ ∷ lines) x = nearest_is (n + 1) lines x

-- Whether a FUNC begins at or after an address.
either_le : (a m t : ℕ) → (nat_le a m || nat_le a t) ≡ cond (nat_lt m t) (nat_le a t) (nat_le a m)
either_le a m t = grind (arith, nat_tests)

or_none : (b : Bool) → (b || false) ≡ b
or_none true = refl
or_none false = refl

and_all : (b : Bool) → (b && true) ≡ b
and_all true = refl
and_all false = refl

and_none : (b : Bool) → (b && false) ≡ false
and_none true = refl
and_none false = refl

begins_of : (a : ℕ) (b : Bool) (m t : Mark) → cond b (nat_le a t.key) (nat_le a m.key) ≡ option_map_or (λ (s : Mark). nat_le a s.key) (cond b (Some t) (Some m)) false
begins_of a true m t = refl
begins_of a false m t = refl

begins_step : (a : ℕ) (b : Bool) (m : Mark) (later : Option Mark) → ((nat_le a m.key && b) || option_map_or (λ (s : Mark). nat_le a s.key) later false) ≡ option_map_or (λ (s : Mark). nat_le a s.key) (nearer_mark (cond b (Some m) None) later) false
begins_step a true m None = or_none (nat_le a m.key && true) ∙ and_all (nat_le a m.key)
begins_step a true m (Some t) = ap (λ c. c || nat_le a t.key) (and_all (nat_le a m.key)) ∙ either_le a m.key t.key ∙ begins_of a (nat_lt m.key t.key) m t
begins_step a false m later = ap (λ c. c || option_map_or (λ (s : Mark). nat_le a s.key) later false) (and_none (nat_le a m.key))

begins_is : (n : ℕ) (lines : List SymLine) (a x : ℕ) → list_any (begins_between a x) lines ≡ option_map_or (λ (s : Mark). nat_le a s.key) (mark_at (marks_of marked.Functions n lines) x) false
unfolding mark_at
begins_is n [] a x = refl
begins_is n (Func many address size params name ∷ lines) a x =
    ap (λ c. (nat_le a address && nat_le address x) || c) (begins_is (n + 1) lines a x) ∙ begins_step a (nat_le address x) (record { key = address; place = n }) (mark_at (marks_of marked.Functions (n + 1) lines) x)
begins_is n (_ ∷ lines) a x = begins_is (n + 1) lines a x

-- The first PUBLIC at the address of the nearest one.
same_number : (a : ℕ) → (a == a) ≡ true
same_number a = grind (arith, nat_tests)

less_other : (a b : ℕ) → nat_lt a b ≡ true → (a == b) ≡ false
less_other a b h = grind (arith, nat_tests)

past_other : (a b x : ℕ) → nat_le a x ≡ false → b ≤ x → (a == b) ≡ false
past_other a b x h l = grind (arith, nat_tests)

first_is : (p : Bool) (n : ℕ) (later : Option ℕ) → p ≡ true → cond p (Some n) later ≡ Some n
first_is true n later h = refl
first_is false n later h = cc

later_is : (p : Bool) (n : ℕ) (later : Option ℕ) → p ≡ false → cond p (Some n) later ≡ later
later_is true n later h = cc
later_is false n later h = refl

value_in : Mark → Option Mark → Mark
value_in d None = d
value_in d (Some m) = m

some_same : (s t : Mark) → Some s ≡ Some t → s ≡ t
unfolding value_in
some_same s t e = ap (value_in s) e

-- One more record, which is a PUBLIC.
place_step : (x address n : ℕ) (b : Bool) (later : Option Mark) (m : Mark) (rest : ℕ → Option ℕ) → nat_le address x ≡ b → IsUpTo x later → ((t : Mark) → later ≡ Some t → rest t.key ≡ Some t.place)
    → nearer_mark (cond b (Some (record { key = address; place = n })) None) later ≡ Some m → cond (address == m.key) (Some n) (rest m.key) ≡ Some m.place
place_step x address n true None m rest test up go e =
    let one : Mark = record { key = address; place = n } in
    subst (λ (s : Mark). cond (address == s.key) (Some n) (rest s.key) ≡ Some s.place) (some_same one m e) (first_is (address == address) n (rest address) (same_number address))
place_step x address n true (Some t) m rest test up go e = by_test (nat_lt address t.key) refl e
  where
    by_test : (c : Bool) → nat_lt address t.key ≡ c → cond c (Some t) (Some (record { key = address; place = n })) ≡ Some m → cond (address == m.key) (Some n) (rest m.key) ≡ Some m.place
    by_test true less f =
        subst (λ (s : Mark). cond (address == s.key) (Some n) (rest s.key) ≡ Some s.place) (some_same t m f) (later_is (address == t.key) n (rest t.key) (less_other address t.key less) ∙ go t refl)
    by_test false less f =
        let one : Mark = record { key = address; place = n } in
        subst (λ (s : Mark). cond (address == s.key) (Some n) (rest s.key) ≡ Some s.place) (some_same one m f) (first_is (address == address) n (rest address) (same_number address))
place_step x address n false None m rest test up go e = cc
place_step x address n false (Some t) m rest test up go e =
    subst (λ (s : Mark). cond (address == s.key) (Some n) (rest s.key) ≡ Some s.place) (some_same t m e) (later_is (address == t.key) n (rest t.key) (past_other address t.key x test up) ∙ go t refl)

place_is : (n : ℕ) (lines : List SymLine) (x : ℕ) (m : Mark) → mark_at (marks_of marked.Publics n lines) x ≡ Some m → position_from (is_public_of m.key) n lines ≡ Some m.place
unfolding mark_at
place_is n [] x m e = cc
place_is n (Public many address params name ∷ lines) x m e =
    place_step x address n (nat_le address x) (mark_at (marks_of marked.Publics (n + 1) lines) x) m (λ a. position_from (is_public_of a) (n + 1) lines) refl
    (bounded (marks_of marked.Publics (n + 1) lines) x x (λ k d l h. h)) (λ t f. place_is (n + 1) lines x t f) e
place_is n (_ ∷ lines) x m e = place_is (n + 1) lines x m e

place_first : (lines : List SymLine) (x : ℕ) (m : Mark) → mark_at (marks_of marked.Publics 0 lines) x ≡ Some m → position (is_public_of m.key) lines ≡ Some m.place
place_first lines x m e = position_from-zero (is_public_of m.key) lines ∙ place_is 0 lines x m e

-- The result for all records.
by_func : (lines : List SymLine) (x : ℕ) (m : Mark) (func : Option Mark) → position (is_public_of m.key) lines ≡ Some m.place
    → cond (option_map_or (λ (s : Mark). nat_le m.key s.key) func false) None (position (is_public_of m.key) lines) ≡ public_of (Some m) func
by_func lines x m None e = e
by_func lines x m (Some func) e = ap (λ o. cond (nat_le m.key func.key) None o) e

pub public_by_marks : (lines : List SymLine) (x : ℕ) (found func : Option Mark) → mark_at (marks_of marked.Publics 0 lines) x ≡ found → mark_at (marks_of marked.Functions 0 lines) x ≡ func → public_place lines x ≡ public_of found func
unfolding public_place
public_by_marks lines x None func e f =
    ap (option_and_then (λ a. cond (list_any (begins_between a x) lines) None (position (is_public_of a) lines))) (nearest_is 0 lines x ∙ ap (option_map (λ (s : Mark). s.key)) e)
public_by_marks lines x (Some m) func e f =
    ap (option_and_then (λ a. cond (list_any (begins_between a x) lines) None (position (is_public_of a) lines))) (nearest_is 0 lines x ∙ ap (option_map (λ (s : Mark). s.key)) e)
    ∙ ap (λ b. cond b None (position (is_public_of m.key) lines)) (begins_is 0 lines m.key x ∙ ap (λ o. option_map_or (λ (s : Mark). nat_le m.key s.key) o false) f)
    ∙ by_func lines x m func (place_first lines x m e)
