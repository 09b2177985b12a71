-- Valid lists of records that are joined.
use Rattle.std.proofs.Common.{◌≡◌, ℕ, ◌+◌, ◌&&◌, cond, true, false, List, [], ◌∷◌, ◌++◌, Some, None, refl, sym, ◌∙◌, ap}
use Rattle.std.specs.List.{list_all}
use Rattle.sym_rules.proofs.BoolLemmas.{and_true, both, elim_bool}
use Rattle.sym_records.specs.Places.{Role, First, Own, Owner, Owned, Frames, Changes, may_stand, place_behind_role, is_change_role}
use Rattle.sym_records.specs.Records.{role, keyword}
use Rattle.sym_records.specs.Reading.{fits, leads, is_start}
use Rattle.sym_records.specs.Validity.{fields_fit, first_bad_from, first_bad, place_behind, is_change}
use Rattle.sym_rules.specs.declared.rules.RuleText.{RuleText}
use Rattle.sym_records.specs.declared.line.SymLine.{SymLine}
use Rattle.sym_records.specs.declared.line.SymLine.TheVariants.{Init}
use Rattle.sym_records.specs.declared.place.Place.{Place}
use Rattle.sym_records.specs.declared.place.Place.TheVariants.{Start, Inside, Function, Frame}

pub from_here : (i : ℕ) (place : Place) (s : SymLine) (lines : List SymLine) → fits place s ≡ true → fields_fit s ≡ true → first_bad_from (i + 1) (leads place s) lines ≡ None → first_bad_from i place (s ∷ lines) ≡ None
unfolding first_bad_from
from_here i place s lines stands fit rest = ap (λ t. cond t (first_bad_from (i + 1) (leads place s) lines) (Some i)) (both stands fit) ∙ rest

none_here : (i : ℕ) (place : Place) → first_bad_from i place [] ≡ None
unfolding first_bad_from
none_here i place = refl

-- One record that may be first is a valid list.
pub first_fits : (s : SymLine) → fits Start s ≡ true → fields_fit s ≡ true → first_bad (s ∷ []) ≡ None
unfolding first_bad
first_fits s stands fit = from_here 0 Start s [] stands fit (none_here 1 (leads Start s))

-- A good record and the records after it.
pub record HeadFits (i : ℕ) (place : Place) (x : SymLine) (lines : List SymLine) : Type 0 where
  pub stands : fits place x ≡ true
  pub fit : fields_fit x ≡ true
  pub later : first_bad_from (i + 1) (leads place x) lines ≡ None

head_fits : (i : ℕ) (place : Place) (x : SymLine) (lines : List SymLine) → first_bad_from i place (x ∷ lines) ≡ None → HeadFits i place x lines
unfolding first_bad_from
head_fits i place x lines none =
    elim_bool (fits place x && fields_fit x) (λ t. (fits place x && fields_fit x) ≡ t → cond t (first_bad_from (i + 1) (leads place x) lines) (Some i) ≡ None → HeadFits i place x lines)
    (λ _ good h. record { stands = (and_true good).0; fit = (and_true good).1; later = h }) (λ _ _ h. cc) refl none

-- Indices do not matter for whether there is a bad record.
none_moved : (i j : ℕ) (place : Place) (lines : List SymLine) → first_bad_from i place lines ≡ None → first_bad_from j place lines ≡ None
none_moved i j place [] none = none_here j place
none_moved i j place (x ∷ lines) none =
    let head = head_fits i place x lines none in
    from_here j place x lines head.stands head.fit (none_moved (i + 1) (j + 1) (leads place x) lines head.later)

-- What may follow an `Inside` place may follow any but the start, and leads to the same place.
anywhere : (place : Place) (p : Role) → is_start place ≡ false → may_stand Inside p ≡ true → (may_stand place p ≡ true) × (place_behind_role Inside p ≡ place_behind_role place p)
anywhere Start p on stands = cc
anywhere Inside p on stands = (stands, refl)
anywhere Function First on stands = cc
anywhere Function Own on stands = (refl, refl)
anywhere Function Owner on stands = (refl, refl)
anywhere Function Owned on stands = cc
anywhere Function Frames on stands = (refl, refl)
anywhere Function Changes on stands = cc
anywhere Frame First on stands = cc
anywhere Frame Own on stands = (refl, refl)
anywhere Frame Owner on stands = (refl, refl)
anywhere Frame Owned on stands = cc
anywhere Frame Frames on stands = (refl, refl)
anywhere Frame Changes on stands = cc

-- After a record the place is not the start.
leads_away : (place : Place) (p : Role) → may_stand place p ≡ true → is_start (place_behind_role place p) ≡ false
leads_away Start First stands = refl
leads_away Start Own stands = cc
leads_away Start Owner stands = cc
leads_away Start Owned stands = cc
leads_away Start Frames stands = cc
leads_away Start Changes stands = cc
leads_away Inside First stands = cc
leads_away Inside Own stands = refl
leads_away Inside Owner stands = refl
leads_away Inside Owned stands = cc
leads_away Inside Frames stands = refl
leads_away Inside Changes stands = cc
leads_away Function First stands = cc
leads_away Function Own stands = refl
leads_away Function Owner stands = refl
leads_away Function Owned stands = refl
leads_away Function Frames stands = refl
leads_away Function Changes stands = cc
leads_away Frame First stands = cc
leads_away Frame Own stands = refl
leads_away Frame Owner stands = refl
leads_away Frame Owned stands = cc
leads_away Frame Frames stands = refl
leads_away Frame Changes stands = refl

on_none : (i : ℕ) (place : Place) (lines : List SymLine) → is_start place ≡ false → first_bad_from 0 Inside lines ≡ None → first_bad_from i place lines ≡ None
on_none i place [] on none = none_here i place
on_none i place (x ∷ lines) on none =
    let head = head_fits 0 Inside x lines none in
    let both = anywhere place (role (keyword x)) on head.stands in
    from_here i place x lines both.0 head.fit (ap (λ p. first_bad_from (i + 1) p lines) (sym both.1) ∙ none_moved 1 (i + 1) (leads Inside x) lines head.later)

-- Records that may follow any other, after records that are not the first.
joined_on : (i : ℕ) (place : Place) (xs ys : List SymLine) → is_start place ≡ false → first_bad_from i place xs ≡ None → first_bad_from 0 Inside ys ≡ None → first_bad_from i place (xs ++ ys) ≡ None
joined_on i place [] ys on first second = on_none i place ys on second
joined_on i place (x ∷ xs) ys on first second =
    let head = head_fits i place x xs first in
    from_here i place x (xs ++ ys) head.stands head.fit (joined_on (i + 1) (leads place x) xs ys (leads_away place (role (keyword x)) head.stands) head.later second)

-- A valid list stays valid with more records after it.
pub join_fits : (xs ys : List SymLine) → first_bad xs ≡ None → first_bad_from 0 Inside ys ≡ None → first_bad (xs ++ ys) ≡ None
unfolding first_bad
join_fits [] ys first second = cc
join_fits (x ∷ xs) ys first second =
    let head = head_fits 0 Start x xs first in
    from_here 0 Start x (xs ++ ys) head.stands head.fit (joined_on 1 (leads Start x) xs ys (leads_away Start (role (keyword x)) head.stands) head.later second)

-- Records that may follow others stay good with more records after them.
pub join_behind : (xs ys : List SymLine) → first_bad_from 0 Inside xs ≡ None → first_bad_from 0 Inside ys ≡ None → first_bad_from 0 Inside (xs ++ ys) ≡ None
join_behind xs ys first second = joined_on 0 Inside xs ys refl first second

-- A valid list stays valid with one more record after it.
pub push_fits : (lines : List SymLine) (s : SymLine) → first_bad lines ≡ None → fits Inside s ≡ true → fields_fit s ≡ true → first_bad (lines ++ s ∷ []) ≡ None
push_fits lines s none stands fit = join_fits lines (s ∷ []) none (from_here 0 Inside s [] stands fit (none_here 1 (leads Inside s)))

pushed_from : (i : ℕ) (place : Place) (lines : List SymLine) (s : SymLine) → first_bad_from i place lines ≡ None → fits (place_behind place lines) s ≡ true → fields_fit s ≡ true → first_bad_from i place (lines ++ s ∷ []) ≡ None
unfolding place_behind
pushed_from i place [] s none stands fit = from_here i place s [] stands fit (none_here (i + 1) (leads place s))
pushed_from i place (x ∷ lines) s none stands fit =
    let head = head_fits i place x lines none in
    from_here i place x (lines ++ s ∷ []) head.stands head.fit (pushed_from (i + 1) (leads place x) lines s head.later stands fit)

-- One more record that may be at the place after the others.
pub push_behind : (place : Place) (lines : List SymLine) (s : SymLine) → first_bad_from 0 place lines ≡ None → fits (place_behind place lines) s ≡ true → fields_fit s ≡ true → first_bad_from 0 place (lines ++ s ∷ []) ≡ None
push_behind place lines s none stands fit = pushed_from 0 place lines s none stands fit

-- The place after one more record.
pub behind_pushed : (place : Place) (lines : List SymLine) (s : SymLine) → place_behind place (lines ++ s ∷ []) ≡ leads (place_behind place lines) s
unfolding place_behind
behind_pushed place [] s = refl
behind_pushed place (x ∷ lines) s = behind_pushed (leads place x) lines s

change_stands : (p : Role) → is_change_role p ≡ true → (may_stand Frame p ≡ true) × (place_behind_role Frame p ≡ Frame)
change_stands First is = cc
change_stands Own is = cc
change_stands Owner is = cc
change_stands Owned is = cc
change_stands Frames is = cc
change_stands Changes is = (refl, refl)

changes_fit : (i : ℕ) (changes : List SymLine) → list_all is_change changes ≡ true → list_all fields_fit changes ≡ true → first_bad_from i Frame changes ≡ None
changes_fit i [] all fit = none_here i Frame
changes_fit i (x ∷ changes) all fit =
    let stands = change_stands (role (keyword x)) (and_true {a = is_change x} all).0 in
    from_here i Frame x changes stands.0 (and_true {a = fields_fit x} fit).0
    (ap (λ p. first_bad_from (i + 1) p changes) stands.1 ∙ changes_fit (i + 1) changes (and_true {a = is_change x} all).1 (and_true {a = fields_fit x} fit).1)

-- A STACK CFI INIT and the STACK CFI records after it.
pub frame_fits : (address size : ℕ) (rules : List RuleText) (changes : List SymLine) → fields_fit (Init address size rules) ≡ true → list_all is_change changes ≡ true → list_all fields_fit changes ≡ true → first_bad_from 0 Inside (Init address size rules ∷ changes) ≡ None
frame_fits address size rules changes first all fit = from_here 0 Inside (Init address size rules) changes refl first (changes_fit 1 changes all fit)
