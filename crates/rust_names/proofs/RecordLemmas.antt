-- Records with other names are as valid as before, for `show_all`.
use Rattle.std.proofs.Common.{◌≡◌, ℕ, ◌+◌, ◌^◌, ◌≤◌, ◌&&◌, inl, inr, cond, Bool, true, List, [], ◌∷◌, ◌++◌, length, map, take, drop, append-nil, Option, Some, None, nat_lt, refl, sym, ◌∙◌, ap, arith}
use Rattle.std.specs.Option.{option_map_or}
use Rattle.std.proofs.lemmas.Bool.{ltb-true}
use Rattle.std.proofs.lemmas.List.{take_all, drop_all}
use Rattle.sym_rules.proofs.BoolLemmas.{and_true, both, elim_bool}
use Rattle.clean_names.specs.Names.{is_name}
use Rattle.sym_records.specs.declared.line.SymLine.{SymLine}
use Rattle.sym_records.specs.declared.line.SymLine.TheVariants.{Module, Origin, Func, Public}
use Rattle.sym_records.specs.declared.place.Place.{Place}
use Rattle.sym_records.specs.declared.place.Place.TheVariants.{Start}
use Rattle.sym_records.specs.Reading.{fits, leads}
use Rattle.sym_records.specs.Validity.{has_fields, fields_fit, first_bad_from, first_bad, AreValid}
use Rattle.sym_records.proofs.MakingLemmas.{func_fits, origin_fits, public_fits}
use Rattle.sym_records.proofs.ValidityLemmas.{valid_none}
use Rattle.rust_names.specs.ShownRecords.{renamed, IsNameFor, HaveShownNames}
use Rattle.rust_names.specs.internal.Finding.{shown_of}
use Rattle.rust_names.specs.Named.{named}
use Rattle.rust_names.proofs.JoinLemmas.{shown_found, shown_none, one_text, is_named, is_short}

name_by : (name : List ℕ) (o : Option (List ℕ)) → o ≡ shown_of name → IsNameFor name (option_map_or (λ text. text) o name)
name_by name None none = inr (shown_none name none, refl)
name_by name (Some text) is = inl (shown_found name text is)

pub name_for : (name : List ℕ) → IsNameFor name (named name)
unfolding named
name_for name = name_by name (shown_of name) refl

fields_of : (s : SymLine) → fields_fit s ≡ true → has_fields s ≡ true
unfolding fields_fit
fields_of s fit = (and_true fit).0

func_by : (many : Bool) (address size params : ℕ) (name new : List ℕ) → IsNameFor name new → fields_fit (Func many address size params name) ≡ true → fields_fit (Func many address size params new) ≡ true
func_by many address size params name new (inr same) fit = ap (λ n. fields_fit (Func many address size params n)) same.1 ∙ fit
func_by many address size params name new (inl is) fit =
    let first = and_true {a = nat_lt address (2 ^ 64)} {b = nat_lt size (2 ^ 64) && (nat_lt params (2 ^ 64) && is_name name)} (fields_of (Func many address size params name) fit) in
    let second = and_true {a = nat_lt size (2 ^ 64)} {b = nat_lt params (2 ^ 64) && is_name name} first.1 in
    let third = and_true {a = nat_lt params (2 ^ 64)} {b = is_name name} second.1 in
    func_fits many address size params new (ltb-true address (2 ^ 64) first.0) (ltb-true size (2 ^ 64) second.0) (ltb-true params (2 ^ 64) third.0) (is_named name new is) (omega (arith, is_short name new is))

origin_by : (number : ℕ) (name new : List ℕ) → IsNameFor name new → fields_fit (Origin number name) ≡ true → fields_fit (Origin number new) ≡ true
origin_by number name new (inr same) fit = ap (λ n. fields_fit (Origin number n)) same.1 ∙ fit
origin_by number name new (inl is) fit =
    let first = and_true {a = nat_lt number (2 ^ 32)} {b = is_name name} (fields_of (Origin number name) fit) in
    origin_fits number new (ltb-true number (2 ^ 32) first.0) (is_named name new is) (omega (arith, is_short name new is))

public_by : (many : Bool) (address params : ℕ) (name new : List ℕ) → IsNameFor name new → fields_fit (Public many address params name) ≡ true → fields_fit (Public many address params new) ≡ true
public_by many address params name new (inr same) fit = ap (λ n. fields_fit (Public many address params n)) same.1 ∙ fit
public_by many address params name new (inl is) fit =
    let first = and_true {a = nat_lt address (2 ^ 64)} {b = nat_lt params (2 ^ 64) && is_name name} (fields_of (Public many address params name) fit) in
    let second = and_true {a = nat_lt params (2 ^ 64)} {b = is_name name} first.1 in
    public_fits many address params new (ltb-true address (2 ^ 64) first.0) (ltb-true params (2 ^ 64) second.0) (is_named name new is) (omega (arith, is_short name new is))

still_fits : (f : List ℕ → List ℕ) (s : SymLine) → ((name : List ℕ) → IsNameFor name (f name)) → fields_fit s ≡ true → fields_fit (renamed f s) ≡ true
still_fits f (Origin number name) names fit = origin_by number name (f name) (names name) fit
still_fits f (Func many address size params name) names fit = func_by many address size params name (f name) (names name) fit
still_fits f (Public many address params name) names fit = public_by many address params name (f name) (names name) fit
still_fits f s names fit = fit

still_stands : (f : List ℕ → List ℕ) (place : Place) (s : SymLine) → (fits place (renamed f s) ≡ fits place s) × (leads place (renamed f s) ≡ leads place s)
still_stands f place (Module binary) = (refl, refl)
still_stands f place s = (refl, refl)

good_from : (f : List ℕ → List ℕ) (i : ℕ) (place : Place) (lines : List SymLine) → ((name : List ℕ) → IsNameFor name (f name)) → first_bad_from i place lines ≡ None → first_bad_from i place (map (renamed f) lines) ≡ None
unfolding first_bad_from
good_from f i place [] names none = refl
good_from f i place (s ∷ lines) names none =
    elim_bool (fits place s && fields_fit s) (λ t. (fits place s && fields_fit s) ≡ t → cond t (first_bad_from (i + 1) (leads place s) lines) (Some i) ≡ None → cond (fits place (renamed f s) && fields_fit (renamed f s)) (first_bad_from (i + 1) (leads place (renamed f s)) (map (renamed f) lines)) (Some i) ≡ None)
    (λ well _ later.
    let two = and_true {a = fits place s} {b = fields_fit s} well in
    let stands = still_stands f place s in
    ap (λ t. cond t (first_bad_from (i + 1) (leads place (renamed f s)) (map (renamed f) lines)) (Some i)) (both (stands.0 ∙ two.0) (still_fits f s names two.1))
    ∙ ap (λ p. first_bad_from (i + 1) p (map (renamed f) lines)) stands.1
    ∙ good_from f (i + 1) (leads place s) lines names later)
    (λ _ _ bad. cc) refl none

pub still_good : (f : List ℕ → List ℕ) (lines : List SymLine) → ((name : List ℕ) → IsNameFor name (f name)) → first_bad lines ≡ None → first_bad (map (renamed f) lines) ≡ None
unfolding first_bad
still_good f [] names none = cc
still_good f (s ∷ lines) names none = good_from f 0 Start (s ∷ lines) names none

pub shown_good : (lines : List SymLine) → AreValid lines → first_bad (map (renamed named) lines) ≡ None
shown_good lines valid = still_good named lines name_for (valid_none lines valid)

pub shown_all : (lines new : List SymLine) → new ≡ map (renamed named) lines → HaveShownNames lines new
shown_all lines new is = record { names = named; shown = name_for; all = is }

-- All records are replaced.
pub all_written : (lines new : List SymLine) (i : ℕ) → length lines ≤ i → new ≡ map (renamed named) (take i lines) ++ drop i lines → new ≡ map (renamed named) lines
all_written lines new i past is =
    is ∙ ap (λ xs. map (renamed named) (take i lines) ++ xs) (drop_all i lines past) ∙ append-nil (map (renamed named) (take i lines)) ∙ ap (map (renamed named)) (take_all i lines past)

-- A name is replaced by only one name.

same_name : (name a b : List ℕ) → IsNameFor name a → IsNameFor name b → a ≡ b
same_name name a b (inl first) (inl second) = one_text name a b first second
same_name name a b (inl first) (inr second) = absurd (second.0 a first)
same_name name a b (inr first) (inl second) = absurd (first.0 b second)
same_name name a b (inr first) (inr second) = first.1 ∙ sym second.1

same_record : (f g : List ℕ → List ℕ) (s : SymLine) → ((name : List ℕ) → f name ≡ g name) → renamed f s ≡ renamed g s
same_record f g (Origin number name) same = ap (λ n. Origin number n) (same name)
same_record f g (Func many address size params name) same = ap (λ n. Func many address size params n) (same name)
same_record f g (Public many address params name) same = ap (λ n. Public many address params n) (same name)
same_record f g s same = refl

same_records : (f g : List ℕ → List ℕ) (lines : List SymLine) → ((name : List ℕ) → f name ≡ g name) → map (renamed f) lines ≡ map (renamed g) lines
same_records f g [] same = refl
same_records f g (s ∷ lines) same = ap (λ t. t ∷ map (renamed f) lines) (same_record f g s same) ∙ ap (λ rest. renamed g s ∷ rest) (same_records f g lines same)

pub one_list : (lines a b : List SymLine) → HaveShownNames lines a → HaveShownNames lines b → a ≡ b
one_list lines a b first second =
    first.all ∙ same_records first.names second.names lines (λ name. same_name name (first.names name) (second.names name) (first.shown name) (second.shown name)) ∙ sym second.all
