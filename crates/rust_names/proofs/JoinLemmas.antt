-- Names of both manglings, for `shown` and `names_are_shown`.
use Rattle.std.proofs.Common.{◌≡◌, ℕ, ◌≤◌, ◌&&◌, cond, Bool, true, false, inl, inr, List, codes, length, drop, Option, Some, None, nat_eq, nat_le, refl, sym, ◌∙◌, ap, MatchOption}
use Rattle.std.specs.List.{starts_with}
use Rattle.std.specs.Option.{option_and_then}
use Rattle.std.proofs.lemmas.Bool.{leb-true}
use Rattle.sym_rules.proofs.BoolLemmas.{and_true}
use Rattle.clean_names.specs.Names.{is_name}
use Rattle.rust_names.specs.Legacy.{IsLegacy}
use Rattle.rust_names.specs.V0Names.{text_within, if_name, v0_text}
use Rattle.rust_names.specs.Shown.{IsShown, IsPlainName}
use Rattle.rust_names.specs.internal.Reading.{legacy_of}
use Rattle.rust_names.specs.internal.Finding.{shown_of}
use Rattle.rust_names.proofs.DigitLemmas.{some_is}
use Rattle.rust_names.proofs.WholeLemmas.{is_found, legacy_found}
use Rattle.rust_names.proofs.VisibleLemmas.{legacy_named, legacy_short}

found_by : (b : Bool) (name text : List ℕ) → Some text ≡ cond b (v0_text name) (legacy_of name) → IsShown name text
found_by true name text is = inr (sym is)
found_by false name text is = inl (legacy_found name text is)

pub shown_found : (name text : List ℕ) → Some text ≡ shown_of name → IsShown name text
unfolding shown_of
shown_found name text is = found_by (starts_with nat_eq name (codes "_R")) name text is

begins_so : (name text : List ℕ) → IsLegacy name text → starts_with nat_eq name (codes "_R") ≡ false
begins_so name text is = ap (λ n. starts_with nat_eq n (codes "_R")) is.whole

twice : (b : Bool) (text : List ℕ) (x other : Option (List ℕ)) → cond b x None ≡ Some text → cond b (cond b x None) other ≡ Some text
twice true text x other is = is
twice false text x other is = cc

pub is_shown_so : (name text : List ℕ) → IsShown name text → shown_of name ≡ Some text
unfolding shown_of v0_text
is_shown_so name text (inl is) = ap (λ b. cond b (v0_text name) (legacy_of name)) (begins_so name text is) ∙ is_found name text is
is_shown_so name text (inr is) = twice (starts_with nat_eq name (codes "_R")) text (option_and_then if_name (text_within 500 (drop 2 name))) (legacy_of name) is

pub shown_none : (name : List ℕ) → None ≡ shown_of name → IsPlainName name
shown_none name none text is = let found = is_shown_so name text is in cc

pub one_text : (name a b : List ℕ) → IsShown name a → IsShown name b → a ≡ b
one_text name a b first second = some_is (sym (is_shown_so name a first) ∙ is_shown_so name b second)

pub exact_text : (name : List ℕ) (text : Option (List ℕ)) → text ≡ shown_of name → MatchOption text (IsPlainName name) (IsShown name)
exact_text name None none = shown_none name none
exact_text name (Some text) is = shown_found name text is

-- A text that is found may be a name in a record.
fits_by : (b : Bool) (found text : List ℕ) → cond b (Some found) None ≡ Some text → (b ≡ true) × (found ≡ text)
fits_by true found text is = (refl, some_is is)
fits_by false found text is = cc

named_by : (o : Option (List ℕ)) (text : List ℕ) → option_and_then if_name o ≡ Some text → (is_name text ≡ true) × (length text ≤ 65536)
named_by None text is = cc
named_by (Some found) text is =
    let fits = fits_by (is_name found && nat_le (length found) 65536) found text is in
    let both = and_true {a = is_name found} {b = nat_le (length found) 65536} fits.0 in
    (ap is_name (sym fits.1) ∙ both.0, leb-true (length text) 65536 (ap (λ t. nat_le (length t) 65536) (sym fits.1) ∙ both.1))

begun_by : (b : Bool) (o : Option (List ℕ)) (text : List ℕ) → cond b (option_and_then if_name o) None ≡ Some text → (is_name text ≡ true) × (length text ≤ 65536)
begun_by true o text is = named_by o text is
begun_by false o text is = cc

v0_named : (name text : List ℕ) → v0_text name ≡ Some text → (is_name text ≡ true) × (length text ≤ 65536)
unfolding v0_text
v0_named name text is = begun_by (starts_with nat_eq name (codes "_R")) (text_within 500 (drop 2 name)) text is

pub is_named : (name text : List ℕ) → IsShown name text → is_name text ≡ true
is_named name text (inl is) = legacy_named name text is
is_named name text (inr is) = (v0_named name text is).0

pub is_short : (name text : List ℕ) → IsShown name text → length text ≤ 65536
is_short name text (inl is) = legacy_short name text is
is_short name text (inr is) = (v0_named name text is).1

pub shown_named : (name text : List ℕ) → Some text ≡ shown_of name → is_name text ≡ true
shown_named name text is = is_named name text (shown_found name text is)

pub shown_short : (name text : List ℕ) → Some text ≡ shown_of name → length text ≤ 65536
shown_short name text is = is_short name text (shown_found name text is)
