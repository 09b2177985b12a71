-- How many bytes abbreviations pass, and the loops that read them.
use Rattle.std.proofs.Common.{◌≡◌, ◌<◌, ℕ, zero, suc, Bool, nat_eq, pos, List, [], ◌∷◌, length, Option, None, Some, Result, Ok, Err, refl, sym, ap, ◌∙◌, arith}
use Rattle.sym_edges.specs.declared.fault.Stop.{Stop}
use Rattle.sym_edges.specs.declared.fault.Stop.TheVariants.{Fault, NoMemory}
use Rattle.sym_edges.specs.Results.{◌>>=◌}
use Rattle.leb_cursor.specs.declared.fault.CursorFault.{CursorFault}
use Rattle.leb_cursor.specs.Ahead.{Ahead}
use Rattle.leb_cursor.specs.Passes.{Passes}
use Rattle.leb_cursor.specs.Readings.{fixed_at, uleb_at, sleb_at}
use Rattle.leb_cursor.specs.Lists.{list_by, list_in, list_at, list_cases, GoesOn}
use Rattle.leb_cursor.proofs.PassLemmas.{fixed_passes, uleb_passes, sleb_passes, passes_then}
use Rattle.leb_cursor.proofs.ListLemmas.{weaker, either_passes, list_follows, list_passes, goes_of, shorter_by}
use Rattle.abbrev_units.specs.Faults.{GivesAt}
use Rattle.abbrev_units.specs.SpecFields.{AttributeSpec, SpecFields, Abbrev}
use Rattle.abbrev_units.specs.Abbreviations.{implicit_at, spec_at, abbrev_by, abbrev_at, used_spec, used_abbrev, used_at}
use Rattle.abbrev_units.proofs.BehindLemmas.{Behind, begins, refuses}
use Rattle.abbrev_units.specs.internal.Used.{one_by, all_by, used_spec_at, used_specs_at, used_abbrev_at}

implicit_passes : (form : ℕ) (c : Ahead) → Passes 0 c (implicit_at form c)
unfolding implicit_at
implicit_passes form c = either_passes (nat_eq form 0x21) (sleb_at c) (Ok (pos 0, c)) 0 c (weaker (sleb_at c) 1 0 c (omega arith) (sleb_passes c)) (omega arith, refl)

spec_passes : (c : Ahead) → Passes 2 c (spec_at c)
unfolding spec_at
spec_passes c =
    passes_then (uleb_at c) _ 1 1 c (uleb_passes c)
    (λ attribute. passes_then (uleb_at attribute.1) _ 1 0 attribute.1 (uleb_passes attribute.1)
    (λ form. passes_then (implicit_at form.0 form.1) _ 0 0 form.1 (implicit_passes form.0 form.1) (λ implicit. (omega arith, refl))))

spec_goes : (c : Ahead) → GoesOn c (spec_at c)
spec_goes c = goes_of (spec_at c) c (weaker (spec_at c) 2 1 c (omega arith) (spec_passes c))

abbrev_by_passes : (code : ℕ) (c : Ahead) → Passes 2 c (abbrev_by code c)
unfolding abbrev_by
abbrev_by_passes code c =
    passes_then (uleb_at c) _ 1 1 c (uleb_passes c)
    (λ tag. passes_then (fixed_at 1 tag.1) _ 1 0 tag.1 (fixed_passes 1 tag.1)
    (λ children. passes_then (list_at spec_at children.1) _ 0 0 children.1 (list_passes spec_at spec_goes children.1) (λ specs. (omega arith, refl))))

abbrev_passes : (c : Ahead) → Passes 1 c (abbrev_at c)
unfolding abbrev_at
abbrev_passes c =
    passes_then (uleb_at c) _ 1 0 c (uleb_passes c)
    (λ code. either_passes (nat_eq code.0 0) (Ok (None, code.1)) (abbrev_by code.0 code.1) 0 code.1 (omega arith, refl) (weaker (abbrev_by code.0 code.1) 2 0 code.1 (omega arith) (abbrev_by_passes code.0 code.1)))

abbrev_goes : (c : Ahead) → GoesOn c (abbrev_at c)
abbrev_goes c = goes_of (abbrev_at c) c (abbrev_passes c)

pub specs_follow : (c : Ahead) → list_at spec_at c ≡ list_cases spec_at c
specs_follow c = list_follows spec_at spec_goes c

pub abbrevs_follow : (c : Ahead) → list_at abbrev_at c ≡ list_cases abbrev_at c
abbrevs_follow c = list_follows abbrev_at abbrev_goes c

-- The same readings, as a unit uses them.

used_spec_goes : (wide : Bool) (c : Ahead) → GoesOn c (used_spec_at wide c)
unfolding used_spec_at
used_spec_goes wide c =
    goes_of (used_spec_at wide c) c (weaker (used_spec_at wide c) 2 1 c (omega arith) (passes_then (spec_at c) (one_by (used_spec wide)) 2 0 c (spec_passes c) (λ spec. (omega arith, refl))))

used_abbrev_goes : (wide : Bool) (c : Ahead) → GoesOn c (used_abbrev_at wide c)
unfolding used_abbrev_at
used_abbrev_goes wide c =
    goes_of (used_abbrev_at wide c) c (passes_then (abbrev_at c) (one_by (used_abbrev wide)) 1 0 c (abbrev_passes c) (λ found. (omega arith, refl)))

-- A change of each member before the list is made changes the members of the list.
more_by : {A B : Type 0} (f : A → B) (x : A) (later : Result (List A × Ahead) CursorFault) → ((later >>= all_by f) >>= λ rest. Ok (f x ∷ rest.0, rest.1)) ≡ ((later >>= λ rest. Ok (x ∷ rest.0, rest.1)) >>= all_by f)
more_by f x (Ok rest) = refl
more_by f x (Err fault) = refl

next_by : {A B : Type 0} (f : A → B) (first : Result (Option A × Ahead) CursorFault) (one : Ahead → Result (List A × Ahead) CursorFault) (other : Ahead → Result (List B × Ahead) CursorFault) → ((d : Ahead) → other d ≡ (one d >>= all_by f))
    → ((first >>= one_by f) >>= λ x. list_by x.0 x.1 (other x.1)) ≡ ((first >>= λ x. list_by x.0 x.1 (one x.1)) >>= all_by f)
next_by f (Ok (None, d)) one other later = refl
next_by f (Ok (Some x, d)) one other later = ap (λ r. r >>= λ rest. Ok (f x ∷ rest.0, rest.1)) (later d) ∙ more_by f x (one d)
next_by f (Err fault) one other later = refl

members_by : {A B : Type 0} (f : A → B) (read : Ahead → Result (Option A × Ahead) CursorFault) (n : ℕ) (c : Ahead) → list_in (λ d. read d >>= one_by f) n c ≡ (list_in read n c >>= all_by f)
unfolding list_in
members_by f read zero c = refl
members_by f read (suc n) c = next_by f (read c) (list_in read n) (list_in (λ d. read d >>= one_by f) n) (members_by f read n)

specs_are : (wide : Bool) (c : Ahead) → list_at (used_spec_at wide) c ≡ used_specs_at wide c
unfolding list_at used_spec_at used_specs_at
specs_are wide c = members_by (used_spec wide) spec_at (suc (length c.bytes)) c

abbrevs_are : (wide : Bool) (c : Ahead) → list_at (used_abbrev_at wide) c ≡ used_at wide c
unfolding list_at used_abbrev_at used_at
abbrevs_are wide c = members_by (used_abbrev wide) abbrev_at (suc (length c.bytes)) c

-- An abbreviation with the attributes that a unit uses.
pub specs_given : (wide : Bool) (code tag : ℕ) (children : Bool) (specs : Result (List AttributeSpec × Ahead) CursorFault) (used : List SpecFields) (d : Ahead) → (specs >>= all_by (used_spec wide)) ≡ Ok (used, d)
    → ((specs >>= λ l. Ok (Some (record { code = code; tag = tag; children = children; specs = l.0 }), l.1)) >>= one_by (used_abbrev wide)) ≡ Ok (Some (record { code = code; tag = tag; children = children; specs = used }), d)
specs_given wide code tag children (Ok l) used d is = ap (λ r. r >>= λ l. Ok (Some (record { code = code; tag = tag; children = children; specs = l.0 }), l.1)) is
specs_given wide code tag children (Err fault) used d is = cc

pub specs_fault : (wide : Bool) (code tag : ℕ) (children : Bool) (specs : Result (List AttributeSpec × Ahead) CursorFault) (fault : CursorFault) → (specs >>= all_by (used_spec wide)) ≡ Err fault
    → ((specs >>= λ l. Ok (Some (record { code = code; tag = tag; children = children; specs = l.0 }), l.1)) >>= one_by (used_abbrev wide)) ≡ Err fault
specs_fault wide code tag children (Ok l) fault is = cc
specs_fault wide code tag children (Err other) fault is = cc

-- The attributes that were read, followed by those still to be read; then the same for
-- abbreviations.
pub specs_begin : (wide : Bool) (done : List SpecFields) (c : Ahead) → done ≡ [] → Behind (used_spec_at wide) done c (used_specs_at wide c)
specs_begin wide done c none = begins (used_spec_at wide) done c _ (used_spec_goes wide) none (specs_are wide c)

pub abbrevs_begin : (wide : Bool) (done : List Abbrev) (c : Ahead) → done ≡ [] → Behind (used_abbrev_at wide) done c (used_at wide c)
abbrevs_begin wide done c none = begins (used_abbrev_at wide) done c _ (used_abbrev_goes wide) none (abbrevs_are wide c)

pub abbrevs_stopped : (wide : Bool) (done : List Abbrev) (c d e : Ahead) (stop : Stop CursorFault) (want : Result (List Abbrev × Ahead) CursorFault) → Behind (used_abbrev_at wide) done c want → GivesAt {A = Option Abbrev} (Err stop) d (used_abbrev_at wide c) → GivesAt {A = List Abbrev} (Err stop) e want
abbrevs_stopped wide done c d e (Fault fault) want so_far is = refuses (used_abbrev_at wide) done c fault want so_far (sym is)
abbrevs_stopped wide done c d e NoMemory want so_far is = tt

pub abbrevs_shorter : (wide : Bool) (one : Abbrev) (c d : Ahead) → used_abbrev_at wide c ≡ Ok (Some one, d) → length d.bytes < length c.bytes
abbrevs_shorter wide one c d is = shorter_by (used_abbrev_at wide c) one c d (used_abbrev_goes wide c) (sym is)
