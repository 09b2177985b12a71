-- If the CIEs of two entries of a section are at the same place, the entries have the same fields
-- of a CIE. The lemmas are for `entry`, `is_empty` and `len`.
use Rattle.std.proofs.Common.{◌≡◌, ◌<◌, ℕ, Bool, true, false, nat_eq, cond, List, [], ◌∷◌, map, length, get_or, Option, None, Some, Result, Ok, Err, refl, sym, ap, ◌∙◌, pos, subst, arith}
use Rattle.std.specs.List.{find, slice_get}
use Rattle.std.specs.Option.{option_and_then, option_map}
use Rattle.std.proofs.lemmas.Bool.{eqb-true}
use Rattle.std.proofs.lemmas.List.{get_or-map, length-map}
use Rattle.std.proofs.lemmas.Option.{slice_get-map, slice_get-get_or}
use Rattle.sym_edges.specs.declared.part.Sect.{Sect}
use Rattle.sym_edges.specs.declared.reason.Reason.{Reason}
use Rattle.leb_cursor.specs.declared.fault.CursorFault.{CursorFault}
use Rattle.sym_edges.specs.Results.{◌>>=◌}
use Rattle.frame_entries.specs.declared.cie.Cie.{Cie}
use Rattle.frame_entries.specs.declared.description.Body.{Body}
use Rattle.frame_entries.specs.declared.description.Body.TheVariants.{Good, Bad}
use Rattle.frame_entries.specs.declared.description.Entry.{Entry}
use Rattle.frame_entries.specs.Pointers.{format_of, number_at, pointer_at}
use Rattle.frame_entries.specs.Raw.{Raw}
use Rattle.frame_entries.specs.Listing.{from_start}
use Rattle.frame_entries.specs.CieFields.{CieFields}
use Rattle.frame_entries.specs.Cies.{augmentation_at}
use Rattle.frame_entries.specs.FdeFields.{FdeFields}
use Rattle.frame_entries.specs.FrameEntries.{cie_place, cie_from, cie_named, address_at, fde_of, body_read, body_under, body_by, entry_of}
use Rattle.frame_entries.specs.SharedCies.{HaveOneCie, ShareCies}

-- The fields of the CIE at a place, if there is one that can be used.
abbrev no_fields : CieFields
no_fields = record { code_align = 0; data_align = pos 0; encoding = 0; augmented = false; initial_instructions = [] }

abbrev usable : Result CieFields Reason → CieFields
usable (Ok cie) = cie
usable (Err why) = no_fields

abbrev fields_in : Option Cie → CieFields
fields_in (Some cie) = usable cie.parts
fields_in None = no_fields

fields_at : List Cie → ℕ → CieFields
fields_at cies place = fields_in (cie_from cies place)

-- An entry has the fields of this CIE.
record IsUnder (place : ℕ) (cie : CieFields) (e : FdeFields) : Type 0 where
  place_is : e.cie ≡ place
  code_align : e.code_align ≡ cie.code_align
  data_align : e.data_align ≡ cie.data_align
  encoding : e.encoding ≡ cie.encoding
  initial_instructions : e.initial_instructions ≡ cie.initial_instructions

abbrev OfRead : ℕ → CieFields → Result FdeFields CursorFault → Type 0
OfRead place cie (Ok e) = IsUnder place cie e
OfRead place cie (Err fault) = Unit {0}

then : {A : Type 0} (place : ℕ) (cie : CieFields) (reading : Result A CursorFault) (next : A → Result FdeFields CursorFault) → ((x : A) → OfRead place cie (next x)) → OfRead place cie (reading >>= next)
then place cie (Ok x) next later = later x
then place cie (Err fault) next later = tt

fde_under : (place : ℕ) (cie : CieFields) (base : ℕ) (body : List ℕ) → OfRead place cie (fde_of place cie base body)
unfolding fde_of
fde_under place cie base body =
    then place cie (pointer_at cie.encoding base (from_start body)) _
    (λ start. then place cie (number_at (format_of cie.encoding) start.1) _
    (λ size. then place cie (augmentation_at cie.augmented size.1) _
    (λ augmentation. record { place_is = refl; code_align = refl; data_align = refl; encoding = refl; initial_instructions = refl })))

-- A CIE that is found at a place has that place.
abbrev or_this : {X : Type 0} → X → Option X → X
or_this d None = d
or_this d (Some x) = x

found_case : {X : Type 0} (test : X → Bool) (x y : X) (t : Bool) (later : Option X) → test y ≡ t → (later ≡ Some x → test x ≡ true) → cond t (Some y) later ≡ Some x → test x ≡ true
found_case test x y true later is rest found = ap test (sym (ap (or_this y) found)) ∙ is
found_case test x y false later is rest found = rest found

found_test : {X : Type 0} (test : X → Bool) (xs : List X) (x : X) → find test xs ≡ Some x → test x ≡ true
found_test test [] x none = cc
found_test test (y ∷ xs) x found = found_case test x y (test y) (find test xs) refl (found_test test xs x) found

named_found : (cies : List Cie) (place : Option ℕ) (cie : Cie) → option_and_then (cie_from cies) place ≡ Some cie → cie_from cies cie.at ≡ Some cie
unfolding cie_from
named_found cies None cie none = cc
named_found cies (Some place) cie found =
    let at_place : cie.at ≡ place = eqb-true cie.at place (found_test (λ (c : Cie). nat_eq c.at place) cies cie found) in
    ap (λ n. find (λ (c : Cie). nat_eq c.at n) cies) at_place ∙ found

-- An entry that can be read has the fields of the CIE at its CIE's place.
abbrev good_or : FdeFields → Body → FdeFields
good_or e (Good f) = f
good_or e (Bad why) = e

read_fields : (place : ℕ) (cie : CieFields) (reading : Result FdeFields CursorFault) (e : FdeFields) → OfRead place cie reading → body_read reading ≡ Good e → IsUnder place cie e
read_fields place cie (Ok f) e under is = let P : FdeFields → Type 0 = λ k. IsUnder place cie k in subst P (ap (good_or f) is) under
read_fields place cie (Err fault) e under is = cc

under_fields : (place : ℕ) (parts : Result CieFields Reason) (base : ℕ) (body : List ℕ) (e : FdeFields) → body_under place parts base body ≡ Good e → IsUnder place (usable parts) e
under_fields place (Ok cie) base body e is = read_fields place cie (fde_of place cie base body) e (fde_under place cie base body) is
under_fields place (Err why) base body e is = cc

named_fields : (cies : List Cie) (cie : Option Cie) (base : ℕ) (body : List ℕ) (e : FdeFields) → ((c : Cie) → cie ≡ Some c → cie_from cies c.at ≡ Some c) → body_by cie base body ≡ Good e → IsUnder e.cie (fields_at cies e.cie) e
unfolding fields_at
named_fields cies None base body e found is = cc
named_fields cies (Some c) base body e found is =
    let under : IsUnder c.at (usable c.parts) e = under_fields c.at c.parts base body e is in
    let same : usable c.parts ≡ fields_in (cie_from cies e.cie) = sym (ap (λ place. fields_in (cie_from cies place)) under.place_is ∙ ap fields_in (found c refl)) in
    record {
      place_is = refl;
      code_align = under.code_align ∙ ap (λ (k : CieFields). k.code_align) same;
      data_align = under.data_align ∙ ap (λ (k : CieFields). k.data_align) same;
      encoding = under.encoding ∙ ap (λ (k : CieFields). k.encoding) same;
      initial_instructions = under.initial_instructions ∙ ap (λ (k : CieFields). k.initial_instructions) same;
    }

entry_fields : (which : Sect) (address : ℕ) (cies : List Cie) (raw : Raw) (e : FdeFields) → (entry_of which address cies raw).body ≡ Good e → IsUnder e.cie (fields_at cies e.cie) e
unfolding entry_of cie_named
entry_fields which address cies raw e is =
    named_fields cies (option_and_then (cie_from cies) (cie_place which raw)) (address_at address raw.body_at) raw.body e
    (named_found cies (cie_place which raw)) is

-- Two entries that name the same place have the same fields of a CIE.
both_under : (cies : List Cie) (e f : FdeFields) → IsUnder e.cie (fields_at cies e.cie) e → IsUnder f.cie (fields_at cies f.cie) f → e.cie ≡ f.cie → HaveOneCie e f
both_under cies e f first second one =
    let same : fields_at cies e.cie ≡ fields_at cies f.cie = ap (fields_at cies) one in
    record {
      code_align = first.code_align ∙ ap (λ (k : CieFields). k.code_align) same ∙ sym second.code_align;
      data_align = first.data_align ∙ ap (λ (k : CieFields). k.data_align) same ∙ sym second.data_align;
      encoding = first.encoding ∙ ap (λ (k : CieFields). k.encoding) same ∙ sym second.encoding;
      initial_instructions = first.initial_instructions ∙ ap (λ (k : CieFields). k.initial_instructions) same ∙ sym second.initial_instructions;
    }

abbrev no_raw : Raw
no_raw = record { at = 0; wide = false; id_at = 0; id = 0; body_at = 0; body = [] }

listed_fields : (which : Sect) (address : ℕ) (cies : List Cie) (raws : List Raw) (i : ℕ) (d : Entry) (e : FdeFields) → i < length (map (entry_of which address cies) raws) → (get_or (map (entry_of which address cies) raws) i d).body ≡ Good e → IsUnder e.cie (fields_at cies e.cie) e
listed_fields which address cies raws i d e there is =
    let inside : i < length raws = omega (arith, there, length-map raws (entry_of which address cies)) in
    entry_fields which address cies (get_or raws i no_raw) e (sym (ap (λ (x : Entry). x.body) (get_or-map (entry_of which address cies) raws i no_raw d inside)) ∙ is)

fdes_share : (which : Sect) (address : ℕ) (cies : List Cie) (raws : List Raw) → ShareCies (map (entry_of which address cies) raws)
fdes_share which address cies raws = record {
  one = λ i j d e f there there' is is' same.
      both_under cies e f (listed_fields which address cies raws i d e there is) (listed_fields which address cies raws j d f there' is') same;
}

pub entries_share : (which : Sect) (address : ℕ) (cies : List Cie) (raws : List Raw) (entries : List Entry) → entries ≡ map (entry_of which address cies) raws → ShareCies entries
entries_share which address cies raws entries are =
    let P : List Entry → Type 0 = λ xs. ShareCies xs in
    subst P (sym are) (fdes_share which address cies raws)

-- Each entry of the list is read from its bytes.
pub entries_counted : (which : Sect) (address : ℕ) (cies : List Cie) (raws : List Raw) (entries : List Entry) → entries ≡ map (entry_of which address cies) raws → length entries ≡ length raws
entries_counted which address cies raws entries are = ap length are ∙ length-map raws (entry_of which address cies)

pub entry_read : (which : Sect) (address : ℕ) (cies : List Cie) (raws : List Raw) (entries : List Entry) (i : ℕ) (raw : Raw) → entries ≡ map (entry_of which address cies) raws → i < length raws → raw ≡ get_or raws i raw → slice_get entries i ≡ Some (entry_of which address cies raw)
entry_read which address cies raws entries i raw are inside is =
    ap (λ xs. slice_get xs i) are
    ∙ slice_get-map (entry_of which address cies) raws i
    ∙ ap (option_map (entry_of which address cies)) (slice_get-get_or raws i raw inside ∙ ap Some (sym is))
