-- The fields of a record by their kinds are the same as those in the list.
use Rattle.std.proofs.Common.{◌≡◌, ℕ, ◌&&◌, Bool, true, false, List, [], ◌∷◌, ◌++◌, length, drop, map, refl, sym, ◌∙◌, ap, subst, arith, append-nil, ◌<◌}
use Rattle.std.specs.List.{list_all, flat_map}
use Rattle.sym_records.specs.Canon.{body}
use Rattle.sym_records.specs.Fields.{Middle, Word, Hex, Marked, Decimal, Shape, Name, Rules, Ranges, Last, Then, Held, Values, spelled, spelled_middle, fit, fits_middle}
use Rattle.sym_records.specs.Listed.{Said, fields, fields_in, spelled_field, fits_field, middle_said, listed, said}
use Rattle.sym_records.specs.Records.{layout, headed, keyword, values, made, Parts, after, parts, keyword_in, values_in}
use Rattle.sym_records.specs.Validity.{has_fields}
use Rattle.sym_records.specs.declared.field.Field.{Field}
use Rattle.sym_records.specs.declared.keyword.Keyword.{Keyword}
use Rattle.sym_records.specs.declared.line.SymLine.{SymLine}
use Rattle.sym_records.proofs.RecordLemmas.{made_back}

-- The fields of a record are those of its keyword.
parts_listed : (p : Parts) → fields_in p ≡ listed (layout (keyword_in p)) (values_in p)
parts_listed (after k v) = refl

fields_listed : (s : SymLine) → fields s ≡ listed (layout (keyword s)) (values s)
fields_listed s = parts_listed (parts s)

middle_spelled : (m : Middle) (x : Held m) → spelled_field (middle_said m x) ≡ spelled_middle m x
middle_spelled Word w = refl
middle_spelled Hex n = refl
middle_spelled Marked x = refl
middle_spelled Decimal n = refl

listed_spelled : (shape : Shape) (v : Values shape) → flat_map spelled_field (listed shape v) ≡ spelled shape v
listed_spelled Name n = append-nil _
listed_spelled Rules rs = append-nil _
listed_spelled Ranges rs = append-nil _
listed_spelled Last n = append-nil _
listed_spelled (Then m rest) v = ap (λ l. l ++ flat_map spelled_field (listed rest v.1)) (middle_spelled m v.0) ∙ ap (λ l. spelled_middle m v.0 ++ l) (listed_spelled rest v.1)

and_end : (b : Bool) → (b && true) ≡ b
and_end true = refl
and_end false = refl

middle_fits : (m : Middle) (x : Held m) → fits_field (middle_said m x) ≡ fits_middle m x
middle_fits Word w = refl
middle_fits Hex n = refl
middle_fits Marked x = refl
middle_fits Decimal n = refl

listed_fits : (shape : Shape) (v : Values shape) → list_all fits_field (listed shape v) ≡ fit shape v
listed_fits Name n = and_end _
listed_fits Rules rs = and_end _
listed_fits Ranges rs = and_end _
listed_fits Last n = and_end _
listed_fits (Then m rest) v = ap (λ b. b && list_all fits_field (listed rest v.1)) (middle_fits m v.0) ∙ ap (λ b. fits_middle m v.0 && b) (listed_fits rest v.1)

-- The test of a record tests each field of the list.
pub fields_test : (s : SymLine) → list_all fits_field (fields s) ≡ has_fields s
fields_test s = ap (list_all fits_field) (fields_listed s) ∙ listed_fits (layout (keyword s)) (values s)

-- The spelling of a record spells each field of the list.
pub fields_spell : (s : SymLine) → drop 1 (headed (keyword s) ++ flat_map spelled_field (fields s)) ≡ body s
unfolding body
fields_spell s = ap (λ l. drop 1 (headed (keyword s) ++ l)) (ap (flat_map spelled_field) (fields_listed s) ∙ listed_spelled (layout (keyword s)) (values s))

fits_said : (fs : List Field) → list_all (λ f. fits_field (said f)) fs ≡ list_all fits_field (map said fs)
fits_said [] = refl
fits_said (f ∷ fs) = ap (λ b. fits_field (said f) && b) (fits_said fs)

-- The test of a record tests each field in the code's list.
pub fit_test : (s : SymLine) (fs : List Field) (list : List Said) → list ≡ fields s → map said fs ≡ list → list_all (λ f. fits_field (said f)) fs ≡ has_fields s
fit_test s fs list first second = fits_said fs ∙ ap (list_all fits_field) (second ∙ first) ∙ fields_test s

pub spelled_said : (fs : List Field) → flat_map (λ f. spelled_field (said f)) fs ≡ flat_map spelled_field (map said fs)
spelled_said [] = refl
spelled_said (f ∷ fs) = ap (λ b. spelled_field (said f) ++ b) (spelled_said fs)

behind_head : (h x : List ℕ) → 0 < length h → drop 1 (h ++ x) ≡ drop 1 h ++ x
behind_head [] x some = absurd (omega (arith, some))
behind_head (b ∷ h) x some = refl

pub worded_body : (s : SymLine) (fs : List Field) (list : List Said) (head : List ℕ) → 0 < length (headed (keyword s)) → head ≡ drop 1 (headed (keyword s)) → list ≡ fields s → map said fs ≡ list → head ++ flat_map (λ f. spelled_field (said f)) fs ≡ body s
worded_body s fs list head some is first second =
    let spelling : flat_map (λ f. spelled_field (said f)) fs ≡ flat_map spelled_field (fields s) = spelled_said fs ∙ ap (flat_map spelled_field) (second ∙ first) in
    ap (λ l. l ++ flat_map (λ f. spelled_field (said f)) fs) is ∙ ap (λ l. drop 1 (headed (keyword s)) ++ l) spelling
    ∙ sym (behind_head (headed (keyword s)) (flat_map spelled_field (fields s)) some) ∙ fields_spell s

-- Fields of one kind with the same value are equal.
middle_tells : (m : Middle) (x y : Held m) → middle_said m x ≡ middle_said m y → x ≡ y
middle_tells Word w v is = cc
middle_tells Hex n k is = cc
middle_tells Marked x y is =
    let p : x.0 ≡ y.0 = cc in
    let q : x.1 ≡ y.1 = cc in
    ap (λ many. (many, x.1)) p ∙ ap (λ n. (y.0, n)) q
middle_tells Decimal n k is = cc

listed_tells : (shape : Shape) (v w : Values shape) → listed shape v ≡ listed shape w → v ≡ w
listed_tells Name n m is = cc
listed_tells Rules rs qs is = cc
listed_tells Ranges rs qs is = cc
listed_tells Last n k is = cc
listed_tells (Then m rest) v w is =
    let p : v.0 ≡ w.0 = middle_tells m v.0 w.0 cc in
    let q : v.1 ≡ w.1 = listed_tells rest v.1 w.1 cc in
    ap (λ x. (x, v.1)) p ∙ ap (λ xs. (w.0, xs)) q

-- Records of one keyword with the same fields are equal.
made_of : (a : SymLine) (k : Keyword) → keyword a ≡ k → (v : Values (layout k)) → fields a ≡ listed (layout k) v → a ≡ made k v
made_of a k is = subst (λ k. (v : Values (layout k)) → fields a ≡ listed (layout k) v → a ≡ made k v) is
    (λ v same. sym (made_back a) ∙ ap (made (keyword a)) (listed_tells (layout (keyword a)) (values a) v (sym (fields_listed a) ∙ same)))

pub fields_tell : (a b : SymLine) → keyword a ≡ keyword b → fields a ≡ fields b → a ≡ b
fields_tell a b is same = made_of a (keyword b) is (values b) (same ∙ fields_listed b) ∙ made_back b
