-- Bytes as parts, and what they show, for `add_later_parts` and `add_parts`.
use Rattle.std.proofs.Common.{◌≡◌, ◌≢◌, ℕ, ◌+◌, ◌-◌, ◌<◌, ◌≤◌, zero, suc, Bool, true, List, [], ◌∷◌, ◌++◌, length, take, drop, codes, Option, Some, None, refl, sym, ◌∙◌, ap, arith, length-take, length-drop, append-nil}
use Rattle.std.specs.List.{flat_map}
use Rattle.std.specs.Option.{option_map, option_and_then}
use Rattle.std.proofs.lemmas.List.{append_assoc, drop-drop}
use Rattle.rust_names.specs.declared.piece.Piece.{Piece}
use Rattle.rust_names.specs.Legacy.{shown, undashed, is_number, Part}
use Rattle.rust_names.specs.internal.Reading.{digits_in_front, number_upto, cut_by, cut_of, part_by, part_of, part_length, parts_from, parts_of, some_joined, pieces_of, pieces_text, parts_text, later_text, kept}
use Rattle.rust_names.proofs.DigitLemmas.{front_digits, number_known, some_is}
use Rattle.rust_names.proofs.PieceLemmas.{dropped}

-- Bytes with a part at their start: the digits, their number, and the bytes after the part.
pub record Cut (bytes part later : List ℕ) : Type 0 where
  pub size : ℕ
  pub number : number_upto (length (drop (length (digits_in_front bytes)) bytes)) (digits_in_front bytes) ≡ Some size
  pub is_part : part ≡ take size (drop (length (digits_in_front bytes)) bytes)
  pub is_later : later ≡ drop size (drop (length (digits_in_front bytes)) bytes)

cut_by_is : (bytes after part later : List ℕ) (o : Option ℕ) → number_upto (length (drop (length (digits_in_front bytes)) bytes)) (digits_in_front bytes) ≡ o → cut_by (drop (length (digits_in_front bytes)) bytes) o ≡ Some (part, later) → Cut bytes part later
cut_by_is bytes after part later None number is = cc
cut_by_is bytes after part later (Some n) number is = let same : ◌≡◌ {A = List ℕ × List ℕ} (take n (drop (length (digits_in_front bytes)) bytes), drop n (drop (length (digits_in_front bytes)) bytes)) (part, later) = some_is is in record { size = n; number = number; is_part = ap (λ (x : List ℕ × List ℕ). x.0) (sym same); is_later = ap (λ (x : List ℕ × List ℕ). x.1) (sym same) }

pub cut_is : (bytes part later : List ℕ) → cut_of bytes ≡ Some (part, later) → Cut bytes part later
unfolding cut_of
cut_is bytes part later is = cut_by_is bytes [] part later (number_upto (length (drop (length (digits_in_front bytes)) bytes)) (digits_in_front bytes)) refl is

digits_within : (bytes : List ℕ) → length (digits_in_front bytes) ≤ length bytes
digits_within bytes = omega (arith, ap length (front_digits bytes), length-take (length (digits_in_front bytes)) bytes)

some_number : (digits : List ℕ) → is_number digits ≡ true → 0 < length digits
some_number [] is = cc
some_number (d ∷ digits) is = omega arith

-- A part, and its pieces.
abbrev pub part_at : List ℕ → List ℕ → List Piece → Part
part_at bytes part pieces = record { number = digits_in_front bytes; bytes = part; pieces = pieces }

pub cut_size : (bytes part later : List ℕ) (cut : Cut bytes part later) → (length part ≡ cut.size) × (length (digits_in_front bytes) + length part ≤ length bytes) × (0 < length (digits_in_front bytes))
cut_size bytes part later cut =
    let known = number_known (length (drop (length (digits_in_front bytes)) bytes)) cut.size (digits_in_front bytes) cut.number in
    let size : length part ≡ cut.size = ap length cut.is_part ∙ omega (arith, length-take cut.size (drop (length (digits_in_front bytes)) bytes), known.2) in
    let some : 0 < length (digits_in_front bytes) = some_number (digits_in_front bytes) known.0 in
    (size, omega (arith, size, known.2, length-drop (length (digits_in_front bytes)) bytes, digits_within bytes), some)

pub cut_later : (bytes part later : List ℕ) (cut : Cut bytes part later) → drop (length (digits_in_front bytes) + length part) bytes ≡ later
cut_later bytes part later cut =
    ap (λ n. drop (length (digits_in_front bytes) + n) bytes) (cut_size bytes part later cut).0 ∙ sym (drop-drop cut.size (length (digits_in_front bytes)) bytes) ∙ sym cut.is_later

no_part : (part later : List ℕ) {A : Type 0} → cut_of [] ≡ Some (part, later) → A
unfolding cut_of digits_in_front number_upto
no_part part later is = cc

step_by : (bytes part : List ℕ) (f : Part → Option (List Part)) (r : Option (List Part)) (o : Option (List Piece)) → ((ps : List Piece) → f (part_at bytes part ps) ≡ r) →
    option_and_then (λ p. option_map (λ ps. p ∷ ps) (f p)) (option_map (part_at bytes part) o) ≡ option_and_then (λ ps. option_map (λ rest. part_at bytes part ps ∷ rest) r) o
step_by bytes part f r None same = refl
step_by bytes part f r (Some ps) same = ap (option_map (λ rest. part_at bytes part ps ∷ rest)) (same ps)

skipped : (k : ℕ) (bytes : List ℕ) → k ≤ length bytes → parts_from k bytes ≡ parts_of (drop k bytes)
unfolding parts_of parts_from
skipped zero bytes within = refl
skipped (suc k) [] within = absurd (omega arith)
skipped (suc k) (b ∷ bytes) within = skipped k bytes (omega arith)

-- The first part and the later ones.
pub parts_step : (bytes part later : List ℕ) → cut_of bytes ≡ Some (part, later) → parts_of bytes ≡ option_and_then (λ ps. option_map (λ rest. part_at bytes part ps ∷ rest) (parts_of later)) (pieces_of (undashed part))
unfolding parts_of parts_from part_of
parts_step [] part later is = no_part part later is
parts_step (b ∷ bytes) part later is =
    let cut = cut_is (b ∷ bytes) part later is in
    let size = cut_size (b ∷ bytes) part later cut in
    let n : ℕ = length (digits_in_front (b ∷ bytes)) + length part in
    let next : parts_from (n - 1) bytes ≡ parts_of later =
    skipped (n - 1) bytes (omega (arith, size)) ∙ ap parts_of (sym (dropped n b bytes (omega (arith, size))) ∙ cut_later (b ∷ bytes) part later cut) in
    ap (λ o. option_and_then (λ (p : Part). option_map (λ ps. p ∷ ps) (parts_from (part_length p - 1) bytes)) (part_by (digits_in_front (b ∷ bytes)) o)) is
    ∙ step_by (b ∷ bytes) part (λ (p : Part). parts_from (part_length p - 1) bytes) (parts_of later) (pieces_of (undashed part)) (λ ps. next)

-- If no part is at the start, the bytes are no parts.
pub parts_stop : (bytes : List ℕ) → length bytes ≢ 0 → cut_of bytes ≡ None → parts_of bytes ≡ None
unfolding parts_of parts_from part_of
parts_stop [] some none = absurd (some refl)
parts_stop (b ∷ bytes) some none = ap (λ o. option_and_then (λ (p : Part). option_map (λ ps. p ∷ ps) (parts_from (part_length p - 1) bytes)) (part_by (digits_in_front (b ∷ bytes)) o)) none

-- What the parts show.
later_by : (bytes part : List ℕ) (r : Option (List Part)) (o : Option (List Piece)) →
    option_map (flat_map (λ (q : Part). codes "::" ++ flat_map shown q.pieces)) (option_and_then (λ ps. option_map (λ rest. part_at bytes part ps ∷ rest) r) o)
    ≡ option_and_then (λ t. option_map (λ u. (codes "::" ++ t) ++ u) (option_map (flat_map (λ (q : Part). codes "::" ++ flat_map shown q.pieces)) r)) (option_map (flat_map shown) o)
later_by bytes part r None = refl
later_by bytes part None (Some ps) = refl
later_by bytes part (Some rest) (Some ps) = refl

later_step : (bytes part later : List ℕ) → cut_of bytes ≡ Some (part, later) → later_text bytes ≡ option_and_then (λ t. option_map (λ u. (codes "::" ++ t) ++ u) (later_text later)) (pieces_text (undashed part))
unfolding later_text pieces_text
later_step bytes part later is =
    ap (option_map (flat_map (λ (q : Part). codes "::" ++ flat_map shown q.pieces))) (parts_step bytes part later is) ∙ later_by bytes part (parts_of later) (pieces_of (undashed part))

joined_by : (bytes part : List ℕ) (r : Option (List Part)) (o : Option (List Piece)) →
    option_and_then some_joined (option_and_then (λ ps. option_map (λ rest. part_at bytes part ps ∷ rest) r) o)
    ≡ option_and_then (λ t. option_map (λ u. t ++ u) (option_map (flat_map (λ (q : Part). codes "::" ++ flat_map shown q.pieces)) r)) (option_map (flat_map shown) o)
joined_by bytes part r None = refl
joined_by bytes part None (Some ps) = refl
joined_by bytes part (Some rest) (Some ps) = refl

joined_step : (bytes part later : List ℕ) → cut_of bytes ≡ Some (part, later) → parts_text bytes ≡ option_and_then (λ t. option_map (λ u. t ++ u) (later_text later)) (pieces_text (undashed part))
unfolding later_text parts_text pieces_text
joined_step bytes part later is = ap (option_and_then some_joined) (parts_step bytes part later is) ∙ joined_by bytes part (parts_of later) (pieces_of (undashed part))

-- Lemmas for `add_later_parts`.

pub later_end : (bytes text : List ℕ) (whole : Option (List ℕ)) → length bytes ≡ 0 → whole ≡ option_map (λ t. text ++ t) (later_text bytes) → whole ≡ Some text
unfolding later_text parts_of parts_from
later_end [] text whole none is = is ∙ ap Some (append-nil text)
later_end (b ∷ bytes) text whole none is = absurd (omega arith)

pub later_none : (bytes text : List ℕ) (whole : Option (List ℕ)) → length bytes ≢ 0 → cut_of bytes ≡ None → whole ≡ option_map (λ t. text ++ t) (later_text bytes) → whole ≡ None
unfolding later_text
later_none bytes text whole some none is = is ∙ ap (λ o. option_map (λ t. text ++ t) (option_map (flat_map (λ (q : Part). codes "::" ++ flat_map shown q.pieces)) o)) (parts_stop bytes some none)

bad_by : (text front : List ℕ) (f : List ℕ → Option (List ℕ)) (o : Option (List ℕ)) → option_map (λ t. front ++ t) o ≡ None → option_map (λ t. text ++ t) (option_and_then f o) ≡ None
bad_by text front f None none = refl
bad_by text front f (Some t) none = cc

pub later_bad : (bytes text part later : List ℕ) (whole : Option (List ℕ)) → cut_of bytes ≡ Some (part, later) → option_map (λ t. (text ++ codes "::") ++ t) (pieces_text (undashed part)) ≡ None → whole ≡ option_map (λ t. text ++ t) (later_text bytes) → whole ≡ None
later_bad bytes text part later whole cut bad is =
    is ∙ ap (option_map (λ t. text ++ t)) (later_step bytes part later cut) ∙ bad_by text (text ++ codes "::") (λ t. option_map (λ u. (codes "::" ++ t) ++ u) (later_text later)) (pieces_text (undashed part)) bad

more_by : (text front new : List ℕ) (r o : Option (List ℕ)) → option_map (λ t. (text ++ front) ++ t) o ≡ Some new → option_map (λ t. text ++ t) (option_and_then (λ t. option_map (λ u. (front ++ t) ++ u) r) o) ≡ option_map (λ u. new ++ u) r
more_by text front new r None is = cc
more_by text front new None (Some t) is = refl
more_by text front new (Some u) (Some t) is = ap Some (sym (append_assoc text (front ++ t) u) ∙ ap (λ xs. xs ++ u) (sym (append_assoc text front t) ∙ some_is is))

pub later_more : (bytes text part later new : List ℕ) (whole : Option (List ℕ)) → cut_of bytes ≡ Some (part, later) → option_map (λ t. (text ++ codes "::") ++ t) (pieces_text (undashed part)) ≡ Some new → whole ≡ option_map (λ t. text ++ t) (later_text bytes) → whole ≡ option_map (λ t. new ++ t) (later_text later)
later_more bytes text part later new whole cut found is =
    is ∙ ap (option_map (λ t. text ++ t)) (later_step bytes part later cut) ∙ more_by text (codes "::") new (later_text later) (pieces_text (undashed part)) found

-- Lemmas for `add_parts`.

pub parts_none : (bytes text : List ℕ) → cut_of bytes ≡ None → option_map (λ t. text ++ t) (parts_text bytes) ≡ None
unfolding parts_text parts_of parts_from
parts_none [] text none = refl
parts_none (b ∷ bytes) text none = ap (λ o. option_map (λ t. text ++ t) (option_and_then some_joined o)) (parts_stop (b ∷ bytes) (λ no. absurd (omega arith)) none)

pub parts_bad : (bytes text part later : List ℕ) → cut_of bytes ≡ Some (part, later) → option_map (λ t. text ++ t) (pieces_text (undashed part)) ≡ None → option_map (λ t. text ++ t) (parts_text bytes) ≡ None
parts_bad bytes text part later cut bad = ap (option_map (λ t. text ++ t)) (joined_step bytes part later cut) ∙ bad_by text text (λ t. option_map (λ u. t ++ u) (later_text later)) (pieces_text (undashed part)) bad

some_by : (text new : List ℕ) (r o : Option (List ℕ)) → option_map (λ t. text ++ t) o ≡ Some new → option_map (λ t. text ++ t) (option_and_then (λ t. option_map (λ u. t ++ u) r) o) ≡ option_map (λ u. new ++ u) r
some_by text new r None is = cc
some_by text new None (Some t) is = refl
some_by text new (Some u) (Some t) is = ap Some (sym (append_assoc text t u) ∙ ap (λ xs. xs ++ u) (some_is is))

pub parts_some : (bytes text part later new : List ℕ) → cut_of bytes ≡ Some (part, later) → option_map (λ t. text ++ t) (pieces_text (undashed part)) ≡ Some new → option_map (λ t. text ++ t) (parts_text bytes) ≡ option_map (λ t. new ++ t) (later_text later)
parts_some bytes text part later new cut found = ap (option_map (λ t. text ++ t)) (joined_step bytes part later cut) ∙ some_by text new (later_text later) (pieces_text (undashed part)) found

-- What was added of the bytes of a part.
pub added : {text front bytes plain : List ℕ} (new : List ℕ) (all whole : Bool) → front ≡ text → bytes ≡ plain → option_map (λ t. front ++ t) (pieces_text bytes) ≡ kept all new → all ≡ whole → option_map (λ t. text ++ t) (pieces_text plain) ≡ kept whole new
added {front = front} {plain = plain} new all whole same plainly is which =
    ap (λ (xs : List ℕ). option_map (λ t. xs ++ t) (pieces_text plain)) (sym same) ∙ ap (λ u. option_map (λ t. front ++ t) (pieces_text u)) (sym plainly) ∙ is ∙ ap (λ b. kept b new) which
