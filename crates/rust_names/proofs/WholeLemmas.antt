-- A whole legacy name: the bytes between `_ZN` and the hash, and what they show, for `shown` and
-- `shown_texts_are_one`.
use Rattle.std.proofs.Common.{◌≡◌, ℕ, ◌+◌, ◌-◌, ◌<◌, ◌≤◌, ◌==◌, ◌&&◌, cond, zero, suc, Bool, true, List, [], ◌∷◌, ◌++◌, length, take, drop, get_or, codes, Some, None, nat_le, nat_eq, refl, sym, ◌∙◌, ap, arith, length-append, length-take, length-drop}
use Rattle.std.specs.List.{flat_map, list_all, starts_with}
use Rattle.std.specs.Option.{option_and_then}
use Rattle.std.proofs.Math.Seq.{drop-append_seam, take-append_seam, get_or-append_seam}
use Rattle.std.proofs.lemmas.Bool.{le-leb, leb-true}
use Rattle.std.proofs.lemmas.Bool.Decides.{nat_tests}
use Rattle.std.proofs.lemmas.List.{append_assoc, take-append-drop, drop-drop, drop_all, at_drop_more}
use Rattle.sym_rules.proofs.BoolLemmas.{and_true, both, elim_bool}
use Rattle.rust_names.specs.Legacy.{Part, part_written, joined, is_low_hex, is_shown_text, IsLegacy}
use Rattle.rust_names.specs.internal.Reading.{parts_of, is_tail, middle_of, some_joined, text_if, legacy_of}
use Rattle.rust_names.proofs.FrontLemmas.{begins}
use Rattle.rust_names.proofs.DigitLemmas.{some_is}
use Rattle.rust_names.proofs.ShownLemmas.{then_some, parts_read, parts_found}

-- The bytes after `_ZN`.
front_of : (n : ℕ) (xs : List ℕ) → 3 ≤ n → take n (codes "_ZN" ++ xs) ≡ codes "_ZN" ++ drop 3 (take n (codes "_ZN" ++ xs))
front_of zero xs some = absurd (omega arith)
front_of (suc zero) xs some = absurd (omega arith)
front_of (suc (suc zero)) xs some = absurd (omega arith)
front_of (suc (suc (suc n))) xs some = refl

-- The last 20 bytes.
pub record Tail (bytes : List ℕ) : Type 0 where
  pub hash : List ℕ
  pub whole : bytes ≡ codes "17h" ++ hash ++ codes "E"
  pub digits : length hash ≡ 16
  pub hexadecimal : list_all is_low_hex hash ≡ true

tail_known : (bytes : List ℕ) → length bytes ≡ 20 → is_tail bytes ≡ true → Tail bytes
unfolding is_tail
tail_known bytes size is =
    let two = and_true {a = starts_with nat_eq bytes (codes "17h") && (get_or bytes 19 0 == 69)} {b = list_all is_low_hex (take 16 (drop 3 bytes))} is in
    let one = and_true {a = starts_with nat_eq bytes (codes "17h")} {b = get_or bytes 19 0 == 69} two.0 in
    let rest : List ℕ = drop 3 bytes in
    let last : get_or bytes 19 0 ≡ 69 = grind (arith, nat_tests) in
    let ends : drop 16 rest ≡ codes "E" =
    drop-drop 16 3 bytes ∙ at_drop_more (λ xs. xs) bytes 19 0 (omega arith) ∙ ap (λ xs. get_or bytes 19 0 ∷ xs) (drop_all 20 bytes (omega arith)) ∙ ap (λ b. b ∷ []) last in
    record {
      hash = take 16 rest;
      whole = begins bytes (codes "17h") one.0 ∙ ap (λ xs. codes "17h" ++ xs) (sym (take-append-drop 16 rest) ∙ ap (λ xs. take 16 rest ++ xs) ends) ∙ sym (append_assoc (codes "17h") (take 16 rest) (codes "E"));
      digits = omega (arith, length-take 16 rest, length-drop 3 bytes);
      hexadecimal = two.1;
    }

tail_found : (hash : List ℕ) → length hash ≡ 16 → list_all is_low_hex hash ≡ true → (length (codes "17h" ++ hash ++ codes "E") ≡ 20) × (is_tail (codes "17h" ++ hash ++ codes "E") ≡ true)
unfolding is_tail
tail_found hash size all =
    let bytes : List ℕ = codes "17h" ++ hash ++ codes "E" in
    let long : length (codes "17h" ++ hash) ≡ 19 = omega (arith, length-append (codes "17h") hash) in
    let last : (get_or bytes 19 0 == 69) ≡ true = ap (λ n. get_or bytes n 0 == 69) (sym long) ∙ ap (λ b. b == 69) (get_or-append_seam (codes "17h" ++ hash) 69 [] 0) in
    let middle : take 16 (drop 3 bytes) ≡ hash = ap (λ n. take n (hash ++ codes "E")) (sym size) ∙ take-append_seam hash (codes "E") in
    (omega (arith, length-append (codes "17h" ++ hash) (codes "E")), both (both refl last) (ap (list_all is_low_hex) middle ∙ all))

-- The bytes between `_ZN` and the last 20 bytes.
pub record Middle (name middle : List ℕ) : Type 0 where
  pub hash : List ℕ
  pub whole : name ≡ codes "_ZN" ++ middle ++ codes "17h" ++ hash ++ codes "E"
  pub digits : length hash ≡ 16
  pub hexadecimal : list_all is_low_hex hash ≡ true

assembled : (front middle first hash last : List ℕ) → (front ++ middle) ++ (first ++ hash ++ last) ≡ front ++ middle ++ first ++ hash ++ last
assembled front middle first hash last =
    sym (append_assoc (front ++ middle) (first ++ hash) last) ∙ ap (λ xs. xs ++ last) (sym (append_assoc (front ++ middle) first hash))

middle_by : (name middle : List ℕ) → starts_with nat_eq name (codes "_ZN") ≡ true → 23 ≤ length name → is_tail (drop (length name - 20) name) ≡ true → drop 3 (take (length name - 20) name) ≡ middle → Middle name middle
middle_by name middle front long tail is =
    let n : ℕ = length name - 20 in
    let last = tail_known (drop n name) (omega (arith, length-drop n name)) tail in
    let whole : name ≡ codes "_ZN" ++ drop 3 name = begins name (codes "_ZN") front in
    let first : take n name ≡ codes "_ZN" ++ middle =
    ap (take n) whole ∙ front_of n (drop 3 name) (omega arith) ∙ ap (λ xs. codes "_ZN" ++ drop 3 (take n xs)) (sym whole) ∙ ap (λ xs. codes "_ZN" ++ xs) is in
    record {
      hash = last.hash;
      whole = sym (take-append-drop n name) ∙ ap (λ xs. xs ++ drop n name) first ∙ ap (λ xs. (codes "_ZN" ++ middle) ++ xs) last.whole ∙ assembled (codes "_ZN") middle (codes "17h") last.hash (codes "E");
      digits = last.digits;
      hexadecimal = last.hexadecimal;
    }

middle_known : (name middle : List ℕ) → middle_of name ≡ Some middle → Middle name middle
unfolding middle_of
middle_known name middle is =
    let test : Bool = starts_with nat_eq name (codes "_ZN") && nat_le 23 (length name) && is_tail (drop (length name - 20) name) in
    elim_bool test (λ t. test ≡ t → cond t (Some (drop 3 (take (length name - 20) name))) None ≡ Some middle → Middle name middle)
    (λ whole _ found.
    let two = and_true {a = starts_with nat_eq name (codes "_ZN") && nat_le 23 (length name)} {b = is_tail (drop (length name - 20) name)} whole in
    let one = and_true {a = starts_with nat_eq name (codes "_ZN")} {b = nat_le 23 (length name)} two.0 in
    middle_by name middle one.0 (leb-true 23 (length name) one.1) two.1 (some_is found))
    (λ _ _ found. cc) refl is

middle_found : (middle hash : List ℕ) → length hash ≡ 16 → list_all is_low_hex hash ≡ true → middle_of ((codes "_ZN" ++ middle) ++ (codes "17h" ++ hash ++ codes "E")) ≡ Some middle
unfolding middle_of
middle_found middle hash size all =
    let front : List ℕ = codes "_ZN" ++ middle in
    let tail : List ℕ = codes "17h" ++ hash ++ codes "E" in
    let name : List ℕ = front ++ tail in
    let last = tail_found hash size all in
    let long : length name ≡ length front + 20 = length-append front tail ∙ ap (λ n. length front + n) last.0 in
    let at : length name - 20 ≡ length front = omega (arith, long) in
    let ends : drop (length name - 20) name ≡ tail = ap (λ n. drop n name) at ∙ drop-append_seam front tail in
    let begins : take (length name - 20) name ≡ front = ap (λ n. take n name) at ∙ take-append_seam front tail in
    let test : (starts_with nat_eq name (codes "_ZN") && nat_le 23 (length name) && is_tail (drop (length name - 20) name)) ≡ true =
    both (both refl (le-leb 23 (length name) (omega (arith, long, length-append (codes "_ZN") middle)))) (ap is_tail ends ∙ last.1) in
    ap (λ t. cond t (Some (drop 3 (take (length name - 20) name))) None) test ∙ ap (λ xs. Some (drop 3 xs)) begins

-- What is found is what the name shows.

some_parts : (parts : List Part) (text : List ℕ) → some_joined parts ≡ Some text → (0 < length parts) × (text ≡ joined parts)
some_parts [] text is = cc
some_parts (p ∷ parts) text is = (omega arith, sym (some_is is))

parts_some : (parts : List Part) → 0 < length parts → some_joined parts ≡ Some (joined parts)
parts_some [] some = absurd (omega arith)
parts_some (p ∷ parts) some = refl

text_is : (text new : List ℕ) → text_if text ≡ Some new → (is_shown_text text ≡ true) × (text ≡ new)
text_is text new is = elim_bool (is_shown_text text) (λ t. is_shown_text text ≡ t → cond t (Some text) None ≡ Some new → (is_shown_text text ≡ true) × (text ≡ new)) (λ fits _ found. (fits, some_is found)) (λ _ _ found. cc) refl is

whole_is : (name middle hash : List ℕ) (parts : List Part) → name ≡ codes "_ZN" ++ middle ++ codes "17h" ++ hash ++ codes "E" → middle ≡ flat_map part_written parts → name ≡ codes "_ZN" ++ flat_map part_written parts ++ codes "17h" ++ hash ++ codes "E"
whole_is name middle hash parts is are = is ∙ ap (λ xs. codes "_ZN" ++ xs ++ codes "17h" ++ hash ++ codes "E") are

found_is : (name text : List ℕ) → legacy_of name ≡ Some text → IsLegacy name text
unfolding legacy_of parts_of
found_is name text is =
    let whole = then_some text_if (option_and_then some_joined (option_and_then parts_of (middle_of name))) text is in
    let fits = text_is whole.0 text whole.2 in
    let parts = then_some some_joined (option_and_then parts_of (middle_of name)) whole.0 whole.1 in
    let shows = some_parts parts.0 whole.0 parts.2 in
    let middle = then_some parts_of (middle_of name) parts.0 parts.1 in
    let known = middle_known name middle.0 middle.1 in
    let read = parts_read 0 middle.0 parts.0 middle.2 in
    record {
      parts = parts.0;
      hash = known.hash;
      whole = whole_is name middle.0 known.hash parts.0 known.whole read.are;
      some = shows.0;
      read = read.good;
      digits = known.digits;
      hexadecimal = known.hexadecimal;
      shows = sym fits.1 ∙ shows.1;
      fits = ap is_shown_text (sym fits.1) ∙ fits.0;
    }

pub is_found : (name text : List ℕ) → IsLegacy name text → legacy_of name ≡ Some text
unfolding legacy_of
is_found name text is =
    let middle : middle_of name ≡ Some (flat_map part_written is.parts) =
    ap middle_of (is.whole ∙ sym (assembled (codes "_ZN") (flat_map part_written is.parts) (codes "17h") is.hash (codes "E"))) ∙ middle_found (flat_map part_written is.parts) is.hash is.digits is.hexadecimal in
    ap (λ o. option_and_then text_if (option_and_then some_joined (option_and_then parts_of o))) middle
    ∙ ap (λ o. option_and_then text_if (option_and_then some_joined o)) (parts_found is.parts is.read)
    ∙ ap (option_and_then text_if) (parts_some is.parts is.some)
    ∙ ap (λ xs. text_if xs) (sym is.shows)
    ∙ ap (λ t. cond t (Some text) None) is.fits

pub legacy_found : (name text : List ℕ) → Some text ≡ legacy_of name → IsLegacy name text
legacy_found name text is = found_is name text (sym is)
