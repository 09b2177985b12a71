-- The reading of a name finds what the name shows, and nothing else, for `shown` and
-- `shown_texts_are_one`.
use Rattle.std.proofs.Common.{◌≡◌, ℕ, ◌+◌, ◌-◌, ◌<◌, ◌≤◌, ◌==◌, cond, zero, suc, true, false, not, List, [], ◌∷◌, ◌++◌, length, take, drop, Option, Some, None, refl, sym, ◌∙◌, ap, arith, subst, length-append}
use Rattle.std.specs.List.{flat_map, list_all}
use Rattle.std.specs.Option.{option_map, option_and_then}
use Rattle.std.specs.Str.Parse.{digits_value}
use Rattle.std.proofs.Math.Seq.{drop-append_seam, take-append_seam}
use Rattle.std.proofs.lemmas.Bool.Decides.{nat_tests}
use Rattle.std.proofs.lemmas.List.{append_assoc, take-append-drop}
use Rattle.std.proofs.lemmas.Str.Parse.{digits_value-take-le}
use Rattle.sym_rules.proofs.BoolLemmas.{and_true, not_true, elim_bool}
use Rattle.rust_names.specs.declared.piece.Piece.{Piece}
use Rattle.rust_names.specs.Legacy.{written, is_piece, ArePieces, Part, IsPart, AreParts, is_digit, is_number, begins_with_digit, undashed, part_written}
use Rattle.rust_names.specs.internal.Reading.{piece_of, pieces_from, pieces_of, digits_in_front, number_upto, cut_by, cut_of, part_by, part_of, part_length, parts_from, parts_of}
use Rattle.rust_names.proofs.FrontLemmas.{IsFront, piece_front, found_piece}
use Rattle.rust_names.proofs.PieceLemmas.{some_written, dropped, pieces_step}
use Rattle.rust_names.proofs.DigitLemmas.{some_is, front_digits, number_by, number_known, digit_is, cut_at}
use Rattle.rust_names.proofs.PartLemmas.{Cut, cut_is, cut_size, cut_later, part_at, parts_step}

map_some : {A B : Type 0} (f : A → B) (o : Option A) (y : B) → option_map f o ≡ Some y → (x : A) × (o ≡ Some x) × (f x ≡ y)
map_some f None y is = cc
map_some f (Some x) y is = (x, refl, some_is is)

pub then_some : {A B : Type 0} (f : A → Option B) (o : Option A) (y : B) → option_and_then f o ≡ Some y → (x : A) × (o ≡ Some x) × (f x ≡ Some y)
then_some f None y is = cc
then_some f (Some x) y is = (x, refl, is)

-- Pieces.

record Read (k : ℕ) (bytes : List ℕ) (ps : List Piece) : Type 0 where
  pub within : k ≤ length bytes
  pub are : drop k bytes ≡ flat_map written ps
  pieces : ArePieces ps

front_read : (b : ℕ) (bytes : List ℕ) (p : Piece) (qs ps : List Piece) → IsFront (b ∷ bytes) p → Read (length (written p) - 1) bytes qs → p ∷ qs ≡ ps → Read 0 (b ∷ bytes) ps
front_read b bytes p qs ps front read is =
    let rest : drop (length (written p)) (b ∷ bytes) ≡ flat_map written qs = dropped (length (written p)) b bytes (some_written p) ∙ read.are in
    subst (Read 0 (b ∷ bytes)) is (record {
      within = omega arith;
      are = front.0 ∙ ap (λ xs. written p ++ xs) rest;
      pieces = (ap (is_piece p) (sym rest) ∙ front.1, read.pieces);
    })

pieces_read : (k : ℕ) (bytes : List ℕ) (ps : List Piece) → pieces_from k bytes ≡ Some ps → Read k bytes ps
unfolding pieces_from
pieces_read zero [] ps is = subst (Read 0 []) (some_is is) (record { within = omega arith; are = refl; pieces = tt })
pieces_read (suc k) [] ps is = cc
pieces_read (suc k) (b ∷ bytes) ps is = let read = pieces_read k bytes ps is in record { within = omega (arith, read.within); are = read.are; pieces = read.pieces }
pieces_read zero (b ∷ bytes) ps is =
    let first = then_some (λ q. option_map (λ qs. q ∷ qs) (pieces_from (length (written q) - 1) bytes)) (piece_of (b ∷ bytes)) ps is in
    let rest = map_some (λ qs. first.0 ∷ qs) (pieces_from (length (written first.0) - 1) bytes) ps first.2 in
    front_read b bytes first.0 rest.0 ps (piece_front (b ∷ bytes) first.0 first.1) (pieces_read (length (written first.0) - 1) bytes rest.0 rest.1) rest.2

pieces_found : (ps : List Piece) → ArePieces ps → pieces_of (flat_map written ps) ≡ Some ps
unfolding pieces_of pieces_from
pieces_found [] are = refl
pieces_found (p ∷ ps) are =
    pieces_step (written p ++ flat_map written ps) p (found_piece p (flat_map written ps) are.0)
    ∙ ap (λ xs. option_map (λ qs. p ∷ qs) (pieces_of xs)) (drop-append_seam (written p) (flat_map written ps))
    ∙ ap (option_map (λ qs. p ∷ qs)) (pieces_found ps are.1)

-- Parts.

begins_take : (n : ℕ) (xs : List ℕ) → begins_with_digit xs ≡ false → begins_with_digit (take n xs) ≡ false
begins_take zero xs none = refl
begins_take (suc n) [] none = refl
begins_take (suc n) (x ∷ xs) none = none

digits_over : (bytes : List ℕ) → begins_with_digit (drop (length (digits_in_front bytes)) bytes) ≡ false
unfolding digits_in_front
digits_over [] = refl
digits_over (b ∷ bytes) = elim_bool (is_digit b) (λ t. begins_with_digit (drop (length (cond t (b ∷ digits_in_front bytes) [])) (b ∷ bytes)) ≡ false) (λ _. digits_over bytes) (λ none. none)

cut_whole : (bytes part later : List ℕ) (cut : Cut bytes part later) → bytes ≡ (digits_in_front bytes ++ part) ++ later
cut_whole bytes part later cut =
    let after : List ℕ = drop (length (digits_in_front bytes)) bytes in
    sym (take-append-drop (length (digits_in_front bytes)) bytes)
    ∙ ap (λ xs. xs ++ after) (front_digits bytes)
    ∙ ap (λ xs. digits_in_front bytes ++ xs) (sym (take-append-drop cut.size after) ∙ ap (λ xs. xs ++ drop cut.size after) (sym cut.is_part) ∙ ap (λ xs. part ++ xs) (sym cut.is_later))
    ∙ sym (append_assoc (digits_in_front bytes) part later)

cut_part : (bytes part later : List ℕ) (ps : List Piece) (cut : Cut bytes part later) → pieces_of (undashed part) ≡ Some ps → IsPart (part_at bytes part ps)
unfolding pieces_of
cut_part bytes part later ps cut found =
    let known = number_known (length (drop (length (digits_in_front bytes)) bytes)) cut.size (digits_in_front bytes) cut.number in
    let read = pieces_read 0 (undashed part) ps found in
    record {
      number = known.0;
      length = known.1 ∙ sym (cut_size bytes part later cut).0;
      begins = ap begins_with_digit cut.is_part ∙ begins_take cut.size (drop (length (digits_in_front bytes)) bytes) (digits_over bytes);
      read = read.are;
      pieces = read.pieces;
    }

pub record ReadParts (k : ℕ) (bytes : List ℕ) (parts : List Part) : Type 0 where
  pub within : k ≤ length bytes
  pub are : drop k bytes ≡ flat_map part_written parts
  pub good : AreParts parts

-- The part that is found, and the bytes after it.
record Found (bytes : List ℕ) (p : Part) : Type 0 where
  part : List ℕ
  later : List ℕ
  pieces : List Piece
  cut : Cut bytes part later
  read : pieces_of (undashed part) ≡ Some pieces
  is : p ≡ part_at bytes part pieces

by_cut : (bytes : List ℕ) (p : Part) (o : Option (List ℕ × List ℕ)) → cut_of bytes ≡ o → part_by (digits_in_front bytes) o ≡ Some p → Found bytes p
by_cut bytes p None none is = cc
by_cut bytes p (Some x) some is =
    let found = map_some (part_at bytes x.0) (pieces_of (undashed x.0)) p is in
    record { part = x.0; later = x.1; pieces = found.0; cut = cut_is bytes x.0 x.1 some; read = found.1; is = sym found.2 }

part_found : (bytes : List ℕ) (p : Part) → part_of bytes ≡ Some p → Found bytes p
unfolding part_of
part_found bytes p is = by_cut bytes p (cut_of bytes) refl is

front_part : (b : ℕ) (bytes : List ℕ) (p : Part) (qs parts : List Part) (f : Found (b ∷ bytes) p) → ReadParts (part_length p - 1) bytes qs → p ∷ qs ≡ parts → ReadParts 0 (b ∷ bytes) parts
front_part b bytes p qs parts f read is =
    let size = cut_size (b ∷ bytes) f.part f.later f.cut in
    let n : ℕ = length (digits_in_front (b ∷ bytes)) + length f.part in
    let same : part_length p ≡ n = ap part_length f.is in
    let rest : f.later ≡ flat_map part_written qs =
    sym (cut_later (b ∷ bytes) f.part f.later f.cut) ∙ dropped n b bytes (omega (arith, size.2)) ∙ ap (λ k. drop (k - 1) bytes) (sym same) ∙ read.are in
    let good : IsPart p = subst IsPart (sym f.is) (cut_part (b ∷ bytes) f.part f.later f.pieces f.cut f.read) in
    subst (ReadParts 0 (b ∷ bytes)) is (record {
      within = omega arith;
      are = cut_whole (b ∷ bytes) f.part f.later f.cut ∙ ap (λ xs. (digits_in_front (b ∷ bytes) ++ f.part) ++ xs) rest ∙ ap (λ q. part_written q ++ flat_map part_written qs) (sym f.is);
      good = (good, read.good);
    })

pub parts_read : (k : ℕ) (bytes : List ℕ) (parts : List Part) → parts_from k bytes ≡ Some parts → ReadParts k bytes parts
unfolding parts_from
parts_read zero [] parts is = subst (ReadParts 0 []) (some_is is) (record { within = omega arith; are = refl; good = tt })
parts_read (suc k) [] parts is = cc
parts_read (suc k) (b ∷ bytes) parts is = let read = parts_read k bytes parts is in record { within = omega (arith, read.within); are = read.are; good = read.good }
parts_read zero (b ∷ bytes) parts is =
    let first = then_some (λ (q : Part). option_map (λ qs. q ∷ qs) (parts_from (part_length q - 1) bytes)) (part_of (b ∷ bytes)) parts is in
    let rest = map_some (λ qs. first.0 ∷ qs) (parts_from (part_length first.0 - 1) bytes) parts first.2 in
    front_part b bytes first.0 rest.0 parts (part_found (b ∷ bytes) first.0 first.1) (parts_read (part_length first.0 - 1) bytes rest.0 rest.1) rest.2

-- A length is above 0, so a part has bytes.
some_value : (number : List ℕ) → is_number number ≡ true → 0 < digits_value 10 number
some_value [] is = cc
some_value (d ∷ digits) is =
    let two = and_true {a = not (d == 48)} {b = list_all is_digit (d ∷ digits)} is in
    let first = and_true {a = is_digit d} {b = list_all is_digit digits} two.1 in
    let other : (d == 48) ≡ false = not_true two.0 in
    let low : 48 < d = grind (arith, nat_tests) in
    omega (arith, digits_value-take-le 10 (d ∷ digits) 1 (omega arith), digit_is d first.0)

begins_more : (bytes after : List ℕ) → 0 < length bytes → begins_with_digit bytes ≡ false → begins_with_digit (bytes ++ after) ≡ false
begins_more [] after some none = absurd (omega arith)
begins_more (b ∷ bytes) after some none = none

digits_are : (number after : List ℕ) → list_all is_digit number ≡ true → begins_with_digit after ≡ false → digits_in_front (number ++ after) ≡ number
unfolding digits_in_front
digits_are [] [] all none = refl
digits_are [] (b ∷ after) all none = ap (λ t. cond t (b ∷ digits_in_front after) []) none
digits_are (d ∷ number) after all none =
    let two = and_true {a = is_digit d} {b = list_all is_digit number} all in
    ap (λ t. cond t (d ∷ digits_in_front (number ++ after)) []) two.0 ∙ ap (λ xs. d ∷ xs) (digits_are number after two.1 none)

all_digits : (number : List ℕ) → is_number number ≡ true → list_all is_digit number ≡ true
all_digits [] is = refl
all_digits (d ∷ digits) is = (and_true {a = not (d == 48)} {b = list_all is_digit (d ∷ digits)} is).1

both_are : {a b c d : List ℕ} → a ≡ c → b ≡ d → ◌≡◌ {A = Option (List ℕ × List ℕ)} (Some (a, b)) (Some (c, d))
both_are first second = cc

part_cut : (p : Part) (after : List ℕ) → IsPart p → (digits_in_front ((p.number ++ p.bytes) ++ after) ≡ p.number) × (cut_of ((p.number ++ p.bytes) ++ after) ≡ Some (p.bytes, after))
part_cut p after is =
    let bytes : List ℕ = (p.number ++ p.bytes) ++ after in
    let whole : bytes ≡ p.number ++ (p.bytes ++ after) = append_assoc p.number p.bytes after in
    let some : 0 < length p.bytes = omega (arith, is.length, some_value p.number is.number) in
    let digits : digits_in_front bytes ≡ p.number = ap digits_in_front whole ∙ digits_are p.number (p.bytes ++ after) (all_digits p.number is.number) (begins_more p.bytes after some is.begins) in
    let back : drop (length p.number) bytes ≡ p.bytes ++ after = ap (drop (length p.number)) whole ∙ drop-append_seam p.number (p.bytes ++ after) in
    let front : take (length p.number) bytes ≡ p.number = ap (take (length p.number)) whole ∙ take-append_seam p.number (p.bytes ++ after) in
    let number : number_upto (length (p.bytes ++ after)) p.number ≡ Some (length p.bytes) =
    number_by (length (p.bytes ++ after)) p.number is.number (omega (arith, is.length, length-append p.bytes after)) ∙ ap Some is.length in (
      digits,
      cut_at bytes (length p.number) (ap length (sym digits))
          ∙ ap (λ xs. cut_by xs (number_upto (length xs) (take (length p.number) bytes))) back
          ∙ ap (λ ds. cut_by (p.bytes ++ after) (number_upto (length (p.bytes ++ after)) ds)) front
          ∙ ap (cut_by (p.bytes ++ after)) number
          ∙ both_are (take-append_seam p.bytes after) (drop-append_seam p.bytes after),
    )

pub parts_found : (parts : List Part) → AreParts parts → parts_of (flat_map part_written parts) ≡ Some parts
unfolding parts_of parts_from
parts_found [] are = refl
parts_found (p ∷ parts) are =
    let after : List ℕ = flat_map part_written parts in
    let bytes : List ℕ = (p.number ++ p.bytes) ++ after in
    let cut = part_cut p after are.0 in
    let read : pieces_of (undashed p.bytes) ≡ Some p.pieces = ap pieces_of are.0.read ∙ pieces_found p.pieces are.0.pieces in
    parts_step bytes p.bytes after cut.1
    ∙ ap (option_and_then (λ ps. option_map (λ rest. part_at bytes p.bytes ps ∷ rest) (parts_of after))) read
    ∙ ap (option_map (λ rest. part_at bytes p.bytes p.pieces ∷ rest)) (parts_found parts are.1)
    ∙ ap (λ n. Some (record { number = n; bytes = p.bytes; pieces = p.pieces } ∷ parts)) cut.0
