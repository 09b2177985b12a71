-- Bytes as pieces, for `piece_of` and `add_pieces`.
use Rattle.std.proofs.Common.{◌≡◌, ◌≢◌, ℕ, ◌-◌, ◌<◌, ◌≤◌, zero, suc, true, false, List, [], ◌∷◌, ◌++◌, length, drop, Option, Some, None, refl, sym, ◌∙◌, ap, arith, length-append, append-nil, nat_le, ◌==◌, ◌&&◌, not, ◌+◌, take, get_or}
use Rattle.std.specs.List.{flat_map, list_all}
use Rattle.std.specs.Option.{option_map, option_and_then}
use Rattle.std.proofs.lemmas.List.{append_assoc, take-append-drop}
use Rattle.sym_rules.proofs.BoolLemmas.{and_true, both, not_true}
use Rattle.rust_names.specs.declared.piece.Piece.{Piece}
use Rattle.rust_names.specs.declared.piece.Piece.TheVariants.{At, Star, And, Less, Greater, Opening, Closing, Comma, Code, Scope, Plain}
use Rattle.rust_names.specs.Legacy.{written, shown, is_piece, begins_with_dot}
use Rattle.rust_names.specs.internal.Reading.{piece_of, pieces_from, pieces_of, is_plain, pieces_text, kept}
use Rattle.rust_names.proofs.FrontLemmas.{piece_front, found_piece, every_more}

pub piece_within : (bytes : List ℕ) (p : Piece) → piece_of bytes ≡ Some p → length (written p) ≤ length bytes
piece_within bytes p is = omega (arith, ap length (piece_front bytes p is).0, length-append (written p) (drop (length (written p)) bytes))

-- A piece has at least one byte.
pub some_written : (p : Piece) → 0 < length (written p)
some_written At = omega arith
some_written Star = omega arith
some_written And = omega arith
some_written Less = omega arith
some_written Greater = omega arith
some_written Opening = omega arith
some_written Closing = omega arith
some_written Comma = omega arith
some_written (Code b) = omega arith
some_written Scope = omega arith
some_written (Plain b) = omega arith

skipped : (k : ℕ) (bytes : List ℕ) → k ≤ length bytes → pieces_from k bytes ≡ pieces_of (drop k bytes)
unfolding pieces_of pieces_from
skipped zero bytes within = refl
skipped (suc k) [] within = absurd (omega arith)
skipped (suc k) (b ∷ bytes) within = skipped k bytes (omega arith)

pub dropped : (n b : ℕ) (bytes : List ℕ) → 0 < n → drop n (b ∷ bytes) ≡ drop (n - 1) bytes
dropped zero b bytes some = absurd (omega arith)
dropped (suc n) b bytes some = ap (λ k. drop k bytes) (omega arith)

-- The first piece and the later ones.
pub pieces_step : (bytes : List ℕ) (p : Piece) → piece_of bytes ≡ Some p → pieces_of bytes ≡ option_map (λ ps. p ∷ ps) (pieces_of (drop (length (written p)) bytes))
unfolding pieces_of pieces_from piece_of
pieces_step [] p is = cc
pieces_step (b ∷ bytes) p is =
    ap (option_and_then (λ q. option_map (λ ps. q ∷ ps) (pieces_from (length (written q) - 1) bytes))) is
    ∙ ap (option_map (λ ps. p ∷ ps)) (skipped (length (written p) - 1) bytes (omega (arith, piece_within (b ∷ bytes) p is)) ∙ ap pieces_of (sym (dropped (length (written p)) b bytes (some_written p))))

-- If no piece is at the start, the bytes are no pieces.
pub pieces_stop : (bytes : List ℕ) → length bytes ≢ 0 → piece_of bytes ≡ None → pieces_of bytes ≡ None
unfolding pieces_of pieces_from
pieces_stop [] some none = absurd (some refl)
pieces_stop (b ∷ bytes) some none = ap (option_and_then (λ q. option_map (λ ps. q ∷ ps) (pieces_from (length (written q) - 1) bytes))) none

-- Lemmas for `add_pieces`.

pub pieces_end : (bytes text : List ℕ) (whole : Option (List ℕ)) → length bytes ≡ 0 → whole ≡ option_map (λ t. text ++ t) (pieces_text bytes) → whole ≡ kept true text
unfolding pieces_text pieces_of pieces_from
pieces_end [] text whole none is = is ∙ ap Some (append-nil text)
pieces_end (b ∷ bytes) text whole none is = absurd (omega arith)

pub pieces_none : (bytes text : List ℕ) (whole : Option (List ℕ)) → length bytes ≢ 0 → None ≡ piece_of bytes → whole ≡ option_map (λ t. text ++ t) (pieces_text bytes) → whole ≡ kept false text
unfolding pieces_text
pieces_none bytes text whole some none is = is ∙ ap (λ o. option_map (λ t. text ++ t) (option_map (flat_map shown) o)) (pieces_stop bytes some (sym none))

shown_first : (text : List ℕ) (p : Piece) (o : Option (List Piece)) → option_map (λ t. text ++ t) (option_map (flat_map shown) (option_map (λ ps. p ∷ ps) o)) ≡ option_map (λ t. (text ++ shown p) ++ t) (option_map (flat_map shown) o)
shown_first text p None = refl
shown_first text p (Some ps) = ap Some (sym (append_assoc text (shown p) (flat_map shown ps)))

pub pieces_more : (bytes text : List ℕ) (p : Piece) (whole : Option (List ℕ)) → Some p ≡ piece_of bytes → whole ≡ option_map (λ t. text ++ t) (pieces_text bytes) → whole ≡ option_map (λ t. (text ++ shown p) ++ t) (pieces_text (drop (length (written p)) bytes))
unfolding pieces_text
pieces_more bytes text p whole found is =
    is ∙ ap (λ o. option_map (λ t. text ++ t) (option_map (flat_map shown) o)) (pieces_step bytes p (sym found)) ∙ shown_first text p (pieces_of (drop (length (written p)) bytes))

-- Bytes that stand for themselves.

plain_step : (b : ℕ) (bytes text : List ℕ) (whole : Option (List ℕ)) → is_plain b ≡ true → whole ≡ option_map (λ t. text ++ t) (pieces_text (b ∷ bytes)) → whole ≡ option_map (λ t. (text ++ b ∷ []) ++ t) (pieces_text bytes)
plain_step b bytes text whole plain is =
    let last = and_true {a = nat_le 33 b && nat_le b 126 && not (b == 36)} {b = not (b == 46)} plain in
    let fits : is_piece (Plain b) bytes ≡ true = both last.0 (ap (λ t. not (t && begins_with_dot bytes)) (not_true last.1)) in
    pieces_more (b ∷ bytes) text (Plain b) whole (sym (found_piece (Plain b) bytes fits)) is

pub plain_more : (run bytes text : List ℕ) (whole : Option (List ℕ)) → list_all is_plain run ≡ true → whole ≡ option_map (λ t. text ++ t) (pieces_text (run ++ bytes)) → whole ≡ option_map (λ t. (text ++ run) ++ t) (pieces_text bytes)
plain_more [] bytes text whole plain is = is ∙ ap (λ (xs : List ℕ). option_map (λ t. xs ++ t) (pieces_text bytes)) (sym (append-nil text))
plain_more (b ∷ run) bytes text whole plain is =
    let two = and_true {a = is_plain b} {b = list_all is_plain run} plain in
    plain_more run bytes (text ++ b ∷ []) whole two.1 (plain_step b (run ++ bytes) text whole two.0 is)
    ∙ ap (λ (xs : List ℕ). option_map (λ t. xs ++ t) (pieces_text bytes)) (append_assoc text (b ∷ []) run)

pub plain_front : (bytes : List ℕ) (i : ℕ) → i < length bytes → list_all is_plain (take i bytes) ≡ true → is_plain (get_or bytes i 0) ≡ true → list_all is_plain (take (i + 1) bytes) ≡ true
plain_front = every_more is_plain

-- The bytes that are left after bytes that stand for themselves.
pub plain_added : (rest plain after text new : List ℕ) (n : ℕ) (whole : Option (List ℕ)) → plain ≡ take n rest → after ≡ drop n rest → list_all is_plain (take n rest) ≡ true → new ≡ text ++ plain → whole ≡ option_map (λ t. text ++ t) (pieces_text rest) → whole ≡ option_map (λ t. new ++ t) (pieces_text after)
plain_added rest plain after text new n whole front back all added is =
    plain_more (take n rest) (drop n rest) text whole all (is ∙ ap (λ xs. option_map (λ t. text ++ t) (pieces_text xs)) (sym (take-append-drop n rest)))
    ∙ ap (λ (xs : List ℕ). option_map (λ t. xs ++ t) (pieces_text (drop n rest))) (ap (λ xs. text ++ xs) (sym front) ∙ sym added)
    ∙ ap (λ xs. option_map (λ t. new ++ t) (pieces_text xs)) (sym back)
