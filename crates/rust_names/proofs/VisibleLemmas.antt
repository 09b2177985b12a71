-- What a name shows may be a name in a record, for `shown` and `show_all`.
use Rattle.std.proofs.Common.{◌≡◌, ℕ, ◌≤◌, ◌==◌, ◌&&◌, true, not, List, [], ◌∷◌, ◌++◌, length, codes, nat_le, refl, ◌∙◌, ap, arith}
use Rattle.std.specs.List.{flat_map, list_all}
use Rattle.std.proofs.lemmas.Bool.{leb-true, le-leb}
use Rattle.std.proofs.lemmas.List.Folds.{list_all-append}
use Rattle.sym_rules.proofs.BoolLemmas.{and_true, both, not_true}
use Rattle.clean_names.specs.Names.{is_name}
use Rattle.clean_names.proofs.CleaningLemmas.{is_shown}
use Rattle.sym_records.proofs.MakingLemmas.{shown_name}
use Rattle.rust_names.specs.declared.piece.Piece.{Piece}
use Rattle.rust_names.specs.declared.piece.Piece.TheVariants.{At, Star, And, Less, Greater, Opening, Closing, Comma, Code, Scope, Plain}
use Rattle.rust_names.specs.Legacy.{written, shown, is_piece, ArePieces, Part, AreParts, joined, begins_with_dot, is_shown_text, IsLegacy}

all_both : (xs ys : List ℕ) → list_all is_shown xs ≡ true → list_all is_shown ys ≡ true → list_all is_shown (xs ++ ys) ≡ true
all_both xs ys first second = list_all-append is_shown xs ys ∙ both first second

piece_visible : (p : Piece) (after : List ℕ) → is_piece p after ≡ true → list_all is_shown (shown p) ≡ true
piece_visible At after is = refl
piece_visible Star after is = refl
piece_visible And after is = refl
piece_visible Less after is = refl
piece_visible Greater after is = refl
piece_visible Opening after is = refl
piece_visible Closing after is = refl
piece_visible Comma after is = refl
piece_visible (Code b) after is = both (and_true {a = nat_le 32 b} {b = nat_le b 126} is).0 refl
piece_visible Scope after is = refl
piece_visible (Plain b) after is =
    let first = and_true {a = nat_le 33 b && nat_le b 126 && not (b == 36)} {b = not (b == 46 && begins_with_dot after)} is in
    let second = and_true {a = nat_le 33 b && nat_le b 126} {b = not (b == 36)} first.0 in
    let third = and_true {a = nat_le 33 b} {b = nat_le b 126} second.0 in
    both (le-leb 32 b (omega (arith, leb-true 33 b third.0))) refl

pieces_visible : (ps : List Piece) → ArePieces ps → list_all is_shown (flat_map shown ps) ≡ true
pieces_visible [] are = refl
pieces_visible (p ∷ ps) are = all_both (shown p) (flat_map shown ps) (piece_visible p (flat_map written ps) are.0) (pieces_visible ps are.1)

later_visible : (parts : List Part) → AreParts parts → list_all is_shown (flat_map (λ (q : Part). codes "::" ++ flat_map shown q.pieces) parts) ≡ true
later_visible [] are = refl
later_visible (p ∷ parts) are =
    all_both (codes "::" ++ flat_map shown p.pieces) (flat_map (λ (q : Part). codes "::" ++ flat_map shown q.pieces) parts)
    (all_both (codes "::") (flat_map shown p.pieces) refl (pieces_visible p.pieces are.0.pieces)) (later_visible parts are.1)

parts_visible : (parts : List Part) → AreParts parts → list_all is_shown (joined parts) ≡ true
parts_visible [] are = refl
parts_visible (p ∷ parts) are =
    all_both (flat_map shown p.pieces) (flat_map (λ (q : Part). codes "::" ++ flat_map shown q.pieces) parts) (pieces_visible p.pieces are.0.pieces) (later_visible parts are.1)

text_named : (text : List ℕ) → list_all is_shown text ≡ true → is_shown_text text ≡ true → is_name text ≡ true
text_named [] all fits = cc
text_named (b ∷ bytes) all fits = shown_name b bytes (not_true (and_true {a = not (b == 32)} {b = nat_le (length (b ∷ bytes)) 65536} fits).0) all

pub legacy_named : (name text : List ℕ) → IsLegacy name text → is_name text ≡ true
legacy_named name text is = text_named text (ap (list_all is_shown) is.shows ∙ parts_visible is.parts is.read) is.fits

text_short : (text : List ℕ) → is_shown_text text ≡ true → length text ≤ 65536
text_short [] fits = cc
text_short (b ∷ bytes) fits = leb-true (length (b ∷ bytes)) 65536 (and_true {a = not (b == 32)} {b = nat_le (length (b ∷ bytes)) 65536} fits).1

pub legacy_short : (name text : List ℕ) → IsLegacy name text → length text ≤ 65536
legacy_short name text is = text_short text is.fits
