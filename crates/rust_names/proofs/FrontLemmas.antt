-- The piece at the start of the bytes, and its bytes, for `sign_of`, `code_of` and `piece_of`.
use Rattle.std.proofs.Common.{◌≡◌, ◌≢◌, ℕ, ◌+◌, ◌*◌, ◌/◌, ◌%◌, ◌<◌, ◌==◌, ◌&&◌, cond, Bool, true, false, not, List, [], ◌∷◌, ◌++◌, length, drop, get_or, codes, Option, Some, None, nat_lt, nat_le, nat_eq, refl, sym, ◌∙◌, ap, arith, subst, zero, suc, take}
use Rattle.std.specs.List.{list_all, starts_with}
use Rattle.std.proofs.lemmas.Bool.{leb-true}
use Rattle.std.proofs.lemmas.Bool.Decides.{nat_tests, Decides-eqb}
use Rattle.std.proofs.lemmas.Slice.Eq.{starts_is}
use Rattle.sym_rules.proofs.BoolLemmas.{and_true, both, not_true, not_false, elim_bool}
use Rattle.rust_names.specs.declared.piece.Piece.{Piece}
use Rattle.rust_names.specs.declared.piece.Piece.TheVariants.{At, Star, And, Less, Greater, Opening, Closing, Comma, Code, Scope, Plain}
use Rattle.rust_names.specs.Legacy.{low_hex, written, begins_with_dot, is_piece}
use Rattle.rust_names.specs.V0Numbers.{hex_digit}
use Rattle.rust_names.specs.internal.Reading.{sign_of, byte_of, code_of, or_code, plain_piece, front_piece, piece_of}

-- Bytes with a given prefix are the prefix and the bytes after it.
pub begins : (bytes front : List ℕ) → starts_with nat_eq bytes front ≡ true → bytes ≡ front ++ drop (length front) bytes
begins bytes front is = (starts_is Decides-eqb bytes front (starts_with nat_eq bytes front) refl).0 is

-- The piece is a prefix of the bytes.
abbrev pub IsFront : List ℕ → Piece → Type 0
IsFront bytes p = (bytes ≡ written p ++ drop (length (written p)) bytes) × (is_piece p (drop (length (written p)) bytes) ≡ true)

chosen_is : {A : Type 0} (Q : A → Type 0) (t : Bool) (q p : A) (x : Option A) → (t ≡ true → Q q) → (x ≡ Some p → Q p) → cond t (Some q) x ≡ Some p → Q p
chosen_is Q true q p x here later is = let same : q ≡ p = cc in subst Q same (here refl)
chosen_is Q false q p x here later is = later is

-- An escape that stands for a sign.
sign_front : (bytes : List ℕ) (p : Piece) → sign_of bytes ≡ Some p → IsFront bytes p
unfolding sign_of
sign_front bytes p is =
    let Q : Piece → Type 0 = IsFront bytes in
    chosen_is Q (starts_with nat_eq bytes (codes "$SP$")) At p _ (λ t. (begins bytes (codes "$SP$") t, refl)) (λ is.
    chosen_is Q (starts_with nat_eq bytes (codes "$BP$")) Star p _ (λ t. (begins bytes (codes "$BP$") t, refl)) (λ is.
    chosen_is Q (starts_with nat_eq bytes (codes "$RF$")) And p _ (λ t. (begins bytes (codes "$RF$") t, refl)) (λ is.
    chosen_is Q (starts_with nat_eq bytes (codes "$LT$")) Less p _ (λ t. (begins bytes (codes "$LT$") t, refl)) (λ is.
    chosen_is Q (starts_with nat_eq bytes (codes "$GT$")) Greater p _ (λ t. (begins bytes (codes "$GT$") t, refl)) (λ is.
    chosen_is Q (starts_with nat_eq bytes (codes "$LP$")) Opening p _ (λ t. (begins bytes (codes "$LP$") t, refl)) (λ is.
    chosen_is Q (starts_with nat_eq bytes (codes "$RP$")) Closing p _ (λ t. (begins bytes (codes "$RP$") t, refl)) (λ is.
    chosen_is Q (starts_with nat_eq bytes (codes "$C$")) Comma p None (λ t. (begins bytes (codes "$C$") t, refl)) (λ is. cc) is) is) is) is) is) is) is) is

-- Hexadecimal digits.

hex_is : (b v : ℕ) → hex_digit b ≡ Some v → (low_hex v ≡ b) × (v < 16)
hex_is b v is = grind (arith, nat_tests)

pub value_is : (v : ℕ) → v < 16 → hex_digit (low_hex v) ≡ Some v
value_is v small = grind (arith, nat_tests)

parts_of_byte : (high low : ℕ) → low < 16 → ((high * 16 + low) / 16 ≡ high) × ((high * 16 + low) % 16 ≡ low)
parts_of_byte high low small = (omega arith, omega arith)

-- An escape that gives the code of a byte.
byte_front : (bytes after : List ℕ) (h l : ℕ) (high low : Option ℕ) (p : Piece) → bytes ≡ 36 ∷ 117 ∷ h ∷ l ∷ 36 ∷ after → hex_digit h ≡ high → hex_digit l ≡ low → byte_of high low ≡ Some p → IsFront bytes p
byte_front bytes after h l None low p is is_high is_low found = cc
byte_front bytes after h l (Some high) None p is is_high is_low found = cc
byte_front bytes after h l (Some high) (Some low) p is is_high is_low found =
    let first = hex_is h high is_high in
    let second = hex_is l low is_low in
    let both_are = parts_of_byte high low second.1 in
    let well : bytes ≡ written (Code (high * 16 + low)) ++ after =
    is ∙ ap (λ x. 36 ∷ 117 ∷ x ∷ l ∷ 36 ∷ after) (sym (ap low_hex both_are.0 ∙ first.0)) ∙ ap (λ x. 36 ∷ 117 ∷ low_hex ((high * 16 + low) / 16) ∷ x ∷ 36 ∷ after) (sym (ap low_hex both_are.1 ∙ second.0)) in
    chosen_is (IsFront bytes) (nat_le 32 (high * 16 + low) && nat_le (high * 16 + low) 126) (Code (high * 16 + low)) p None
    (λ t. (subst (λ (xs : List ℕ). xs ≡ written (Code (high * 16 + low)) ++ drop 5 xs) (sym well) refl, t)) (λ none. cc) found

code_front : (bytes : List ℕ) (p : Piece) → get_or bytes 0 0 ≡ 36 → code_of bytes ≡ Some p → IsFront bytes p
unfolding code_of
code_front [] p dollar is = cc
code_front (a ∷ []) p dollar is = cc
code_front (a ∷ b ∷ []) p dollar is = cc
code_front (a ∷ b ∷ c ∷ []) p dollar is = cc
code_front (a ∷ b ∷ c ∷ d ∷ []) p dollar is = cc
code_front (a ∷ b ∷ c ∷ d ∷ e ∷ after) p dollar is =
    let long : nat_lt (length (a ∷ b ∷ c ∷ d ∷ e ∷ after)) 5 ≡ false = grind (arith, nat_tests) in
    let inner : cond (b == 117 && e == 36) (byte_of (hex_digit c) (hex_digit d)) None ≡ Some p = ap (λ t. cond t None (cond (b == 117 && e == 36) (byte_of (hex_digit c) (hex_digit d)) None)) (sym long) ∙ is in
    elim_bool (b == 117 && e == 36) (λ t. cond t (byte_of (hex_digit c) (hex_digit d)) None ≡ Some p → IsFront (a ∷ b ∷ c ∷ d ∷ e ∷ after) p)
    (λ t found.
    let marks = and_true {a = b == 117} {b = e == 36} t in
    let first : b ≡ 117 = grind (arith, nat_tests) in
    let last : e ≡ 36 = grind (arith, nat_tests) in
    let same : (a ∷ b ∷ c ∷ d ∷ e ∷ after) ≡ (36 ∷ 117 ∷ c ∷ d ∷ 36 ∷ after) = cc in
    byte_front (a ∷ b ∷ c ∷ d ∷ e ∷ after) after c d (hex_digit c) (hex_digit d) p same refl refl found)
    (λ t none. cc) inner

or_front : (bytes : List ℕ) (p : Piece) (sign : Option Piece) → sign_of bytes ≡ sign → get_or bytes 0 0 ≡ 36 → or_code sign bytes ≡ Some p → IsFront bytes p
or_front bytes p None none dollar is = code_front bytes p dollar is
or_front bytes p (Some q) some dollar is = sign_front bytes p (some ∙ is)

dots_are : (b : ℕ) (bytes : List ℕ) → (b == 46 && begins_with_dot bytes) ≡ true → b ∷ bytes ≡ codes ".." ++ drop 1 bytes
dots_are b [] is = let two = and_true {a = b == 46} {b = false} is in cc
dots_are b (c ∷ bytes) is =
    let two = and_true {a = b == 46} {b = c == 46} is in
    let first : b ≡ 46 = grind (arith, nat_tests) in
    let second : c ≡ 46 = grind (arith, nat_tests) in
    cc

-- The piece that is found is a prefix of the bytes.
pub piece_front : (bytes : List ℕ) (p : Piece) → piece_of bytes ≡ Some p → IsFront bytes p
unfolding piece_of
piece_front [] p is = cc
piece_front (b ∷ bytes) p is =
    elim_bool (b == 36) (λ t. cond t (or_code (sign_of (b ∷ bytes)) (b ∷ bytes)) (cond (b == 46 && begins_with_dot bytes) (Some Scope) (cond (nat_le 33 b && nat_le b 126) (Some (Plain b)) None)) ≡ Some p → IsFront (b ∷ bytes) p)
    (λ dollar found. or_front (b ∷ bytes) p (sign_of (b ∷ bytes)) refl (let same : b ≡ 36 = grind (arith, nat_tests) in same) found)
    (λ other found.
    elim_bool (b == 46 && begins_with_dot bytes) (λ t. cond t (Some Scope) (cond (nat_le 33 b && nat_le b 126) (Some (Plain b)) None) ≡ Some p → IsFront (b ∷ bytes) p)
    (λ dots is. let same : Scope ≡ p = cc in subst (IsFront (b ∷ bytes)) same (dots_are b bytes dots, refl))
    (λ none is. chosen_is (IsFront (b ∷ bytes)) (nat_le 33 b && nat_le b 126) (Plain b) p None
    (λ shown. (refl, both (both shown (not_false other)) (not_false none))) (λ none. cc) is)
    found)
    is

-- Lemmas for `piece_of`.
pub piece_none : (bytes : List ℕ) → length bytes ≡ 0 → None ≡ piece_of bytes
unfolding piece_of
piece_none [] none = refl
piece_none (b ∷ bytes) none = absurd (omega arith)

pub piece_at : (bytes : List ℕ) → length bytes ≢ 0 → piece_of bytes ≡ front_piece (get_or bytes 0 0) bytes
unfolding piece_of
piece_at [] some = absurd (some refl)
piece_at (b ∷ bytes) some = refl

code_here : (h l : ℕ) (after : List ℕ) → code_of (36 ∷ 117 ∷ h ∷ l ∷ 36 ∷ after) ≡ byte_of (hex_digit h) (hex_digit l)
unfolding code_of
code_here h l after =
    let long : nat_lt (length (36 ∷ 117 ∷ h ∷ l ∷ 36 ∷ after)) 5 ≡ false = grind (arith, nat_tests) in
    ap (λ t. cond t None (byte_of (hex_digit h) (hex_digit l))) long

-- If bytes begin with a piece, this piece is found.
pub found_piece : (p : Piece) (after : List ℕ) → is_piece p after ≡ true → piece_of (written p ++ after) ≡ Some p
unfolding piece_of sign_of
found_piece At after is = refl
found_piece Star after is = refl
found_piece And after is = refl
found_piece Less after is = refl
found_piece Greater after is = refl
found_piece Opening after is = refl
found_piece Closing after is = refl
found_piece Comma after is = refl
found_piece (Code b) after is =
    let two = and_true {a = nat_le 32 b} {b = nat_le b 126} is in
    let high : hex_digit (low_hex (b / 16)) ≡ Some (b / 16) = value_is (b / 16) (omega (arith, leb-true b 126 two.1)) in
    let low : hex_digit (low_hex (b % 16)) ≡ Some (b % 16) = value_is (b % 16) (omega arith) in
    let whole : b / 16 * 16 + b % 16 ≡ b = omega arith in
    code_here (low_hex (b / 16)) (low_hex (b % 16)) after
    ∙ ap (λ h. byte_of h (hex_digit (low_hex (b % 16)))) high ∙ ap (λ l. byte_of (Some (b / 16)) l) low
    ∙ ap (λ n. cond (nat_le 32 n && nat_le n 126) (Some (Code n)) None) whole ∙ ap (λ t. cond t (Some (Code b)) None) is
found_piece Scope after is = refl
found_piece (Plain b) after is =
    let first = and_true {a = nat_le 33 b && nat_le b 126 && not (b == 36)} {b = not (b == 46 && begins_with_dot after)} is in
    let second = and_true {a = nat_le 33 b && nat_le b 126} {b = not (b == 36)} first.0 in
    ap (λ t. cond t (or_code (sign_of (b ∷ after)) (b ∷ after)) (cond (b == 46 && begins_with_dot after) (Some Scope) (cond (nat_le 33 b && nat_le b 126) (Some (Plain b)) None))) (not_true second.1)
    ∙ ap (λ t. cond t (Some Scope) (cond (nat_le 33 b && nat_le b 126) (Some (Plain b)) None)) (not_true first.1)
    ∙ ap (λ t. cond t (Some (Plain b)) None) second.0

-- A test of a list's length.
pub not_empty : {A : Type 0} {b : Bool} (xs : List A) → b ≡ (length xs == 0) → b ≡ false → length xs ≢ 0
not_empty xs is none = grind (arith, nat_tests)

pub is_empty : {A : Type 0} {b : Bool} (xs : List A) → b ≡ (length xs == 0) → b ≡ true → length xs ≡ 0
is_empty xs is none = grind (arith, nat_tests)

-- A byte that is neither `$` nor the first of two dots.
pub piece_plain : (bytes : List ℕ) → length bytes ≢ 0 → get_or bytes 0 0 ≢ 36 → (get_or bytes 0 0 == 46 && begins_with_dot (drop 1 bytes)) ≡ false → plain_piece (get_or bytes 0 0) ≡ piece_of bytes
piece_plain bytes some other none =
    let first : (get_or bytes 0 0 == 36) ≡ false = grind (arith, nat_tests) in
    sym (piece_at bytes some
    ∙ ap (λ t. cond t (or_code (sign_of bytes) bytes) (cond (get_or bytes 0 0 == 46 && begins_with_dot (drop 1 bytes)) (Some Scope) (plain_piece (get_or bytes 0 0)))) first
    ∙ ap (λ t. cond t (Some Scope) (plain_piece (get_or bytes 0 0))) none)

pub no_dots : (a b : Bool) → b ≡ false → (a && b) ≡ false
no_dots true b none = none
no_dots false b none = refl

pub no_dot : (a : ℕ) (b : Bool) → a ≢ 46 → (a == 46 && b) ≡ false
no_dot a b other = let none : (a == 46) ≡ false = grind (arith, nat_tests) in ap (λ t. t && b) none

-- How many bytes at the start pass a test, with one byte more.
plus : (i : ℕ) → suc i + 1 ≡ suc (i + 1)
plus i = omega arith

pub every_more : (p : ℕ → Bool) (xs : List ℕ) (i : ℕ) → i < length xs → list_all p (take i xs) ≡ true → p (get_or xs i 0) ≡ true → list_all p (take (i + 1) xs) ≡ true
every_more p [] i within all passes = absurd (omega arith)
every_more p (x ∷ xs) zero within all passes = both passes refl
every_more p (x ∷ xs) (suc i) within all passes =
    let two = and_true {a = p x} {b = list_all p (take i xs)} all in
    ap (λ k. list_all p (take k (x ∷ xs))) (plus i) ∙ both two.0 (every_more p xs i (omega arith) two.1 passes)
