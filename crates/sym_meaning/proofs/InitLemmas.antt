-- Records around frame records, and INITs that are not empty (for the laws on the frame records of
-- a file).
use Rattle.std.proofs.Common.{◌≡◌, ℕ, ◌+◌, ◌-◌, ◌<◌, ◌^◌, Bool, true, false, ◌&&◌, nat_le, nat_lt, cond, List, [], ◌∷◌, ◌++◌, arith, refl, ap, ◌∙◌, count_by}
use Rattle.std.proofs.lemmas.Bool.{and_parts}
use Rattle.std.proofs.lemmas.Bool.Decides.{nat_tests}
use Rattle.std.proofs.lemmas.List.Sums.{sum_by-append}
use Rattle.std.specs.List.{fold, list_all}
use Rattle.sym_records.specs.declared.line.SymLine.{SymLine}
use Rattle.sym_records.specs.declared.line.SymLine.TheVariants.{Func, Inline, Line, Init, Change}
use Rattle.sym_meaning.specs.Plain.{ArePlain}
use Rattle.sym_meaning.specs.Findings.{are_sized}
use Rattle.sym_meaning.specs.Inits.{init_covers, inits_at, AreNested, is_frameless}

-- Two lists without frame records.
pub both_frameless : (xs ys : List SymLine) → list_all is_frameless xs ≡ true → list_all is_frameless ys ≡ true → list_all is_frameless (xs ++ ys) ≡ true
both_frameless [] ys first second = second
both_frameless (x ∷ xs) ys first second =
    let parts = and_parts (is_frameless x) (list_all is_frameless xs) first in
    ap (λ b. b && list_all is_frameless (xs ++ ys)) parts.0 ∙ both_frameless xs ys parts.1 second

-- Records other than INIT cover no address.
line_plain : (x : ℕ) (s : SymLine) → is_frameless s ≡ true → init_covers x s ≡ false
line_plain x (Init address size rules) plain = cc
line_plain x s plain = refl

covered_after : (x : ℕ) (front rest : List SymLine) → list_all is_frameless front ≡ true → count_by (init_covers x) (front ++ rest) ≡ count_by (init_covers x) rest
covered_after x [] rest plain = refl
covered_after x (s ∷ front) rest plain =
    let parts = and_parts (is_frameless s) (list_all is_frameless front) plain in
    ap (λ t. fold (λ count line. count + cond (init_covers x line) 1 0) (0 + cond t 1 0) (front ++ rest)) (line_plain x s parts.0) ∙ covered_after x front rest parts.1

pub covers_after : (x : ℕ) (front rest : List SymLine) → list_all is_frameless front ≡ true → inits_at (front ++ rest) x ≡ inits_at rest x
unfolding inits_at
covers_after x front rest plain = covered_after x front rest plain

-- Nested frame records stay nested after records without frames.
pub nested_after : (front rest : List SymLine) → list_all is_frameless front ≡ true → AreNested 0 0 rest → AreNested 0 0 (front ++ rest)
nested_after [] rest plain nested = nested
nested_after (Init address size rules ∷ front) rest plain nested = cc
nested_after (Change address rules ∷ front) rest plain nested = cc
nested_after (s ∷ front) rest plain nested = nested_after front rest plain nested

pub counted : (b : Bool) → 0 + cond b 1 0 ≡ cond b 1 0
counted true = refl
counted false = refl

inits_more : (s : SymLine) (lines : List SymLine) (x : ℕ) → inits_at (s ∷ lines) x ≡ cond (init_covers x s) 1 0 + inits_at lines x
unfolding inits_at
inits_more s lines x = sum_by-append (λ l. cond (init_covers x l) 1 0) (s ∷ []) lines ∙ ap (λ k. k + inits_at lines x) (counted (init_covers x s))

-- An INIT that is not empty covers its last address.
last_covered : (address size : ℕ) → 0 < size → (nat_le address (address + size - 1) && nat_lt (address + size - 1) (address + size)) ≡ true
last_covered address size some = grind (arith, nat_tests)

sized_by : (limit address size : ℕ) → 0 < size → address + size < limit → (nat_lt 0 size && nat_lt (address + size) limit) ≡ true
sized_by limit address size some small = grind (arith, nat_tests)

-- For each address that an INIT covers, the next address is below a bound.
abbrev pub CoverBelow : ℕ → List SymLine → Type 0
CoverBelow limit lines = (x : ℕ) → 0 < inits_at lines x → x + 1 < limit

cover_rest : (limit : ℕ) (s : SymLine) (lines : List SymLine) → CoverBelow limit (s ∷ lines) → CoverBelow limit lines
cover_rest limit s lines below x some =
    let more : inits_at (s ∷ lines) x ≡ cond (init_covers x s) 1 0 + inits_at lines x = inits_more s lines x in
    below x (omega (arith, more, some))

init_sized : (limit address size : ℕ) (s : SymLine) (lines : List SymLine) → 0 < size → CoverBelow limit (s ∷ lines) → init_covers (address + size - 1) s ≡ true → address + size < limit
init_sized limit address size s lines some below covered =
    let x : ℕ = address + size - 1 in
    let more : inits_at (s ∷ lines) x ≡ 1 + inits_at lines x = inits_more s lines x ∙ ap (λ b. cond b 1 0 + inits_at lines x) covered in
    let end : x + 1 < limit = below x (omega (arith, more)) in
    omega (arith, end)

pub lines_sized : (last end : ℕ) (lines : List SymLine) → ArePlain lines → AreNested last end lines → CoverBelow (2 ^ 64) lines → list_all are_sized lines ≡ true
lines_sized last end [] plain nested below = refl
lines_sized last end (Func many address size params name ∷ lines) plain nested below = absurd plain.0
lines_sized last end (Inline level line file origin ranges ∷ lines) plain nested below = absurd plain.0
lines_sized last end (Line address size line file ∷ lines) plain nested below = absurd plain.0
lines_sized last end (Init address size rules ∷ lines) plain nested below =
    ap (λ b. (b && true) && list_all are_sized lines) (sized_by (2 ^ 64) address size nested.0 (init_sized (2 ^ 64) address size (Init address size rules) lines nested.0 below (last_covered address size nested.0)))
    ∙ lines_sized address (address + size) lines plain.1 nested.1 (cover_rest (2 ^ 64) (Init address size rules) lines below)
lines_sized last end (Change address rules ∷ lines) plain nested below = lines_sized address end lines plain.1 nested.1.1 (cover_rest (2 ^ 64) (Change address rules) lines below)
lines_sized last end (s ∷ lines) plain nested below = lines_sized 0 0 lines plain.1 nested (cover_rest (2 ^ 64) s lines below)
