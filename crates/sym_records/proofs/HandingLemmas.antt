-- Records that are put into a buffer.
use Rattle.std.proofs.Common.{◌≡◌, ℕ, ◌+◌, ◌<◌, zero, suc, arith, take, get_or, List, [], ◌∷◌, ◌++◌, Option, Result, Ok, Err, length, refl, ◌∙◌, ap, subst, append-nil}
use Rattle.std.specs.List.{flat_map}
use Rattle.std.specs.Fmt.{decimal}
use Rattle.sym_rules.proofs.BufferLemmas.{hands_both, hands_off, Handed, hands_piece, hands_broken}
use Rattle.sym_rules.specs.Buffer.{Hands}
use Rattle.sym_records.specs.Canon.{body, canon}
use Rattle.sym_records.specs.Fields.{hex, spelled_range}
use Rattle.sym_records.specs.Listed.{said, spelled_field}
use Rattle.sym_records.specs.declared.field.Field.TheVariants as held
use Rattle.sym_records.specs.declared.line.Extent.{Extent}
use Rattle.sym_records.specs.declared.line.SymLine.{SymLine}
use Rattle.sym_records.specs.declared.line.SymLine.TheVariants as line

-- Two pieces that together spell one thing.
pub one_hands : {A F : Type 0} (p q all : List ℕ) (x : A) (end : Result A F) (a b c : Option (List ℕ)) (f g h : ℕ) (w v u : List ℕ) → p ++ q ≡ all → Hands {A = A} {F = F} (Ok x) a f w p b g v → Hands end b g v q c h u → Hands end a f w all c h u
one_hands p q all x end a b c f g h w v u is first second = subst (λ (l : List ℕ). Hands end a f w l c h u) is (hands_both x end a b c f g h w p v q u first second)

pub one_off : {A F : Type 0} (p q all : List ℕ) (d e : F) (a b : Option (List ℕ)) (f g : ℕ) (w v u : List ℕ) → p ++ q ≡ all → Hands {A = A} {F = F} (Err d) a f w p b g v → Hands {A = A} {F = F} (Err e) a f w all b g u
one_off {A = A} {F = F} p q all d e a b f g w v u is first = subst (λ (l : List ℕ). Hands {A = A} {F = F} (Err e) a f w l b g u) is (hands_off d e a b f g w p v q u first)

pub range_is : (r : Extent) → (32 ∷ hex r.address) ++ (32 ∷ hex r.size) ≡ spelled_range r
unfolding spelled_range
range_is r = refl

pub record_is : (s : SymLine) → body s ++ 10 ∷ [] ≡ canon s
unfolding canon
record_is s = refl

-- A line record: its first number, and then the other fields.
pub line_is : (address size number file : ℕ) (start : List ℕ) → start ≡ hex address → start ++ flat_map (λ f. spelled_field (said f)) (held.Hex size ∷ held.Decimal number ∷ held.Decimal file ∷ []) ≡ body (line.Line address size number file)
unfolding body
line_is address size number file start is =
    ap (λ l. l ++ ((32 ∷ hex size) ++ ((32 ∷ decimal number) ++ ((32 ∷ decimal file) ++ [])))) is
    ∙ ap (λ l. hex address ++ ((32 ∷ hex size) ++ ((32 ∷ decimal number) ++ l))) (append-nil (32 ∷ decimal file))

read_at : {X : Type 0} (xs : List X) (i : ℕ) (d e : X) → i < length xs → get_or xs i d ≡ get_or xs i e
read_at [] i d e within = absurd (omega arith)
read_at (x ∷ xs) zero d e within = refl
read_at (x ∷ xs) (suc i) d e within = read_at xs i d e (omega arith)

-- The next piece of a list, found by its place.
pub piece_at : {A F X : Type 0} (spelled : X → List ℕ) (xs : List X) (i : ℕ) (e : X) (x : A) (a b c : Option (List ℕ)) (f g h : ℕ) (w v u : List ℕ) → i < length xs
    → Handed a f w (flat_map spelled (take i xs)) b g v → Hands {A = A} {F = F} (Ok x) b g v (spelled (get_or xs i e)) c h u → Handed a f w (flat_map spelled (take (i + 1) xs)) c h u
piece_at spelled xs i e x a b c f g h w v u within first second = hands_piece spelled xs i (get_or xs i e) x a b c f g h w v u within (read_at xs i e (get_or xs i e) within) first second

pub broken_at : {A F X : Type 0} (spelled : X → List ℕ) (xs : List X) (i : ℕ) (e : X) (d k : F) (a b c : Option (List ℕ)) (f g h : ℕ) (w v u t : List ℕ) → i < length xs
    → Handed a f w (flat_map spelled (take i xs)) b g v → Hands {A = A} {F = F} (Err d) b g v (spelled (get_or xs i e)) c h u → Hands {A = A} {F = F} (Err k) a f w (flat_map spelled xs) c h t
broken_at spelled xs i e d k a b c f g h w v u t within first second = hands_broken spelled xs i (get_or xs i e) d k a b c f g h w v u t within (read_at xs i e (get_or xs i e) within) first second

pub same_piece : {A F X : Type 0} (spelled : X → List ℕ) (xs : List X) (i : ℕ) (d : X) (bytes : List ℕ) (x : A) (a b c : Option (List ℕ)) (f g h : ℕ) (w v u : List ℕ) → i < length xs → d ≡ get_or xs i d → bytes ≡ spelled d
    → Handed a f w (flat_map spelled (take i xs)) b g v → Hands {A = A} {F = F} (Ok x) b g v bytes c h u → Handed a f w (flat_map spelled (take (i + 1) xs)) c h u
same_piece {A = A} {F = F} spelled xs i d bytes x a b c f g h w v u within at is first second =
    hands_piece spelled xs i d x a b c f g h w v u within at first (subst (λ (l : List ℕ). Hands {A = A} {F = F} (Ok x) b g v l c h u) is second)

pub same_broken : {A F X : Type 0} (spelled : X → List ℕ) (xs : List X) (i : ℕ) (d : X) (bytes : List ℕ) (e k : F) (a b c : Option (List ℕ)) (f g h : ℕ) (w v u t : List ℕ) → i < length xs → d ≡ get_or xs i d → bytes ≡ spelled d
    → Handed a f w (flat_map spelled (take i xs)) b g v → Hands {A = A} {F = F} (Err e) b g v bytes c h u → Hands {A = A} {F = F} (Err k) a f w (flat_map spelled xs) c h t
same_broken {A = A} {F = F} spelled xs i d bytes e k a b c f g h w v u t within at is first second =
    hands_broken spelled xs i d e k a b c f g h w v u t within at first (subst (λ (l : List ℕ). Hands {A = A} {F = F} (Err e) b g v l c h u) is second)
