-- The inlined copies of all pieces, as they are held.
use Rattle.std.proofs.Common.{◌≡◌, ℕ, zero, suc, ◌+◌, ◌<◌, ◌≤◌, map, length, take, get_or, filter, cond, Bool, true, false, List, [], ◌∷◌, ◌++◌, arith, refl, subst}
use Rattle.std.proofs.lemmas.List.{take_all}
use Rattle.std.proofs.lemmas.Bool.Decides.{nat_tests}
use Rattle.sym_edges.specs.Addresses.{Range}
use Rattle.debug_units.specs.declared.unit_read.UnitRead.{UnitRead}
use Rattle.func_flatten.specs.declared.piece.Piece.{Piece}
use Rattle.inline_chain.specs.InlineRuns.{InlineParts, AreParts, is_of, spans_of, AreInlineRuns}
use Rattle.func_records.specs.FuncRecords.{Part, pieces_of, AreInlined}
use Rattle.func_records.specs.internal.Gathering.{copies_of, AreHeld}
use Rattle.func_records.specs.internal.Parts.{AreShort, AreAllShort}
use Rattle.func_records.proofs.ListLemmas.{take_next}

held_push : (units : List UnitRead) (pieces : List Piece) (held : List (List InlineParts)) (piece : Piece) (copies : List InlineParts) → AreHeld units pieces held → AreInlineRuns units piece copies → AreHeld units (pieces ++ piece ∷ []) (held ++ copies ∷ [])
held_push units [] [] piece copies all are = (are, tt)
held_push units [] (h ∷ held) piece copies all are = absurd all
held_push units (p ∷ pieces) [] piece copies all are = absurd all
held_push units (p ∷ pieces) (h ∷ held) piece copies all are = (all.0, held_push units pieces held piece copies all.1 are)

pub held_next : (units : List UnitRead) (pieces : List Piece) (n : ℕ) (d : Piece) (held after : List (List InlineParts)) (copies : List InlineParts) → n < length pieces → AreHeld units (take n pieces) held → AreInlineRuns units (get_or pieces n d) copies → after ≡ held ++ copies ∷ [] → AreHeld units (take (n + 1) pieces) after
held_next units pieces n d held after copies below all are added =
    let more : take (n + 1) pieces ≡ take n pieces ++ get_or pieces n d ∷ [] = take_next pieces n d below in
    rw more (rw added (held_push units (take n pieces) held (get_or pieces n d) copies all are))

pub held_all : (units : List UnitRead) (pieces : List Piece) (n : ℕ) (held : List (List InlineParts)) → length pieces ≤ n → AreHeld units (take n pieces) held → AreHeld units pieces held
held_all units pieces n held all are = subst (λ (ps : List Piece). AreHeld units ps held) (take_all n pieces all) are

pub held_count : (units : List UnitRead) (pieces : List Piece) (held : List (List InlineParts)) → AreHeld units pieces held → length held ≡ length pieces
held_count units [] [] all = refl
held_count units [] (h ∷ held) all = absurd all
held_count units (p ∷ pieces) [] all = absurd all
held_count units (p ∷ pieces) (h ∷ held) all = omega (arith, held_count units pieces held all.1)

-- The parts with these pieces and these copies.
pub held_inlined : (units : List UnitRead) (parts : List Part) → AreHeld units (pieces_of parts) (copies_of parts) → AreInlined units parts
held_inlined units [] are = tt
held_inlined units (p ∷ parts) are = (are.0, held_inlined units parts are.1)

-- Each copy has at least one range, and at most as many as a record may have.
abbrev IsShort : List Range → Type 0
IsShort spans = (0 < length spans) × (length spans ≤ 16384)

abbrev AllOf : ℕ → ℕ → List InlineParts → Type 0
AllOf level entry [] = Unit {0}
AllOf level entry (r ∷ runs) = (is_of level entry r ≡ true → IsShort r.spans) × AllOf level entry runs

first_short : (spans : List Range) (parts : List (List Range)) → AreParts (spans ∷ parts) → IsShort spans × AreParts parts
first_short spans [] are = ((are.0, are.1), tt)
first_short spans (more ∷ parts) are = ((omega (arith, are.0), omega (arith, are.0)), are.1)

all_short : (level entry : ℕ) (runs : List InlineParts) → AreParts (spans_of level entry runs) → AllOf level entry runs
all_short level entry [] are = tt
all_short level entry (r ∷ runs) are = go (is_of level entry r) refl are (λ later. all_short level entry runs later)
  where
    go : (b : Bool) → is_of level entry r ≡ b → AreParts (map (λ (s : InlineParts). s.spans) (cond b (r ∷ filter (is_of level entry) runs) (filter (is_of level entry) runs))) → (AreParts (spans_of level entry runs) → AllOf level entry runs) → (is_of level entry r ≡ true → IsShort r.spans) × AllOf level entry runs
    go true is here rest = let both = first_short r.spans (spans_of level entry runs) here in ((λ own. both.0), rest both.1)
    go false is here rest = ((λ own. absurd (cc)), rest here)

each_short : (runs : List InlineParts) → ((level entry : ℕ) → AllOf level entry runs) → AreShort runs
each_short [] each = tt
each_short (r ∷ runs) each = ((each r.level r.entry).0 (is_itself r), each_short runs (λ level entry. (each level entry).1))
  where
    is_itself : (s : InlineParts) → is_of s.level s.entry s ≡ true
    is_itself s = grind (arith, nat_tests)

pub held_short : (units : List UnitRead) (pieces : List Piece) (held : List (List InlineParts)) → AreHeld units pieces held → AreAllShort held
held_short units [] [] all = tt
held_short units [] (h ∷ held) all = absurd all
held_short units (p ∷ pieces) [] all = absurd all
held_short units (p ∷ pieces) (h ∷ held) all = (each_short h (λ level entry. all_short level entry h (all.0.copies level entry).parts), held_short units pieces held all.1)

pub short_at : (held : List (List InlineParts)) (n : ℕ) (e copies : List InlineParts) → n < length held → copies ≡ get_or held n e → AreAllShort held → AreShort copies
short_at [] n e copies below is all = absurd (omega arith)
short_at (h ∷ held) zero e copies below is all = rw is all.0
short_at (h ∷ held) (suc n) e copies below is all = short_at held n e copies (omega arith) is all.1
