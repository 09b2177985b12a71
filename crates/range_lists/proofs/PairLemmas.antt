-- The pairs of a list are given by its first item; and the addresses that pairs give.
use Rattle.std.proofs.Common.{◌≡◌, ◌<◌, ℕ, Bool, ◌&&◌, ◌||◌, List, [], ◌∷◌, ◌++◌, length, Option, None, Some, Result, Ok, Err, refl, sym, ap, ◌∙◌}
use Rattle.std.proofs.Math.Bool.{or_assoc, or-false}
use Rattle.sym_edges.specs.Addresses.{Range}
use Rattle.sym_edges.specs.Results.{◌>>=◌}
use Rattle.sym_edges.specs.declared.located.Located.{Located}
use Rattle.leb_cursor.specs.Ahead.{Ahead}
use Rattle.leb_cursor.specs.Lists.{list_by, list_at}
use Rattle.leb_cursor.proofs.ListLemmas.{list_follows, shorter_by}
use Rattle.abbrev_units.specs.declared.fault.DwarfKind.{DwarfKind}
use Rattle.range_set.specs.Members.{holds, holds_any}
use Rattle.range_lists.specs.declared.effect.Effect.{Effect}
use Rattle.range_lists.specs.AddressTable.{AddressTable}
use Rattle.range_lists.specs.ListPairs.{effect_at, base_after, pair_of, pairs_from, list_pairs}
use Rattle.range_lists.specs.EntryRanges.{is_code, in_pairs, in_ranges}
use Rattle.range_lists.proofs.ItemLemmas.{effect_goes}

-- The pairs of a list, given its first item.
abbrev pub pairs_next : ℕ → AddressTable → ℕ → Option Effect → Ahead → Result (List Range) (Located DwarfKind)
pairs_next version table base None c = Ok []
pairs_next version table base (Some does) c =
    list_pairs version table (base_after base does) c >>= λ pairs. Ok (pair_of base does ++ pairs)

-- An item, followed by later items.
abbrev in_front : Effect → List Effect × Ahead → Result (List Effect × Ahead) (Located DwarfKind)
in_front does rest = Ok (does ∷ rest.0, rest.1)

later_by : (base : ℕ) (does : Effect) (c : Ahead) (later : Result (List Effect × Ahead) (Located DwarfKind))
    → ((later >>= in_front does) >>= λ effects. Ok (pairs_from base effects.0))
    ≡ ((later >>= λ effects. Ok (pairs_from (base_after base does) effects.0)) >>= λ pairs. Ok (pair_of base does ++ pairs))
unfolding pairs_from
later_by base does c (Ok rest) = refl
later_by base does c (Err fault) = refl

first_by : (version : ℕ) (table : AddressTable) (base : ℕ) (first : Result (Option Effect × Ahead) (Located DwarfKind))
    → ((first >>= λ x. list_by x.0 x.1 (list_at (effect_at version table) x.1)) >>= λ effects. Ok (pairs_from base effects.0))
    ≡ (first >>= λ x. pairs_next version table base x.0 x.1)
unfolding pairs_from list_pairs
first_by version table base (Ok (None, c)) = refl
first_by version table base (Ok (Some does, c)) = later_by base does c (list_at (effect_at version table) c)
first_by version table base (Err fault) = refl

-- The pairs do not depend on how many readings are allowed.
pub pairs_follow : (version : ℕ) (table : AddressTable) (base : ℕ) (c : Ahead) → list_pairs version table base c ≡ (effect_at version table c >>= λ x. pairs_next version table base x.0 x.1)
unfolding list_pairs
pairs_follow version table base c =
    ap (λ r. r >>= λ effects. Ok (pairs_from base effects.0)) (list_follows (effect_at version table) (effect_goes version table) c)
    ∙ first_by version table base (effect_at version table c)

-- Two lists of pairs, one after the other, give the addresses of both.
in_joined : (code xs ys : List Range) (a : ℕ) → in_pairs code (xs ++ ys) a ≡ (in_pairs code xs a || in_pairs code ys a)
in_joined code [] ys a = refl
in_joined code (x ∷ xs) ys a =
    ap (λ b. (is_code code x && holds x a) || b) (in_joined code xs ys a)
    ∙ sym (or_assoc (is_code code x && holds x a) (in_pairs code xs a) (in_pairs code ys a))

-- The addresses that were gathered, and those of the pairs still to be read.
abbrev pub with_gathered : List Range → Bool → Result (List Range) (Located DwarfKind) → ℕ → Result Bool (Located DwarfKind)
with_gathered code held later a = later >>= λ pairs. Ok (held || in_pairs code pairs a)

more_gathered : (code xs : List Range) (held : Bool) (later : Result (List Range) (Located DwarfKind)) (a : ℕ)
    → with_gathered code held (later >>= λ pairs. Ok (xs ++ pairs)) a ≡ with_gathered code (held || in_pairs code xs a) later a
more_gathered code xs held (Ok pairs) a =
    ap (λ b. Ok (held || b)) (in_joined code xs pairs a) ∙ ap Ok (sym (or_assoc held (in_pairs code xs a) (in_pairs code pairs a)))
more_gathered code xs held (Err fault) a = refl

-- The steps of the loop.
pub gather_more : (code held more : List Range) (version : ℕ) (table : AddressTable) (base : ℕ) (does : Effect) (c d : Ahead) (a : ℕ)
    → Ok (Some does, d) ≡ effect_at version table c
    → holds_any more a ≡ (holds_any held a || in_pairs code (pair_of base does) a)
    → with_gathered code (holds_any more a) (list_pairs version table (base_after base does) d) a ≡ with_gathered code (holds_any held a) (list_pairs version table base c) a
gather_more code held more version table base does c d a read added =
    ap (λ b. with_gathered code b (list_pairs version table (base_after base does) d) a) added
    ∙ sym (more_gathered code (pair_of base does) (holds_any held a) (list_pairs version table (base_after base does) d) a)
    ∙ ap (λ r. with_gathered code (holds_any held a) (r >>= λ x. pairs_next version table base x.0 x.1) a) read
    ∙ ap (λ r. with_gathered code (holds_any held a) r a) (sym (pairs_follow version table base c))

pub gather_ends : (code held : List Range) (version : ℕ) (table : AddressTable) (base : ℕ) (c d : Ahead) (a : ℕ)
    → Ok (None, d) ≡ effect_at version table c → with_gathered code (holds_any held a) (list_pairs version table base c) a ≡ Ok (holds_any held a)
gather_ends code held version table base c d a read =
    ap (λ r. with_gathered code (holds_any held a) r a) (pairs_follow version table base c)
    ∙ ap (λ r. with_gathered code (holds_any held a) (r >>= λ x. pairs_next version table base x.0 x.1) a) (sym read)
    ∙ ap Ok (or-false (holds_any held a))

pub gather_refused : (code held : List Range) (version : ℕ) (table : AddressTable) (base : ℕ) (c : Ahead) (fault : Located DwarfKind) (a : ℕ)
    → Err fault ≡ effect_at version table c → with_gathered code (holds_any held a) (list_pairs version table base c) a ≡ Err fault
gather_refused code held version table base c fault a read =
    ap (λ r. with_gathered code (holds_any held a) r a) (pairs_follow version table base c)
    ∙ ap (λ r. with_gathered code (holds_any held a) (r >>= λ x. pairs_next version table base x.0 x.1) a) (sym read)

-- The pairs have the fault that the test of an address has.
pub fault_given : (code : List Range) (given : Result (List Range) (Located DwarfKind)) (fault : Located DwarfKind) (a : ℕ) → in_ranges code given a ≡ Err fault → given ≡ Err fault
fault_given code (Ok pairs) fault a is = cc
fault_given code (Err other) fault a is = cc

pub items_shorter : (version : ℕ) (table : AddressTable) (does : Effect) (c d : Ahead) → Ok (Some does, d) ≡ effect_at version table c → length d.bytes < length c.bytes
items_shorter version table does c d is = shorter_by (effect_at version table c) does c d (effect_goes version table c) is

-- The steps of the loop, compared with the pairs of the list.
pub gather_more_from : (code held more : List Range) (version : ℕ) (table : AddressTable) (base after : ℕ) (does : Effect) (c d : Ahead) (given : Result (List Range) (Located DwarfKind)) (a : ℕ)
    → with_gathered code (holds_any held a) (list_pairs version table base c) a ≡ in_ranges code given a
    → Ok (Some does, d) ≡ effect_at version table c
    → after ≡ base_after base does
    → holds_any more a ≡ (holds_any held a || in_pairs code (pair_of base does) a)
    → with_gathered code (holds_any more a) (list_pairs version table after d) a ≡ in_ranges code given a
gather_more_from code held more version table base after does c d given a so_far read is added =
    ap (λ b. with_gathered code (holds_any more a) (list_pairs version table b d) a) is
    ∙ gather_more code held more version table base does c d a read added
    ∙ so_far

pub gather_ends_from : (code held set : List Range) (version : ℕ) (table : AddressTable) (base : ℕ) (c d : Ahead) (given : Result (List Range) (Located DwarfKind)) (a : ℕ)
    → with_gathered code (holds_any held a) (list_pairs version table base c) a ≡ in_ranges code given a
    → Ok (None, d) ≡ effect_at version table c
    → holds_any set a ≡ holds_any held a
    → in_ranges code given a ≡ Ok (holds_any set a)
gather_ends_from code held set version table base c d given a so_far read same =
    sym so_far ∙ gather_ends code held version table base c d a read ∙ ap Ok (sym same)

pub gather_refused_from : (code held : List Range) (version : ℕ) (table : AddressTable) (base : ℕ) (c : Ahead) (fault : Located DwarfKind) (given : Result (List Range) (Located DwarfKind))
    → ((a : ℕ) → with_gathered code (holds_any held a) (list_pairs version table base c) a ≡ in_ranges code given a)
    → Err fault ≡ effect_at version table c
    → given ≡ Err fault
gather_refused_from code held version table base c fault given so_far read =
    fault_given code given fault 0 (sym (so_far 0) ∙ gather_refused code held version table base c fault 0 read)
