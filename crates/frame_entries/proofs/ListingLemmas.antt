-- Lemmas about the list of a section's entries, as the loop of `read_listing` makes it.
use Rattle.std.proofs.Common.{◌≡◌, ◌+◌, ℕ, zero, suc, true, false, nat_eq, List, [], ◌∷◌, ◌++◌, length, Result, Ok, Err, refl, sym, ap, ◌∙◌, arith, append_assoc, append-nil}
use Rattle.std.proofs.lemmas.Bool.{cond-true, cond-false}
use Rattle.sym_edges.specs.declared.part.Sect.{Sect}
use Rattle.sym_edges.specs.Results.{◌>>=◌}
use Rattle.leb_cursor.specs.Ahead.{Ahead}
use Rattle.sym_edges.specs.declared.located.Located.{Located}
use Rattle.frame_entries.specs.declared.fault.FrameKind.{FrameKind}
use Rattle.frame_entries.specs.declared.raw_entries.Mark.TheVariants.{Terminator, Padding, Listed}
use Rattle.frame_entries.specs.Raw.{Raw}
use Rattle.frame_entries.specs.Listing.{mark_at, listed_from, listed_in}

-- The entries that were read, followed by the entries still to be read.
abbrev pub behind : List Raw → Result (List Raw) (Located FrameKind) → Result (List Raw) (Located FrameKind)
behind done later = later >>= λ raws. Ok (done ++ raws)

-- If bytes are left, the list is the next mark and the list after it.
step : (m n : ℕ) (which : Sect) (c : Ahead) → m ≡ n + 1 → nat_eq (length c.bytes) 0 ≡ false → listed_in m which c ≡ (mark_at which c >>= λ mark. listed_from mark.0 (listed_in n which mark.1))
unfolding listed_in
step zero n which c more left = absurd (omega arith)
step (suc m) n which c more left =
    let same : m ≡ n = omega arith in
    cond-false _ _ _ left ∙ ap (λ k. mark_at which c >>= λ mark. listed_from mark.0 (listed_in k which mark.1)) same

none_left : (n : ℕ) (which : Sect) (c : Ahead) → nat_eq (length c.bytes) 0 ≡ true → listed_in n which c ≡ Ok []
unfolding listed_in
none_left zero which c empty = refl
none_left (suc n) which c empty = cond-true _ _ _ empty

no_fuel : (n : ℕ) (which : Sect) (c : Ahead) → n ≡ 0 → listed_in n which c ≡ Ok []
unfolding listed_in
no_fuel zero which c none = refl
no_fuel (suc n) which c none = absurd (omega arith)

none_behind : (done : List Raw) (later : Result (List Raw) (Located FrameKind)) → later ≡ Ok [] → behind done later ≡ Ok done
none_behind done later is = ap (behind done) is ∙ ap Ok (append-nil done)

-- The steps of the loop.
pub listing_begins : (done : List Raw) (later : Result (List Raw) (Located FrameKind)) → done ≡ [] → behind done later ≡ later
listing_begins done (Ok raws) none = ap (λ xs. Ok (xs ++ raws)) none
listing_begins done (Err fault) none = refl

pub listing_at_end : (done : List Raw) (n : ℕ) (which : Sect) (c : Ahead) → nat_eq (length c.bytes) 0 ≡ true → behind done (listed_in n which c) ≡ Ok done
listing_at_end done n which c empty = none_behind done (listed_in n which c) (none_left n which c empty)

pub listing_out_of_turns : (done : List Raw) (n : ℕ) (which : Sect) (c : Ahead) → n ≡ 0 → behind done (listed_in n which c) ≡ Ok done
listing_out_of_turns done n which c none = none_behind done (listed_in n which c) (no_fuel n which c none)

pub listing_ended : (done : List Raw) (m n : ℕ) (which : Sect) (c d : Ahead) → m ≡ n + 1 → nat_eq (length c.bytes) 0 ≡ false → Ok (Terminator, d) ≡ mark_at which c → behind done (listed_in m which c) ≡ Ok done
listing_ended done m n which c d more left is =
    none_behind done (listed_in m which c)
    (step m n which c more left ∙ ap (λ r. r >>= λ mark. listed_from mark.0 (listed_in n which mark.1)) (sym is))

pub listing_refused : (done : List Raw) (m n : ℕ) (which : Sect) (c : Ahead) (fault : Located FrameKind) → m ≡ n + 1 → nat_eq (length c.bytes) 0 ≡ false → Err fault ≡ mark_at which c → behind done (listed_in m which c) ≡ Err fault
listing_refused done m n which c fault more left is =
    ap (behind done)
    (step m n which c more left ∙ ap (λ r. r >>= λ mark. listed_from mark.0 (listed_in n which mark.1)) (sym is))

pub listing_passed : (done : List Raw) (m n : ℕ) (which : Sect) (c d : Ahead) → m ≡ n + 1 → nat_eq (length c.bytes) 0 ≡ false → Ok (Padding, d) ≡ mark_at which c → behind done (listed_in m which c) ≡ behind done (listed_in n which d)
listing_passed done m n which c d more left is =
    ap (behind done)
    (step m n which c more left ∙ ap (λ r. r >>= λ mark. listed_from mark.0 (listed_in n which mark.1)) (sym is))

behind_more : (done : List Raw) (raw : Raw) (later : Result (List Raw) (Located FrameKind)) → behind done (listed_from (Listed raw) later) ≡ behind (done ++ raw ∷ []) later
behind_more done raw (Ok raws) = ap Ok (sym (append_assoc done (raw ∷ []) raws))
behind_more done raw (Err fault) = refl

pub listing_more : (done more_done : List Raw) (raw : Raw) (m n : ℕ) (which : Sect) (c d : Ahead) → m ≡ n + 1 → nat_eq (length c.bytes) 0 ≡ false → Ok (Listed raw, d) ≡ mark_at which c → more_done ≡ done ++ raw ∷ [] → behind done (listed_in m which c) ≡ behind more_done (listed_in n which d)
listing_more done more_done raw m n which c d more left is added =
    ap (behind done)
    (step m n which c more left ∙ ap (λ r. r >>= λ mark. listed_from mark.0 (listed_in n which mark.1)) (sym is))
    ∙ behind_more done raw (listed_in n which d)
    ∙ ap (λ xs. behind xs (listed_in n which d)) (sym added)
