-- The two results of reading a number of fixed width: the number, or the fault `Ends`.
use Rattle.std.proofs.Common.{◌≡◌, ◌<◌, ◌≤◌, ◌+◌, ℕ, List, length, drop, Ok, Err, ap, subst, ◌∙◌, arith}
use Rattle.std.proofs.lemmas.Bool.Decides.{nat_tests}
use Rattle.leb_cursor.specs.declared.fault.CursorFault.TheVariants.{Ends}
use Rattle.leb_cursor.specs.Ahead.{Ahead, passed}
use Rattle.leb_cursor.specs.Readings.{fixed_at, fixed_sum}
use Rattle.leb_cursor.proofs.AheadLemmas.{moved}

pub fixed_short : (width : ℕ) (c : Ahead) → length c.bytes < width → fixed_at width c ≡ Err (Ends c.at)
unfolding fixed_at
fixed_short width c short = grind (arith, nat_tests)

fixed_read : (width n : ℕ) (c : Ahead) → n ≡ fixed_sum width c.bytes → width ≤ length c.bytes → fixed_at width c ≡ Ok (n, passed width c)
unfolding fixed_at
fixed_read width n c is fits = grind (arith, nat_tests)

-- If there are enough bytes, the number is read, and the cursor's place rises by its width.
pub fixed_moved : (width n place : ℕ) (bytes rest : List ℕ) (c : Ahead) → record { bytes = drop place bytes; at = place } ≡ c → rest ≡ c.bytes → n ≡ fixed_sum width rest → width ≤ length rest → fixed_at width c ≡ Ok (n, record { bytes = drop (place + width) bytes; at = place + width })
fixed_moved width n place bytes rest c is same sum fits =
    fixed_read width n c (sum ∙ ap (fixed_sum width) same) (subst (λ (r : List ℕ). width ≤ length r) same fits)
    ∙ ap (λ (d : Ahead). Ok (n, d)) (moved width place bytes c is)
