-- The fields of a cursor give what is ahead of it.
use Rattle.std.proofs.Common.{◌≡◌, ◌≤◌, ◌+◌, ℕ, List, length, take, drop, cond, Ok, Err, sym, ap, subst, ◌∙◌, arith}
use Rattle.std.proofs.lemmas.List.{drop-drop, drop-take}
use Rattle.std.proofs.lemmas.Bool.{le-ltb}
use Rattle.leb_cursor.specs.declared.fault.CursorFault.TheVariants.{Ends}
use Rattle.leb_cursor.specs.Ahead.{Ahead, passed}
use Rattle.leb_cursor.specs.Readings.{part_at}

-- A cursor whose place rises by n has passed n bytes.
pub moved : (n place : ℕ) (bytes : List ℕ) (c : Ahead) → record { bytes = drop place bytes; at = place } ≡ c → passed n c ≡ record { bytes = drop (place + n) bytes; at = place + n }
unfolding passed
moved n place bytes c is =
    subst (λ (d : Ahead). passed n d ≡ record { bytes = drop (place + n) bytes; at = place + n }) is
    (ap (λ (rest : List ℕ). record { bytes = rest; at = place + n }) (drop-drop n place bytes))

-- What is ahead is the rest of the bytes and the cursor's place.
pub same_ahead : (place : ℕ) (bytes rest : List ℕ) (c : Ahead) → record { bytes = drop place bytes; at = place } ≡ c → rest ≡ c.bytes → record { bytes = rest; at = place } ≡ c
same_ahead place bytes rest c is same =
    let left : rest ≡ drop place bytes = same ∙ sym (ap (λ (d : Ahead). d.bytes) is) in
    ap (λ (r : List ℕ). record { bytes = r; at = place }) left ∙ is

-- A cursor that ends after the next n bytes has exactly these n bytes ahead.
part_is : (n place : ℕ) (bytes : List ℕ) (c : Ahead) → record { bytes = drop place bytes; at = place } ≡ c → (let part : Ahead = record { bytes = drop place (take (place + n) bytes); at = place } in part) ≡ record { bytes = take n c.bytes; at = c.at }
part_is n place bytes c is =
    subst (λ (d : Ahead). (let part : Ahead = record { bytes = drop place (take (place + n) bytes); at = place } in part) ≡ record { bytes = take n d.bytes; at = d.at }) is
    (ap (λ (rest : List ℕ). record { bytes = rest; at = place }) (drop-take place n bytes))

-- What is ahead of a separate cursor over the next n bytes, and what is left after it.
pub part_moved : (n place : ℕ) (bytes rest : List ℕ) (c : Ahead) → record { bytes = drop place bytes; at = place } ≡ c → rest ≡ c.bytes → n ≤ length rest
    → (let part : Ahead × Ahead = (record { bytes = drop place (take (place + n) bytes); at = place }, record { bytes = drop (place + n) bytes; at = place + n }) in Ok part) ≡ part_at n c
unfolding part_at
part_moved n place bytes rest c is same enough =
    let long : n ≤ length c.bytes = omega (arith, ap length same) in
    sym (ap (λ b. cond b (Err (Ends c.at)) (Ok ((let part : Ahead = record { bytes = take n c.bytes; at = c.at } in part), passed n c))) (le-ltb (length c.bytes) n long)
    ∙ ap (λ (p : Ahead). Ok (p, passed n c)) (sym (part_is n place bytes c is))
    ∙ ap (λ (later : Ahead). Ok ((let part : Ahead = record { bytes = drop place (take (place + n) bytes); at = place } in part), later)) (moved n place bytes c is))
