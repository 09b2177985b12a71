use Rattle.std.proofs.Common.{◌≡◌, ℕ, ◌<◌, ◌≤◌, List, [], ◌++◌, Option, Some, None, length, take, drop, refl, ◌∙◌, ap, arith, length-append, append-nil}
use Rattle.std.proofs.lemmas.Grind.{common_steps}
use Rattle.sym_edges.specs.Outside.{Reads}
use Rattle.sym_edges.specs.WholeFile.{IsParted, IsWhole, IsLonger}

-- Moving a prefix of the second list to the end of the first does not change the joined list.
regrouped : (bytes rest front : List ℕ) (n : ℕ) → front ≡ take n rest → bytes ++ rest ≡ (bytes ++ front) ++ drop n rest
regrouped bytes rest front n is = grind (arith, common_steps)

-- After one more read, the file is still what was read and then what is left.
pub parted_more : (whole left after : Option (List ℕ)) (bytes front : List ℕ) (n room : ℕ) → IsParted whole bytes left → Reads left n room front after → IsParted whole (bytes ++ front) after
parted_more None None after bytes front n room parted reads = reads
parted_more None (Some left) after bytes front n room parted reads = cc
parted_more (Some whole) None after bytes front n room parted reads = let h = parted.1 in cc
parted_more (Some whole) (Some left) after bytes front n room parted reads =
    let same : left ≡ parted.0 = (let h = parted.1 in cc) in
    let is : front ≡ take n parted.0 = (let h = reads.front in cc) in
    let rest : after ≡ Some (drop n parted.0) = (let h = reads.rest in cc) in
    (drop n parted.0, rest, parted.2 ∙ regrouped bytes parted.0 front n is)

-- If a read into a buffer that is not empty gives no bytes, the whole file was read.
pub parted_whole : (whole left after : Option (List ℕ)) (bytes front : List ℕ) (room limit : ℕ) → IsParted whole bytes left → Reads left 0 room front after → 0 < room → length bytes ≤ limit → IsWhole whole bytes limit
parted_whole None left after bytes front room limit parted reads some few = few
parted_whole (Some whole) None after bytes front room limit parted reads some few = let h = parted.1 in cc
parted_whole (Some whole) (Some left) after bytes front room limit parted reads some few =
    let none : left ≡ [] = (reads.ended some).0 refl in
    let rest : parted.0 ≡ [] = (let h = parted.1 in cc) in
    (parted.2 ∙ ap (λ r. bytes ++ r) rest ∙ append-nil bytes, few)

-- If more than `limit` bytes were read, the file is longer than `limit`.
pub parted_longer : (whole left : Option (List ℕ)) (bytes : List ℕ) (limit : ℕ) → IsParted whole bytes left → limit < length bytes → IsLonger whole limit
parted_longer None left bytes limit parted more = tt
parted_longer (Some whole) left bytes limit parted more = omega (arith, length-append bytes parted.0, ap length parted.2)
